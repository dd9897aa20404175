use Rattle.std.proofs.Common.{◌∙◌, ap, arith, get_or, subst, sym}
use Rattle.std.specs.Str.Parse.{AllDigits, digits_value}
use Rattle.std.proofs.lemmas.Int.Digits.{digits_more, digits_value_more}
use Rattle.std.proofs.lemmas.List.{take_all}
use Rattle.std.proofs.lemmas.Str.{digit_value_digit}
use Rattle.std.proofs.lemmas.Str.Parse.{digit_at}
use Rattle.csv_tables.proofs.Digits.{digit_range, not_digit_range, short_fits, short_value}
use Rattle.csv_tables.proofs.number.parse_short.Goals as goal

pub returns-then-not-is_ascii_digit : goal.returns-then-not-is_ascii_digit
returns-then-not-is_ascii_digit c = λ numeral.
    not_digit_range (get_or c.args.digits.now c.loop-byte.byte-index 0) (sym c.if-not-is_ascii_digit.ensures.value)
    (digit_at c.args.digits.now c.loop-byte.byte-index numeral.1 c.loop-byte-test.true)

pub overflow_mul-size : goal.overflow_mul-size
overflow_mul-size c =
    let small = short_value c.args.digits.now c.loop-byte.byte-index (omega (arith, c.requires.short)) c.loop-byte.invariant.digits in
    omega (arith, small, c.loop-byte.invariant.size)

pub overflow_add-size : goal.overflow_add-size
overflow_add-size c =
    let small = short_value c.args.digits.now c.loop-byte.byte-index (omega (arith, c.requires.short)) c.loop-byte.invariant.digits in
    let range = digit_range (get_or c.args.digits.now c.loop-byte.byte-index 0) (sym c.if-not-is_ascii_digit.ensures.value) in
    omega (arith, small, range, c.loop-byte.invariant.size)

pub loop-byte-preserved : goal.loop-byte-preserved
loop-byte-preserved c =
    let byte = get_or c.args.digits.now c.loop-byte.byte-index 0 in
    let digit = digit_value_digit byte (digit_range byte (sym c.if-not-is_ascii_digit.ensures.value)) in
    let range = digit_range byte (sym c.if-not-is_ascii_digit.ensures.value) in record {
      digits = digits_more 10 c.args.digits.now c.loop-byte.byte-index c.loop-byte-test.true c.loop-byte.invariant.digits (omega (arith, digit, range));
      size = omega (arith, digit, digits_value_more 10 c.args.digits.now c.loop-byte.byte-index c.loop-byte-test.true, c.loop-byte.invariant.size);
    }

pub returns : goal.returns
returns c =
    let digits = c.args.digits.now in
    let all = take_all c.loop-byte.byte-index digits c.loop-byte-test.false in
    let are = subst (AllDigits 10) all c.loop-byte.invariant.digits in
    ((c.requires.some, are), omega (arith, short_fits digits c.requires.short are, c.loop-byte.invariant.size ∙ ap (digits_value 10) all))
