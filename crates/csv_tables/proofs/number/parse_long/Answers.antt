use Rattle.std.proofs.Common.{arith, get_or, sym}
use Rattle.std.proofs.lemmas.Int.Digits.{digits_more, digits_value_more}
use Rattle.std.proofs.lemmas.Str.{digit_value_digit}
use Rattle.std.proofs.lemmas.Str.Parse.{digit_at}
use Rattle.csv_tables.proofs.Digits.{digit_range, not_digit_range}
use Rattle.csv_tables.proofs.number.parse_long.Goals as goal

pub returns-then-not-is_ascii_digit : goal.returns-then-not-is_ascii_digit
returns-then-not-is_ascii_digit c = λ numeral.
    not_digit_range (get_or c.args.digits.now c.loop-byte.byte-index 0) (sym c.if-not-is_ascii_digit.ensures.value)
    (digit_at c.args.digits.now c.loop-byte.byte-index numeral.1 c.loop-byte-test.true)

pub loop-byte-preserved : goal.loop-byte-preserved
loop-byte-preserved c =
    let byte = get_or c.args.digits.now c.loop-byte.byte-index 0 in
    let digit = digit_value_digit byte (digit_range byte (sym c.if-not-is_ascii_digit.ensures.value)) in
    let range = digit_range byte (sym c.if-not-is_ascii_digit.ensures.value) in (
      digits_more 10 c.args.digits.now c.loop-byte.byte-index c.loop-byte-test.true c.loop-byte.invariant.0 (omega (arith, digit, range)),
      omega (arith, digit, digits_value_more 10 c.args.digits.now c.loop-byte.byte-index c.loop-byte-test.true, c.loop-byte.invariant.1),
    )
