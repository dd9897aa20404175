use Rattle.std.proofs.Common.{ap, arith, inl, refl, sym, ◌∙◌}
use Rattle.std.specs.Char.{is_ascii_digit}
use Rattle.std.specs.List.{list_all}
use Rattle.sched_tool.proofs.WordLemmas.{not_number}
use Rattle.sched_tool.proofs.program.words.number_of.Goals as goal

pub returns-in-Err-clause-err : goal.returns-in-Err-clause-err
returns-in-Err-clause-err c =
    let digits = ap (list_all is_ascii_digit) (sym c.as_bytes.ensures.value) ∙ sym c.are_digits.ensures ∙ c.if-not-are_digits.false in
    let none = not_number c.args.most c.args.least c.args.greatest c.args.word.now (omega (arith, c.ranges.greatest.fits)) digits c.in-Err.ensures.value.0 in
    inl (refl, sym none)
