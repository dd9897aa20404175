use Rattle.std.proofs.Common.{◌≡◌, ◌<◌, IfSome, length, refl, subst}
use Rattle.sched_tool.proofs.SubjectsLemmas.{holds_too_much}
use Rattle.sched_tool.proofs.program.subject.open_table.Goals as goal

pub returns-in-Err-TooLong-clause-err : goal.returns-in-Err-TooLong-clause-err
returns-in-Err-TooLong-clause-err g c =
    let named : c.as_str.result.now ≡ c.args.entry.file = cc in
    let long = c.read_whole.ensures.too_long cc in
    (holds_too_much _ _ (subst (λ name. IfSome (g.F.Files.content c.args.files.now name) (λ file. 67_108_864 < length file)) named long), refl)
