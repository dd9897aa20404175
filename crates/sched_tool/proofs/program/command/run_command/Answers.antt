use Rattle.sched_tool.proofs.MakeLemmas.{Gives-quiet, GivesUp-quiet}
use Rattle.sched_tool.proofs.program.command.run_command.Goals as goal

pub returns-in-Make-default-Some-clause-ok : goal.returns-in-Make-default-Some-clause-ok
returns-in-Make-default-Some-clause-ok g c =
    let m = c.in-Make-default-Some in
    rw (c.in_ok-script.ensures.meant, m.is, m.field-1-is) (Gives-quiet _ (g.F.Files.failed c.args.files.now) c.make_text.result c.make_text.ensures.ok)

pub returns-in-Make-default-Some-clause-err : goal.returns-in-Make-default-Some-clause-err
returns-in-Make-default-Some-clause-err g c =
    let m = c.in-Make-default-Some in
    rw (c.in_ok-script.ensures.meant, m.is, m.field-1-is) (GivesUp-quiet _ (g.F.Files.failed c.args.files.now) c.make_text.result c.make_text.ensures.err)

pub returns-in-Make-default-None-clause-ok : goal.returns-in-Make-default-None-clause-ok
returns-in-Make-default-None-clause-ok g c =
    let m = c.in-Make-default-None in
    rw (c.in_ok-script.ensures.meant, m.is, m.field-1-is) (Gives-quiet _ (g.F.Files.failed c.args.files.now) c.make_summary.result c.make_summary.ensures.ok)

pub returns-in-Make-default-None-clause-err : goal.returns-in-Make-default-None-clause-err
returns-in-Make-default-None-clause-err g c =
    let m = c.in-Make-default-None in
    rw (c.in_ok-script.ensures.meant, m.is, m.field-1-is)
    (GivesUp-quiet _ (g.F.Files.failed c.args.files.now) c.make_summary.result c.make_summary.ensures.err)
