use Rattle.std.proofs.Common.{◌≡◌, ap, arith}
use Rattle.std.specs.Prelude.{length}
use Rattle.plan_ast.specs.Subject.{Subject}
use Rattle.bench_cell.specs.Plans.{tables_of}
use Rattle.sched_tool.proofs.program.summary.summary_of.Goals as goal

pub rows_of-requires : goal.rows_of-requires
rows_of-requires c =
    let two : length (tables_of c.args.plan.now) ≡ 2 = ap (λ (s : Subject). length s.tables) c.requires in
    omega (arith, two, ap length c.as_slice.ensures.value, ap (λ v. length v.items) c.deref.ensures)
