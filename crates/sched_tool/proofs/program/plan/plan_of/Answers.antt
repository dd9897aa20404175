use Rattle.std.proofs.Common.{ap, arith, length}
use Rattle.std.proofs.lemmas.List.{length-map}
use Rattle.std.specs.Arc.{arc_value}
use Rattle.sched_tool.proofs.RunLemmas.{all_shared}
use Rattle.sched_tool.proofs.program.plan.plan_of.Goals as goal

pub invariant_of-new : goal.invariant_of-new
invariant_of-new c =
    let tables = c.in_ok-tables.ensures.ok in
    record {
      few = omega (arith, ap length c.in_ok-queries.ensures, length-map c.in_ok-queries.queries.items arc_value, c.requires.few);
      checked = rw tables
          (all_shared c.args.opened.tables.items c.args.opened.queries.items c.in_ok-queries.queries.items c.in_ok-queries.ensures c.requires.placed);
    }
