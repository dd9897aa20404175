use Rattle.std.proofs.Common.{◌≡◌, length}
use Rattle.bench_cell.specs.declared.plan.Plan.{Plan}
use Rattle.worker_machine.specs.Joins.{AreForgotten}
use Rattle.worker_machine.specs.Sized.{AreSized}
use Rattle.worker_machine.proofs.TakenNotices.{gone_below}
use Rattle.worker_machine.proofs.joins.forget_groups.Given as goal

abbrev pub invariant-loop-k : goal.invariant-loop-k
invariant-loop-k l =
    record {
      same : length l.known.items ≡ length l.fn.known.items;
      sized : (p : Plan) → AreSized p l.fn.known.items → AreSized p l.known.items;
      groups : AreForgotten (gone_below l.k l.part l.bits) l.fn.known.items l.known.items;
    }
