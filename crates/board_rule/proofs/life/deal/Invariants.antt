use Rattle.std.proofs.Common.{◌≡◌, ◌-◌, vec_len}
use Rattle.board_rule.specs.Lives.{AreUnused, IsUndealt}
use Rattle.board_rule.proofs.life.deal.Given as goal

abbrev pub invariant-loop-worker : goal.invariant-loop-worker
invariant-loop-worker g l = record {
  seat : IsUndealt l.board l.worker (l.workers - l.worker) l.seat;
  count : vec_len l.passes ≡ l.worker;
  dealt : AreUnused l.board l.passes.items;
}
