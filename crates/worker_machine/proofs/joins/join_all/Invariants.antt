use Rattle.std.proofs.Common.{◌≡◌}
use Rattle.stride_set.specs.Strides.{strides_of}
use Rattle.worker_machine.specs.Joins.{join_of, joined}
use Rattle.worker_machine.proofs.joins.join_all.Given as goal

abbrev pub invariant-loop-k : goal.invariant-loop-k
invariant-loop-k l = strides_of l.strides ≡ joined (join_of l.notice) l.k l.part l.bits (strides_of l.fn.strides)
