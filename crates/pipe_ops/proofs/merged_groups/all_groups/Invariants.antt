use Rattle.std.proofs.Common.{◌≡◌, ℕ, ◌<◌, flat_map, get_or, take}
use Rattle.pipe_ops.specs.Merging.{HasDistinctGroups, held_groups}
use Rattle.pipe_ops.specs.declared.acc.Acc.{Acc}
use Rattle.pipe_ops.proofs.merged_groups.all_groups.Given as goal

abbrev pub invariant-loop-acc : goal.invariant-loop-acc
invariant-loop-acc l = record {
  groups : l.groups.items ≡ flat_map (held_groups l.width) (take l.acc-index l.accs);
  distinct : (k : ℕ) (d : Acc) → k < l.acc-index → HasDistinctGroups (get_or l.accs k d);
}
