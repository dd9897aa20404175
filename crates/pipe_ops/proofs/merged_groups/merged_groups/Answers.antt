use Rattle.std.proofs.Common.{subst}
use Rattle.std.specs.List.Sorted.{IsPermutation}
use Rattle.pipe_ops.proofs.merged_groups.merged_groups.Goals as goal

pub returns-clause-moved : goal.returns-clause-moved
returns-clause-moved c =
    subst (λ l. IsPermutation l c.sort_by_key.new.groups.items) (rw c.as_slice.ensures.value at c.in_ok-groups.ensures.groups) c.sort_by_key.ensures.moved
