use Rattle.std.proofs.Common.{ℕ, ◌<◌}
use Rattle.col_table.specs.NamedRows.{StoodBefore}
use Rattle.col_table.proofs.table.first_twice.Given as goal

abbrev pub invariant-loop-place : goal.invariant-loop-place
invariant-loop-place l = (earlier : ℕ) → earlier < l.place → ¬ (StoodBefore l.names earlier)
