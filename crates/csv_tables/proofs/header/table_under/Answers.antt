use Rattle.std.proofs.Common.{◌<◌, ◌≤◌, List, ℕ, length, subst, sym}
use Rattle.col_table.specs.declared.table.TheConstants.{MAX_COLUMNS}
use Rattle.csv_tables.specs.Refusals.{AreNames}
use Rattle.csv_tables.proofs.Headers.{only_memory}
use Rattle.csv_tables.proofs.header.table_under.Goals as goal

pub memory_of-requires : goal.memory_of-requires
memory_of-requires c =
    let names = c.in_ok-names.names.items in
    let (are, same) = c.in_ok-names.ensures.names in
    only_memory names (subst AreNames (sym same) are) (subst (λ (l : List (List ℕ)). 0 < length l) (sym same) c.requires.some)
    (subst (λ (l : List (List ℕ)). length l ≤ MAX_COLUMNS) (sym same) c.requires.few) c.in-Err.refusal c.in-Err.ensures.refused
