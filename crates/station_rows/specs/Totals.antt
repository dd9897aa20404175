-- The totals of the task sets that the tests play.
use Rattle.std.specs.Prelude.{ℕ, eqb, List, Option, option_map, find}

-- the total of a task set, by a list of ids and totals
abbrev pub listed_total : List (ℕ × ℕ) → ℕ → Option ℕ
listed_total totals id = option_map (λ set. set.1) (find (λ set. eqb set.0 id) totals)
