-- How often a name or a sink failed, and when such a count rose.
use Rattle.std.specs.Prelude.{◌≡◌, ℕ, ◌+◌, ◌-◌, ◌^◌, ◌<◌, ◌≤◌, min, List, [], ◌∷◌, ◌++◌, count_by}
use Rattle.std.specs.Str.{bytes_eq}

-- the count of faults of a name: how often it is in the list of the names that failed
abbrev pub fault_count : List (List ℕ) → List ℕ → ℕ
fault_count failed name = count_by (bytes_eq name) failed

-- the new list is the old one, with any number of names appended
abbrev pub Grew : List (List ℕ) → List (List ℕ) → Type 0
Grew old new = (more : List (List ℕ)) × (new ≡ old ++ more)

-- the name's count of faults is greater in the new list
abbrev pub NameFailed : List (List ℕ) → List (List ℕ) → List ℕ → Type 0
NameFailed old new name = fault_count old name < fault_count new name

-- the new list is the old one with exactly this name appended
abbrev pub OnlyFailed : List (List ℕ) → List (List ℕ) → List ℕ → Type 0
OnlyFailed old new name = new ≡ old ++ name ∷ []

-- a counter went up by at least one, or stopped at the last value of its type
abbrev pub CountRose : ℕ → ℕ → Type 0
CountRose old new = min (old + 1) (2 ^ 64 - 1) ≤ new

-- a counter went up by one, or stopped at the last value of its type
abbrev pub CountedOne : ℕ → ℕ → Type 0
CountedOne old new = new ≡ min (old + 1) (2 ^ 64 - 1)
