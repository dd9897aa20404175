-- What it means that claims tile a total: each tuple lies in exactly one of them.
use Rattle.std.specs.Prelude.{◌≡◌, ℕ, ◌+◌, cond, leb, ltb, ◌&&◌, List, [], ◌∷◌}
use Rattle.slot_history.specs.Histories.{Morsel, Tiles}

-- how many of the claimed morsels have the tuple
abbrev pub morsels_with : ℕ → List Morsel → ℕ
morsels_with tuple [] = 0
morsels_with tuple (m ∷ ms) =
    cond (leb m.from tuple && ltb tuple m.to) 1 0 + morsels_with tuple ms

-- ---- the law, as the function of module `laws` states it

-- each tuple below the total lies in exactly one morsel, and no other number lies in any
abbrev pub TilesHoldEach : Type 0
TilesHoldEach = (claims : List Morsel) (total tuple : ℕ) → Tiles claims total
    → morsels_with tuple claims ≡ cond (ltb tuple total) 1 0
