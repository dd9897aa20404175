-- The tables of a large input. Each is drawn after a state: that at which its first row begins.
use Rattle.std.specs.Prelude.{ℕ, ℤ, pos, ◌+◌, ◌*◌, List, [], ◌∷◌, codes}
use Rattle.col_table.specs.NamedRows.{NamedRows}
use Rattle.load_gen.specs.Draws.{draw, each_below, signed_draw}

-- a key, a group and a value: three draws a row
abbrev pub row_of_t : ℕ → ℕ → List ℤ
row_of_t state row =
    pos (draw state (3 * row + 1) 1000)
    ∷ pos (draw state (3 * row + 2) 16)
    ∷ signed_draw state (3 * row + 3)
    ∷ []

-- the table of so many such rows
abbrev pub table_t : ℕ → ℕ → NamedRows
table_t state count = record {
  names = codes "k" ∷ codes "g" ∷ codes "v" ∷ [];
  rows = each_below count (row_of_t state);
}

-- a key, which is the row's place, and a weight: one draw a row
abbrev pub row_of_u : ℕ → ℕ → List ℤ
row_of_u state row = pos row ∷ pos (draw state (row + 1) 100) ∷ []

abbrev pub table_u : ℕ → ℕ → NamedRows
table_u state count = record {
  names = codes "k" ∷ codes "w" ∷ [];
  rows = each_below count (row_of_u state);
}
