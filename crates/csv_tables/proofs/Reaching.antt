-- Lists of good items up to a place.
use Rattle.std.proofs.Common.{◌≡◌, ℕ, ◌<◌, ◌+◌, ◌++◌, ◌∷◌, List, length, get_or, take, drop, ap, sym, ◌∙◌, arith}
use Rattle.std.proofs.lemmas.List.{drop_more, length-take-le, take-append-drop}
use Rattle.csv_tables.specs.Refusals.{Reaches}

-- where the items before one are good, it is reached at its place, counted from 1
abbrev pub reaches_at : {A : Type 0} (AreGood : List A → Type 0) (items : List A) (index : ℕ) (item other : A) → index < length items → get_or items index other
    ≡ item → AreGood (take index items)
    → Reaches AreGood items (index + 1) item
reaches_at AreGood items index item other within here good = record {
  before = take index items;
  after = drop (index + 1) items;
  parts =
      sym (take-append-drop index items)
      ∙ ap (λ rest. take index items ++ rest) (drop_more items index other within)
      ∙ ap (λ first. take index items ++ first ∷ drop (index + 1) items) here;
  good = good;
  counted = ap (λ n. n + 1) (sym (length-take-le index items (omega arith)));
}
