-- Two ways to split a list at one of its items.
use Rattle.std.proofs.Common.{◌≡◌, ◌⊎◌, ℕ, ◌+◌, ◌++◌, ◌∷◌, List, [], All, length, ap, arith, inl, inr, refl, subst, sym, ◌∙◌}
use Rattle.std.proofs.lemmas.List.{get_or_at, length-append}
use Rattle.csv_tables.specs.Refusals.{Reaches}

-- the first part of one is that of the other, or goes past its item
abbrev Compared : {A : Type 0} → List A → List A → A → A → Type 0
Compared {A} before other item next =
    ((before ≡ other) × (item ≡ next)) ⊎ ((rest : List A) × (other ≡ before ++ item ∷ rest)) ⊎ ((rest : List A) × (before ≡ other ++ next ∷ rest))

compared_more : {A : Type 0} (first last : A) (before other : List A) (item next : A) → first ≡ last → Compared before other item next
    → Compared (first ∷ before) (last ∷ other) item next
compared_more first last before other item next same (inl (parts, items)) = inl (cc, items)
compared_more first last before other item next same (inr (inl (rest, parts))) = inr (inl (rest, (cc)))
compared_more first last before other item next same (inr (inr (rest, parts))) = inr (inr (rest, (cc)))

pub compared : {A : Type 0} (before other after behind : List A) (item next : A) → before ++ item ∷ after ≡ other ++ next ∷ behind
    → Compared before other item next
compared [] [] after behind item next same = inl (refl, (cc))
compared [] (last ∷ other) after behind item next same = inr (inl (other, (cc)))
compared (first ∷ before) [] after behind item next same = inr (inr (before, (cc)))
compared (first ∷ before) (last ∷ other) after behind item next same =
    compared_more first last before other item next (cc) (compared before other after behind item next (cc))

-- an item among good ones is good
pub good_at : {A : Type 0} (P : A → Type 0) (before after : List A) (item : A) → All P (before ++ item ∷ after) → P item
good_at P before after item all =
    subst P (get_or_at before item after item (length before) refl) (all (length before) item (omega (arith, length-append before (item ∷ after))))

-- an item after which nothing is good is reached once
pub one_reach : {A : Type 0} (AreGood : List A → Type 0) (items : List A) (place spot : ℕ) (item next : A) (one : Reaches AreGood items place item)
    (two : Reaches AreGood items spot next)
    → ((rest : List A) → ¬ (AreGood (one.before ++ item ∷ rest))) → ((rest : List A) → ¬ (AreGood (two.before ++ next ∷ rest))) → (place ≡ spot) × (item ≡ next)
one_reach {A} AreGood items place spot item next one two bad worse =
    elim (compared one.before two.before one.after two.after item next (sym one.parts ∙ two.parts)) [
      | inl (parts, same) ↦ (one.counted ∙ ap (λ before. length before + 1) parts ∙ sym two.counted, same)
      | inr (inl (rest, parts)) ↦ absurd (bad rest (subst AreGood parts two.good))
      | inr (inr (rest, parts)) ↦ absurd (worse rest (subst AreGood parts one.good))
    ]
