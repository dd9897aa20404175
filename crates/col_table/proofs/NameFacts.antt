-- Which name stood before.
use Rattle.std.proofs.Common.{◌≡◌, ℕ, ◌<◌, true, false, nat_eq, List, [], length, take, get_or, sym, ◌∙◌, arith}
use Rattle.std.specs.Cmp.Lexicographic.{pointwise}
use Rattle.std.specs.List.{IsAnyAnswer}
use Rattle.std.proofs.lemmas.Bool.{false≢true}
use Rattle.std.proofs.lemmas.Slice.Eq.{bytes_eq-Decides}
use Rattle.std.proofs.lemmas.List.{get_or-take, get_or_default, length-take-le}
use Rattle.col_table.specs.NamedRows.{StoodBefore}

-- a name that is found among those before it stood before
pub StoodBefore-from_any : (names : List (List ℕ)) (place : ℕ) (name : List ℕ) → place < length names → name ≡ get_or names place name
    → IsAnyAnswer (λ other answer. pointwise nat_eq other name ≡ answer) (take place names) true → StoodBefore names place
StoodBefore-from_any names place name within is found =
    let k = found.0 in
    let before : k < place = omega (arith, found.1, length-take-le place names (omega arith)) in
    let same = (bytes_eq-Decides (get_or (take place names) k []) name).0 (found.2 []) in
    (k, before, sym (get_or-take place names k [] before) ∙ same ∙ is ∙ get_or_default names place name [] within)

-- a name that is not found there did not
pub not_StoodBefore-from_any : (names : List (List ℕ)) (place : ℕ) (name : List ℕ) → place < length names → name ≡ get_or names place name
    → IsAnyAnswer (λ other answer. pointwise nat_eq other name ≡ answer) (take place names) false → ¬ (StoodBefore names place)
not_StoodBefore-from_any names place name within is missing (k, before, same) =
    let equal : get_or (take place names) k [] ≡ name = get_or-take place names k [] before ∙ same ∙ sym (get_or_default names place name [] within) ∙ sym is in
    let none = missing k [] (omega arith) (omega (arith, length-take-le place names (omega arith))) in
    absurd (false≢true (sym none ∙ (bytes_eq-Decides (get_or (take place names) k []) name).1 equal))
