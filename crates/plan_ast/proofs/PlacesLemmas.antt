-- Where a column stands by its name.
use Rattle.std.proofs.Common.{◌≡◌, ℕ, ◌<◌, List, [], length, get_or, slice_get, Bool, true, false, cond, Some, None, Contains, bytes_eq, position}
use Rattle.std.proofs.Common.{ltb, refl, sym, ◌∙◌, arith}
use Rattle.std.proofs.lemmas.Bool.{lt-ltb, ltb-true}
use Rattle.std.proofs.lemmas.List.Sums.{position_or_len_is, passes_at_first}
use Rattle.std.proofs.lemmas.Option.{slice_get_within, get_or_from_slice_get}
use Rattle.std.proofs.lemmas.Slice.Eq.{bytes_eq-Decides}
use Rattle.std.specs.List.{position_or_len}
use Rattle.col_table.specs.NamedRows.{AllDiffer}

differ : (xs ys : List ℕ) (b : Bool) → bytes_eq xs ys ≡ b → (xs ≡ ys → ⊥) → b ≡ false
differ xs ys true e apart = absurd (apart ((bytes_eq-Decides xs ys).0 e))
differ xs ys false e apart = refl

-- the one column of a name stands at its place
pub column_place-found : (names : List (List ℕ)) (name : List ℕ) (col : ℕ) → AllDiffer names → slice_get names col ≡ Some name → position
    (λ n. bytes_eq n name) names ≡ Some col
column_place-found names name col apart is =
    let within : col < length names = slice_get_within names col name is in
    let here : get_or names col [] ≡ name = get_or_from_slice_get names col name [] is in
    let place : position_or_len (λ n. bytes_eq n name) names ≡ col =
    position_or_len_is (λ n. bytes_eq n name) names col [] (omega arith)
    (λ k before. differ (get_or names k []) name _ refl (λ same. apart col within (k, before, same ∙ sym here)))
    (λ _. (bytes_eq-Decides (get_or names col []) name).1 here) in
    rw place (rw (lt-ltb col (length names) within))

none_without : (b : Bool) (i : ℕ) → (b ≡ true → ⊥) → cond b (Some i) None ≡ None
none_without true i never = absurd (never refl)
none_without false i never = refl

-- no column stands at the place of a name that none has
pub column_place-missing : (names : List (List ℕ)) (name : List ℕ) → (Contains names name → ⊥) → position (λ n. bytes_eq n name) names ≡ None
column_place-missing names name missing =
    let place = position_or_len (λ n. bytes_eq n name) names in
    none_without (ltb place (length names)) place (λ yes.
    let within : place < length names = ltb-true place (length names) yes in
    missing (place, within, (bytes_eq-Decides (get_or names place name) name).0 (passes_at_first (λ n. bytes_eq n name) names name within)))
