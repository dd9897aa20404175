-- Bytes that are no name.
use Rattle.std.proofs.Common.{◌≡◌, ℕ, ◌<◌, List, Bool, length, true, false, nat_le, arith, refl, IsUtf8}
use Rattle.std.proofs.lemmas.Bool.Decides.{nat_tests}
use Rattle.col_table.specs.Name.{IsName, is_name}
use Rattle.col_table.specs.declared.name.TheConstants.{MAX_NAME_BYTES}

-- what is too long is no name
pub is_name-long : (bytes : List ℕ) → MAX_NAME_BYTES < length bytes → is_name bytes ≡ false
is_name-long bytes long =
    let beyond : nat_le (length bytes) MAX_NAME_BYTES ≡ false = grind (arith, nat_tests) in
    rw beyond

-- a text is a name, or the test fails
pub false-from_not : (b : Bool) → (b ≡ true → ⊥) → b ≡ false
false-from_not true h = absurd (h refl)
false-from_not false h = refl

pub is_name-refused : (bytes : List ℕ) → IsUtf8 bytes → ¬ (IsName bytes) → is_name bytes ≡ false
is_name-refused bytes text not = false-from_not (is_name bytes) (λ holds. not (record { text = text; is = holds }))
