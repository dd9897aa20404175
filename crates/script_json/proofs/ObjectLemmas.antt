-- Objects and their keys.
use Rattle.std.proofs.Common.{◌≡◌, ℕ, List, [], ◌∷◌, map, not, ◌||◌, bytes_eq, String, Global, string_bytes, Bor, refl, ap}
use Rattle.std.specs.List.{list_any}
use Rattle.std.specs.Map.{keys_of}
use Rattle.serde_json.specs.View.{members_view}
use Rattle.serde_json.specs.declared.value.Value.{Value}
use Rattle.script_json.specs.Forms.{has_other_key, is_listed}

abbrev Entry : Type 0
Entry = String Global × Value

-- a key is among those that references point to
pub is_listed-refs : (keys : List (Bor (List ℕ))) (key : List ℕ) → list_any (λ listed. bytes_eq listed.now key) keys ≡ is_listed (map (λ k. k.now) keys) key
is_listed-refs [] key = refl
is_listed-refs (k ∷ keys) key = ap (λ b. bytes_eq k.now key || b) (is_listed-refs keys key)

-- whether a map has a key that is not listed
pub has_other_key-members_view : (keys : List (List ℕ)) (entries : List Entry)
    → list_any (λ name. not (is_listed keys (string_bytes name))) (keys_of entries) ≡ has_other_key keys (members_view entries)
has_other_key-members_view keys [] = refl
has_other_key-members_view keys (e ∷ entries) = ap (λ b. not (is_listed keys (string_bytes e.0)) || b) (has_other_key-members_view keys entries)
