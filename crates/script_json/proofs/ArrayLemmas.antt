-- Arrays and their items.
use Rattle.std.proofs.Common.{◌≡◌, ℕ, ◌<◌, ◌≤◌, List, [], ◌∷◌, length, get_or, true, false, nat_lt, Some, Ok, Err, refl, sym}
use Rattle.std.proofs.Common.{arith, rules}
use Rattle.serde_json.specs.Data.{Data}
use Rattle.serde_json.specs.Events.{items_len}
use Rattle.serde_json.specs.Find.{as_array}
use Rattle.serde_json.specs.View.{items_view, view}
use Rattle.serde_json.specs.declared.value.Value.{Value}
use Rattle.serde_json.proofs.Views.{items_len-items_view}
use Rattle.script_json.specs.Forms.{items_of, too_many, wrong_shape}
use Rattle.script_json.specs.Format.{joined_column, reference_among}

pub items_of-long : (least most : ℕ) (value : Data) (vs : List Value)
    → Some (items_view vs) ≡ as_array value → most < length vs → items_of least most value ≡ Err too_many
items_of-long least most value vs is long =
    let t : nat_lt most (items_len (items_view vs)) ≡ true = rw (items_len-items_view vs) (search (rules)) in
    rw (sym is, t)

pub items_of-short : (least most : ℕ) (value : Data) (vs : List Value)
    → Some (items_view vs) ≡ as_array value → length vs ≤ most → length vs < least → items_of least most value ≡ Err wrong_shape
items_of-short least most value vs is few short =
    let f : nat_lt most (items_len (items_view vs)) ≡ false = rw (items_len-items_view vs) (search (rules)) in
    let t : nat_lt (items_len (items_view vs)) least ≡ true = rw (items_len-items_view vs) (search (rules)) in
    rw (sym is, f, t)

pub items_of-within : (least most : ℕ) (value : Data) (vs : List Value)
    → Some (items_view vs) ≡ as_array value → length vs ≤ most → least ≤ length vs → items_of least most value ≡ Ok (items_view vs)
items_of-within least most value vs is few some =
    let f : nat_lt most (items_len (items_view vs)) ≡ false = rw (items_len-items_view vs) (search (rules)) in
    let g : nat_lt (items_len (items_view vs)) least ≡ false = rw (items_len-items_view vs) (search (rules)) in
    rw (sym is, f, g)

-- an array that is not of two items is no reference
pub reference_among-other : (vs : List Value) (value : Data) → (length vs ≡ 2 → ⊥) → reference_among (Some (items_view vs)) value ≡ Err wrong_shape
reference_among-other [] value h = refl
reference_among-other (v ∷ []) value h = refl
reference_among-other (v ∷ w ∷ []) value h = absurd (h refl)
reference_among-other (v ∷ w ∷ x ∷ vs) value h = refl

pub reference_among-two : (vs : List Value) (value : Data) (v w : Value) → length vs ≡ 2 → v ≡ get_or vs 0 v → w ≡ get_or vs 1 w
    → reference_among (Some (items_view vs)) value ≡ joined_column (view v) (view w)
reference_among-two [] value v w two first second = absurd (omega arith)
reference_among-two (a ∷ []) value v w two first second = absurd (omega arith)
reference_among-two (a ∷ b ∷ []) value v w two first second = rw (first, second)
reference_among-two (a ∷ b ∷ d ∷ vs) value v w two first second = absurd (omega arith)
