-- Whoever is inside with an id is so at the one slot that has it, and of an id that is installed now nobody has claimed.
use Rattle.std.proofs.Common.{◌≡◌, ℕ, ◌+◌, ◌/◌, ◌<◌, ◌≤◌, true, cond, eqb, List, [], ◌∷◌, Some}
use Rattle.std.proofs.Common.{refl, ap, ◌∙◌, eq-eqb, arith}
use Rattle.slot_history.specs.declared.shape.Shape.{Shape}
use Rattle.slot_history.specs.declared.shape.TheConstants.{STAGES}
use Rattle.slot_history.specs.declared.act.Act.TheVariants.{Install}
use Rattle.slot_history.specs.declared.act.Entry.{Entry}
use Rattle.slot_history.specs.States.{SlotState, Open, Shut, Finishing, has_id, id_of, is_inside}
use Rattle.slot_history.specs.States.{has_own_cell}
use Rattle.slot_history.specs.Steps.{state_after}
use Rattle.slot_history.specs.Histories.{IsLegal, entry, installs_of, place_of, ranges_of}
use Rattle.slot_history.specs.Lives.{query_in}
use Rattle.slot_history.proofs.Table.{table}
use Rattle.slot_history.proofs.Places.{inside-slots}
use Rattle.slot_history.proofs.Growth.{open-has}
use Rattle.slot_history.proofs.Book.{book}
use Rattle.slot_history.proofs.Counts.{only-once}
use Rattle.slot_history.proofs.Claims.{no-early-claims}

pub id-query : (x : SlotState) → has_id x ≡ true → query_in x ≡ Some (id_of x / STAGES)
id-query (Open t) has = refl
id-query (Shut t e) has = refl
id-query (Finishing id w h) has = refl
id-query _ has = absurd (cc)

pub inside-one : (d : Shape) (h : List Entry) → IsLegal d h → (v other id : ℕ) → v < d.workers
    → has_own_cell (place_of d h v) other ≡ true → is_inside (place_of d h v) id ≡ true
    → (s : ℕ) → has_id ((state_after d h).slots s) ≡ true → id_of ((state_after d h).slots s) ≡ id → other ≡ s
inside-one d h legal v other id low own inside s has same =
    let X : ℕ → SlotState = (state_after d h).slots in
    let at = inside-slots d (state_after d h) (table d h legal) other v id low own inside in
    (book d h legal).apart other s (id / STAGES) (id-query (X other) (open-has (X other) at.0) ∙ ap (λ i. Some (i / STAGES)) at.1)
    (id-query (X s) has ∙ ap (λ i. Some (i / STAGES)) same)

pub unclaimed : (d : Shape) (h : List Entry) (w id : ℕ) → IsLegal d (entry w (Install id) ∷ h) → (v : ℕ) → ranges_of d v id h ≡ []
unclaimed d h w id legal v =
    let one : cond {A = ℕ} (eqb id id) 1 0 ≡ 1 = ap (λ b. cond b 1 0) (eq-eqb id id refl) in
    let most : cond {A = ℕ} (eqb id id) 1 0 + installs_of id h ≤ 1 = (only-once d (entry w (Install id) ∷ h) legal).0 id in
    (no-early-claims d h legal.2 id (omega arith)).1 v
