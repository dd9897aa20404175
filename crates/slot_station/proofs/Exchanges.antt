-- What a worker that has a cell knows of it, and that an exchange by it changes nothing that is known of the other cells.
use Rattle.std.proofs.Common.{◌≡◌, ◌≢◌, ℕ, ◌<◌, ◌⊎◌, Bool, true, false, List, Option, Some, None}
use Rattle.std.proofs.Common.{IfSome, inl, inr, ⊎_elim, refl, sym, ap, ◌∙◌, subst}
use Rattle.std.proofs.lemmas.Bool.{false_from_ne_true}
use mathlib.Core.Logic.{dite}
use mathlib.Core.Bool.{true≢false}
use native.Mathlib.Decide.{ℕ_discrete}
use Rattle.slot_history.specs.declared.shape.Shape.{Shape}
use Rattle.slot_history.specs.declared.act.Entry.{Entry}
use Rattle.slot_history.specs.declared.place.Held.{Held}
use Rattle.slot_history.specs.declared.place.Place.{Place}
use Rattle.slot_history.specs.States.{SlotState, Reserved, Open, Shut, Finishing, Empty}
use Rattle.slot_history.specs.States.{ObjectState, slot_of, id_at, id_of, is_open, is_shut}
use Rattle.slot_history.specs.States.{has_own_cell}
use Rattle.slot_history.specs.Steps.{state_after}
use Rattle.slot_history.specs.Histories.{IsLegal, place_of, ranges_of}
use Rattle.slot_history.proofs.Table.{table}
use Rattle.slot_history.proofs.Places.{inside-slots}
use Rattle.slot_history.proofs.Duties.{IsHeldBy}
use Rattle.slot_history.proofs.Holdings.{holder-place}
use Rattle.slot_history.proofs.Growth.{open-has}
use Rattle.slot_station.specs.declared.note.Note.{Note}
use Rattle.slot_station.specs.Cells.{has_cell, kept_note, fresh_note, NoteSays, FitsNext}
use Rattle.slot_station.specs.Cells.{FitsClaims}
use Rattle.slot_history.proofs.Inside.{inside-one}
use Rattle.slot_station.proofs.CellSteps.{Known, says-maps, cell-outside, cell-notes}
use Rattle.slot_history.proofs.Places.{own-inside, has-own}
use Rattle.slot_station.specs.Cells.{CellOf}

-- ---- what is said of a cell by its slot

module _ {B : Type 0} (fits : ℕ → List (ℕ × ℕ) → B → Type 0) (R : ℕ → List (ℕ × ℕ)) (N : ℕ → Note) (x : Option B) where
  -- of a worker that is inside the own note speaks
  inside-says : (X : SlotState) (n : Note) → (is_open X ≡ true) ⊎ (is_shut X ≡ true)
      → Known fits R X true n N x ≡ NoteSays (FitsClaims fits R (id_of X)) (λ b. ⊥) n x
  inside-says (Open t) n open_ = refl
  inside-says (Shut t e) n open_ = refl
  inside-says Empty n open_ = absurd (⊎_elim (λ k. true≢false (sym k)) (λ k. true≢false (sym k)) open_)
  inside-says (Reserved w h) n open_ = absurd (⊎_elim (λ k. true≢false (sym k)) (λ k. true≢false (sym k)) open_)
  inside-says (Finishing id w h) n open_ = absurd (⊎_elim (λ k. true≢false (sym k)) (λ k. true≢false (sym k)) open_)

  -- at a slot that is held the holder's note does
  pub says-held : (w : ℕ) (h : Held) (X : SlotState) (b : Bool) (n : Note) → IsHeldBy w h X → ((P : B → Type 0) → NoteSays P (FitsNext fits h) (N w) x)
      → Known fits R X b n N x
  says-held w h X b n (inl is) says = subst (λ Y. Known fits R Y b n N x) (sym is) (says (λ y. ⊥))
  says-held w h X b n (inr (id, is)) says = subst (λ Y. Known fits R Y b n N x) (sym is) (says (FitsClaims fits R id))

  pub held-says : (w : ℕ) (h : Held) (X : SlotState) (b : Bool) (n : Note) (P : B → Type 0) → IsHeldBy w h X
      → ((id : ℕ) → X ≡ Finishing id w h → (y : B) → FitsClaims fits R id y → P y) → Known fits R X b n N x → NoteSays P (FitsNext fits h) (N w) x
  held-says w h X b n P (inl is) finalised c = says-maps (λ y. ⊥) (FitsNext fits h) P (FitsNext fits h) (λ y f. absurd f) (λ y f. f) (N w) x
      (subst (λ Y. Known fits R Y b n N x) is c)
  held-says w h X b n P (inr (id, is)) finalised c = says-maps (FitsClaims fits R id) (FitsNext fits h) P (FitsNext fits h) (finalised id is) (λ y f. f)
      (N w) x (subst (λ Y. Known fits R Y b n N x) is c)

module _ {B : Type 0} (P Q : B → Type 0) where
  pub says-kept : (new : Option B) → IfSome new P → NoteSays P Q (kept_note new) new
  says-kept None fit = refl
  says-kept (Some b) fit = fit

  pub says-fresh : (new : Option B) → IfSome new Q → NoteSays P Q (fresh_note new) new
  says-fresh None fit = refl
  says-fresh (Some b) fit = fit

-- ---- the own cell, of the slot that the worker is inside

module _ (d : Shape) (h : List Entry) (w : ℕ) (low : w < d.workers) (legal : IsLegal d h) (has : has_cell (place_of d h w) ≡ true) where
  abbrev p : Place
  p = place_of d h w

  abbrev X : SlotState
  X = (state_after d h).slots (slot_of p)

  own : has_own_cell p (slot_of p) ≡ true
  own = has-own p has

  inside-at : ((is_open X ≡ true) ⊎ (is_shut X ≡ true)) × (id_of X ≡ id_at p)
  inside-at = inside-slots d (state_after d h) (table d h legal) (slot_of p) w (id_at p) low own (own-inside p (slot_of p) own)

  -- it is as the own note says
  pub own-cell-is : {B : Type 0} (fits : ℕ → List (ℕ × ℕ) → B → Type 0) (N : ℕ → ℕ → Note) (x : Option B)
      → CellOf fits (record { shape = d; history = h; notes = N }) (record { slot = slot_of p; worker = w; value = x })
      ≡ NoteSays (FitsClaims fits (λ id. ranges_of d w id h) (id_at p)) (λ b. ⊥) (N w w) x
  own-cell-is fits N x =
      ap (λ b. Known fits (λ id. ranges_of d w id h) X b (N w w) (λ u. N u w) x) own
      ∙ inside-says fits (λ id. ranges_of d w id h) (λ u. N u w) x X (N w w) inside-at.0
      ∙ ap (λ id. NoteSays (FitsClaims fits (λ id. ranges_of d w id h) id) (λ b. ⊥) (N w w) x) inside-at.1

  -- the worker has a cell of no other slot
  pub inside-only : (t : ℕ) → t ≢ slot_of p → has_own_cell p t ≡ false
  inside-only t other = false_from_ne_true (has_own_cell p t)
      (λ inside. other (inside-one d h legal w t (id_at p) low inside (own-inside p t inside) (slot_of p) (open-has X inside-at.0) inside-at.1))

  pub inside-holds : (t : ℕ) (k : Held) → IsHeldBy w k ((state_after d h).slots t) → t ≡ slot_of p
  inside-holds t k held = absurd (true≢false (sym has ∙ ap has_cell (holder-place d (state_after d h) (table d h legal) t w k held)))

-- ---- an exchange of the cell of c at the slot s, by the worker w, which has cells of no other slot

module _ {B : Type 0} (fits : ℕ → List (ℕ × ℕ) → B → Type 0) (d : Shape) (h : List Entry) (w s c : ℕ)
    (out : (t : ℕ) → t ≢ s → has_own_cell (place_of d h w) t ≡ false) (one : (t : ℕ) (k : Held) → IsHeldBy w k ((state_after d h).slots t) → t ≡ s)
    (N N' : ℕ → ℕ → Note) (others : (u v : ℕ) → u ≢ w → N' u v ≡ N u v) (elses : (u v : ℕ) → v ≢ c → N' u v ≡ N u v) (x : Option B) where
  abbrev S : ObjectState
  S = state_after d h

  -- what is known of the cell of v at the slot t, with these notes
  abbrev KnownBy : (ℕ → ℕ → Note) → ℕ → ℕ → Type 0
  KnownBy M t v = CellOf fits (record { shape = d; history = h; notes = M }) (record { slot = t; worker = v; value = x })

  -- the cell of another worker there
  cell-beside : (v : ℕ) → v ≢ c → KnownBy N s v → KnownBy N' s v
  cell-beside v other k =
      let R : ℕ → List (ℕ × ℕ) = λ id. ranges_of d v id h in
      let b : Bool = has_own_cell (S.places v) s in
      subst (λ m. Known fits R (S.slots s) b m (λ u. N' u v) x) (sym (elses v v other))
      (cell-notes fits R (S.slots s) b (N v v) (λ u. N u v) (λ u. N' u v) x (λ u k held. elses u v other) k)

  -- a cell of another slot
  cell-elsewhere : (t v : ℕ) → t ≢ s → KnownBy N t v → KnownBy N' t v
  cell-elsewhere t v other k =
      let R : ℕ → List (ℕ × ℕ) = λ id. ranges_of d v id h in
      let X : SlotState = S.slots t in
      let H : ℕ → Note = λ u. N' u v in
      let noted_so : Known fits R X (has_own_cell (S.places v) t) (N v v) H x =
      cell-notes fits R X (has_own_cell (S.places v) t) (N v v) (λ u. N u v) H x
      (λ u k held. others u v (λ same. other (one t k (subst (λ z. IsHeldBy z k X) same held)))) k in
      dite (ℕ_discrete v w)
      (λ same. let b : has_own_cell (S.places v) t ≡ false = ap (λ z. has_own_cell (S.places z) t) same ∙ out t other in
      subst (λ b. Known fits R X b (N v v) H x → Known fits R X b (N' v v) H x) (sym b) (cell-outside fits R X (N v v) (N' v v) H x) noted_so)
      (λ else_. subst (λ m. Known fits R X (has_own_cell (S.places v) t) m H x) (sym (others v v else_)) noted_so)

  -- every other cell is known as before
  pub cell-else : (t v : ℕ) → (t ≡ s → v ≢ c) → KnownBy N t v → KnownBy N' t v
  cell-else t v other k = dite (ℕ_discrete t s)
      (λ same. subst (λ a. KnownBy N a v → KnownBy N' a v) (sym same) (cell-beside v (other same)) k)
      (λ ne. cell-elsewhere t v ne k)
