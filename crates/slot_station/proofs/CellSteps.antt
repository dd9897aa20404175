-- What is said of a cell, when one of the things changes that it speaks of: the notes, the state of the slot, and on the
-- side of its worker the place, the own note and the ranges.
use Rattle.std.proofs.Common.{◌≡◌, ℕ, ◌⊎◌, Bool, true, false, cond, List, [], Option, Some, None}
use Rattle.std.proofs.Common.{IsSome, IsSomeAnd, refl, sym, subst, inl, inr}
use mathlib.Core.Bool.{true≢false}
use Rattle.slot_history.specs.declared.shape.Shape.{Shape}
use Rattle.slot_history.specs.declared.act.Act.{Act}
use Rattle.slot_history.specs.declared.act.Act.TheVariants.{AdmitGot, NoteDone, SetTotal}
use Rattle.slot_history.specs.declared.place.Held.{Held}
use Rattle.slot_history.specs.States.{SlotState, Empty, Reserved, Open, Shut, Finishing, is_empty}
use Rattle.slot_history.specs.States.{is_open, is_shut, id_of, has_id, reservation, finalisation}
use Rattle.slot_history.specs.States.{next_id}
use Rattle.slot_history.specs.Steps.{claimed, shut_by, ended, finalised_by, held_on, opened}
use Rattle.slot_history.proofs.Duties.{IsHeldBy}
use Rattle.slot_history.proofs.Growth.{open-shut-cases}
use Rattle.slot_station.specs.declared.note.Note.{Note}
use Rattle.slot_station.specs.declared.note.Note.TheVariants as note
use Rattle.slot_station.specs.Cells.{loosened, NoteSays, FitsNext}
use Rattle.slot_station.specs.Cells.{FitsClaims, CellAt}

-- ---- what a note says

module _ {B : Type 0} where
  some-maps : (P Q : B → Type 0) → ((b : B) → P b → Q b) → (x : Option B) → IsSomeAnd x P → IsSomeAnd x Q
  some-maps P Q f None h = h
  some-maps P Q f (Some b) h = f b h

  pub says-maps : (P Q P' Q' : B → Type 0) → ((b : B) → P b → P' b) → ((b : B) → Q b → Q' b) → (n : Note) (x : Option B) → NoteSays P Q n x
      → NoteSays P' Q' n x
  says-maps P Q P' Q' f g note.Empty x h = h
  says-maps P Q P' Q' f g note.Kept x h = some-maps P P' f x h
  says-maps P Q P' Q' f g note.Fresh x h = some-maps Q Q' g x h
  says-maps P Q P' Q' f g note.Loose x h = tt

  -- a loosened note says nothing of what a kept value meets
  says-loosens : (P P' Q : B → Type 0) (n : Note) (x : Option B) → NoteSays P Q n x → NoteSays P' Q (loosened n) x
  says-loosens P P' Q note.Empty x h = h
  says-loosens P P' Q note.Kept x h = tt
  says-loosens P P' Q note.Fresh x h = h
  says-loosens P P' Q note.Loose x h = tt

-- what is known of a cell, whose worker is inside or is not, by that worker's note and the holder's
abbrev pub Known : {B : Type 0} → (ℕ → List (ℕ × ℕ) → B → Type 0) → (ℕ → List (ℕ × ℕ)) → SlotState → Bool → Note → (ℕ → Note) → Option B → Type 0
Known fits R X inside own notes x = CellAt (record { fits = fits; ranges = R }) X (record { own = cond inside own note.Kept; holder = notes }) x

-- a cell of a worker whose values meet `fits`, at a slot: is its worker inside, with which note
module _ {B : Type 0} (fits : ℕ → List (ℕ × ℕ) → B → Type 0) (R : ℕ → List (ℕ × ℕ)) where
  -- ---- the worker's side

  -- other ranges of other task sets
  pub cell-ranges : (R' : ℕ → List (ℕ × ℕ)) (X : SlotState) (b : Bool) (n : Note) (N : ℕ → Note) (x : Option B)
      → (has_id X ≡ true → R' (id_of X) ≡ R (id_of X)) → Known fits R X b n N x → Known fits R' X b n N x
  cell-ranges R' Empty b n N x same c = c
  cell-ranges R' (Reserved w h) b n N x same c = c
  cell-ranges R' (Open t) true n N x same c = subst (λ r. NoteSays (fits t.id r) (λ b. ⊥) n x) (sym (same refl)) c
  cell-ranges R' (Open t) false n N x same c = subst (λ r. IsSomeAnd x (fits t.id r)) (sym (same refl)) c
  cell-ranges R' (Shut t e) true n N x same c = subst (λ r. NoteSays (fits t.id r) (λ b. ⊥) n x) (sym (same refl)) c
  cell-ranges R' (Shut t e) false n N x same c = subst (λ r. IsSomeAnd x (fits t.id r)) (sym (same refl)) c
  cell-ranges R' (Finishing id w h) b n N x same c = subst (λ r. NoteSays (fits id r) (FitsNext fits h) (N w) x) (sym (same refl)) c

  -- the own note says nothing of a worker that is outside
  pub cell-outside : (X : SlotState) (n m : Note) (N : ℕ → Note) (x : Option B) → Known fits R X false n N x → Known fits R X false m N x
  cell-outside Empty n m N x c = c
  cell-outside _ n m N x c = c

  -- whoever comes in finds its cell kept
  pub cell-enters : (X : SlotState) (b : Bool) (n : Note) (N : ℕ → Note) (x : Option B) → Known fits R X false n N x → Known fits R X b note.Kept N x
  cell-enters Empty b n N x c = c
  cell-enters (Reserved w h) b n N x c = c
  cell-enters (Open t) true n N x c = c
  cell-enters (Open t) false n N x c = c
  cell-enters (Shut t e) true n N x c = c
  cell-enters (Shut t e) false n N x c = c
  cell-enters (Finishing id w h) b n N x c = c

  -- whoever goes out has kept its cell
  pub cell-leaves : (X : SlotState) (b : Bool) (n m : Note) (N : ℕ → Note) (x : Option B) → (b ≡ true → n ≡ note.Kept) → Known fits R X b n N x
      → Known fits R X false m N x
  cell-leaves Empty b n m N x kept c = c
  cell-leaves (Reserved w h) b n m N x kept c = c
  cell-leaves (Open t) true n m N x kept c = subst (λ k. NoteSays (FitsClaims fits R t.id) (λ b. ⊥) k x) (kept refl) c
  cell-leaves (Open t) false n m N x kept c = c
  cell-leaves (Shut t e) true n m N x kept c = subst (λ k. NoteSays (FitsClaims fits R t.id) (λ b. ⊥) k x) (kept refl) c
  cell-leaves (Shut t e) false n m N x kept c = c
  cell-leaves (Finishing id w h) b n m N x kept c = c

  -- a claim loosens the own note
  pub cell-claims : (R' : ℕ → List (ℕ × ℕ)) (X : SlotState) (n : Note) (N : ℕ → Note) (x : Option B) → (is_open X ≡ true) ⊎ (is_shut X ≡ true)
      → Known fits R X true n N x → Known fits R' X true (loosened n) N x
  cell-claims R' X n N x = open-shut-cases X (λ Y. Known fits R Y true n N x → Known fits R' Y true (loosened n) N x)
      (λ t. says-loosens (FitsClaims fits R t.id) (FitsClaims fits R' t.id) (λ b. ⊥) n x)
      (λ t e. says-loosens (FitsClaims fits R t.id) (FitsClaims fits R' t.id) (λ b. ⊥) n x)

  -- ---- the notes of the holder

  pub cell-notes : (X : SlotState) (b : Bool) (n : Note) (N N' : ℕ → Note) (x : Option B) → ((u : ℕ) (h : Held) → IsHeldBy u h X → N' u ≡ N u)
      → Known fits R X b n N x → Known fits R X b n N' x
  cell-notes Empty b n N N' x same c = c
  cell-notes (Reserved w h) b n N N' x same c = subst (λ k. NoteSays (λ b. ⊥) (FitsNext fits h) k x) (sym (same w h (inl refl))) c
  cell-notes (Open t) true n N N' x same c = c
  cell-notes (Open t) false n N N' x same c = c
  cell-notes (Shut t e) true n N N' x same c = c
  cell-notes (Shut t e) false n N N' x same c = c
  cell-notes (Finishing id w h) b n N N' x same c = subst (λ k. NoteSays (FitsClaims fits R id) (FitsNext fits h) k x) (sym (same w h (inr (id, refl)))) c

  -- ---- the slot's side

  module _ (b : Bool) (n : Note) (N : ℕ → Note) (x : Option B) where
    abbrev Cell : SlotState → Type 0
    Cell X = Known fits R X b n N x

    pub cell-claimed : (k : ℕ) (X : SlotState) → Cell X → Cell (claimed X k)
    cell-claimed k Empty c = c
    cell-claimed k _ c = c

    pub cell-shut : (w : ℕ) (X : SlotState) → Cell X → Cell (shut_by w X)
    cell-shut w Empty c = c
    cell-shut w _ c = c

    pub cell-ended : (d : Shape) (w : ℕ) (a : Act) (X : SlotState) → Cell X → Cell (ended d w a X)
    cell-ended d w a Empty c = c
    cell-ended d w a _ c = c

    pub cell-noted : (k : ℕ) (X : SlotState) → Cell X → Cell (held_on (NoteDone k) X)
    cell-noted k Empty c = c
    cell-noted k _ c = c

    pub cell-totalled : (k : ℕ) (X : SlotState) → Cell X → Cell (held_on (SetTotal k) X)
    cell-totalled k Empty c = c
    cell-totalled k _ c = c

    -- an empty slot has empty cells, whose notes are so when it is reserved
    pub cell-reserved : (w : ℕ) (X : SlotState) → is_empty X ≡ true → N w ≡ note.Empty → Cell X → Cell (Reserved w reservation)
    cell-reserved w Empty empty none c = subst (λ k. NoteSays (λ b. ⊥) (FitsNext fits reservation) k x) (sym none) c
    cell-reserved w (Reserved u h) empty none c = absurd (true≢false (sym empty))
    cell-reserved w (Open t) empty none c = absurd (true≢false (sym empty))
    cell-reserved w (Shut t e) empty none c = absurd (true≢false (sym empty))
    cell-reserved w (Finishing id u h) empty none c = absurd (true≢false (sym empty))

    -- no value is fresh before there is a query
    next-admits : (q : ℕ) (h : Held) → h.query ≡ None → (y : B) → FitsNext fits h y → FitsNext fits (record h { query = Some q }) y
    next-admits q h none y f = absurd (let r : IsSome h.query = f.0 in cc)

    pub cell-admitted : (q w : ℕ) (h : Held) (X : SlotState) → IsHeldBy w h X → h.query ≡ None → Cell X → Cell (held_on (AdmitGot q) X)
    cell-admitted q w h X (inl is) none = subst (λ Y. Cell Y → Cell (held_on (AdmitGot q) Y)) (sym is)
        (says-maps (λ y. ⊥) (FitsNext fits h) (λ y. ⊥) (FitsNext fits (record h { query = Some q })) (λ y f. f) (next-admits q h none) (N w) x)
    cell-admitted q w h X (inr (id, is)) none = subst (λ Y. Cell Y → Cell (held_on (AdmitGot q) Y)) (sym is)
        (says-maps (FitsClaims fits R id) (FitsNext fits h) (FitsClaims fits R id) (FitsNext fits (record h { query = Some q })) (λ y f. f)
        (next-admits q h none) (N w) x)

    -- all cells of a slot that is released are empty
    pub cell-released : (w : ℕ) (h : Held) (X : SlotState) → IsHeldBy w h X → N w ≡ note.Empty → Cell X → Cell Empty
    cell-released w h X (inl is) none c = let e : NoteSays (λ b. ⊥) (FitsNext fits h) (N w) x = subst Cell is c in
        subst (λ k. NoteSays (λ b. ⊥) (FitsNext fits h) k x) none e
    cell-released w h X (inr (id, is)) none c = let e : NoteSays (FitsClaims fits R id) (FitsNext fits h) (N w) x = subst Cell is c in
        subst (λ k. NoteSays (FitsClaims fits R id) (FitsNext fits h) k x) none e

  module _ (n : Note) (N : ℕ → Note) (x : Option B) where
    -- the cells of a slot that nobody is inside are kept when its task set is finalised
    pub cell-finalised : (w : ℕ) (X : SlotState) → N w ≡ note.Kept → Known fits R X false n N x → Known fits R (finalised_by w X) false n N x
    cell-finalised w (Shut t e) kept c = subst (λ k. NoteSays (FitsClaims fits R t.id) (FitsNext fits (finalisation t.id)) k x) (sym kept) c
    cell-finalised w Empty kept c = c
    cell-finalised w (Reserved u h) kept c = c
    cell-finalised w (Open t) kept c = c
    cell-finalised w (Finishing id u h) kept c = c

    -- a value that fits the next task set and no ranges is kept when that is installed
    next-kept : (h : Held) (id : ℕ) → id ≡ next_id h → R id ≡ [] → IsSomeAnd x (FitsNext fits h) → IsSomeAnd x (FitsClaims fits R id)
    next-kept h id is none = some-maps (FitsNext fits h) (FitsClaims fits R id)
        (λ y f. subst (λ r. fits id r y) (sym none) (subst (λ i. fits i [] y) (sym is) f.1)) x

    pub cell-opened : (w id : ℕ) (h : Held) (X : SlotState) → IsHeldBy w h X → id ≡ next_id h → R id ≡ [] → N w ≡ note.Fresh → Known fits R X false n N x
        → Known fits R (opened id X) false n N x
    cell-opened w id h X (inl is) next none fresh = subst (λ Y. Known fits R Y false n N x → Known fits R (opened id Y) false n N x) (sym is)
        (λ c. next-kept h id next none (subst (λ k. NoteSays (λ b. ⊥) (FitsNext fits h) k x) fresh c))
    cell-opened w id h X (inr (jd, is)) next none fresh = subst (λ Y. Known fits R Y false n N x → Known fits R (opened id Y) false n N x) (sym is)
        (λ c. next-kept h id next none (subst (λ k. NoteSays (FitsClaims fits R jd) (FitsNext fits h) k x) fresh c))
