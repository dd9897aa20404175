-- What became of each task set, and what each slot knows of it.
use Rattle.std.specs.Prelude.{◌≡◌, ℕ, ◌/◌, ◌<◌, ◌≤◌, Bool, true, false, cond, eqb, ◌&&◌, min, List}
use Rattle.std.specs.Prelude.{[], ◌∷◌, Option, Some, None, IsSome, unwrap_or}
use Rattle.slot_history.specs.declared.shape.Shape.{Shape}
use Rattle.slot_history.specs.declared.shape.TheConstants.{STAGES}
use Rattle.slot_history.specs.declared.act.Act.{Act}
use Rattle.slot_history.specs.declared.act.Entry.{Entry}
use Rattle.slot_history.specs.declared.place.Place.{Place}
use Rattle.slot_history.specs.States.{TaskSet, SlotState, Empty, Reserved, Open, Shut, Finishing}
use Rattle.slot_history.specs.States.{slot_of, id_at, held_at, task_of}
use Rattle.slot_history.specs.Steps.{state_after}
use Rattle.slot_history.specs.Histories.{Morsel, Tiles, claims_of, is_install, is_last, place_of}
use Rattle.slot_history.specs.Histories.{installs_of, lasts_of, total_of, slot_with}

-- a task set was never installed, or runs in a slot with a total, or was finalised, with the total
-- that it had
pub data Life : Type 0 where
  Never : Life
  Runs : ℕ → ℕ → Life
  Done : ℕ → Life

abbrev pub done : Life → Life
done Never = Never
done (Runs s total) = Done total
done (Done total) = Done total

abbrev pub life_after : Act → Place → ℕ → Life → Life
life_after a p id life =
    cond (is_install a id) (Runs (slot_of p) (unwrap_or (held_at p).total 0))
    (cond (is_last a && eqb (id_at p) id) (done life) life)

-- what a history made of a task set
abbrev pub life_of : Shape → ℕ → List Entry → Life
life_of d id [] = Never
life_of d id (e ∷ es) = life_after e.act (place_of d es e.worker) id (life_of d id es)

-- what a history counts of a task set: its installs and its last calls, and the total and the slot
-- of its install
pub record Tally : Type 0 where
  pub installs : ℕ
  pub lasts : ℕ
  pub total : Option ℕ
  pub slot : Option ℕ

abbrev pub tally_of : Shape → ℕ → List Entry → Tally
tally_of d id h = record {
  installs = installs_of id h;
  lasts = lasts_of d id h;
  total = total_of d id h;
  slot = slot_with d id h;
}

-- what the life of a task set says of this
abbrev pub Counts : Life → Tally → Type 0
Counts Never tally = (tally.installs ≡ 0) × (tally.lasts ≡ 0) × (tally.total ≡ None)
    × (tally.slot ≡ None)
Counts (Runs s total) tally = (tally.installs ≡ 1) × (tally.lasts ≡ 0) × (tally.total ≡ Some total)
    × (tally.slot ≡ Some s)
Counts (Done total) tally = (tally.installs ≡ 1) × (tally.lasts ≡ 1) × (tally.total ≡ Some total)
    × IsSome tally.slot

-- the lives of all task sets of a history agree with its counts
abbrev pub CountsOf : Shape → List Entry → Type 0
CountsOf d h = (id : ℕ) → Counts (life_of d id h) (tally_of d id h)

-- a slot has a task set to claim of while it is open or shut
abbrev pub has_task : SlotState → Bool
has_task (Open t) = true
has_task (Shut t end) = true
has_task _ = false

-- the query that a slot serves, if there is one
abbrev pub query_in : SlotState → Option ℕ
query_in Empty = None
query_in (Reserved w held) = held.query
query_in (Open t) = Some (t.id / STAGES)
query_in (Shut t end) = Some (t.id / STAGES)
query_in (Finishing id w held) = Some (id / STAGES)

-- the book of task sets: how many queries were admitted, what became of each task set, and the
-- claims of it
pub record Book : Type 0 where
  pub admitted : ℕ
  pub life : ℕ → Life
  pub claims : ℕ → List Morsel

abbrev pub book_of : Shape → List Entry → Book
book_of d h = record {
  admitted = (state_after d h).admitted;
  life = λ id. life_of d id h;
  claims = λ id. claims_of d id h;
}

-- the later task sets of its query were never installed
abbrev pub AreLaterNever : Book → ℕ → Type 0
AreLaterNever B id = (jd : ℕ) → id < jd → jd / STAGES ≡ id / STAGES → B.life jd ≡ Never

-- the task set t runs in the slot s, and its claims tile what was claimed of it
pub record IsRunning (B : Book) (s : ℕ) (t : TaskSet) : Type 0 where
  pub lives : B.life t.id ≡ Runs s t.total
  pub tiles : Tiles (B.claims t.id) (min t.cursor t.total)
  pub later : AreLaterNever B t.id

-- what a slot in this state knows of the task sets of its query
abbrev pub IsSlotBook : Book → ℕ → SlotState → Type 0
IsSlotBook B s Empty = Unit {0}
IsSlotBook B s (Reserved w held) = (q : ℕ) → held.query ≡ Some q
    → (q < B.admitted) × ((id : ℕ) → id / STAGES ≡ q → B.life id ≡ Never)
IsSlotBook B s (Open t) = IsRunning B s t
IsSlotBook B s (Shut t end) = IsRunning B s t
IsSlotBook B s (Finishing id w held) = (total : ℕ) × (B.life id ≡ Done total) × AreLaterNever B id

-- The book is right. Each slot runs its own task set, and a task set that runs is in its slot. One
-- that was never installed has no claims. None of a query that was not admitted was installed. No
-- two slots serve one query.
pub record IsBook (B : Book) (slots : ℕ → SlotState) : Type 0 where
  pub slot : (s : ℕ) → IsSlotBook B s (slots s)
  pub runs : (id s total : ℕ) → B.life id ≡ Runs s total
      → (has_task (slots s) ≡ true) × ((task_of (slots s)).id ≡ id)
  pub never : (id : ℕ) → B.life id ≡ Never → B.claims id ≡ []
  pub late : (id : ℕ) → B.admitted ≤ id / STAGES → B.life id ≡ Never
  pub apart : (s other q : ℕ) → query_in (slots s) ≡ Some q → query_in (slots other) ≡ Some q
      → s ≡ other

-- the book of a history is right
abbrev pub IsBookOf : Shape → List Entry → Type 0
IsBookOf d h = IsBook (book_of d h) (state_after d h).slots
