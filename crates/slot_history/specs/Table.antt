-- The table of places of a slot: who may be where, by the state of the slot.
use Rattle.std.specs.Prelude.{◌≡◌, ◌≢◌, ℕ, ◌+◌, ◌<◌, Bool, true, false, cond, eqb, ltb, not, ◌&&◌}
use Rattle.slot_history.specs.declared.shape.Shape.{Shape}
use Rattle.slot_history.specs.declared.place.Held.{Held}
use Rattle.slot_history.specs.declared.place.Place.{Place}
use Rattle.slot_history.specs.declared.place.Place.TheVariants.{Entered, Astray}
use Rattle.slot_history.specs.declared.place.Place.TheVariants.{Behind, Leading, Asking, Owing}
use Rattle.slot_history.specs.declared.place.Place.TheVariants.{Holding}
use Rattle.slot_history.specs.Sets.{count_of}
use Rattle.slot_history.specs.States.{TaskSet, Ending, SlotState, Empty, Reserved, Open, Shut}
use Rattle.slot_history.specs.States.{Finishing, ObjectState, slot_of, id_at, has_cell}
use Rattle.slot_history.specs.Steps.{next_asked}

-- what a worker may or must be to a slot
pub data Duty : Type 0 where
  -- it has nothing to do with the slot's task set
  Visits : Duty
  -- it may work on the task set of this id
  Works : ℕ → Duty
  -- the task set of this id is shut, and the worker was not asked yet: it may still be at work or
  -- find it shut
  Unasked : ℕ → Duty
  -- it is marked for this id: it is still at the slot or has to pay
  Owes : ℕ → Duty
  -- it coordinates the end of this id
  Leads : ℕ → Ending → Duty
  -- it holds the slot
  Holds : Held → Duty

-- marked, and not paid
abbrev pub owing : Ending → ℕ → Bool
owing end v = end.marked v && not (end.paid v)

-- the duty of a worker to a slot whose task set is shut
abbrev pub duty_at_end : ℕ → Ending → ℕ → Duty
duty_at_end id end v = cond (eqb v end.coordinator) (cond end.swept Visits (Leads id end))
    (cond (end.asked v) (cond (owing end v) (Owes id) Visits) (Unasked id))

-- the duty of a worker to a slot
abbrev pub duty_of : SlotState → ℕ → Duty
duty_of Empty v = Visits
duty_of (Reserved w held) v = cond (eqb v w) (Holds held) Visits
duty_of (Open t) v = Works t.id
duty_of (Shut t end) v = duty_at_end t.id end v
duty_of (Finishing id w held) v = cond (eqb v w) (Holds held) Visits

-- the places that tie a worker to the task set of the slot that they name
abbrev pub binds : Place → Bool
binds (Asking s id asked marked) = true
binds (Owing s id) = true
binds (Holding s held) = true
binds p = has_cell p

-- inside, and not the coordinator
abbrev pub lags : Place → Bool
lags (Leading s id) = false
lags p = has_cell p

-- inside, and has not learned that the task set is shut
abbrev pub works : Place → Bool
works (Behind s id) = false
works p = lags p

-- where a marked worker may be until it has paid
abbrev pub stays : Place → Bool
stays (Entered s) = true
stays (Astray s) = true
stays (Owing s id) = true
stays p = lags p

-- the worker that is number n, from 0, among all but the coordinator
abbrev pub nth_other : ℕ → ℕ → ℕ
nth_other coordinator n = cond (ltb n coordinator) n (n + 1)

-- the coordinator has asked so many of the others, the first ones, and marked so many of them
pub record HasAsked (d : Shape) (end : Ending) (asked marked : ℕ) : Type 0 where
  pub first : (v : ℕ)
      → end.asked v ≡ (not (eqb v end.coordinator) && ltb v (nth_other end.coordinator asked))
  pub marks : count_of d.workers end.marked ≡ marked
  pub within : asked < d.workers

abbrev pub IsLeading : Shape → Ending → Place → Type 0
IsLeading d end (Leading s id) = HasAsked d end 0 0
IsLeading d end (Asking s id asked marked) = HasAsked d end asked marked
IsLeading d end _ = ⊥

-- a place at which a worker meets its duty to the slot s
abbrev pub Meets : Shape → ℕ → Duty → Place → Type 0
Meets d s Visits p = binds p ≡ true → slot_of p ≢ s
Meets d s (Works id) p = binds p ≡ true → slot_of p ≡ s → (works p ≡ true) × (id_at p ≡ id)
Meets d s (Unasked id) p = binds p ≡ true → slot_of p ≡ s → (lags p ≡ true) × (id_at p ≡ id)
Meets d s (Owes id) p = (slot_of p ≡ s) × (stays p ≡ true) × (binds p ≡ true → id_at p ≡ id)
Meets d s (Leads id end) p = (slot_of p ≡ s) × (id_at p ≡ id) × IsLeading d end p
Meets d s (Holds held) p = p ≡ Holding s held

-- Whoever paid was marked, whoever was marked was asked, and whoever was asked is not the
-- coordinator. After the sweep all others were asked, and one of them still has to pay.
pub record IsChain (d : Shape) (end : Ending) : Type 0 where
  pub coordinator : end.coordinator < d.workers
  pub paid : (v : ℕ) → end.paid v ≡ true → end.marked v ≡ true
  pub marked : (v : ℕ) → end.marked v ≡ true → end.asked v ≡ true
  pub asked : (v : ℕ) → end.asked v ≡ true → v ≢ end.coordinator
  pub all_asked : end.swept ≡ true → (v : ℕ) → v < d.workers → v ≢ end.coordinator
      → end.asked v ≡ true
  pub one_owes : end.swept ≡ true → (v : ℕ) × (v < d.workers) × (owing end v ≡ true)

-- the holder of a held slot is a worker; the sets of a shut slot lie within one another
abbrev pub IsChainOf : Shape → SlotState → Type 0
IsChainOf d (Reserved w held) = w < d.workers
IsChainOf d (Shut t end) = IsChain d end
IsChainOf d (Finishing id w held) = w < d.workers
IsChainOf d _ = Unit {0}

-- every worker meets its duty to every slot, and only workers have duties that bind
pub record IsTable (d : Shape) (S : ObjectState) : Type 0 where
  pub chain : (s : ℕ) → IsChainOf d (S.slots s)
  pub duty : (s v : ℕ) → v < d.workers → Meets d s (duty_of (S.slots s) v) (S.places v)

-- a coordinator that asks: its number, the id of its task set, and how many of the others it asked
-- and marked
pub record Asker : Type 0 where
  pub worker : ℕ
  pub id : ℕ
  pub asked : ℕ
  pub marked : ℕ

-- The slot of a coordinator that asks is shut with the coordinator's id. The coordinator shut it
-- and has not swept. It asks next the worker after those that it asked.
pub record IsLed (d : Shape) (x : SlotState) (asker : Asker) : Type 0 where
  pub task : TaskSet
  pub ending : Ending
  pub slot : x ≡ Shut task ending
  pub named : task.id ≡ asker.id
  pub mine : asker.worker ≡ ending.coordinator
  pub unswept : ending.swept ≡ false
  pub asked : HasAsked d ending asker.asked asker.marked
  pub next : asker.asked + 1 < d.workers
      → next_asked d ending ≡ nth_other asker.worker asker.asked

-- each coordinator that asks has such a slot
abbrev pub AreLed : Shape → ObjectState → Type 0
AreLed d S = (w s id asked marked : ℕ) → w < d.workers → S.places w ≡ Asking s id asked marked
    → IsLed d (S.slots s) (record { worker = w; id = id; asked = asked; marked = marked })
