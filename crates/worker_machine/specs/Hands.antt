-- What a worker has in hand at each phase: its tokens, its benches and its notes of cells, by its
-- trail.
use Rattle.std.specs.Prelude.{◌≡◌, ◌≢◌, ◌⊎◌, ℕ, ◌+◌, ◌*◌, ◌<◌, ◌≤◌, true, false, List, length}
use Rattle.std.specs.Prelude.{if◌then◌else◌, slice_get, Option, Some, None, IsSome, unwrap_or}
use Rattle.slot_history.specs.declared.shape.TheConstants.{STAGES, PARTS}
use Rattle.slot_history.specs.declared.place.Place.TheVariants.{Free, Entered, Inside, Leading}
use Rattle.slot_history.specs.declared.place.Place.TheVariants.{Holding}
use Rattle.slot_history.specs.States.{can_leave, has_cell}
use Rattle.slot_history.specs.Histories.{IsLegal, IsOfTotals}
use Rattle.slot_station.specs.declared.note.Note.{Note}
use Rattle.slot_station.specs.declared.note.Note.TheVariants as note
use Rattle.slot_station.specs.declared.token.Holder.{Holder}
use Rattle.slot_station.specs.declared.token.Coordinator.{Coordinator}
use Rattle.slot_station.specs.Cells.{HasNoted, LeavesKept}
use Rattle.slot_station.specs.Desks.{Seen, own_place, Owns, OwnFits, FinalisedFits, caller_of}
use Rattle.slot_station.specs.Tokens.{IsSpent, IsDebt, IsFirst, IsCoordinator, IsAnnouncer}
use Rattle.bench_cell.specs.declared.plan.Plan.{Plan}
use Rattle.bench_cell.specs.declared.bench.Bench.{Bench}
use Rattle.bench_cell.specs.Plans.{total_of}
use Rattle.bench_cell.specs.Benches.{BenchFits}
use Rattle.plan_ast.specs.declared.answers.Answer.{Answer}
use Rattle.worker_machine.specs.Plans.{IsTask}
use Rattle.worker_machine.specs.Loads.{load_of}
use Rattle.worker_machine.specs.Benches.{AreFresh}
use Rattle.worker_machine.specs.declared.phase.Phase.{Phase}
use Rattle.worker_machine.specs.declared.phase.Phase.TheVariants.{Ready, Return, Change, Count}
use Rattle.worker_machine.specs.declared.phase.Phase.TheVariants.{Arrive, Scan, Admit, Put, Size}
use Rattle.worker_machine.specs.declared.phase.Phase.TheVariants.{Install, Tell, Give, FreeIt}
use Rattle.worker_machine.specs.declared.phase.Phase.TheVariants.{Look, Early, Take, Claim, Shut}
use Rattle.worker_machine.specs.declared.phase.Phase.TheVariants.{Back, Leave, Ask, Sweep, Pay}
use Rattle.worker_machine.specs.declared.phase.Phase.TheVariants.{Enter, Fetch, Note as Noting}

-- the task set that the holder installs next, and the one that it finalises
abbrev pub next_by : Holder → ℕ
next_by h = STAGES * unwrap_or h.query 0 + (if h.again then h.stage + 1 else 0)

abbrev pub finalised_by : Holder → ℕ
finalised_by h = STAGES * unwrap_or h.query 0 + h.stage

-- the cells of the workers from one up to below another have this note
abbrev pub AreNoted : (ℕ → Note) → ℕ → ℕ → Note → Type 0
AreNoted notes from to x = (v : ℕ) → from ≤ v → v < to → notes v ≡ x

-- the slot is held for a query, and what is finalised, or stage 0 of it after a reservation, is a
-- task set of the plan
pub record IsTaskHeld (plan : Plan) (h : Holder) : Type 0 where
  pub query : IsSome h.query
  pub low : h.stage < STAGES
  pub task : IsTask plan (finalised_by h)

-- the stage that is finalised is the last of its query, whose one-thread answer this is
pub record EndsQuery (plan : Plan) (h : Holder) (answer : Answer) : Type 0 where
  pub last : h.stage + 1 ≡ (load_of plan).stages (unwrap_or h.query 0)
  pub answer_is : (load_of plan).answer (unwrap_or h.query 0) ≡ Some answer
  pub again : h.again ≡ true

-- the holder, who noted so many, may open the slot with a next task set of the plan, but for its
-- total and its cells
pub record MayInstall (plan : Plan) (h : Holder) (noted : ℕ) : Type 0 where
  pub query : IsSome h.query
  pub low : h.stage < STAGES
  pub next : IsTask plan (next_by h)
  pub stage : h.again ≡ true → (noted ≡ 1) × (h.stage + 1 < STAGES)

module _ {O : Type 0} (seen : Seen O Plan) where
  -- the trail is a legal history of the plan
  pub record IsHistoryOf : Type 0 where
    pub legal : IsLegal seen.desk.shape seen.trail
    pub totals : IsOfTotals (total_of seen.desk.subject) seen.desk.shape seen.trail

  -- the worker holds the slot, has noted so many and set this total in this holding
  pub record HoldsAs (h : Holder) (noted : ℕ) (total : Option ℕ) : Type 0 where
    pub worker : h.worker ≡ seen.desk.worker
    pub place : own_place seen ≡ Holding h.slot (record {
      query = h.query;
      stage = h.stage;
      again = h.again;
      noted = noted;
      total = total;
    })

  -- with a token the worker shut the task set itself, and without it did not
  abbrev pub CoordinatorFits : Option Coordinator → Type 0
  CoordinatorFits None = (s id : ℕ) → own_place seen ≢ Leading s id
  CoordinatorFits (Some c) = Owns IsFirst seen c × IsTask seen.desk.subject c.id

  -- without an answer the benches of the next task set are in hand
  pub record IsNextMade (benches : List Bench) (h : Holder) : Type 0 where
    pub again : h.again ≡ true
    pub task : IsTask seen.desk.subject (next_by h)
    pub low : h.stage + 1 < STAGES
    pub count : length benches ≡ seen.desk.shape.workers
    pub fresh : AreFresh seen.desk.subject (next_by h) seen.desk.shape.workers benches

  -- with one it is the answer of the query, whose last task set was finalised
  abbrev pub IsMade : List Bench → Holder → Option Answer → Type 0
  IsMade benches h None = IsNextMade benches h
  IsMade benches h (Some answer) = EndsQuery seen.desk.subject h answer

-- what the worker has in hand at a phase, by what it has seen and the benches that it keeps
module _ {O : Type 0} (seen : Seen O Plan) (benches : List Bench) where
  -- the cells up to this worker's have their fresh benches, and those of the others are in hand
  pub record Puts (h : Holder) (v : ℕ) : Type 0 where
    pub noted : ℕ
    pub holds : HoldsAs seen h noted None
    pub may : MayInstall seen.desk.subject h noted
    pub low : v < seen.desk.shape.workers
    pub done : AreNoted seen.notes 0 v note.Fresh
    pub rest : AreNoted seen.notes v seen.desk.shape.workers note.Empty
    pub count : length benches + v ≡ seen.desk.shape.workers
    pub fresh : AreFresh seen.desk.subject (next_by h) seen.desk.shape.workers benches

  -- the cells up to this worker's are empty, and what they held is in hand
  pub record Fetches (h : Holder) (v : ℕ) : Type 0 where
    pub known : IsHistoryOf seen
    pub holds : HoldsAs seen h 0 None
    pub again : h.again ≡ true
    pub task : IsTaskHeld seen.desk.subject h
    pub low : v < seen.desk.shape.workers
    pub done : AreNoted seen.notes 0 v note.Empty
    pub rest : AreNoted seen.notes v seen.desk.shape.workers note.Kept
    pub count : length benches ≡ v
    pub fit : (u : ℕ) (b : Bench) → slice_get benches u ≡ Some b
        → FinalisedFits BenchFits seen u b

  abbrev pub InHand : Phase → Type 0
  InHand (Ready e) = own_place seen ≡ Free
  InHand (Return part) = (own_place seen ≡ Free) × (part < PARTS)
  InHand (Change part) = (own_place seen ≡ Free) × (part < PARTS)
  InHand Count = own_place seen ≡ Free
  InHand Arrive = own_place seen ≡ Free
  InHand (Scan s) = (own_place seen ≡ Free) × (s < seen.desk.shape.slots)
  InHand (Admit h) = HoldsAs seen h 0 None × (h.query ≡ None) × (h.stage ≡ 0)
      × (h.again ≡ false) × HasNoted note.Empty (caller_of seen)
  InHand (Put h v) = Puts h v
  InHand (Size h) = (n : ℕ) × HoldsAs seen h n None × MayInstall seen.desk.subject h n
      × HasNoted note.Fresh (caller_of seen)
  InHand (Install h) = (n : ℕ) × HoldsAs seen h n (total_of seen.desk.subject (next_by h))
      × MayInstall seen.desk.subject h n × HasNoted note.Fresh (caller_of seen)
  InHand (Tell x) = Owns IsAnnouncer seen x × (x.told < seen.desk.shape.workers)
  InHand (Give h) = HoldsAs seen h 0 None × IsTaskHeld seen.desk.subject h
      × HasNoted note.Empty (caller_of seen)
  InHand (FreeIt h) = (n : ℕ) × (total : Option ℕ) × HoldsAs seen h n total
      × ((h.query ≡ None) ⊎ (0 < n)) × HasNoted note.Empty (caller_of seen)
  InHand (Enter s) = (own_place seen ≡ Free) × (s < seen.desk.shape.slots)
  InHand (Look s) = (own_place seen ≡ Entered s) × (s < seen.desk.shape.slots)
  InHand Early = (can_leave (own_place seen) ≡ true) × LeavesKept (caller_of seen)
      × CoordinatorFits seen None
  InHand (Take s id) = (own_place seen ≡ Inside s id) × (s < seen.desk.shape.slots)
      × (seen.notes seen.desk.worker ≡ note.Kept) × IsTask seen.desk.subject id
  InHand (Claim s id b) = (own_place seen ≡ Inside s id) × (s < seen.desk.shape.slots)
      × IsTask seen.desk.subject id × OwnFits BenchFits seen b
  InHand (Shut x b) = Owns IsSpent seen x × (x.slot < seen.desk.shape.slots)
      × IsTask seen.desk.subject x.id × OwnFits BenchFits seen b
  InHand (Back c b) = (can_leave (own_place seen) ≡ true) × (has_cell (own_place seen) ≡ true)
      × CoordinatorFits seen c × OwnFits BenchFits seen b
  InHand (Leave c) = (can_leave (own_place seen) ≡ true)
      × (seen.notes seen.desk.worker ≡ note.Kept) × CoordinatorFits seen c
  InHand (Ask c) = Owns IsCoordinator seen c × (c.asked + 1 < seen.desk.shape.workers)
      × IsTask seen.desk.subject c.id
  InHand (Sweep c) = Owns IsCoordinator seen c × (c.asked + 1 ≡ seen.desk.shape.workers)
      × IsTask seen.desk.subject c.id
  InHand (Pay x) = Owns IsDebt seen x × IsTask seen.desk.subject x.id
  InHand (Fetch h v) = Fetches h v
  InHand (Noting h a) = HoldsAs seen h 0 None × IsTaskHeld seen.desk.subject h
      × HasNoted note.Empty (caller_of seen) × IsMade seen benches h a
