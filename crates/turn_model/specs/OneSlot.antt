-- One decay and one sizer for each slot are enough.
use Rattle.std.specs.Prelude.{◌≡◌, ◌⊎◌, ℕ, ◌/◌, List, [], ◌∷◌, Option, Some}
use Rattle.std.specs.Option.{option_map}
use Rattle.slot_history.specs.declared.shape.TheConstants.{STAGES}
use Rattle.slot_history.specs.declared.act.Act.TheVariants.{LookOpen}
use Rattle.slot_history.specs.declared.act.Entry.{Entry}
use Rattle.slot_history.specs.declared.place.Place.TheVariants.{Inside}
use Rattle.slot_history.specs.Histories.{IsLegal, entry, own_calls}
use Rattle.slot_station.specs.Desks.{Desk}
use Rattle.turn_model.specs.Workloads.{Workload}
use Rattle.turn_model.specs.Moves.{Move, entries}
use Rattle.turn_model.specs.Learned.{place_by, slot_by, let_in_by, time_in, taken_by, last_end}
use Rattle.turn_model.specs.Points.{Claim, point_by}
use Rattle.turn_model.specs.Driven.{AreDriven}

-- these moves are those of the worker's own calls in a legal history
pub record AreMovesIn (D : Desk Workload) (h : List Entry) (ms : List Move) : Type 0 where
  pub legal : IsLegal D.shape h
  pub driven : AreDriven D ms
  pub mine : own_calls D.worker h ≡ entries D.worker ms

-- the query of the task set to which the last look at the slot let the worker in
abbrev pub query_let_in : Desk Workload → ℕ → List Move → Option ℕ
query_let_in D s ms = option_map (λ id. id / STAGES) (let_in_by D s ms)

-- A worker that sees a task set open has spent time in its query only if the last look at this slot
-- let it in to this query. It has ranges of the task set only if that look let it in to the task
-- set.
pub record IsNewOrLetIn (D : Desk Workload) (ms : List Move) (id : ℕ) : Type 0 where
  pub query : (time_in D (id / STAGES) ms ≡ 0)
      ⊎ (query_let_in D (slot_by D ms) ms ≡ Some (id / STAGES))
  pub task : ((taken_by D id ms ≡ []) × (last_end D id ms ≡ 0))
      ⊎ (let_in_by D (slot_by D ms) ms ≡ Some id)

-- ---- the laws, as the functions of module `laws` state them

abbrev pub LooksFit : Type 0
LooksFit = (D : Desk Workload) (h : List Entry) (ms : List Move) (id : ℕ) → AreMovesIn D h ms
    → IsLegal D.shape (entry D.worker (LookOpen id) ∷ h) → IsNewOrLetIn D ms id

-- the last look at the slot where a worker claims let it in to the task set there
abbrev pub ClaimsAreLetIn : Type 0
ClaimsAreLetIn = (D : Desk Workload) (ms : List Move) (s id : ℕ) → AreDriven D ms
    → point_by D ms ≡ Claim → place_by D ms ≡ Inside s id → let_in_by D s ms ≡ Some id

-- no two slots let a worker in to task sets of one query
abbrev pub OneSlotLetsIn : Type 0
OneSlotLetsIn = (D : Desk Workload) (h : List Entry) (ms : List Move) (s other id jd : ℕ)
    → AreMovesIn D h ms → let_in_by D s ms ≡ Some id → let_in_by D other ms ≡ Some jd
    → jd / STAGES ≡ id / STAGES → s ≡ other
