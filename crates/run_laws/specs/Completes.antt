-- What is done once every worker is over.
use Rattle.std.specs.Prelude.{◌≡◌, ℕ, ◌+◌, ◌/◌, ◌<◌, ◌≤◌, Bool, true, false, cond}
use Rattle.std.specs.Prelude.{◌&&◌, List, [], ◌∷◌}
use Rattle.slot_history.specs.declared.shape.Shape.{Shape}
use Rattle.slot_history.specs.declared.shape.TheConstants.{STAGES}
use Rattle.slot_history.specs.declared.act.Act.{Act}
use Rattle.slot_history.specs.declared.act.Act.TheVariants.{Release}
use Rattle.slot_history.specs.declared.act.Entry.{Entry}
use Rattle.slot_history.specs.States.{held_at, is_empty}
use Rattle.slot_history.specs.Steps.{state_after}
use Rattle.slot_history.specs.Histories.{IsLegal, place_of, installs_of, lasts_of}
use Rattle.turn_model.specs.Workloads.{Workload, sets_of}
use Rattle.turn_model.specs.Runs.{Run}
use Rattle.turn_model.specs.Orders.{AllOver}
use Rattle.turn_model.specs.Measure.{is_query}
use Rattle.run_laws.specs.Ends.{IsWork, IsPlayed}

abbrev pub is_release : Act → Bool
is_release Release = true
is_release _ = false

-- how many times a slot that was held for the query was released
abbrev pub releases_of : Shape → ℕ → List Entry → ℕ
releases_of d q [] = 0
releases_of d q (e ∷ es) =
    cond (is_release e.act && is_query (held_at (place_of d es e.worker)).query q) 1 0
    + releases_of d q es

-- All queries were admitted, and the slot of each was released once. All task sets were noted as
-- done, and each that was installed was finalised. No slot is in use.
pub record IsAllDone (d : Shape) (load : Workload) (h : List Entry) : Type 0 where
  pub admitted : (state_after d h).admitted ≡ d.queries
  pub released : (q : ℕ) → q < d.queries → releases_of d q h ≡ 1
  pub finished : (state_after d h).finished ≡ sets_of d load
  pub finalised : (id : ℕ) → 0 < installs_of id h → lasts_of d id h ≡ 1
  pub empty : (s : ℕ) → is_empty ((state_after d h).slots s) ≡ true

-- ---- the laws, as the function of module `laws` states them

-- once every worker is over, all is done
abbrev pub OverIsDone : Type 0
OverIsDone = (d : Shape) (load : Workload) (run : Run) → IsWork d load → IsPlayed d load run
    → AllOver d load run → IsAllDone d load run.history

-- if a task set was finalised, so were those of the stages before it
abbrev pub StagesBefore : Type 0
StagesBefore = (d : Shape) (h : List Entry) (id jd : ℕ) → IsLegal d h → 0 < lasts_of d id h
    → jd ≤ id → jd / STAGES ≡ id / STAGES → lasts_of d jd h ≡ 1
