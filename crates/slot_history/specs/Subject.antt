-- A history is of a subject: each install is of a task set that the subject has, with its total.
use Rattle.std.specs.Prelude.{◌≡◌, ℕ, ◌<◌, true, List, ◌∷◌, Option, Some, IsSome}
use Rattle.slot_history.specs.declared.shape.Shape.{Shape}
use Rattle.slot_history.specs.declared.act.Act.{Act}
use Rattle.slot_history.specs.declared.act.Act.TheVariants.{Install}
use Rattle.slot_history.specs.declared.act.Entry.{Entry}
use Rattle.slot_history.specs.States.{held_at, task_of}
use Rattle.slot_history.specs.Steps.{state_after}
use Rattle.slot_history.specs.Histories.{IsLegal, IsOfTotals, Begins, place_of, installs_of}
use Rattle.slot_history.specs.Histories.{total_of}
use Rattle.slot_history.specs.Lives.{has_task}
use Rattle.slot_history.specs.Numbers.{named_id}

-- a call, with the total that its worker set: an install is of a task set of the subject, with the
-- subject's total
abbrev pub InstallsOf : (ℕ → Option ℕ) → Act → Option ℕ → Type 0
InstallsOf totals (Install id) total = IsSome total × (totals id ≡ total)
InstallsOf totals a total = Unit {0}

-- the same of the newest call of a history
abbrev pub EntryIsOf : (ℕ → Option ℕ) → Shape → Entry → List Entry → Type 0
EntryIsOf totals d e early = InstallsOf totals e.act (held_at (place_of d early e.worker)).total

-- What a history of the subject shows is the subject's: each call, the total of what was installed,
-- what a call or its answer names, and the task sets in the slots.
pub record ShowsSubject (totals : ℕ → Option ℕ) (d : Shape) (h : List Entry) : Type 0 where
  pub each : (e : Entry) (early : List Entry) → Begins h (e ∷ early) → EntryIsOf totals d e early
  pub installed : (id : ℕ) → 0 < installs_of id h
      → IsSome (totals id) × (total_of d id h ≡ totals id)
  pub named : (e : Entry) (early : List Entry) (id : ℕ) → Begins h (e ∷ early)
      → named_id e.act ≡ Some id → IsSome (totals id)
  pub slots : (s : ℕ) → let x = (state_after d h).slots s in has_task x ≡ true
      → totals (task_of x).id ≡ Some (task_of x).total

-- ---- the laws, as the function of module `laws::subject` states them

-- a legal history of the subject shows the subject's task sets
abbrev pub SubjectShows : Type 0
SubjectShows = (totals : ℕ → Option ℕ) (d : Shape) (h : List Entry) → IsLegal d h
    → IsOfTotals totals d h → ShowsSubject totals d h

-- a history stays of the subject if its next call is of the subject
abbrev pub SubjectGoesOn : Type 0
SubjectGoesOn = (totals : ℕ → Option ℕ) (d : Shape) (e : Entry) (h : List Entry)
    → IsOfTotals totals d h → EntryIsOf totals d e h → IsOfTotals totals d (e ∷ h)

-- and its beginnings are of the subject too
abbrev pub SubjectBegins : Type 0
SubjectBegins = (totals : ℕ → Option ℕ) (d : Shape) (h early : List Entry) → IsLegal d h
    → IsOfTotals totals d h → Begins h early → IsOfTotals totals d early
