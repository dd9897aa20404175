-- When a seat may make a step that is a call, and what its view is after it.
use Rattle.std.specs.Prelude.{◌≡◌, ℕ, ◌<◌, Some, None, Option, [], ◌∷◌, List}
use Rattle.atomic_table.specs.Table.{Me}
use Rattle.slot_history.specs.declared.act.Act.{Act}
use Rattle.slot_history.specs.Histories.{Called, IsOfTotals, entry}
use Rattle.slot_history.specs.Calls.{Call, MayAt}
use Rattle.slot_station.specs.Cells.{CellsAllow}
use Rattle.slot_station.specs.Desks.{Seen, caller_of, own_place, totals_of}
use Rattle.board_rule.specs.declared.view.View.{View}
use Rattle.board_rule.specs.Rule.{Terms}
use Rattle.board_rule.specs.Views.{number, seen_by_view, view_called}

-- the station's worker may make the call, by its place, its notes and the subject
pub record AllowsCall {O Sub : Type 0} (total : Sub → ℕ → Option ℕ) (seen : Seen O Sub)
    (c : Call) : Type 0 where
  pub place : MayAt seen.desk.shape (own_place seen) c
  pub cells : CellsAllow (totals_of total seen) (caller_of seen) c

-- The seat with this view may make a step that is this call: its worker may make the call, by its
-- own trail and notes; the seat has no cell out, and no other seat was joined into it.
pub record MayStep {B Sub : Type 0} (terms : Terms B Sub) (v : View Sub) (c : Call) : Type 0 where
  pub rest : List ℕ
  pub numbers : v.numbers ≡ number v ∷ rest
  pub below : number v < terms.shape.workers
  pub shape : v.shape ≡ terms.shape
  pub may : AllowsCall terms.total (seen_by_view v terms.subject) c
  pub still : v.out ≡ None
  pub alone : v.heard ≡ []

module _ {S Sub : Type 0} (totals : Sub → ℕ → Option ℕ) where
  -- The seat made this call: its trail has the call as its newest entry, and is a legal history of
  -- the subject. It holds as many cells as before.
  pub record HasCalled (a : Act) (old new : Me S (View Sub)) : Type 0 where
    pub called : Called old.0.shape (entry (number old.0) a) old.0.trail new.0.trail
    pub view : new.0 ≡ view_called old.0 (number old.0) new.0.trail a
    pub holds : new.1 ≡ old.1
    pub of_subject : (subject : Sub) → old.0.subject ≡ Some subject
        → IsOfTotals (totals subject) old.0.shape new.0.trail
