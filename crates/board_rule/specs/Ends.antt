-- What the seat knows into which all others were joined.
use Rattle.std.specs.Prelude.{◌≡◌, ◌⊎◌, ℕ, ◌<◌, List, length, Option, Some, slice_get}
use mathlib.Core.Option.{some}
use lib.ListN.{get_elem?}
use Rattle.atomic_table.specs.declared.shared.Seat.{Seat}
use Rattle.slot_history.specs.declared.act.Entry.{Entry}
use Rattle.board_rule.specs.declared.board.Board.{Board}
use Rattle.board_rule.specs.declared.board.Pass.{Pass}
use Rattle.board_rule.specs.declared.view.View.{View}
use Rattle.board_rule.specs.Views.{number, times}

-- the view was joined with the worker w, which had this trail, or is that worker's
pub record HasJoined {Sub : Type 0} (v : View Sub) (w : ℕ) (trail : List Entry) : Type 0 where
  pub there : 0 < times w v.numbers
  pub knows : ((k : ℕ) × (get_elem? v.heard k ≡ some (record { worker = w; trail = trail })))
      ⊎ ((number v ≡ w) × (v.trail ≡ trail))

-- all these passes were joined into the seat
pub record IsGathered {B Sub : Type 0} (board : Board B Sub) (passes : List (Pass B Sub))
    (seat : Seat (Option B) (View Sub)) : Type 0 where
  pub table : seat.table_id ≡ board.table.shared.table_id
  pub some_number : 0 < length seat.me.0.numbers
  pub each : (k : ℕ) (pass : Pass B Sub) → slice_get passes k ≡ Some pass
      → HasJoined seat.me.0 pass.worker pass.seat.me.0.trail
