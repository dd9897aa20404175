-- When a pass is of a board, what it shows, and what a step of a call makes of it.
use Rattle.std.specs.Prelude.{◌≡◌, ℕ, ◌<◌, false, is_some, length, Option, Some}
use Rattle.atomic_table.specs.declared.shared.Seat.{Seat}
use Rattle.slot_history.specs.declared.shape.Shape.{Shape}
use Rattle.slot_history.specs.declared.act.Act.{Act}
use Rattle.slot_history.specs.declared.place.Place.{Place}
use Rattle.slot_history.specs.Steps.{moved}
use Rattle.slot_history.specs.Histories.{IsLegal}
use Rattle.slot_station.specs.declared.note.Note.{Note}
use Rattle.slot_station.specs.Desks.{Seen, own_place}
use Rattle.slot_station.specs.Log.{note_in}
use Rattle.board_rule.specs.declared.board.Board.{Board}
use Rattle.board_rule.specs.declared.board.Pass.{Pass}
use Rattle.board_rule.specs.declared.view.View.{View}
use Rattle.board_rule.specs.Views.{number, view_exchanged}

module _ {B Sub : Type 0} where
  abbrev pub board_shape : Board B Sub → Shape
  board_shape board = board.table.shared.key.shape

  abbrev pub board_subject : Board B Sub → Sub
  board_subject board = board.table.shared.key.subject.value

  -- what the seat of the worker w shows as a station
  abbrev pub seen_at : Board B Sub → ℕ → Seat (Option B) (View Sub) → Seen (Board B Sub) Sub
  seen_at board w seat = record {
    origin = board;
    desk = record { worker = w; shape = board_shape board; subject = board_subject board };
    trail = seat.me.0.trail;
    notes = note_in seat.me.0.own w;
  }

  -- The seat is that of the worker w of this board, which is at the place p: it is of the board's
  -- table, its trail is a legal history, it has no cell out, and no other seat was joined into it.
  abbrev pub IsSeatOf : Board B Sub → ℕ → Place → Seat (Option B) (View Sub) → Type 0
  IsSeatOf board w p seat = let v = seat.me.0 in
      (seat.table_id ≡ board.table.shared.table_id) × (w < (board_shape board).workers)
      × (0 < length v.numbers) × (number v ≡ w) × (v.shape ≡ board_shape board)
      × (v.subject ≡ Some (board_subject board)) × (own_place (seen_at board w seat) ≡ p)
      × (is_some v.out ≡ false) × (length v.heard ≡ 0) × (length seat.me.1 ≡ 0)
      × ∥ IsLegal (board_shape board) v.trail ∥₁

  -- what a pass shows as a station
  abbrev pub seen_of : Board B Sub → Pass B Sub → Seen (Board B Sub) Sub
  seen_of board pass = seen_at board pass.worker pass.seat

  -- the pass is of this board
  abbrev pub IsPassOf : Board B Sub → Pass B Sub → Type 0
  IsPassOf board pass = IsSeatOf board pass.worker pass.place pass.seat

  -- A pass of this board is of it still, and what it shows as a station went on so.
  abbrev pub Advances : Board B Sub
      → (Seen (Board B Sub) Sub → Seen (Board B Sub) Sub → Type 0) → Pass B Sub → Pass B Sub
      → Type 0
  Advances board WentOn old new =
      IsPassOf board new × WentOn (seen_of board old) (seen_of board new)

  -- The pass made one exchange, of the cell of u, and nothing else: it has this one more among its
  -- own, with the note of what was put, and no cell is out with it.
  pub record HasExchanged (u : ℕ) (note : Note) (old new : Pass B Sub) : Type 0 where
    pub worker : new.worker ≡ old.worker
    pub place : new.place ≡ old.place
    pub view : new.seat.me.0 ≡ view_exchanged old.seat.me.0 u note

  -- The pass made a step that is this call. Its seat is where the call moves its worker, and the
  -- place that the pass has is still to be moved there.
  pub record HasStepped (board : Board B Sub) (a : Act) (old new : Pass B Sub) : Type 0 where
    pub worker : new.worker ≡ old.worker
    pub place : new.place ≡ old.place
    pub seat : IsSeatOf board new.worker (moved board.shape a new.place) new.seat
