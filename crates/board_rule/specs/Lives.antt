-- How a board begins and ends.
use Rattle.std.specs.Prelude.{◌≡◌, ℕ, ◌<◌, List, [], Option, Some, slice_get}
use Rattle.atomic_table.specs.declared.shared.Seat.{Seat}
use Rattle.slot_history.specs.declared.act.Entry.{Entry}
use Rattle.slot_history.specs.declared.place.Place.TheVariants.{Free}
use Rattle.slot_history.specs.Histories.{Begins, IsOfTotals, own_calls}
use Rattle.slot_words.specs.Laws.{AreWordsOf}
use Rattle.board_rule.specs.declared.board.Board.{Board}
use Rattle.board_rule.specs.declared.board.Pass.{Pass}
use Rattle.board_rule.specs.declared.view.View.{View}
use Rattle.board_rule.specs.Passes.{IsPassOf, board_shape, board_subject}
use Rattle.board_rule.specs.Views.{fresh_view}

-- what contracts see of a board that has ended: its words, in the order of their indices, and its
-- history
pub record Ended : Type 0 where
  pub words : List ℕ
  pub history : List Entry

module _ {B Sub : Type 0} (board : Board B Sub) where
  -- the pass of the worker w, which has done nothing
  pub record IsUnused (w : ℕ) (pass : Pass B Sub) : Type 0 where
    pub of_board : IsPassOf board pass
    pub worker : pass.worker ≡ w
    pub place : pass.place ≡ Free
    pub trail : pass.seat.me.0.trail ≡ []

  -- the passes are those of the workers from 0 on, none of whom has done anything
  abbrev pub AreUnused : List (Pass B Sub) → Type 0
  AreUnused passes = (w : ℕ) (pass : Pass B Sub) → slice_get passes w ≡ Some pass → IsUnused w pass

  -- the pass is of this board, and its worker is free
  pub record IsFreePass (pass : Pass B Sub) : Type 0 where
    pub of_board : IsPassOf board pass
    pub place : pass.place ≡ Free

  -- every pass is of this board and its worker free
  abbrev pub AreFree : List (Pass B Sub) → Type 0
  AreFree passes = (k : ℕ) (pass : Pass B Sub) → slice_get passes k ≡ Some pass → IsFreePass pass

  -- each worker's pass is among these
  abbrev pub AreAll : List (Pass B Sub) → Type 0
  AreAll passes = (w : ℕ) → w < (board_shape board).workers
      → (k : ℕ) × (pass : Pass B Sub) × (slice_get passes k ≡ Some pass) × (pass.worker ≡ w)

  -- The joined history is legal and of the subject, and the final words stand for the state that
  -- it leaves. It begins with each pass's trail, and of each worker it has just the worker's own
  -- calls.
  pub record IsJoined (total : Sub → ℕ → Option ℕ) (passes : List (Pass B Sub)) (end : Ended)
      : Type 0 where
    pub words_are : AreWordsOf (board_shape board) end.history end.words
    pub of_subject : IsOfTotals (total (board_subject board)) (board_shape board) end.history
    pub begins : (k : ℕ) (pass : Pass B Sub) → slice_get passes k ≡ Some pass
        → Begins end.history pass.seat.me.0.trail
    pub own : (k : ℕ) (pass : Pass B Sub) → slice_get passes k ≡ Some pass
        → own_calls pass.worker end.history ≡ own_calls pass.worker pass.seat.me.0.trail

  -- ---- what is kept while passes are dealt, and while they are joined

  -- the seat of so many workers from `first` on, none of whom has done anything
  pub record IsUndealt (first n : ℕ) (seat : Seat (Option B) (View Sub)) : Type 0 where
    pub table : seat.table_id ≡ board.table.shared.table_id
    pub knows : seat.me ≡ (fresh_view (board_shape board) (board_subject board) first n, [])
