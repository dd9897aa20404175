-- A cell is taken out of the table and given back.
use Rattle.std.specs.Prelude.{◌≡◌, ℕ, List, [], ◌∷◌, Option, Some, unwrap_or}
use Rattle.atomic_table.specs.Table.{Me, rest}
use Rattle.slot_history.specs.declared.place.Place.{Place}
use Rattle.slot_history.specs.States.{slot_of}
use Rattle.slot_station.specs.declared.note.Note.{Note}
use Rattle.slot_station.specs.declared.note.Note.TheVariants.{Loose}
use Rattle.slot_station.specs.Exchanges.{HoldsNoted, put_note}
use Rattle.board_rule.specs.declared.view.View.{View}
use Rattle.board_rule.specs.Rule.{cell_index}
use Rattle.board_rule.specs.Views.{view_place, seen_by_view, with_out, view_exchanged}

-- where this cell lies, of the slot at which the view's worker is
abbrev pub index_in : {Sub : Type 0} → View Sub → ℕ → ℕ
index_in v u = cell_index v.shape (slot_of (view_place v)) u

-- the note of the cell that was taken last, which is the first of those that the seat holds, by
-- what it has now
abbrev pub note_put : {B : Type 0} → Place → List (ℕ × Option B) → Note
note_put p [] = Loose
note_put p (held ∷ more) = put_note p held.1

-- a load takes the cell of u, which holds what its note says
pub record Takes {B Sub : Type 0} (fits : Sub → ℕ → ℕ → List (ℕ × ℕ) → B → Type 0) (u : ℕ)
    (old new : Me (Option B) (View Sub)) : Type 0 where
  pub value : Option B
  pub holds : new.1 ≡ (index_in old.0 u, value) ∷ old.1
  pub view : new.0 ≡ with_out old.0 u
  pub says : (subject : Sub) → old.0.subject ≡ Some subject
      → HoldsNoted (seen_by_view old.0 subject) u fits value

-- a load gives back the cell that is out, with a note of what was put into it
pub record Gives {B Sub : Type 0} (old new : Me (Option B) (View Sub)) : Type 0 where
  pub holds : new.1 ≡ rest old.1
  pub view : new.0
      ≡ view_exchanged old.0 (unwrap_or old.0.out 0) (note_put (view_place old.0) old.1)
