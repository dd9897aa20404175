-- What a seat's view gives, and what steps make of it.
use Rattle.std.specs.Prelude.{ℕ, ◌+◌, cond, eqb, leb, zero, suc, length}
use Rattle.std.specs.Prelude.{drop, List, [], ◌∷◌, ◌++◌, Some, None, slice_index}
use Rattle.slot_history.specs.declared.shape.Shape.{Shape}
use Rattle.slot_history.specs.declared.act.Act.{Act}
use Rattle.slot_history.specs.declared.act.Entry.{Entry}
use Rattle.slot_history.specs.declared.place.Place.{Place}
use Rattle.slot_history.specs.Histories.{place_of}
use Rattle.slot_station.specs.declared.log.Logged.TheVariants.{Exchanged}
use Rattle.slot_station.specs.declared.note.Note.{Note}
use Rattle.slot_station.specs.Desks.{Desk, Seen}
use Rattle.slot_station.specs.Log.{note_in, call}
use Rattle.board_rule.specs.declared.view.View.{View}
use Rattle.board_rule.specs.declared.view.Heard.{Heard}

-- how often a number is in a list
abbrev pub times : ℕ → List ℕ → ℕ
times w [] = 0
times w (u ∷ us) = cond (eqb u w) 1 0 + times w us

-- the numbers from `first` on, so many of them
abbrev pub numbers_from : ℕ → ℕ → List ℕ
numbers_from first zero = []
numbers_from first (suc n) = first ∷ numbers_from (suc first) n

abbrev pub only_first : List ℕ → List ℕ
only_first [] = []
only_first (w ∷ ws) = w ∷ []

-- the longer of two trails, of which one begins the other
abbrev pub longer : List Entry → List Entry → List Entry
longer one other = cond (leb (length one) (length other)) other one

module _ {Sub : Type 0} where
  -- the number of the view's worker
  abbrev pub number : View Sub → ℕ
  number v = slice_index v.numbers 0

  -- where that worker is
  abbrev pub view_place : View Sub → Place
  view_place v = place_of v.shape v.trail (number v)

  -- its note of the cell of a worker
  abbrev pub note_of : View Sub → ℕ → Note
  note_of v u = note_in v.own (number v) u

  -- what a station shows of itself, but for its origin
  abbrev pub seen_with : Desk Sub → List Entry → (ℕ → Note) → Seen (Unit {0}) Sub
  seen_with desk trail notes = record { origin = tt; desk = desk; trail = trail; notes = notes }

  -- what the view shows as the station of its worker, for this subject
  abbrev pub seen_by_view : View Sub → Sub → Seen (Unit {0}) Sub
  seen_by_view v subject =
      seen_with (record { worker = number v; shape = v.shape; subject = subject })
      v.trail (note_of v)

  -- ---- after steps

  -- the view after the call a of its worker w, with these entries as its trail
  abbrev pub view_called : View Sub → ℕ → List Entry → Act → View Sub
  view_called v w es a = record v { trail = es; own = call w a ∷ v.own }

  -- with the cell of this worker out
  abbrev pub with_out : View Sub → ℕ → View Sub
  with_out v u = record v { out = Some u }

  -- after the worker exchanged the cell of u, of which it has this note now
  abbrev pub view_exchanged : View Sub → ℕ → Note → View Sub
  view_exchanged v u note = record v {
    own = Exchanged (record { worker = number v; cell = u; note = note }) ∷ v.own;
    out = None;
  }

  -- ---- seats that are made, split and joined

  -- of so many workers from `first` on, none of whom has done anything
  abbrev pub fresh_view : Shape → Sub → ℕ → ℕ → View Sub
  fresh_view shape subject first n = record {
    shape = shape;
    subject = Some subject;
    numbers = numbers_from first n;
    trail = [];
    own = [];
    out = None;
    heard = [];
  }

  -- a seat that is split keeps its own number, and the new one gets the further numbers
  abbrev pub kept_part : View Sub → View Sub
  kept_part v = record v { numbers = only_first v.numbers; heard = [] }

  abbrev pub dealt_part : View Sub → View Sub
  dealt_part v =
      record v { numbers = drop 1 v.numbers; trail = []; own = []; out = None; heard = [] }

  -- what a seat comes with when it is joined
  abbrev pub heard_of : View Sub → Heard
  heard_of v = record { worker = number v; trail = v.trail }

  -- the seat into which another is joined has the numbers of both, and the longer trail
  abbrev pub joined : View Sub → View Sub → View Sub
  joined v other = record v {
    numbers = v.numbers ++ other.numbers;
    trail = longer v.trail other.trail;
    heard = heard_of v ∷ heard_of other ∷ (v.heard ++ other.heard);
  }

  -- and the other has nothing left
  abbrev pub spent : View Sub
  spent = record {
    shape = record { workers = 0; slots = 0; queries = 0 };
    subject = None;
    numbers = [];
    trail = [];
    own = [];
    out = None;
    heard = [];
  }
