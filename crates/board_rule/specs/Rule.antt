-- The running rule of the board: what holds between any two steps.
use Rattle.std.specs.Prelude.{◌≡◌, ℕ, ◌+◌, ◌*◌, ◌<◌, cond, ltb, List, [], ◌∷◌, Option, Some, None}
use mathlib.Core.Option as std_option
use mathlib.Core.Option.{some}
use lib.ListN.{get_elem?}
use Rattle.atomic_table.specs.Table.{State}
use Rattle.slot_history.specs.declared.shape.Shape.{Shape}
use Rattle.slot_history.specs.declared.act.Act.{Act}
use Rattle.slot_history.specs.declared.act.Entry.{Entry}
use Rattle.slot_history.specs.declared.place.Place.TheVariants.{Free}
use Rattle.slot_history.specs.States.{HasCell}
use Rattle.slot_history.specs.Steps.{state_after}
use Rattle.slot_history.specs.Histories.{Begins, IsOfTotals, entry, own_calls, place_of}
use Rattle.slot_station.specs.declared.note.Note.{Note}
use Rattle.slot_station.specs.declared.note.Note.TheVariants.{Loose}
use Rattle.slot_station.specs.Cells.{Moment, CellOf, notes_after}
use Rattle.slot_station.specs.Log.{note_in}
use Rattle.slot_words.specs.Laws.{AreWordsOf}
use Rattle.board_rule.specs.declared.rule.About.{About}
use Rattle.board_rule.specs.declared.view.View.{View}
use Rattle.board_rule.specs.declared.view.Heard.{Heard}
use Rattle.board_rule.specs.Views.{times}

-- What a board serves: how large it is, and its subject. `total` gives a subject's totals, and
-- `fits` says what a value of a worker's cell has to fit, by a task set and the ranges claimed of
-- it.
pub record Terms (B Sub : Type 0) : Type 1 where
  pub shape : Shape
  pub subject : Sub
  pub total : Sub → ℕ → Option ℕ
  pub fits : Sub → ℕ → ℕ → List (ℕ × ℕ) → B → Type 0

abbrev pub terms_of : {B Sub : Type 0} → (Sub → ℕ → Option ℕ)
    → (Sub → ℕ → ℕ → List (ℕ × ℕ) → B → Type 0) → About Sub → Terms B Sub
terms_of total fits about =
    record { shape = about.shape; subject = about.subject.value; total = total; fits = fits }

-- What all workers know together: the longest trail, which has every call so far; each worker's
-- notes of cells; and of each worker whose cell it has out, if one.
pub record Knowledge : Type 0 where
  pub trail : List Entry
  pub notes : ℕ → ℕ → Note
  pub outs : ℕ → Option ℕ

-- with one call more
abbrev pub known_after : ℕ → Act → Knowledge → Knowledge
known_after w a known =
    record known { trail = entry w a ∷ known.trail; notes = notes_after w a known.notes }

-- the longest trail and the notes, as a moment of the slot object
abbrev pub moment_known : {B Sub : Type 0} → Terms B Sub → Knowledge → Moment
moment_known terms known =
    record { shape = terms.shape; history = known.trail; notes = known.notes }

-- the place of the cell of a slot and a worker among all cells
abbrev pub cell_index : Shape → ℕ → ℕ → ℕ
cell_index d s u = s * d.workers + u

-- which cell: that of a worker at a slot
pub record CellName : Type 0 where
  pub slot : ℕ
  pub worker : ℕ

abbrev pub named : ℕ → ℕ → CellName
named s u = record { slot = s; worker = u }

-- the sum over all views
abbrev pub total_over : {V : Type 0} → (V → ℕ) → List V → ℕ
total_over f [] = 0
total_over f (v ∷ vs) = f v + total_over f vs

module _ {B Sub : Type 0} (terms : Terms B Sub) (known : Knowledge) where
  -- If the cell is out, it is so with a worker that has it; if it is there, it is as the notes say.
  abbrev pub CellIs : CellName → std_option.Option (Option B) → Type 0
  CellIs cell std_option.none = (w : ℕ) × (w < terms.shape.workers)
      × (known.outs w ≡ Some cell.worker)
      × HasCell (state_after terms.shape known.trail) cell.slot cell.worker w
  CellIs cell (some value) =
      CellOf (terms.fits terms.subject cell.worker) (moment_known terms known)
      (record { slot = cell.slot; worker = cell.worker; value = value })

  -- what a seat was joined with is a beginning of the longest trail that has all of its worker's
  -- calls
  pub record IsHeard (v : View Sub) (heard : Heard) : Type 0 where
    pub begins : Begins known.trail heard.trail
    pub own : own_calls heard.worker known.trail ≡ own_calls heard.worker heard.trail
    pub there : 0 < times heard.worker v.numbers

  -- What a view says is so. Its trail begins the longest one, and has all calls of each worker
  -- whose number the view has. Workers with further numbers are free. A view without a number has
  -- no trail.
  pub record IsViewOf (v : View Sub) : Type 0 where
    pub shape : (w : ℕ) (ws : List ℕ) → v.numbers ≡ w ∷ ws → v.shape ≡ terms.shape
    pub subject_is : (w : ℕ) (ws : List ℕ) → v.numbers ≡ w ∷ ws → v.subject ≡ Some terms.subject
    pub begins : Begins known.trail v.trail
    pub own : (w : ℕ) → 0 < times w v.numbers → own_calls w known.trail ≡ own_calls w v.trail
    pub notes : (w : ℕ) (ws : List ℕ) → v.numbers ≡ w ∷ ws → (u : ℕ)
        → known.notes w u ≡ note_in v.own w u
    pub out : (w : ℕ) (ws : List ℕ) → v.numbers ≡ w ∷ ws → known.outs w ≡ v.out
    pub further : (u w : ℕ) (ws : List ℕ) → v.numbers ≡ w ∷ ws → 0 < times u ws
        → place_of terms.shape known.trail u ≡ Free
    pub none : v.numbers ≡ [] → v.trail ≡ []
    pub heard : (k : ℕ) (one : Heard) → get_elem? v.heard k ≡ some one → IsHeard v one

  -- What is known is so of the table. The longest trail is a legal history of the subject, and the
  -- words stand for the state that it leaves. Each number below the workers is in one view, once,
  -- and no other number is in a view. Each view says what is so, and so do the notes of each cell.
  -- A worker without a call has no cell out and no note.
  pub record IsTrueOf (table : State (Option B) (View Sub)) : Type 0 where
    pub words_are : AreWordsOf terms.shape known.trail table.words
    pub of_subject : IsOfTotals (terms.total terms.subject) terms.shape known.trail
    pub numbers : (w : ℕ) → total_over (λ (v : View Sub). times w v.numbers) table.views
        ≡ cond (ltb w terms.shape.workers) 1 0
    pub views : (i : ℕ) (v : View Sub) → get_elem? table.views i ≡ some v → IsViewOf v
    pub cells : (s u : ℕ) → s < terms.shape.slots → u < terms.shape.workers
        → (home : std_option.Option (Option B))
        → get_elem? table.homes (cell_index terms.shape s u) ≡ some home
        → CellIs (named s u) home
    pub idle : (w : ℕ) → own_calls w known.trail ≡ []
        → (known.outs w ≡ None) × ((u : ℕ) → known.notes w u ≡ Loose)

-- the running rule
abbrev pub RunningRule : {B Sub : Type 0} → Terms B Sub → State (Option B) (View Sub) → Type 0
RunningRule terms table = (known : Knowledge) × IsTrueOf terms known table
