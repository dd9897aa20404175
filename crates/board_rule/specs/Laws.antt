-- The laws of the board, as the functions of module `laws` state them.
use Rattle.std.specs.Prelude.{◌≡◌, ℕ, ◌<◌, List, ◌∷◌, [], length, Option, Some, slice_index}
use mathlib.Core.Option as std_option
use mathlib.Core.Option.{some}
use lib.ListN.{get_elem?}
use Rattle.atomic_table.specs.Table.{State, stepped, keeps}
use Rattle.slot_history.specs.States.{HasCell}
use Rattle.slot_history.specs.Steps.{state_after}
use Rattle.slot_history.specs.Histories.{Called, entry}
use Rattle.slot_history.specs.Calls.{Call}
use Rattle.slot_history.specs.Notices.{IsNoticed}
use Rattle.slot_words.specs.Addresses.{index}
use Rattle.slot_words.specs.Steps.{address_of, change_of, answer_of}
use Rattle.board_rule.specs.declared.rule.About.{About}
use Rattle.board_rule.specs.declared.view.View.{View}
use Rattle.board_rule.specs.Rule.{Knowledge, IsTrueOf, Terms, cell_index, known_after, terms_of}
use Rattle.board_rule.specs.Steps.{MayStep}
use Rattle.board_rule.specs.Views.{number, view_place, view_called}

-- a step that is a call: of which seat, what view this seat has, and which call
pub record CallStep (Sub : Type 0) : Type 0 where
  pub seat : ℕ
  pub view : View Sub
  pub call : Call

-- After the step the trail of the seat is the longest trail and this call, and what is known then
-- is so of the table.
abbrev pub GoesOn : {B Sub : Type 0} → Terms B Sub → Knowledge → State (Option B) (View Sub)
    → CallStep Sub → Type 0
GoesOn terms known table step = let v = step.view in let c = step.call in let w = number v in
    let p = view_place v in let word = index terms.shape (address_of w c p) in
    let found = slice_index table.words word in let a = answer_of c p found in
    let es = entry w a ∷ known.trail in
    Called terms.shape (entry w a) v.trail es
    × IsTrueOf terms (known_after w a known)
    (stepped table word (change_of c p found) step.seat [] (view_called v w es a) keeps)

-- The extension law: where the rule holds, a step that is a call which the worker's own trail and
-- notes allow keeps the rule.
abbrev pub Extends : {B Sub : Type 0} → (Sub → ℕ → Option ℕ)
    → (Sub → ℕ → ℕ → List (ℕ × ℕ) → B → Type 0) → Type 0
Extends {B = B} {Sub = Sub} total fits = (about : About Sub) (known : Knowledge)
    (table : State (Option B) (View Sub)) (step : CallStep Sub)
    → let terms = terms_of total fits about in IsTrueOf terms known table
    → get_elem? table.views step.seat ≡ some step.view → MayStep terms step.view step.call
    → GoesOn terms known table step

-- where the rule holds, no notice of an open slot is lost
abbrev pub NoticesStay : {B Sub : Type 0} → (Sub → ℕ → Option ℕ)
    → (Sub → ℕ → ℕ → List (ℕ × ℕ) → B → Type 0) → Type 0
NoticesStay {B = B} {Sub = Sub} total fits = (about : About Sub) (known : Knowledge)
    (table : State (Option B) (View Sub)) → IsTrueOf (terms_of total fits about) known table
    → IsNoticed about.shape (state_after about.shape known.trail)

-- The seat with this view has the cell of u at the slot s out: the view says that u's cell is, and
-- its worker has this cell.
pub record HasOut {Sub : Type 0} (known : Knowledge) (v : View Sub) (s u : ℕ) : Type 0 where
  pub some_number : 0 < length v.numbers
  pub out : v.out ≡ Some u
  pub has : HasCell (state_after v.shape known.trail) s u (number v)

-- where the rule holds, a cell that is not in the table is out with exactly one seat
abbrev pub OutWithOne : {B Sub : Type 0} → (Sub → ℕ → Option ℕ)
    → (Sub → ℕ → ℕ → List (ℕ × ℕ) → B → Type 0) → Type 0
OutWithOne {B = B} {Sub = Sub} total fits = (about : About Sub) (known : Knowledge)
    (table : State (Option B) (View Sub)) → let terms = terms_of total fits about in
    IsTrueOf terms known table → (s u : ℕ) → s < about.shape.slots → u < about.shape.workers
    → get_elem? table.homes (cell_index about.shape s u) ≡ some std_option.none
    → (i : ℕ) × (v : View Sub) × (get_elem? table.views i ≡ some v) × HasOut known v s u
    × ((j : ℕ) (other : View Sub) → get_elem? table.views j ≡ some other
    → HasOut known other s u → j ≡ i)
