-- What each word holds in a state.
use Rattle.std.specs.Prelude.{◌≡◌, ℕ, ◌+◌, ◌-◌, ◌≤◌, true, false, cond, List, length, slice_index}
use Rattle.std.specs.Prelude.{IfSome}
use Rattle.slot_history.specs.declared.shape.Shape.{Shape}
use Rattle.slot_history.specs.declared.shape.TheConstants.{MOST_WORKERS}
use Rattle.slot_history.specs.declared.place.Place.{Place}
use Rattle.slot_history.specs.States.{SlotState, Empty, Reserved, Open, Shut, Finishing}
use Rattle.slot_history.specs.States.{ObjectState, slot_of, id_of, slot_word, is_swept, is_at, owes}
use Rattle.slot_history.specs.Allowed.{IsMask, debts}
use Rattle.slot_history.specs.Payments.{payments, marks}
use Rattle.slot_words.specs.declared.address.Address.{Address}
use Rattle.slot_words.specs.declared.address.Address.TheVariants.{Meeting, ArrivalsAt, FinishedAt}
use Rattle.slot_words.specs.declared.address.Address.TheVariants.{StateOf, CursorOf, CounterOf}
use Rattle.slot_words.specs.declared.address.Address.TheVariants.{WorkerOf, ReturnOf, ChangeOf}
use Rattle.slot_words.specs.Addresses.{IsThere, index, count_of_words}
use Rattle.slot_words.specs.Encodings.{at_word, mark_for, cursor_word, zero_count}

-- what the word of a slot's cursor holds; anything if the slot is empty, or held without a total
abbrev pub IsCursor : SlotState → ℕ → Type 0
IsCursor Empty word = Unit {0}
IsCursor (Reserved w held) word = IfSome held.total (λ total. word ≡ cursor_word total 0)
IsCursor (Open t) word = word ≡ cursor_word t.total t.cursor
IsCursor (Shut t end) word = word ≡ cursor_word t.total t.cursor
IsCursor (Finishing id w held) word = IfSome held.total (λ total. word ≡ cursor_word total 0)

-- the counter of a slot: payments count down, and the sweep adds the marks
abbrev pub counter_of : Shape → SlotState → ℕ
counter_of d x = zero_count + cond (is_swept x) (marks d x) 0 - payments d x

-- what the mark of the worker v at a slot adds to its word
abbrev pub mark_at : SlotState → ℕ → ℕ
mark_at x v = cond (owes x v) (mark_for (id_of x)) 0

-- the word of the worker v at a place, by the slot that the place names
abbrev pub worker_word : SlotState → ℕ → Place → ℕ
worker_word x v p = cond (is_at p (slot_of p)) (at_word (slot_of p) + mark_at x v) 0

-- in this state the word at this address is this one
abbrev pub Holds : Shape → ObjectState → Address → ℕ → Type 0
Holds d S Meeting word = word ≡ 0
Holds d S ArrivalsAt word = word ≡ S.admitted
Holds d S FinishedAt word = word ≡ S.finished
Holds d S (StateOf s) word = word ≡ slot_word (S.slots s)
Holds d S (CursorOf s) word = IsCursor (S.slots s) word
Holds d S (CounterOf s) word = word ≡ counter_of d (S.slots s)
Holds d S (WorkerOf v) word = word ≡ worker_word (S.slots (slot_of (S.places v))) v (S.places v)
Holds d S (ReturnOf v part) word = IsMask part (S.returns v) word
Holds d S (ChangeOf v part) word = IsMask part (S.changes v) word

abbrev pub word_at : Shape → List ℕ → Address → ℕ
word_at d words address = slice_index words (index d address)

-- the words stand for the state
pub record StandsFor (d : Shape) (words : List ℕ) (S : ObjectState) : Type 0 where
  pub count : length words ≡ count_of_words d
  pub each : (address : Address) → IsThere d address → Holds d S address (word_at d words address)

-- The counter of a slot: before the sweep it is minus the number of workers that paid, and after it
-- the number of workers that still have to pay. It lies within the most workers of 0.
pub record IsCounter (d : Shape) (x : SlotState) (word : ℕ) : Type 0 where
  pub unswept : is_swept x ≡ false → word + payments d x ≡ zero_count
  pub swept : is_swept x ≡ true → word ≡ zero_count + debts d x
  pub low : zero_count ≤ word + MOST_WORKERS
  pub high : word ≤ zero_count + MOST_WORKERS

-- what each word holds at the start: a counter holds the word of the count 0, every other word 0
abbrev pub first_word : Address → ℕ
first_word (CounterOf s) = zero_count
first_word _ = 0

pub record AreFirst (d : Shape) (words : List ℕ) : Type 0 where
  pub count : length words ≡ count_of_words d
  pub each : (address : Address) → IsThere d address
      → word_at d words address ≡ first_word address
