-- The law of a call: what its one atomic step is, and when this step is lawful.
use Rattle.std.specs.Prelude.{◌≡◌, ℕ, ◌<◌, List, [], ◌∷◌, length, slice_set}
use Rattle.slot_history.specs.Bounds.{IsShape}
use Rattle.slot_history.specs.declared.shape.Shape.{Shape}
use Rattle.slot_history.specs.declared.act.Act.{Act}
use Rattle.slot_history.specs.declared.act.Entry.{Entry}
use Rattle.slot_history.specs.declared.place.Place.{Place}
use Rattle.slot_history.specs.States.{SlotState, Empty, Reserved, Open, Shut, Finishing, slot_word}
use Rattle.slot_history.specs.Steps.{state_after}
use Rattle.slot_history.specs.Calls.{Call, MayCall, reply_of}
use Rattle.slot_history.specs.Histories.{IsLegal, place_of, entry}
use Rattle.slot_words.specs.declared.address.Address.{Address}
use Rattle.slot_words.specs.declared.address.Address.TheVariants.{CounterOf}
use Rattle.slot_words.specs.Addresses.{index}
use Rattle.slot_words.specs.Encodings.{open_word, tagged}
use Rattle.slot_words.specs.Numbers.{IsSmall}
use Rattle.slot_words.specs.Words.{IsCounter, StandsFor, AreFirst, word_at}

-- the words after one step on one of them
abbrev pub stepped : Shape → List ℕ → Address → (ℕ → ℕ) → List ℕ
stepped d words address change =
    slice_set words (index d address) (change (word_at d words address))

-- a call of a worker that is due after a history
pub record NextCall : Type 0 where
  pub shape : Shape
  pub history : List Entry
  pub worker : ℕ
  pub call : Call

-- its reply, by the definition
abbrev pub reply_at : NextCall → Act
reply_at due = reply_of due.shape (state_after due.shape due.history) due.worker due.call

-- the history that ends with the call and this answer
abbrev pub answered : NextCall → Act → List Entry
answered due act = entry due.worker act ∷ due.history

-- one atomic step: the word that it is on, what it makes of this word, and what it answers of it
pub record AtomicStep : Type 0 where
  pub address : Address
  pub change : ℕ → ℕ
  pub answer : ℕ → Act

-- what the step answers on these words
abbrev pub answer_on : Shape → List ℕ → AtomicStep → Act
answer_on d words step = step.answer (word_at d words step.address)

-- The step of a call is lawful on the words that the history left. It is on one of them. It answers
-- the reply of the definition, with numbers that fit 32 bits. The history with this entry is legal,
-- and afterwards the words stand for the state that it leaves.
pub record IsLawful (due : NextCall) (step : AtomicStep) (words : List ℕ) : Type 0 where
  pub there : index due.shape step.address < length words
  pub reply : answer_on due.shape words step ≡ reply_at due
  pub small : IsSmall (answer_on due.shape words step)
  pub legal : IsLegal due.shape (answered due (answer_on due.shape words step))
  pub stands : StandsFor due.shape (stepped due.shape words step.address step.change)
      (state_after due.shape (answered due (answer_on due.shape words step)))

-- the words stand for the state that a legal history leaves
pub record AreWordsOf (d : Shape) (history : List Entry) (words : List ℕ) : Type 0 where
  pub shape : IsShape d
  pub legal : IsLegal d history
  pub stands : StandsFor d words (state_after d history)

-- The law of a call. If a worker may make the call, its one step is on the word `on`, makes
-- `change` of it, and answers what `answer` reads in it. This step is lawful. The worker and its
-- place determine all three, and the worker's own calls determine its place.
abbrev pub IsLaw : Call → (ℕ → Place → Address) → (Place → ℕ → ℕ) → (Place → ℕ → Act) → Type 0
IsLaw c on change answer = (d : Shape) (history : List Entry) (w : ℕ) (words : List ℕ)
    → AreWordsOf d history words → w < d.workers → MayCall d (state_after d history) w c
    → let p = place_of d history w in
    IsLawful (record { shape = d; history = history; worker = w; call = c })
    (record { address = on w p; change = change p; answer = answer p }) words

-- the counters of words that a legal history left say who still has to pay
abbrev pub CountersSay : Type 0
CountersSay = (d : Shape) (history : List Entry) (words : List ℕ) → AreWordsOf d history words
    → (s : ℕ) → s < d.slots
    → IsCounter d ((state_after d history).slots s) (word_at d words (CounterOf s))

-- the words at the start are those of the empty history
abbrev pub FirstWordsStand : Type 0
FirstWordsStand = (d : Shape) (words : List ℕ)
    → IsShape d → AreFirst d words → AreWordsOf d [] words

-- the word of a slot's state, packed of its id
abbrev pub packed : SlotState → ℕ
packed Empty = 0
packed (Reserved w held) = 1
packed (Open t) = open_word t.id
packed (Shut t end) = tagged (open_word t.id)
packed (Finishing id w held) = tagged (open_word id)

abbrev pub StatesArePacked : Type 0
StatesArePacked = (x : SlotState) → slot_word x ≡ packed x
