-- Where each word lies among all words.
use Rattle.std.specs.Prelude.{ℕ, ◌+◌, ◌*◌, ◌<◌}
use Rattle.slot_history.specs.declared.shape.Shape.{Shape}
use Rattle.slot_history.specs.declared.shape.TheConstants.{PARTS}
use Rattle.slot_words.specs.declared.address.Address.{Address}
use Rattle.slot_words.specs.declared.address.Address.TheVariants.{Meeting, ArrivalsAt, FinishedAt}
use Rattle.slot_words.specs.declared.address.Address.TheVariants.{StateOf, CursorOf, CounterOf}
use Rattle.slot_words.specs.declared.address.Address.TheVariants.{WorkerOf, ReturnOf, ChangeOf}

-- the object has such a word
abbrev pub IsThere : Shape → Address → Type 0
IsThere d Meeting = Unit {0}
IsThere d ArrivalsAt = Unit {0}
IsThere d FinishedAt = Unit {0}
IsThere d (StateOf s) = s < d.slots
IsThere d (CursorOf s) = s < d.slots
IsThere d (CounterOf s) = s < d.slots
IsThere d (WorkerOf w) = w < d.workers
IsThere d (ReturnOf w part) = (w < d.workers) × (part < PARTS)
IsThere d (ChangeOf w part) = (w < d.workers) × (part < PARTS)

-- how many words a worker has: its state, and a word for each part of its two masks
abbrev pub worker_words : ℕ
worker_words = 1 + 2 * PARTS

-- the index of the first word of a worker
abbrev pub worker_index : Shape → ℕ → ℕ
worker_index d w = 3 + 3 * d.slots + worker_words * w

-- the index of a word: three single words, then three for each slot, then those of each worker
abbrev pub index : Shape → Address → ℕ
index d Meeting = 0
index d ArrivalsAt = 1
index d FinishedAt = 2
index d (StateOf s) = 3 + 3 * s
index d (CursorOf s) = 4 + 3 * s
index d (CounterOf s) = 5 + 3 * s
index d (WorkerOf w) = worker_index d w
index d (ReturnOf w part) = worker_index d w + 1 + part
index d (ChangeOf w part) = worker_index d w + 1 + PARTS + part

-- how many words there are
abbrev pub count_of_words : Shape → ℕ
count_of_words d = worker_index d d.workers
