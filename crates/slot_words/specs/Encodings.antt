-- How numbers are packed into a word of 64 bits, and read out of it.
use Rattle.std.specs.Prelude.{ℕ, ◌+◌, ◌-◌, ◌*◌, ◌/◌, ◌%◌, ◌^◌}

-- ---- the state of a slot: the lowest two bits are its kind, the others an id, plus 1

-- open with this task set
abbrev pub open_word : ℕ → ℕ
open_word id = (id + 1) * 4 + 2

-- an open word whose task set is shut or being finalised
abbrev pub tagged : ℕ → ℕ
tagged word = word + 1

abbrev pub kind_in : ℕ → ℕ
kind_in word = word % 4

abbrev pub id_in : ℕ → ℕ
id_in word = word / 4 - 1

-- ---- the state of a worker: nine bits of its slot, plus 1; a bit of its mark; the id of the mark

-- at this slot
abbrev pub at_word : ℕ → ℕ
at_word slot = slot + 1

-- what a mark for this task set adds
abbrev pub mark_for : ℕ → ℕ
mark_for id = 512 + 1024 * id

-- at a slot and marked for this task set
abbrev pub marked : ℕ → ℕ → ℕ
marked word id = word + mark_for id

abbrev pub slot_in : ℕ → ℕ
slot_in word = word % 512 - 1

abbrev pub mark_in : ℕ → ℕ
mark_in word = word / 1024

-- ---- the cursor of a slot: the total in the high half, the cursor in the low half

abbrev pub cursor_word : ℕ → ℕ → ℕ
cursor_word total cursor = total * 2 ^ 32 + cursor

abbrev pub total_in : ℕ → ℕ
total_in word = word / 2 ^ 32

abbrev pub cursor_in : ℕ → ℕ
cursor_in word = word % 2 ^ 32

-- ---- the counter of a slot, which is below 0 for a while

-- the word of the count 0
abbrev pub zero_count : ℕ
zero_count = 2 ^ 32
