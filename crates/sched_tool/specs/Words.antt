-- What the words after the program's name mean.
use Rattle.std.specs.Prelude.{ℕ, Bool, ◌&&◌, ◌==◌, ◌-◌, nat_lt, nat_le, List, [], ◌∷◌, length}
use Rattle.std.specs.Prelude.{Option, Some, None, is_none, if◌then◌else◌, bytes_eq, codes}
use Rattle.std.specs.Char.{is_ascii_digit}
use Rattle.std.specs.List.{list_all, slice_split}
use Rattle.std.specs.Option.{option_and_then, option_map}
use Rattle.std.specs.Str.Parse.{digits_value}
use Rattle.load_gen.specs.declared.parts.Part.{Part}
use Rattle.load_gen.specs.declared.parts.Part.TheVariants.{Script, TableT, TableU}
use Rattle.slot_history.specs.declared.shape.TheConstants.{MOST_SLOTS, MOST_WORKERS}
use Rattle.pool_run.specs.Runs.{Course, moves, threads, turns}
use Rattle.pool_run.specs.declared.runs.TheConstants.{MOST_NUMBERS}
use Rattle.sched_tool.specs.Grammar.{Given, given_by, nothing}

-- a run of the script in a file: so many workers and slots, and how the workers follow one another
pub record Request : Type 0 where
  pub script : List ℕ
  pub workers : ℕ
  pub slots : ℕ
  pub course : Course

-- what a list of words asks for
pub data Meaning : Type 0 where
  check : List ℕ → Meaning
  run : Request → Meaning
  make : ℕ → Option Part → Meaning

-- ---- values

-- a word writes a number of at most so many decimal digits, from the least to the greatest
abbrev pub is_number_word : ℕ → ℕ → ℕ → List ℕ → Bool
is_number_word most least greatest word =
    nat_lt 0 (length word) && nat_le (length word) most && list_all is_ascii_digit word
    && nat_le least (digits_value 10 word) && nat_le (digits_value 10 word) greatest

-- the number that a word writes
abbrev pub number_of : ℕ → ℕ → ℕ → List ℕ → Option ℕ
number_of most least greatest word =
    if is_number_word most least greatest word then Some (digits_value 10 word) else None

-- the numbers that the fields of a list write, each at most the greatest
abbrev pub numbers_of : ℕ → List (List ℕ) → Option (List ℕ)
numbers_of greatest [] = Some []
numbers_of greatest (field ∷ fields) = option_and_then
    (λ number. option_map (λ numbers. number ∷ numbers) (numbers_of greatest fields))
    (number_of 9 0 greatest field)

-- the part of a large input that a word names
abbrev pub part_of : List ℕ → Option Part
part_of word =
    if bytes_eq word (codes "script") then Some Script
    else if bytes_eq word (codes "t") then Some TableT
    else if bytes_eq word (codes "u") then Some TableU
    else None

-- `--workers N`: it must be given
abbrev pub workers_of : Option (List ℕ) → Option ℕ
workers_of None = None
workers_of (Some text) = number_of 9 1 MOST_WORKERS text

-- `--slots N`: the most if it isn't given
abbrev pub slots_of : Option (List ℕ) → Option ℕ
slots_of None = Some MOST_SLOTS
slots_of (Some text) = number_of 9 1 MOST_SLOTS text

-- the fields of a list, which have a comma between
abbrev pub fields_of : List ℕ → List (List ℕ)
fields_of text = slice_split (λ byte. byte == 44) text

-- 1 to so many numbers with a comma between, each at most the greatest
abbrev pub list_of : ℕ → List ℕ → Option (List ℕ)
list_of greatest text =
    if nat_le (length (fields_of text)) MOST_NUMBERS
    then numbers_of greatest (fields_of text) else None

-- `--order LIST`: numbers of workers; the empty order if it isn't given
abbrev pub order_of : ℕ → Option (List ℕ) → Option (List ℕ)
order_of workers None = Some []
order_of workers (Some text) = list_of (workers - 1) text

-- ---- commands

-- `SCRIPT`, and no other positional word: the name of a file has at least one byte
abbrev pub script_of : Option (List ℕ) → Option (List ℕ) → Option (List ℕ)
script_of None second = None
script_of (Some file) None = if nat_lt 0 (length file) then Some file else None
script_of (Some file) (Some more) = None

-- `NUMBER [PART]`
abbrev pub make_of : Option (List ℕ) → Option (List ℕ) → Option Meaning
make_of None second = None
make_of (Some number) None = option_map (λ n. make n None) (number_of 10 0 4_294_967_295 number)
make_of (Some number) (Some part) = option_and_then
    (λ n. option_map (λ told. make n (Some told)) (part_of part))
    (number_of 10 0 4_294_967_295 number)

-- how the workers of a command follow one another: by an order, if it has one. `run` has none.
abbrev pub course_in : List ℕ → ℕ → Option (List ℕ) → Option Course
course_in command workers order =
    if bytes_eq command (codes "turns") then option_map turns (order_of workers order)
    else if bytes_eq command (codes "steps") then option_map moves (order_of workers order)
    else if bytes_eq command (codes "run") then
    (if is_none order then Some threads else None)
    else None

-- `SCRIPT --workers N [--slots N] [--order LIST]`, with the options that the command has
abbrev pub run_of : List ℕ → Given → Option Request
run_of command given = option_and_then
    (λ file. option_and_then
    (λ count. option_and_then
    (λ width. option_map
    (λ way. record { script = file; workers = count; slots = width; course = way })
    (course_in command count given.order))
    (slots_of given.slots))
    (workers_of given.workers))
    (script_of given.first given.second)

-- no option is given
abbrev pub is_bare : Given → Bool
is_bare given = is_none given.workers && is_none given.slots && is_none given.order

-- what a command means with what the words after it give
abbrev pub meaning_in : List ℕ → Given → Option Meaning
meaning_in command given =
    if bytes_eq command (codes "check") then
    (if is_bare given then option_map check (script_of given.first given.second) else None)
    else if bytes_eq command (codes "make") then
    (if is_bare given then make_of given.first given.second else None)
    else option_map run (run_of command given)

-- what a list of words means; none if it is outside the grammar
abbrev pub meaning_of : List (List ℕ) → Option Meaning
meaning_of [] = None
meaning_of (command ∷ words) = option_and_then (meaning_in command) (given_by nothing words)
