-- What a worker does, move by move. A list of moves has the newest first.
use Rattle.std.specs.Prelude.{ℕ, List, [], ◌∷◌, ◌++◌}
use Rattle.slot_history.specs.declared.act.Act.{Act}
use Rattle.slot_history.specs.declared.act.Act.TheVariants.{ClaimRange}
use Rattle.slot_history.specs.declared.act.Entry.{Entry}
use Rattle.slot_history.specs.Histories.{entry}

pub data Move : Type 0 where
  -- a call with its reply, and how long work on the range that it got took; 0 if it got none
  Made : Act → ℕ → Move
  -- an exchange of a cell
  Exchanged : Move

-- the entries that the moves of a worker have in a history
abbrev pub entries : ℕ → List Move → List Entry
entries w [] = []
entries w (Made a t ∷ ms) = entry w a ∷ entries w ms
entries w (Exchanged ∷ ms) = entries w ms

-- the elapsed times after a call, whose range took t
abbrev pub times_after : Act → ℕ → List ℕ → List ℕ
times_after (ClaimRange n from to) t before = before ++ t ∷ []
times_after _ t before = before

-- the elapsed times of the ranges, the first one first
abbrev pub times_of : List Move → List ℕ
times_of [] = []
times_of (Made a t ∷ ms) = times_after a t (times_of ms)
times_of (Exchanged ∷ ms) = times_of ms
