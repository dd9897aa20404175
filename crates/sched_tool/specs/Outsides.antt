-- What an answer rests on: what the files hold, and which times a meter may give.
use Rattle.std.specs.Prelude.{◌≡◌, ℕ, List, Option, Some, IfSome}

-- whether a file of this name holds these bytes
abbrev pub Contents : Type 1
Contents = List ℕ → List ℕ → Type 0

-- the outside of a command
pub record Outside : Type 1 where
  -- what the files hold
  pub holds : Contents
  -- whether a meter may give this time for so many tuples, each of this cost
  pub gives : ℕ → ℕ → ℕ → Type 0

-- a file may hold the bytes that are known of it, or any if none are known
abbrev pub may_hold : (List ℕ → Option (List ℕ)) → Contents
may_hold content file bytes = IfSome (content file) (λ known. bytes ≡ known)

-- a file is known to hold these bytes
abbrev pub surely_holds : (List ℕ → Option (List ℕ)) → Contents
surely_holds content file bytes = content file ≡ Some bytes

-- the outside as it may be, over what is known of the files and the times of a meter
abbrev pub possible : (List ℕ → Option (List ℕ)) → (ℕ → ℕ → ℕ → Type 0) → Outside
possible content times = record { holds = may_hold content; gives = times }

-- the outside as far as it is known
abbrev pub known : (List ℕ → Option (List ℕ)) → (ℕ → ℕ → ℕ → Type 0) → Outside
known content times = record { holds = surely_holds content; gives = times }
