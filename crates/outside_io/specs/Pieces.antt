-- The pieces in which bytes are read and written.
use Rattle.std.specs.Prelude.{◌≡◌, ℕ, ◌≤◌, ◌⊎◌, ◌↔◌, List, ◌++◌, length, take, drop, Option, Some}
use Rattle.std.specs.Prelude.{None, ⊤}
use Rattle.std.specs.Io.{StartsWith}

-- `buf` begins with the `count` bytes of the file from `at` on; `count` is 0 exactly if the buffer
-- has no room or the file has ended
pub record IsPiece (file : List ℕ) (at : ℕ) (buf : List ℕ) (count : ℕ) : Type 0 where
  pub bytes : take count buf ≡ take count (drop at file)
  pub there : count ≤ length (drop at file)
  pub ended : (count ≡ 0) ↔ ((length buf ≡ 0) ⊎ (length file ≤ at))

-- if the old bytes are the first ones of the file, the new bytes are so too
abbrev pub AppendsPiece : List ℕ → List ℕ → List ℕ → Type 0
AppendsPiece file old new = StartsWith file old → StartsWith file new

-- if what is written is known, it grew by a prefix of the text
abbrev pub AppendsPrefix : Option (List ℕ) → Option (List ℕ) → List ℕ → Type 0
AppendsPrefix None new text = ⊤
AppendsPrefix (Some old) None text = ⊥
AppendsPrefix (Some old) (Some new) text =
    (count : ℕ) × (count ≤ length text) × (new ≡ old ++ take count text)
