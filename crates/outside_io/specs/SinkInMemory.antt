-- What the sink in memory holds, and what its next call does.
use Rattle.std.specs.Prelude.{◌≡◌, ℕ, Bool, ◌+◌, ◌-◌, ◌^◌, ◌==◌, ◌&&◌, ◌||◌, nat_lt, min, List, []}
use Rattle.std.specs.Prelude.{length}
use Rattle.std.specs.List.{list_any}
use Rattle.outside_io.specs.declared.memory.MemSink.{MemSink}

-- the bytes taken so far
abbrev pub taken_bytes : MemSink → List ℕ
taken_bytes sink = sink.taken.items

-- the room that is left
abbrev pub room_left : MemSink → ℕ
room_left sink = sink.room - length sink.taken.items

-- whether the next call is one of those that fail
abbrev pub next_write_fails : MemSink → Bool
next_write_fails sink = list_any (λ n. n == min (sink.calls + 1) (2 ^ 64 - 1)) sink.fails.items

-- whether the next call refuses this piece: the call is one that fails, or the piece finds no room
abbrev pub refuses_piece : MemSink → List ℕ → Bool
refuses_piece sink piece =
    next_write_fails sink || (nat_lt 0 (length piece) && (room_left sink == 0))

-- how many bytes the next call takes of a piece that it doesn't refuse
abbrev pub bytes_taken : MemSink → List ℕ → ℕ
bytes_taken sink piece = min sink.most (min (room_left sink) (length piece))

-- how many calls failed; it stops at 2^64 - 1
abbrev pub faults_met : MemSink → ℕ
faults_met sink = sink.faults

-- an empty sink with these terms
pub record IsFreshSink (sink : MemSink) (room most : ℕ) (fails : List ℕ) : Type 0 where
  pub taken : sink.taken.items ≡ []
  pub room_is : sink.room ≡ room
  pub most_is : sink.most ≡ most
  pub fails_are : sink.fails.items ≡ fails
  pub calls_are : sink.calls ≡ 0
  pub faults_are : sink.faults ≡ 0

-- one more call was made, on the same terms
pub record KeepsTerms (old new : MemSink) : Type 0 where
  pub room_is : new.room ≡ old.room
  pub most_is : new.most ≡ old.most
  pub fails_are : new.fails.items ≡ old.fails.items
  pub calls_are : new.calls ≡ min (old.calls + 1) (2 ^ 64 - 1)
