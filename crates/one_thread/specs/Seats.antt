-- A seat of a table for one thread.
use Rattle.std.specs.Prelude.{◌≡◌, ◌≢◌, ℕ, List, [], ◌∷◌, ◌++◌, cond, eqb, All}
use Rattle.slot_history.specs.declared.act.Entry.{Entry}
use Rattle.slot_station.specs.declared.log.Logged.{Logged}
use Rattle.slot_station.specs.Desks.{Desk, Seen}
use Rattle.slot_station.specs.Log.{calls_of, note_in, who}
use Rattle.one_thread.specs.Tables.{TableStory}

-- which table a seat borrows, by the name of the borrow, the table as it was when the seat was
-- made, and whose seat it is
pub record SeatOrigin (Sub : Type 0) : Type 0 where
  pub name : ℕ
  pub start : TableStory Sub
  pub worker : ℕ

-- the desk of the worker w, over this table
abbrev pub desk_over : {Sub : Type 0} → TableStory Sub → ℕ → Desk Sub
desk_over table w = record { worker = w; shape = table.shape; subject = table.subject }

-- the trail of w: the history up to its last entry
abbrev pub trail_in : ℕ → List Entry → List Entry
trail_in w [] = []
trail_in w (e ∷ es) = cond (eqb w e.worker) (e ∷ es) (trail_in w es)

-- what a seat with this origin and desk shows of itself, over a table with this log
abbrev pub seen_by : {O Sub : Type 0} → O → Desk Sub → List Logged → Seen O Sub
seen_by origin desk log = record {
  origin = origin;
  desk = desk;
  trail = trail_in desk.worker (calls_of log);
  notes = note_in log desk.worker;
}

-- and what it shows but for its origin
abbrev pub shown_by : {Sub : Type 0} → Desk Sub → List Logged → Seen (Unit {0}) Sub
shown_by desk log = seen_by tt desk log

-- the table was `start`, and since then only w has made steps on it
pub record IsSince {Sub : Type 0} (start now : TableStory Sub) (w : ℕ) : Type 0 where
  pub more : List Logged
  pub log : now.log ≡ more ++ start.log
  pub own : All (λ step. who step ≡ w) more

-- what the seat of v shows is the same over this log and over that
pub record IsUntouched (was now : List Logged) (v : ℕ) : Type 0 where
  pub trail : trail_in v (calls_of now) ≡ trail_in v (calls_of was)
  pub notes : (u : ℕ) → note_in now v u ≡ note_in was v u

-- the seat of a worker leaves what every other worker's seat shows
abbrev pub OthersStay : Type 0 → Type 0
OthersStay Sub = (start now : TableStory Sub) (w : ℕ) → IsSince start now w
    → (v : ℕ) → v ≢ w → IsUntouched start.log now.log v
