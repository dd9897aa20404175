-- A seat's steps on its table, since the seat was made.
use Rattle.std.proofs.Common.{◌≡◌, ℕ, ◌∷◌, ap}
use Rattle.std.proofs.lemmas.List.Elements.{All-cons}
use mathlib.Core.Logic.{∥∥₁_map}
use Rattle.slot_station.specs.declared.log.Logged.{Logged}
use Rattle.slot_station.specs.Log.{who}
use Rattle.one_thread.specs.Tables.{TableStory}
use Rattle.one_thread.specs.Stories.{Story}
use Rattle.one_thread.specs.Seats.{IsSince}

-- one more step of the seat's worker, in the form that `grind` finds
pub since_grows : {Sub : Type 0} (start : TableStory Sub) (old : Story) (subject : Sub) (w : ℕ) (e : Logged) → who e ≡ w
    → ∥ IsSince start (record { shape = old.shape; subject = subject; log = old.log }) w ∥₁
    → ∥ IsSince start (record { shape = old.shape; subject = subject; log = e ∷ old.log }) w ∥₁
since_grows start old subject w e mine was = ∥∥₁_map was (λ s. record {
  more = e ∷ s.more;
  log = ap (λ l. e ∷ l) s.log;
  own = All-cons (λ x. who x ≡ w) e s.more mine s.own;
})
