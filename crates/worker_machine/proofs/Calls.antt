-- What a worker knows after a call of its own, and after an exchange.
use Rattle.std.proofs.Common.{◌≡◌, ℕ, ◌<◌, Option, sym, ap, ◌∙◌, subst}
use Rattle.slot_history.specs.declared.act.Act.{Act}
use Rattle.slot_history.specs.declared.place.Place.{Place}
use Rattle.slot_history.specs.Steps.{moved}
use Rattle.slot_history.specs.Histories.{place_of, ranges_of, ranges_after, entry}
use Rattle.slot_history.specs.Laws.{IsCallFrom}
use Rattle.slot_history.proofs.Own.{calls-go-on}
use Rattle.slot_station.specs.declared.note.Note.{Note}
use Rattle.slot_station.specs.Cells.{noted, HasNoted}
use Rattle.slot_station.specs.Desks.{Desk, Seen, Makes, KeepsTrail, own_place, caller_of}
use Rattle.worker_machine.specs.Desks.{Stays}

module _ {O Sub : Type 0} {total : Sub → ℕ → Option ℕ} {old new : Seen O Sub} {a : Act} (m : Makes total a old new) where
  went : IsCallFrom old.desk.shape (entry old.desk.worker a) old.trail new.trail
  went = calls-go-on old.desk.shape old.desk.worker a old.trail new.trail m.called

  pub place-on : own_place new ≡ moved old.desk.shape a (own_place old)
  place-on = ap (λ (D : Desk Sub). place_of D.shape new.trail D.worker) m.desk ∙ went.place

  pub place-by : {p : Place} → own_place old ≡ p → own_place new ≡ moved old.desk.shape a p
  place-by e = place-on ∙ ap (moved old.desk.shape a) e

  pub ranges-on : (id : ℕ) → ranges_of new.desk.shape new.desk.worker id new.trail ≡ ranges_after a (own_place old) id
      (ranges_of old.desk.shape old.desk.worker id old.trail)
  ranges-on id = ap (λ (D : Desk Sub). ranges_of D.shape D.worker id new.trail) m.desk ∙ went.ranges id

  -- what holds of the desk still holds
  pub carry : (P : Desk Sub → Type 0) → P old.desk → P new.desk
  carry P = subst P (sym m.desk)

  pub stays : Stays old new
  stays = record { origin = m.origin; desk = m.desk }

  -- all cells had one note, and have another
  pub all-noted : {x y : Note} → ((v : ℕ) → noted a old.desk.worker v x ≡ y) → HasNoted x (caller_of old) → HasNoted y (caller_of new)
  all-noted step was v lt =
      let low : v < old.desk.shape.workers = subst (λ (D : Desk Sub). v < D.shape.workers) m.desk lt in
      m.notes v low ∙ ap (noted a old.desk.worker v) (was v low) ∙ step v

module _ {O Sub : Type 0} {old new : Seen O Sub} (k : KeepsTrail old new) where
  pub place-kept : own_place new ≡ own_place old
  place-kept =
      ap (λ (D : Desk Sub). place_of D.shape new.trail D.worker) k.desk
      ∙ ap (λ t. place_of old.desk.shape t old.desk.worker) k.trail

  pub carry-kept : (P : Desk Sub → Type 0) → P old.desk → P new.desk
  carry-kept P = subst P (sym k.desk)

  pub stays-kept : Stays old new
  stays-kept = record { origin = k.origin; desk = k.desk }
