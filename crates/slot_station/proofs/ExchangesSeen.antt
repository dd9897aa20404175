-- The exchange law, by what the station of a worker shows: its trail begins the history and has all of its own calls.
use Rattle.std.proofs.Common.{◌≡◌, ◌≢◌, ℕ, ◌<◌, ◌⊎◌, true, List, Option, Some, None, IfSome}
use Rattle.std.proofs.Common.{inl, inr, ⊎_elim, refl, sym, ap, ◌∙◌, subst, eq-eqb, eqb-true}
use mathlib.Core.Bool.{true≢false}
use Rattle.slot_history.specs.declared.shape.Shape.{Shape}
use Rattle.slot_history.specs.declared.place.Held.{Held}
use Rattle.slot_history.specs.declared.place.Place.{Place}
use Rattle.slot_history.specs.declared.place.Place.TheVariants.{Free, Holding}
use Rattle.slot_history.specs.States.{HasCell, slot_of, id_at, held_at, finalised_id, has_cell}
use Rattle.slot_history.specs.States.{holds}
use Rattle.slot_history.specs.Steps.{state_after}
use Rattle.slot_history.specs.Histories.{own_calls, place_of, ranges_of}
use Rattle.slot_history.proofs.Within.{within, within-slots}
use Rattle.slot_history.proofs.Own.{found-place, found-ranges}
use Rattle.slot_history.proofs.Holders.{holder-has-claims}
use Rattle.slot_history.proofs.Places.{has-own, own-cell-slot}
use Rattle.slot_station.specs.declared.log.Exchange.{Exchange}
use Rattle.slot_station.specs.declared.note.Note.{Note}
use Rattle.slot_station.specs.Cells.{Moment, Cell, CellOf, place_then, ranges_then, kept_note}
use Rattle.slot_station.specs.Cells.{fresh_note}
use Rattle.slot_station.specs.Cells.{NoteSays, FitsNext, FitsFinalised, FitsClaims}
use Rattle.slot_station.specs.Desks.{Seen, own_place, caller_of}
use Rattle.slot_station.specs.Exchanges.{IsSeenAt, MayExchange, after_exchange, put_note, FitsKept}
use Rattle.slot_station.specs.Exchanges.{FitsFresh, FitsPut}
use Rattle.slot_station.specs.Exchanges.{cell_here, exchange_here, ranges_seen, HoldsNoted, MayPut}
use Rattle.slot_station.specs.Laws.{ExchangesGoOn, ExchangesSay}
use Rattle.slot_station.proofs.CellSteps.{says-maps}
use Rattle.slot_station.proofs.ExchangesKept.{IsOwn, IsHeld, found-says, put-says, others-kept}

-- whoever holds is at the slot that it holds
holds-slot : (p : Place) (s : ℕ) → holds p s ≡ true → slot_of p ≡ s
holds-slot (Holding t k) s h = eqb-true t s h
holds-slot p s h = absurd (true≢false (sym h))

-- ---- by what a station shows

-- values of a cell by two lists of ranges
module _ {B : Type 0} (fits : ℕ → List (ℕ × ℕ) → B → Type 0) (R R' : ℕ → List (ℕ × ℕ)) where
  -- the ranges of which something is said at this place are the same
  abbrev Agree : Place → Type 0
  Agree (Holding s k) = k.again ≡ true → R' (finalised_id k) ≡ R (finalised_id k)
  Agree p = R' (id_at p) ≡ R (id_at p)

  agree-own : (p : Place) → has_cell p ≡ true → ((id : ℕ) → R' id ≡ R id) → Agree p
  agree-own (Holding s k) has same = absurd (true≢false (sym has))
  agree-own p has same = same (id_at p)

  kept-by : (p : Place) → Agree p → (b : B) → FitsKept fits R p b → FitsKept fits R' p b
  kept-by (Holding s k) same b f = (f.0, subst (λ r. fits (finalised_id k) r b) (sym (same f.0)) f.1)
  kept-by p same b f = subst (λ r. fits (id_at p) r b) (sym same) f

  fresh-by : (p : Place) (b : B) → FitsFresh fits R p b → FitsFresh fits R' p b
  fresh-by (Holding s k) b f = f
  fresh-by p b f = f

  put-by : (p : Place) → Agree p → (x : Option B) → IfSome x (FitsPut fits R' p) → IfSome x (FitsPut fits R p)
  put-by p same None f = f
  put-by (Holding s k) same (Some b) f = f
  put-by p same (Some b) f = subst (λ r. fits (id_at p) r b) same f

module _ {B Sub O : Type 0} (fits : Sub → ℕ → ℕ → List (ℕ × ℕ) → B → Type 0) (m : Moment) (seen : Seen O Sub)
    (at : IsSeenAt m seen) (v : ℕ) (may : MayExchange (caller_of seen) v) where
  abbrev w : ℕ
  w = seen.desk.worker

  abbrev subject : Sub
  subject = seen.desk.subject

  abbrev p : Place
  p = place_then m w

  place-is : p ≡ own_place seen
  place-is = found-place m.shape w seen.trail m.history at.own ∙ ap (λ d. place_of d seen.trail w) (sym at.shape_is)

  abbrev x : Note → Exchange
  x note = exchange_here seen v note

  holding : (s : ℕ) (k : Held) → own_place seen ≡ Holding s k → p ≡ Holding (slot_of p) k
  holding s k here = let e : p ≡ Holding s k = place-is ∙ here in e ∙ ap (λ t. Holding t k) (sym (ap slot_of e))

  has : (note : Note) → IsOwn m (x note) ⊎ IsHeld m (x note)
  has note = ⊎_elim (λ own. inl (sym own.0, ap has_cell place-is ∙ own.1)) (λ (s, k, here, in_v). inr (k, holding s k here)) may

  in-slots : slot_of (own_place seen) < m.shape.slots
  in-slots = subst (λ q. slot_of q < m.shape.slots) place-is (within-slots m.shape p ((within m.shape m.history at.legal).places w)
      (λ free. ⊎_elim (λ own. true≢false (sym (ap has_cell place-is ∙ own.1) ∙ ap has_cell free))
      (λ (s, k, here, in_v). let e : Holding s k ≡ Free = sym here ∙ sym place-is ∙ free in absurd (cc e)) may))

  in-workers : v < m.shape.workers
  in-workers = ⊎_elim (λ own. subst (λ u. u < m.shape.workers) (sym own.0) at.below)
      (λ (s, k, here, in_v). subst (λ (d : Shape). v < d.workers) at.shape_is in_v) may

  has-here : HasCell (state_after m.shape m.history) (slot_of (own_place seen)) v w
  has-here = subst (λ q. HasCell (state_after m.shape m.history) (slot_of q) v w) place-is
      (⊎_elim (λ own. inl (sym own.0, has-own p (ap has_cell place-is ∙ own.1)))
      (λ (s, k, here, in_v). inr (ap (λ q. holds q (slot_of q)) (place-is ∙ here) ∙ eq-eqb s s refl)) may)

  only-here : (s u : ℕ) → HasCell (state_after m.shape m.history) s u w → s ≡ slot_of (own_place seen)
  only-here s u cell = ⊎_elim (λ own. sym (own-cell-slot p s own.1)) (λ held. sym (holds-slot p s held)) cell ∙ ap slot_of place-is

  -- the ranges of the whole history are those that the trail has
  agree : Agree (fits subject v) (ranges_then m v) (ranges_seen seen v) p
  agree =
      let shaped : (id : ℕ) → ranges_seen seen v id ≡ ranges_of m.shape v id seen.trail = λ id. ap (λ d. ranges_of d v id seen.trail) at.shape_is in
      ⊎_elim
      (λ own. agree-own (fits subject v) (ranges_then m v) (ranges_seen seen v) p (ap has_cell place-is ∙ own.1)
      (λ id. shaped id ∙ sym (found-ranges m.shape v id seen.trail m.history (ap (λ u. own_calls u m.history) own.0 ∙ at.own ∙ ap (λ u. own_calls u seen.trail)
      (sym own.0)))))
      (λ (s, k, here, in_v). subst (Agree (fits subject v) (ranges_then m v) (ranges_seen seen v)) (sym (place-is ∙ here))
      (λ again. shaped (finalised_id k)
      ∙ (holder-has-claims m.shape w s k m.history seen.trail at.legal at.begins at.below (place-is ∙ here) again at.own).1 v))
      may

  finds : (value : Option B) → CellOf (fits subject v) m (cell_here seen v value) → HoldsNoted seen v fits value
  finds value =
      let f : ℕ → List (ℕ × ℕ) → B → Type 0 = fits subject v in
      let Says : Place → Note → (ℕ → List (ℕ × ℕ) → B → Type 0) → Type 0 = λ q n g. NoteSays (FitsKept g (ranges_seen seen v) q)
      (FitsFresh g (ranges_seen seen v) q) n value in
      let by_history : CellOf f m (record { slot = slot_of p; worker = v; value = value }) → Says p (m.notes w v) f = λ c.
      says-maps (FitsKept f (ranges_then m v) p) (FitsFresh f (ranges_then m v) p) (FitsKept f (ranges_seen seen v) p) (FitsFresh f (ranges_seen seen v) p)
      (kept-by f (ranges_then m v) (ranges_seen seen v) p agree) (fresh-by f (ranges_then m v) (ranges_seen seen v) p) (m.notes w v) value
      (found-says f m (x (seen.notes v)) at.below at.legal (has (seen.notes v)) value c) in
      subst (λ q. CellOf f m (record { slot = slot_of q; worker = v; value = value }) → Says q (seen.notes v) f) place-is
      (λ c. subst (λ n. Says p n f) (at.notes v) (by_history c))

  puts : (value : Option B) → IfSome value (MayPut seen v fits) → (note : Note) → note ≡ put_note (own_place seen) value
      → CellOf (fits subject v) (after_exchange (x note) m) (cell_here seen v value)
  puts value fit note is =
      let f : ℕ → List (ℕ × ℕ) → B → Type 0 = fits subject v in
      subst (λ q. IfSome value (FitsPut f (ranges_seen seen v) q) → note ≡ put_note q value
      → CellOf f (after_exchange (x note) m) (record { slot = slot_of q; worker = v; value = value })) place-is
      (λ fit_so noted. put-says f m (x note) at.below at.legal (has note) value noted (put-by f (ranges_then m v) (ranges_seen seen v) p agree value fit_so))
      fit is

  keeps-others : (note : Note) (cell : Cell B) → (cell.slot ≡ slot_of (own_place seen) → cell.worker ≢ v) → CellOf (fits subject cell.worker) m cell
      → CellOf (fits subject cell.worker) (after_exchange (x note) m) cell
  keeps-others note cell other = others-kept (fits subject cell.worker) m (x note) at.below at.legal (has note) cell
      (λ same. other (same ∙ ap slot_of place-is))

pub exchanges-go-on : {B Sub : Type 0} (fits : Sub → ℕ → ℕ → List (ℕ × ℕ) → B → Type 0) (O : Type 0) → ExchangesGoOn fits O
exchanges-go-on fits O moment seen at v may = record {
  in_slots = in-slots fits moment seen at v may;
  in_workers = in-workers fits moment seen at v may;
  has = has-here fits moment seen at v may;
  only = only-here fits moment seen at v may;
  found = finds fits moment seen at v may;
  put = puts fits moment seen at v may;
  others = keeps-others fits moment seen at v may;
}

-- ---- in the words of a station's exchanges

module _ {B Sub O : Type 0} (fits : Sub → ℕ → ℕ → List (ℕ × ℕ) → B → Type 0) (seen : Seen O Sub) where
  -- of the own cell, at a place inside
  own-words : (value : Option B) (q : Place) → has_cell q ≡ true
      → let w = seen.desk.worker in let f : ℕ → List (ℕ × ℕ) → B → Type 0 = fits seen.desk.subject w in let R = ranges_seen seen w in
      (NoteSays (FitsKept f R q) (FitsFresh f R q) (seen.notes w) value → NoteSays (FitsClaims f R (id_at q)) (λ b. ⊥) (seen.notes w) value)
      × (IfSome value (FitsClaims f R (id_at q)) → IfSome value (FitsPut f R q)) × (put_note q value ≡ kept_note value)
  own-words value (Holding s k) has = absurd (true≢false (sym has))
  own-words value q has = (λ says. says, λ fit. fit, refl)

  -- of the cell of a worker, at a slot that is held
  held-words : (v s : ℕ) (k : Held) (value : Option B) (q : Place) → Holding s k ≡ q
      → let f : ℕ → List (ℕ × ℕ) → B → Type 0 = fits seen.desk.subject v in let R = ranges_seen seen v in
      (NoteSays (FitsKept f R q) (FitsFresh f R q) (seen.notes v) value
      → NoteSays (FitsFinalised f R (held_at q)) (FitsNext f (held_at q)) (seen.notes v) value)
      × (IfSome value (FitsNext f (held_at q)) → IfSome value (FitsPut f R q)) × (put_note q value ≡ fresh_note value)
  held-words v s k value q at =
      let f : ℕ → List (ℕ × ℕ) → B → Type 0 = fits seen.desk.subject v in
      let R = ranges_seen seen v in
      subst (λ q. (NoteSays (FitsKept f R q) (FitsFresh f R q) (seen.notes v) value
      → NoteSays (FitsFinalised f R (held_at q)) (FitsNext f (held_at q)) (seen.notes v) value)
      × (IfSome value (FitsNext f (held_at q)) → IfSome value (FitsPut f R q)) × (put_note q value ≡ fresh_note value)) at
      (λ says. says, λ fit. fit, refl)

pub exchanges-say : {B Sub : Type 0} (fits : Sub → ℕ → ℕ → List (ℕ × ℕ) → B → Type 0) (O : Type 0) → ExchangesSay fits O
exchanges-say fits O = record {
  own = λ seen has value. own-words fits seen value (own_place seen) has;
  held = λ seen s k at v value. held-words fits seen v s k value (own_place seen) (sym at);
}
