-- The holdings that a worker ended are those that it released, and the task sets that it gathered are those that it finalised.
use Rattle.std.proofs.Common.{◌≡◌, ℕ, ◌+◌, ◌/◌, ◌<◌, Bool, true, false, ◌&&◌, cond, eqb, ltb}
use Rattle.std.proofs.Common.{List, [], ◌∷◌, Option, Some, None, refl, sym, ap, ap₂, ◌∙◌, lt-ltb, le-ltb, arith}
use Rattle.std.specs.Prelude.{IsSome, is_some}
use Rattle.std.proofs.lemmas.Bool.{true≢false, cond_both, eqb-true, eqb-false}
use Rattle.slot_history.specs.declared.shape.TheConstants.{STAGES, PARTS}
use Rattle.slot_history.specs.declared.act.Act.{Act}
use Rattle.slot_history.specs.declared.act.Act.TheVariants.{LookOpen, LeaveLeft}
use Rattle.slot_history.specs.declared.act.Act.TheVariants.{PayLast, MarkMarked, MarkMissed, SweepLast}
use Rattle.slot_history.specs.declared.act.Act.TheVariants.{ReserveTaken, AdmitLost, Arrivals, NoteDone, Release}
use Rattle.slot_history.specs.declared.act.Act.TheVariants.{Announce, TakeReturn, TakeChange}
use Rattle.slot_history.specs.declared.place.Held.{Held}
use Rattle.slot_history.specs.declared.place.Place.{Place}
use Rattle.slot_history.specs.declared.place.Place.TheVariants.{Asking, Holding, Announcing}
use Rattle.slot_history.specs.States.{slot_of, id_at, held_at, finalised_id, finalisation}
use Rattle.slot_history.specs.Steps.{moved, holding_after}
use Rattle.slot_history.specs.Histories.{is_last}
use Rattle.stride_set.specs.Strides.{choice_of}
use Rattle.slot_station.specs.Desks.{Desk}
use Rattle.turn_model.specs.declared.turn.Turn.{Turn}
use Rattle.turn_model.specs.declared.turn.Turn.TheVariants.{Acted}
use Rattle.turn_model.specs.Workloads.{Workload, sets_of}
use Rattle.turn_model.specs.Moves.{Move, Made, Exchanged}
use Rattle.turn_model.specs.Learned.{place_by, lets_in, strides_by, finished_by}
use Rattle.turn_model.specs.Points.{Point, Ready, Return, Change, Count, Arrive, Scan, Admit, Fill, Tells, FreeIt, Look, Early, Take}
use Rattle.turn_model.specs.Points.{Back, Leave, Ask, Sweep, Pay, Fetch, ended_as, picked, pick, asked, told, is_due, goes_on, after, exchanged, point_by}
use Rattle.turn_model.specs.Driven.{MayCall, MayExchange, AreDriven}
use Rattle.turn_model.specs.Measure.{is_query}
use Rattle.run_laws.specs.Completes.{is_release}
use Rattle.turn_model.specs.Endings.{ended_after, ended_by, gathered_after, gathered_by}
use Rattle.run_laws.proofs.PointsStand.{Stands, points-stand}
use Rattle.run_laws.proofs.Tallies.{by_moves}

-- ---- counts

-- whether a call releases a slot that is held for the query
abbrev pub release_of : ℕ → Act → Place → ℕ
release_of q a p = cond (is_release a && is_query (held_at p).query q) 1 0

-- whether a call is the last on the task set
abbrev pub last_of : ℕ → Act → Place → ℕ
last_of id a p = cond (is_last a && eqb (id_at p) id) 1 0

-- how many of the holdings are for the query
abbrev pub ended_for : ℕ → List Held → ℕ
ended_for q [] = 0
ended_for q (held ∷ rest) = cond (is_query held.query q) 1 0 + ended_for q rest

-- each is for some query
abbrev pub AreForSome : List Held → Type 0
AreForSome [] = Unit {0}
AreForSome (held ∷ rest) = IsSome held.query × AreForSome rest

-- how often a number stands in a list
abbrev pub times_in : ℕ → List ℕ → ℕ
times_in n [] = 0
times_in n (x ∷ xs) = cond (eqb x n) 1 0 + times_in n xs

-- ---- holdings

-- 1 if the slot is still to be released that the worker held for the query
abbrev pub still_held : ℕ → Point → Place → ℕ
still_held q FreeIt p = cond (is_query (held_at p).query q) 1 0
still_held q x p = 0

-- 1 if the benches of the task set are still to be gathered
abbrev pub still_spread : ℕ → ℕ → Point → Place → ℕ
still_spread n id (Fetch v) p = cond (ltb v n && eqb (finalised_id (held_at p)) id) 1 0
still_spread n id x p = 0

-- points at which nothing is left to be released, or to be gathered
abbrev is_plain : Point → Bool
is_plain FreeIt = false
is_plain (Fetch v) = false
is_plain x = true

none-held : (q : ℕ) (x : Point) (p : Place) → is_plain x ≡ true → still_held q x p ≡ 0
none-held q FreeIt p plain = absurd (cc)
none-held q x p plain = refl

none-spread : (n id : ℕ) (x : Point) (p : Place) → is_plain x ≡ true → still_spread n id x p ≡ 0
none-spread n id (Fetch v) p plain = absurd (cc)
none-spread n id x p plain = refl

plain-cond : (b : Bool) (x y : Point) → is_plain x ≡ true → is_plain y ≡ true → is_plain (cond b x y) ≡ true
plain-cond true x y one other = one
plain-cond false x y one other = other

plain-picked : (o : Option ℕ) (turn : Turn) → is_plain (picked o turn) ≡ true
plain-picked None turn = refl
plain-picked (Some s) turn = refl

plain-asked : (n : ℕ) (p : Place) → is_plain (asked n p) ≡ true
plain-asked n (Asking s id i k) = plain-cond (ltb (i + 1) n) Ask Sweep refl refl
plain-asked n p = refl

plain-told : (p : Place) → is_plain (told p) ≡ true
plain-told (Announcing s again k) = refl
plain-told p = refl

abbrev is_note : Act → Bool
is_note (NoteDone n) = true
is_note _ = false

abbrev is_lost : Act → Bool
is_lost (AdmitLost q late) = true
is_lost _ = false

-- a call that notes nothing, releases nothing and is not answered Last
record IsStill (a : Act) : Type 0 where
  note : is_note a ≡ false
  release : is_release a ≡ false
  last : is_last a ≡ false

unended : (a : Act) (x : Point) (held : Held) (before : List Held) → is_note a ≡ false → ended_after a x held before ≡ before
unended (NoteDone n) x held before h = absurd (true≢false h)
unended _ x held before h = refl

-- the worker's holdings and its calls, of a query; and its calls and what it gathered, of a task set
abbrev pub EndsFor : ℕ → List Held → ℕ → Point → Place → Type 0
EndsFor q ended releases x p = ended_for q ended ≡ releases + still_held q x p

abbrev pub GathersOf : ℕ → ℕ → List ℕ → ℕ → Point → Place → Type 0
GathersOf n id gathered lasts x p = lasts ≡ times_in id gathered + still_spread n id x p

-- a call at a point leads on
record Leads (n : ℕ) (x : Point) (a : Act) (p : Place) (y : Point) (r : Place) : Type 0 where
  ends : (q k : ℕ) (before : List Held) → EndsFor q before k x p → EndsFor q (ended_after a y (held_at p) before) (release_of q a p + k) y r
  gathers : (id k : ℕ) (before : List ℕ) → GathersOf n id before k x p → GathersOf n id before (last_of id a p + k) y r

leads-plain : (n : ℕ) (x : Point) (a : Act) (p : Place) (y : Point) (r : Place) → IsStill a → is_plain x ≡ true → is_plain y ≡ true → Leads n x a p y r
leads-plain n x a p y r still from to = record {
  ends = λ q k before h.
      let one : ended_for q (ended_after a y (held_at p) before) ≡ ended_for q before = ap (ended_for q) (unended a y (held_at p) before still.note) in
      let none : release_of q a p ≡ 0 = ap (λ b. cond (b && is_query (held_at p).query q) 1 0) still.release in
      let z : still_held q x p ≡ 0 = none-held q x p from in
      let o : still_held q y r ≡ 0 = none-held q y r to in
      omega (arith, one, none, z, o, h);
  gathers = λ id k before h.
      let none : last_of id a p ≡ 0 = ap (λ b. cond (b && eqb (id_at p) id) 1 0) still.last in
      let z : still_spread n id x p ≡ 0 = none-spread n id x p from in
      let o : still_spread n id y r ≡ 0 = none-spread n id y r to in
      omega (arith, none, z, o, h);
}

finalised-same : (id : ℕ) → finalised_id (finalisation id) ≡ id
finalised-same id = omega arith

-- an answer Last
leads-last : (n : ℕ) (x : Point) (a : Act) (p : Place) (s : ℕ) → 0 < n → is_plain x ≡ true → is_note a ≡ false → is_release a ≡ false → is_last a ≡ true
    → Leads n x a p (Fetch 0) (Holding s (finalisation (id_at p)))
leads-last n x a p s some from note release last = record {
  ends = λ q k before h.
      let one : ended_for q (ended_after a (Fetch 0) (held_at p) before) ≡ ended_for q before =
      ap (ended_for q) (unended a (Fetch 0) (held_at p) before note) in
      let none : release_of q a p ≡ 0 = ap (λ b. cond (b && is_query (held_at p).query q) 1 0) release in
      let z : still_held q x p ≡ 0 = none-held q x p from in
      let g : ended_for q (ended_after a (Fetch 0) (held_at p) before) ≡ release_of q a p + k + 0 = omega (arith, one, none, z, h) in g;
  gathers = λ id k before h.
      let one : last_of id a p ≡ cond (eqb (id_at p) id) 1 0 = ap (λ b. cond (b && eqb (id_at p) id) 1 0) last in
      let z : still_spread n id x p ≡ 0 = none-spread n id x p from in
      let o : still_spread n id (Fetch 0) (Holding s (finalisation (id_at p))) ≡ cond (eqb (id_at p) id) 1 0 =
      ap₂ (λ b i. cond (b && eqb i id) 1 0) (lt-ltb 0 n some) (finalised-same (id_at p)) in
      omega (arith, one, z, o, h);
}

-- a note that ends the holding
leads-ended : (n k : ℕ) (x : Point) (p : Place) → is_plain x ≡ true → ((s : ℕ) × (held : Held) × (p ≡ Holding s held))
    → Leads n x (NoteDone k) p FreeIt (holding_after (NoteDone k) p)
leads-ended n k x p from (s, held, at) = record {
  ends = λ q r before h.
      let z : still_held q x p ≡ 0 = none-held q x p from in
      let same : cond {A = ℕ} (is_query (held_at (holding_after (NoteDone k) p)).query q) 1 0 ≡ cond (is_query (held_at p).query q) 1 0 =
      ap (λ o. cond (is_query (held_at (holding_after (NoteDone k) o)).query q) 1 0) at ∙ sym (ap (λ o. cond (is_query (held_at o).query q) 1 0) at) in
      let g : cond {A = ℕ} (is_query (held_at p).query q) 1 0 + ended_for q before
      ≡ 0 + r + cond {A = ℕ} (is_query (held_at (holding_after (NoteDone k) p)).query q) 1 0 = omega (arith, z, same, h) in g;
  gathers = λ id r before h.
      let z : still_spread n id x p ≡ 0 = none-spread n id x p from in
      let g : 0 + r ≡ times_in id before + 0 = omega (arith, z, h) in g;
}

leads-released : (n : ℕ) (p : Place) (turn : Turn) (r : Place) → Leads n FreeIt Release p (Ready turn) r
leads-released n p turn r = record {
  ends = λ q k before h.
      let g : ended_for q before ≡ cond {A = ℕ} (is_query (held_at p).query q) 1 0 + k + 0 = omega (arith, h) in g;
  gathers = λ id k before h. let g : 0 + k ≡ times_in id before + 0 = omega (arith, h) in g;
}

-- a query that was not admitted is not held
leads-lost : (n q late : ℕ) (p : Place) → (held_at p).query ≡ None → Leads n Admit (AdmitLost q late) p FreeIt p
leads-lost n q late p none = record {
  ends = λ r k before h.
      let z : cond {A = ℕ} (is_query (held_at p).query r) 1 0 ≡ 0 = ap (λ o. cond (is_query o r) 1 0) none in
      let g : ended_for r before ≡ 0 + k + cond {A = ℕ} (is_query (held_at p).query r) 1 0 = omega (arith, z, h) in g;
  gathers = λ id k before h. let g : 0 + k ≡ times_in id before + 0 = omega (arith, h) in g;
}

-- no cell is left to be fetched at the last one
plain-fetched : (n v : ℕ) → v ≡ n → (id : ℕ) (p : Place) → still_spread n id (Fetch v) p ≡ 0
plain-fetched n v is id p = ap (λ b. cond (b && eqb (finalised_id (held_at p)) id) 1 0) (le-ltb v n (omega (arith, is)))

leads-noted : (n k v : ℕ) (b : Bool) (p : Place) → v ≡ n → ((s : ℕ) × (held : Held) × (p ≡ Holding s held))
    → Leads n (Fetch v) (NoteDone k) p (cond b (Fill 0) FreeIt) (holding_after (NoteDone k) p)
leads-noted n k v true p is at = record {
  ends = λ q j before h. let g : ended_for q before ≡ 0 + j + 0 = omega (arith, h) in g;
  gathers = λ id j before h. let z : still_spread n id (Fetch v) p ≡ 0 = plain-fetched n v is id p in
      let g : 0 + j ≡ times_in id before + 0 = omega (arith, z, h) in g;
}
leads-noted n k v false p is (s, held, at) = record {
  ends = λ q r before h.
      let same : cond {A = ℕ} (is_query (held_at (holding_after (NoteDone k) p)).query q) 1 0 ≡ cond (is_query (held_at p).query q) 1 0 =
      ap (λ o. cond (is_query (held_at (holding_after (NoteDone k) o)).query q) 1 0) at ∙ sym (ap (λ o. cond (is_query (held_at o).query q) 1 0) at) in
      let g : cond {A = ℕ} (is_query (held_at p).query q) 1 0 + ended_for q before
      ≡ 0 + r + cond {A = ℕ} (is_query (held_at (holding_after (NoteDone k) p)).query q) 1 0 = omega (arith, same, h) in g;
  gathers = λ id j before h. let z : still_spread n id (Fetch v) p ≡ 0 = plain-fetched n v is id p in
      let g : 0 + j ≡ times_in id before + 0 = omega (arith, z, h) in g;
}

module _ (D : Desk Workload) (some : 0 < D.shape.workers) where
  abbrev LeadsOn : List Move → Point → Act → Type 0
  LeadsOn ms x a = Leads D.shape.workers x a (place_by D ms) (after D ms x a) (moved D.shape a (place_by D ms))

  -- most calls lead to a point at which nothing is left to be released or gathered
  plain-after : (ms : List Move) (x : Point) (a : Act) → MayCall D ms x a → IsStill a → is_lost a ≡ false → is_plain (after D ms x a) ≡ true
  plain-after ms (Return k) (TakeReturn part bits) m still kept = plain-cond (ltb (k + 1) PARTS) (Return (k + 1)) (Change 0) refl refl
  plain-after ms (Change k) (TakeChange part bits) m still kept = plain-cond (ltb (k + 1) PARTS) (Change (k + 1)) Count refl refl
  plain-after ms Arrive (Arrivals k) m still kept = plain-cond (is_due D k (finished_by D ms)) (Scan 0) (pick D ms) refl
      (plain-picked (choice_of (strides_by D ms)) (ended_as (finished_by D ms) (sets_of D.shape D.subject)))
  plain-after ms (Scan s) (ReserveTaken k word) m still kept = plain-cond (ltb (s + 1) D.shape.slots) (Scan (s + 1)) (pick D ms) refl
      (plain-picked (choice_of (strides_by D ms)) (ended_as (finished_by D ms) (sets_of D.shape D.subject)))
  plain-after ms Tells Announce m still kept = plain-told (moved D.shape Announce (place_by D ms))
  plain-after ms Look (LookOpen id) m still kept = plain-cond (lets_in D ms (id / STAGES)) Take Early refl refl
  plain-after ms Leave LeaveLeft m still kept = plain-asked D.shape.workers (moved D.shape LeaveLeft (place_by D ms))
  plain-after ms Ask MarkMarked m still kept = plain-asked D.shape.workers (moved D.shape MarkMarked (place_by D ms))
  plain-after ms Ask MarkMissed m still kept = plain-asked D.shape.workers (moved D.shape MarkMissed (place_by D ms))
  plain-after ms x (NoteDone k) m still kept = absurd (true≢false still.note)
  plain-after ms x Release m still kept = absurd (true≢false still.release)
  plain-after ms x SweepLast m still kept = absurd (true≢false still.last)
  plain-after ms x PayLast m still kept = absurd (true≢false still.last)
  plain-after ms x (AdmitLost q late) m still kept = absurd (true≢false kept)
  plain-after ms FreeIt a m still kept = absurd m
  plain-after ms (Fetch v) a m still kept = absurd m
  plain-after ms x a m still kept = refl

  call-leads : (ms : List Move) (x : Point) (a : Act) → MayCall D ms x a → Stands D.subject x (place_by D ms) → LeadsOn ms x a
  call-leads ms Admit (AdmitLost q late) m p =
      leads-lost D.shape.workers q late (place_by D ms) (ap (λ o. (held_at o).query) p.at ∙ ap (λ (h : Held). h.query) p.has)
  call-leads ms x (AdmitLost q late) m p = absurd m
  call-leads ms (Fill v) (NoteDone k) m p = leads-ended D.shape.workers k (Fill v) (place_by D ms) refl (p.slot, p.held, p.at)
  call-leads ms (Fetch v) (NoteDone k) m p =
      leads-noted D.shape.workers k v (goes_on D.subject (held_at (place_by D ms)) k) (place_by D ms) m.0 (p.slot, p.held, p.at)
  call-leads ms x (NoteDone k) m p = absurd m
  call-leads ms FreeIt Release m p = leads-released D.shape.workers (place_by D ms) Acted (moved D.shape Release (place_by D ms))
  call-leads ms x Release m p = absurd m
  call-leads ms Sweep SweepLast m p = leads-last D.shape.workers Sweep SweepLast (place_by D ms) (slot_of (place_by D ms)) some refl refl refl refl
  call-leads ms x SweepLast m p = absurd m
  call-leads ms Pay PayLast m p = leads-last D.shape.workers Pay PayLast (place_by D ms) (slot_of (place_by D ms)) some refl refl refl refl
  call-leads ms x PayLast m p = absurd m
  call-leads ms FreeIt a m p = absurd m
  call-leads ms (Fetch v) a m p = absurd m
  call-leads ms x a m p = let still : IsStill a = record { note = refl; release = refl; last = refl } in
      leads-plain D.shape.workers x a (place_by D ms) (after D ms x a) (moved D.shape a (place_by D ms)) still refl (plain-after ms x a m still refl)

  -- an exchange of a cell
  gather-step : (v id k : ℕ) (p : Place) (before : List ℕ) → v < D.shape.workers → GathersOf D.shape.workers id before k (Fetch v) p
      → GathersOf D.shape.workers id (gathered_after (Fetch v) D.shape.workers (finalised_id (held_at p)) before) k (Fetch (v + 1)) p
  gather-step v id k p before low h =
      let was : still_spread D.shape.workers id (Fetch v) p ≡ cond (eqb (finalised_id (held_at p)) id) 1 0 =
      ap (λ b. cond (b && eqb (finalised_id (held_at p)) id) 1 0) (lt-ltb v D.shape.workers low) in
      cond_both (eqb (v + 1) D.shape.workers) (finalised_id (held_at p) ∷ before) before
      (λ l. k ≡ times_in id l + still_spread D.shape.workers id (Fetch (v + 1)) p)
      (λ all. let none : still_spread D.shape.workers id (Fetch (v + 1)) p ≡ 0 =
      plain-fetched D.shape.workers (v + 1) (eqb-true (v + 1) D.shape.workers all) id p in
      let g : k ≡ cond {A = ℕ} (eqb (finalised_id (held_at p)) id) 1 0 + times_in id before + still_spread D.shape.workers id (Fetch (v + 1)) p =
      omega (arith, none, was, h) in g)
      (λ some_left. let differs = eqb-false (v + 1) D.shape.workers some_left in
      let more : still_spread D.shape.workers id (Fetch (v + 1)) p ≡ cond (eqb (finalised_id (held_at p)) id) 1 0 =
      ap (λ b. cond (b && eqb (finalised_id (held_at p)) id) 1 0) (lt-ltb (v + 1) D.shape.workers (omega (arith, low, differs))) in
      omega (arith, more, was, h))

  exchange-ends : (x : Point) (q k : ℕ) (p : Place) (before : List Held) → MayExchange D x → EndsFor q before k x p → EndsFor q before k (exchanged x) p
  exchange-ends (Fill v) q k p before m h = h
  exchange-ends Take q k p before m h = h
  exchange-ends Back q k p before m h = h
  exchange-ends (Fetch v) q k p before m h = h
  exchange-ends x q k p before m h = absurd m

  exchange-gathers : (x : Point) (id k : ℕ) (p : Place) (before : List ℕ) → MayExchange D x → GathersOf D.shape.workers id before k x p
      → GathersOf D.shape.workers id (gathered_after x D.shape.workers (finalised_id (held_at p)) before) k (exchanged x) p
  exchange-gathers (Fill v) id k p before m h = h
  exchange-gathers Take id k p before m h = h
  exchange-gathers Back id k p before m h = h
  exchange-gathers (Fetch v) id k p before m h = gather-step v id k p before m h
  exchange-gathers x id k p before m h = absurd m

  pub ends-for : (q : ℕ) (ms : List Move) → AreDriven D ms → EndsFor q (ended_by D ms) (by_moves (release_of q) D ms) (point_by D ms) (place_by D ms)
  ends-for q [] driven = refl
  ends-for q (Made a t ∷ ms) driven =
      (call-leads ms (point_by D ms) a driven.0 (points-stand D ms driven.1)).ends q (by_moves (release_of q) D ms) (ended_by D ms) (ends-for q ms driven.1)
  ends-for q (Exchanged ∷ ms) driven =
      exchange-ends (point_by D ms) q (by_moves (release_of q) D ms) (place_by D ms) (ended_by D ms) driven.0 (ends-for q ms driven.1)

  pub gathers-of : (id : ℕ) (ms : List Move) → AreDriven D ms
      → GathersOf D.shape.workers id (gathered_by D ms) (by_moves (last_of id) D ms) (point_by D ms) (place_by D ms)
  gathers-of id [] driven = refl
  gathers-of id (Made a t ∷ ms) driven =
      (call-leads ms (point_by D ms) a driven.0 (points-stand D ms driven.1)).gathers id (by_moves (last_of id) D ms) (gathered_by D ms)
      (gathers-of id ms driven.1)
  gathers-of id (Exchanged ∷ ms) driven =
      exchange-gathers (point_by D ms) id (by_moves (last_of id) D ms) (place_by D ms) (gathered_by D ms) driven.0 (gathers-of id ms driven.1)

  -- each holding that ended was for a query
  some-step : (ms : List Move) (x : Point) (a : Act) (before : List Held) → MayCall D ms x a → Stands D.subject x (place_by D ms) → AreForSome before
      → AreForSome (ended_after a (after D ms x a) (held_at (place_by D ms)) before)
  some-step ms (Fill v) (NoteDone k) before m p all = (ap (λ o. is_some (held_at o).query) p.at ∙ p.has.0, all)
  some-step ms (Fetch v) (NoteDone k) before m p all =
      cond_both (goes_on D.subject (held_at (place_by D ms)) k) (Fill 0) FreeIt (λ y. AreForSome (ended_after (NoteDone k) y (held_at (place_by D ms)) before))
      (λ goes. all) (λ stops. (ap (λ o. is_some (held_at o).query) p.at ∙ p.has.2, all))
  some-step ms x (NoteDone k) before m p all = absurd m
  some-step ms x a before m p all = all

  pub ended-some : (ms : List Move) → AreDriven D ms → AreForSome (ended_by D ms)
  ended-some [] driven = tt
  ended-some (Made a t ∷ ms) driven =
      some-step ms (point_by D ms) a (ended_by D ms) driven.0 (points-stand D ms driven.1) (ended-some ms driven.1)
  ended-some (Exchanged ∷ ms) driven = ended-some ms driven.1
