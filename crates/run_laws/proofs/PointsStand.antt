-- What each point of a turn says of the worker's place.
use Rattle.std.proofs.Common.{◌≡◌, ℕ, ◌+◌, ◌<◌, ◌≤◌, Bool, true, false, ◌⊎◌, inl, inr, ⊎_elim}
use Rattle.std.proofs.Common.{◌/◌, cond, eqb, ltb, List, [], ◌∷◌, Option, Some, None, refl, sym, ap, ◌∙◌, subst, arith}
use Rattle.std.specs.Prelude.{IsSome}
use Rattle.std.proofs.lemmas.Bool.{cond_both, and_parts, and_cases, eqb-false, ltb-true, ltb-false}
use Rattle.slot_history.specs.declared.shape.Shape.{Shape}
use Rattle.slot_history.specs.declared.shape.TheConstants.{STAGES, PARTS}
use Rattle.slot_history.specs.declared.act.Act.{Act}
use Rattle.slot_history.specs.declared.act.Act.TheVariants.{Enter, LookOpen, LookInvalid, LookVacant, ClaimRange, ClaimUsed, ShutWon, ShutLost, LeaveLeft}
use Rattle.slot_history.specs.declared.act.Act.TheVariants.{LeaveOwe, PayLast, PayDone, MarkMarked, MarkMissed, SweepLast, SweepOthers, ReserveGot}
use Rattle.slot_history.specs.declared.act.Act.TheVariants.{ReserveTaken, AdmitGot, AdmitLost, Arrivals, Finished, NoteDone, SetTotal, Install, Release}
use Rattle.slot_history.specs.declared.act.Act.TheVariants.{Announce, TakeReturn, TakeChange}
use Rattle.slot_history.specs.declared.place.Held.{Held}
use Rattle.slot_history.specs.declared.place.Place.{Place}
use Rattle.slot_history.specs.declared.place.Place.TheVariants.{Free, Entered, Astray, Inside, Used, Behind, Leading, Asking, Owing, Holding, Announcing}
use Rattle.slot_history.specs.States.{slot_of, id_at, held_at, reservation, finalisation}
use Rattle.slot_history.specs.Steps.{moved, held_after, left, asked_one, holding_after, told_one}
use Rattle.stride_set.specs.Strides.{choice_of}
use Rattle.slot_station.specs.Desks.{Desk}
use Rattle.turn_model.specs.declared.turn.Turn.{Turn}
use Rattle.turn_model.specs.Workloads.{Workload, sets_of}
use Rattle.turn_model.specs.Moves.{Move, Made, Exchanged}
use Rattle.turn_model.specs.Learned.{place_by, lets_in, strides_by, finished_by}
use Rattle.turn_model.specs.Points.{Point, Ready, Return, Change, Count, Arrive, Scan, Admit, Fill, Opens, Tells, FreeIt, Enters, Look, Early, Take, Claim}
use Rattle.turn_model.specs.Points.{Shut, Back, Leave, Ask, Sweep, Pay, Fetch, ended_as, picked, pick, asked, told, stages_held, rest_of, is_due, goes_on}
use Rattle.turn_model.specs.Points.{after, exchanged, point_by}
use Rattle.turn_model.specs.Driven.{GivesUp, MayCall, MayExchange, AreDriven}

-- the worker holds a slot, with this in hand
pub record IsHolding (Has : Held → Type 0) (p : Place) : Type 0 where
  pub slot : ℕ
  pub held : Held
  pub at : p ≡ Holding slot held
  pub has : Has held

-- the next task set is to be opened: the first one of a query, of which nothing was noted, or that after the one which was noted
abbrev pub IsOpening : Workload → Held → Type 0
IsOpening load held = ((held.again ≡ false) × (held.noted ≡ 0)) ⊎ ((held.again ≡ true) × (held.stage + 1 < stages_held load held))

-- the query is known whose next task set is opened
abbrev pub IsFilling : Workload → Held → Type 0
IsFilling load held = IsSome held.query × IsOpening load held

-- the query is known whose task set was finalised, and nothing was noted yet
abbrev pub IsFinished : Held → Type 0
IsFinished held = (held.again ≡ true) × (held.noted ≡ 0) × IsSome held.query

-- no query was admitted, or all its stages were noted
abbrev pub IsDone : Workload → Held → Type 0
IsDone load held = (held.query ≡ None) ⊎ (stages_held load held ≤ held.stage + held.noted)

abbrev pub IsWorking : Place → Type 0
IsWorking p = ((s id : ℕ) × (p ≡ Inside s id)) ⊎ ((s id : ℕ) × (p ≡ Leading s id)) ⊎ ((s id : ℕ) × (p ≡ Behind s id))

-- whether a place is one at which a worker makes the calls of a point
abbrev pub Stands : Workload → Point → Place → Type 0
Stands load Admit p = IsHolding (λ held. held ≡ reservation) p
Stands load (Fill v) p = IsHolding (IsFilling load) p
Stands load Opens p = IsHolding (IsFilling load) p
Stands load Tells p = (s : ℕ) × (again : Bool) × (n : ℕ) × (p ≡ Announcing s again n)
Stands load FreeIt p = IsHolding (IsDone load) p
Stands load Look p = (s : ℕ) × (p ≡ Entered s)
Stands load Early p = ((s : ℕ) × (p ≡ Astray s)) ⊎ ((s id : ℕ) × (p ≡ Inside s id))
Stands load Take p = (s id : ℕ) × (p ≡ Inside s id)
Stands load Claim p = (s id : ℕ) × (p ≡ Inside s id)
Stands load Shut p = (s id : ℕ) × (p ≡ Used s id)
Stands load Back p = IsWorking p
Stands load Leave p = IsWorking p
Stands load Ask p = (s id n m : ℕ) × (p ≡ Asking s id n m)
Stands load Sweep p = (s id n m : ℕ) × (p ≡ Asking s id n m)
Stands load Pay p = (s id : ℕ) × (p ≡ Owing s id)
Stands load (Fetch v) p = IsHolding IsFinished p
Stands load x p = p ≡ Free

stands-cond : (load : Workload) (p : Place) (b : Bool) (x y : Point) → Stands load x p → Stands load y p → Stands load (cond b x y) p
stands-cond load p true x y one other = one
stands-cond load p false x y one other = other

stands-picked : (load : Workload) (p : Place) (o : Option ℕ) (turn : Turn) → p ≡ Free → Stands load (picked o turn) p
stands-picked load p None turn free = free
stands-picked load p (Some s) turn free = free

-- whoever leaves asks the others, or is free
stands-left : (load : Workload) (n : ℕ) (p : Place) → IsWorking p → Stands load (asked n (left p)) (left p)
stands-left load n p (inl (s, id, at)) = subst (λ q. Stands load (asked n (left q)) (left q)) (sym at) refl
stands-left load n p (inr (inl (s, id, at))) = subst (λ q. Stands load (asked n (left q)) (left q)) (sym at)
    (stands-cond load (Asking s id 0 0) (ltb 1 n) Ask Sweep (s, id, 0, 0, refl) (s, id, 0, 0, refl))
stands-left load n p (inr (inr (s, id, at))) = subst (λ q. Stands load (asked n (left q)) (left q)) (sym at) refl

stands-asked : (load : Workload) (n k : ℕ) (p : Place) → ((s id i m : ℕ) × (p ≡ Asking s id i m)) → Stands load (asked n (asked_one p k)) (asked_one p k)
stands-asked load n k p (s, id, i, m, at) = subst (λ q. Stands load (asked n (asked_one q k)) (asked_one q k)) (sym at)
    (stands-cond load (Asking s id (i + 1) (m + k)) (ltb (i + 1 + 1) n) Ask Sweep (s, id, i + 1, m + k, refl) (s, id, i + 1, m + k, refl))

stands-told : (load : Workload) (d : Shape) (p : Place) → ((s : ℕ) × (again : Bool) × (n : ℕ) × (p ≡ Announcing s again n))
    → Stands load (told (told_one d p)) (told_one d p)
stands-told load d p (s, again, n, at) = subst (λ q. Stands load (told (told_one d q)) (told_one d q)) (sym at)
    (cond_both (eqb (n + 1) d.workers) Free (Announcing s again (n + 1)) (λ q. Stands load (told q) q) (λ t. refl) (λ t. (s, again, n + 1, refl)))

-- whoever holds a slot goes on to hold it
holds-on : (P Q : Held → Type 0) (a : Act) (p : Place) → IsHolding P p → ((held : Held) → held_at p ≡ held → P held → Q (held_after a held))
    → IsHolding Q (holding_after a p)
holds-on P Q a p h more = record {
  slot = h.slot;
  held = held_after a h.held;
  at = ap (holding_after a) h.at;
  has = more h.held (ap held_at h.at) h.has;
}

-- ---- what is noted

done-given-up : (load : Workload) (held : Held) (n : ℕ) → n ≡ rest_of load held → stages_held load held ≤ held.stage + n
done-given-up load held n is = omega (arith, is)

-- after a note of one task set there is a next one
next-opens : (load : Workload) (held : Held) (n : ℕ) → held.again ≡ true → goes_on load held n ≡ true → IsOpening load (held_after (NoteDone n) held)
next-opens load held n again goes = inr (
  again,
  ltb-true (held.stage + 1) (stages_held load held) (and_parts (eqb n 1) (ltb (held.stage + 1)
      (stages_held load held)) goes).1,
)

-- or all are done
last-done : (load : Workload) (held : Held) (n : ℕ) → (n ≡ 1) ⊎ (n ≡ rest_of load held) → goes_on load held n ≡ false
    → stages_held load held ≤ held.stage + n
last-done load held n (inr all) goes = done-given-up load held n all
last-done load held n (inl one) goes = ⊎_elim
    (λ not_one. absurd (eqb-false n 1 not_one one))
    (λ last. let r : stages_held load held ≤ held.stage + 1 = ltb-false (held.stage + 1) (stages_held load held) last in omega (arith, r, one))
    (and_cases (eqb n 1) (ltb (held.stage + 1) (stages_held load held)) goes)

module _ (D : Desk Workload) where
  -- what a call notes: one task set, or all that are left of the query
  pub note-says : (ms : List Move) (x : Point) (n : ℕ) → MayCall D ms x (NoteDone n) → (n ≡ 1) ⊎ (n ≡ rest_of D.subject (held_at (place_by D ms)))
  note-says ms (Fill v) n m = inr m.1.all
  note-says ms (Fetch v) n m = ⊎_elim inl (λ g. inr g.all) m.1
  note-says ms x n m = absurd m

  noted : (ms : List Move) (n : ℕ) (p : Place) → place_by D ms ≡ p → ((n ≡ 1) ⊎ GivesUp D ms n) → IsHolding IsFinished p
      → Stands D.subject (cond (goes_on D.subject (held_at p) n) (Fill 0) FreeIt) (holding_after (NoteDone n) p)
  noted ms n p place says h = cond_both (goes_on D.subject (held_at p) n) (Fill 0) FreeIt (λ x. Stands D.subject x (holding_after (NoteDone n) p))
      (λ goes. holds-on _ (IsFilling D.subject) (NoteDone n) p h
      (λ held at has. (has.2, next-opens D.subject held n has.0 (ap (λ k. goes_on D.subject k n) (sym at) ∙ goes))))
      (λ stops. holds-on _ (IsDone D.subject) (NoteDone n) p h
      (λ held at has. inr (last-done D.subject held n
      (⊎_elim inl (λ g. inr (g.all ∙ ap (λ q. rest_of D.subject (held_at q)) place ∙ ap (rest_of D.subject) at)) says)
      (ap (λ k. goes_on D.subject k n) (sym at) ∙ stops))))

  call-stands : (ms : List Move) (x : Point) (a : Act) → MayCall D ms x a → Stands D.subject x (place_by D ms)
      → Stands D.subject (after D ms x a) (moved D.shape a (place_by D ms))
  call-stands ms (Ready e) (TakeReturn part bits) m p = p
  call-stands ms (Return k) (TakeReturn part bits) m p = stands-cond D.subject _ (ltb (k + 1) PARTS) (Return (k + 1)) (Change 0) p p
  call-stands ms (Change k) (TakeChange part bits) m p = stands-cond D.subject _ (ltb (k + 1) PARTS) (Change (k + 1)) Count p p
  call-stands ms Count (Finished n) m p = p
  call-stands ms Arrive (Arrivals n) m p = stands-cond D.subject _ (is_due D n (finished_by D ms)) (Scan 0) (pick D ms) p
      (stands-picked D.subject _ (choice_of (strides_by D ms)) (ended_as (finished_by D ms) (sets_of D.shape D.subject)) p)
  call-stands ms (Scan s) (ReserveGot k) m p = record { slot = k; held = reservation; at = refl; has = refl }
  call-stands ms (Scan s) (ReserveTaken k word) m p = stands-cond D.subject _ (ltb (s + 1) D.shape.slots) (Scan (s + 1)) (pick D ms) p
      (stands-picked D.subject _ (choice_of (strides_by D ms)) (ended_as (finished_by D ms) (sets_of D.shape D.subject)) p)
  call-stands ms Admit (AdmitGot q) m p = holds-on _ (IsFilling D.subject) (AdmitGot q) (place_by D ms) p
      (λ held at is. (refl, inl (ap (λ k. k.again) is, ap (λ k. k.noted) is)))
  call-stands ms Admit (AdmitLost q now) m p = record { slot = p.slot; held = p.held; at = p.at; has = inl (ap (λ k. k.query) p.has) }
  call-stands ms (Fill v) (SetTotal n) m p = holds-on _ (IsFilling D.subject) (SetTotal n) (place_by D ms) p (λ held at is. is)
  call-stands ms (Fill v) (NoteDone n) m p = holds-on _ (IsDone D.subject) (NoteDone n) (place_by D ms) p
      (λ held at is. inr (done-given-up D.subject held n (m.1.all ∙ ap (rest_of D.subject) at)))
  call-stands ms Opens (Install id) m p = (slot_of (place_by D ms), (held_at (place_by D ms)).again, 0, refl)
  call-stands ms Tells Announce m p = stands-told D.subject D.shape (place_by D ms) p
  call-stands ms FreeIt Release m p = refl
  call-stands ms (Enters s) (Enter k) m p = (k, refl)
  call-stands ms Look (LookOpen id) m p = cond_both (lets_in D ms (id / STAGES)) Take Early (λ x. Stands D.subject x (Inside (slot_of (place_by D ms)) id))
      (λ t. (slot_of (place_by D ms), id, refl)) (λ t. inr (slot_of (place_by D ms), id, refl))
  call-stands ms Look LookInvalid m p = inl (slot_of (place_by D ms), refl)
  call-stands ms Look LookVacant m p = inl (slot_of (place_by D ms), refl)
  call-stands ms Early LeaveLeft m p = ⊎_elim (λ r. ap left r.1) (λ r. ap left r.2) p
  call-stands ms Early (LeaveOwe id) m p = (slot_of (place_by D ms), id, refl)
  call-stands ms Claim (ClaimRange n from to) m p = inl p
  call-stands ms Claim (ClaimUsed n) m p = (slot_of (place_by D ms), id_at (place_by D ms), refl)
  call-stands ms Shut ShutWon m p = inr (inl (slot_of (place_by D ms), id_at (place_by D ms), refl))
  call-stands ms Shut ShutLost m p = inr (inr (slot_of (place_by D ms), id_at (place_by D ms), refl))
  call-stands ms Leave LeaveLeft m p = stands-left D.subject D.shape.workers (place_by D ms) p
  call-stands ms Leave (LeaveOwe id) m p = (slot_of (place_by D ms), id, refl)
  call-stands ms Ask MarkMarked m p = stands-asked D.subject D.shape.workers 1 (place_by D ms) p
  call-stands ms Ask MarkMissed m p = stands-asked D.subject D.shape.workers 0 (place_by D ms) p
  call-stands ms Sweep SweepLast m p =
      record { slot = slot_of (place_by D ms); held = finalisation (id_at (place_by D ms)); at = refl; has = (refl, refl, refl) }
  call-stands ms Sweep (SweepOthers n) m p = refl
  call-stands ms Pay PayLast m p =
      record { slot = slot_of (place_by D ms); held = finalisation (id_at (place_by D ms)); at = refl; has = (refl, refl, refl) }
  call-stands ms Pay PayDone m p = refl
  call-stands ms (Fetch v) (NoteDone n) m p = noted ms n (place_by D ms) refl m.1 p
  call-stands ms x a m p = absurd m

  exchange-stands : (x : Point) (p : Place) → MayExchange D x → Stands D.subject x p → Stands D.subject (exchanged x) p
  exchange-stands (Fill v) p m s = s
  exchange-stands Take p m s = s
  exchange-stands Back p m s = s
  exchange-stands (Fetch v) p m s = s
  exchange-stands x p m s = absurd m

  pub points-stand : (ms : List Move) → AreDriven D ms → Stands D.subject (point_by D ms) (place_by D ms)
  points-stand [] driven = refl
  points-stand (Made a t ∷ ms) driven = call-stands ms (point_by D ms) a driven.0 (points-stand ms driven.1)
  points-stand (Exchanged ∷ ms) driven = exchange-stands (point_by D ms) (place_by D ms) driven.0 (points-stand ms driven.1)

  -- what some calls are made with
  pub admit-says : (ms : List Move) (x : Point) (q : ℕ) → MayCall D ms x (AdmitGot q) → Stands D.subject x (place_by D ms)
      → IsHolding (λ held. held ≡ reservation) (place_by D ms)
  admit-says ms Admit q m p = p
  admit-says ms x q m p = absurd m

  pub install-says : (ms : List Move) (x : Point) (id : ℕ) → MayCall D ms x (Install id) → Stands D.subject x (place_by D ms)
      → IsHolding (IsOpening D.subject) (place_by D ms)
  install-says ms Opens id m p = record { slot = p.slot; held = p.held; at = p.at; has = p.has.1 }
  install-says ms x id m p = absurd m

  pub release-says : (ms : List Move) (x : Point) → MayCall D ms x Release → Stands D.subject x (place_by D ms) → IsHolding (IsDone D.subject) (place_by D ms)
  release-says ms FreeIt m p = p
  release-says ms x m p = absurd m
