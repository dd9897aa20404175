-- Whoever holds a slot after a finalisation was answered Last.
use Rattle.std.proofs.Common.{◌≡◌, ℕ, ◌+◌, ◌<◌, true, ◌&&◌, cond, eqb, List, [], ◌∷◌, refl, sym, ap, ◌∙◌, subst, eq-eqb, arith}
use Rattle.std.proofs.lemmas.Bool.{true≢false, cond_both}
use Rattle.slot_history.specs.declared.shape.Shape.{Shape}
use Rattle.slot_history.specs.declared.act.Act.{Act}
use Rattle.slot_history.specs.declared.act.Act.TheVariants.{Enter, LookOpen, LookInvalid, LookVacant, ClaimUsed, ShutWon, ShutLost, LeaveLeft}
use Rattle.slot_history.specs.declared.act.Act.TheVariants.{LeaveOwe, PayLast, PayDone, MarkMarked, MarkMissed, SweepLast, SweepOthers, ReserveGot}
use Rattle.slot_history.specs.declared.act.Act.TheVariants.{AdmitGot, NoteDone, SetTotal, Install, Release, Announce}
use Rattle.slot_history.specs.declared.place.Held.{Held}
use Rattle.slot_history.specs.declared.place.Place.{Place}
use Rattle.slot_history.specs.declared.place.Place.TheVariants.{Free, Leading, Asking, Holding, Announcing}
use Rattle.slot_history.specs.States.{slot_of, id_at, held_at, finalised_id, finalisation}
use Rattle.slot_history.specs.Steps.{moved, left, asked_one, told_one, held_after, holding_after}
use Rattle.slot_history.specs.Histories.{is_last}
use Rattle.slot_station.specs.Desks.{Desk}
use Rattle.turn_model.specs.Workloads.{Workload}
use Rattle.turn_model.specs.Moves.{Move, Made, Exchanged}
use Rattle.turn_model.specs.Learned.{place_by}
use Rattle.turn_model.specs.Points.{Point, Fill, FreeIt, Fetch, goes_on, after, point_by}
use Rattle.turn_model.specs.Driven.{MayCall, AreDriven}
use Rattle.turn_model.specs.Endings.{ended_after, ended_by}
use Rattle.run_laws.proofs.PointsStand.{Stands, points-stand, admit-says}
use Rattle.run_laws.proofs.Tallies.{by_moves}
use Rattle.run_laws.proofs.EndingsTell.{last_of}

left-not : (p : Place) (s : ℕ) (h : Held) → left p ≡ Holding s h → ⊥
left-not (Leading t id) s h e = cc
left-not p s h e = cc

asked-not : (p : Place) (n s : ℕ) (h : Held) → asked_one p n ≡ Holding s h → p ≡ Holding s h
asked-not (Asking t id i m) n s h e = absurd (cc)
asked-not p n s h e = e

told-not : (d : Shape) (p : Place) (s : ℕ) (h : Held) → told_one d p ≡ Holding s h → p ≡ Holding s h
told-not d (Announcing t again k) s h = cond_both (eqb (k + 1) d.workers) Free (Announcing t again (k + 1))
    (λ q. q ≡ Holding s h → Announcing t again k ≡ Holding s h)
    (λ b e. absurd (cc)) (λ b e. absurd (cc))
told-not d p s h = λ e. e

-- a holder that goes on to hold held the same task set
record WasHeld (p : Place) (s : ℕ) (h : Held) (a : Act) : Type 0 where
  before : Held
  at : p ≡ Holding s before
  is : h ≡ held_after a before

held-on : (a : Act) (p : Place) (s : ℕ) (h : Held) → holding_after a p ≡ Holding s h → WasHeld p s h a
held-on a (Holding t g) s h e = record { before = g; at = ap (λ k. Holding k g) (ap slot_of e); is = sym (ap held_at e) }
held-on a p s h e = absurd (cc)

module _ (D : Desk Workload) where
  -- the last call on the task set of a holding
  abbrev pub HasLast : List Move → Held → Type 0
  HasLast ms held = held.again ≡ true → 0 < by_moves (last_of (finalised_id held)) D ms

  abbrev HoldsLast : List Move → Place → Type 0
  HoldsLast ms p = (s : ℕ) (held : Held) → p ≡ Holding s held → HasLast ms held

  more : (a : Act) (t : ℕ) (ms : List Move) (held : Held) → HasLast ms held → HasLast (Made a t ∷ ms) held
  more a t ms held last again = let r = last again in omega (arith, r)

  answered : (a : Act) (t : ℕ) (ms : List Move) (s : ℕ) (held : Held) → is_last a ≡ true
      → Holding (slot_of (place_by D ms)) (finalisation (id_at (place_by D ms))) ≡ Holding s held → HasLast (Made a t ∷ ms) held
  answered a t ms s held last at again =
      let id : ℕ = id_at (place_by D ms) in
      let same : finalised_id (finalisation id) ≡ id = omega arith in
      let is : id ≡ finalised_id held = sym same ∙ ap finalised_id (ap held_at at) in
      let one : last_of (finalised_id held) a (place_by D ms) ≡ 1 =
      ap (λ b. cond (b && eqb id (finalised_id held)) 1 0) last ∙ ap (λ b. cond b 1 0) (eq-eqb id (finalised_id held) is) in
      omega (arith, one)

  kept : (a : Act) (t : ℕ) (ms : List Move) (s : ℕ) (held : Held)
      → ((h : Held) → ((held_after a h).again ≡ h.again) × (finalised_id (held_after a h) ≡ finalised_id h))
      → WasHeld (place_by D ms) s held a → HoldsLast ms (place_by D ms) → HasLast (Made a t ∷ ms) held
  kept a t ms s held same was before again =
      let e = same was.before in
      let last : 0 < by_moves (last_of (finalised_id was.before)) D ms =
      before s was.before was.at (sym e.0 ∙ ap (λ (h : Held). h.again) (sym was.is) ∙ again) in
      let is : finalised_id held ≡ finalised_id was.before = ap finalised_id was.is ∙ e.1 in
      let r : 0 < by_moves (last_of (finalised_id held)) D ms = subst (λ id. 0 < by_moves (last_of id) D ms) (sym is) last in
      omega (arith, r)

  call-holds : (ms : List Move) (x : Point) (a : Act) (t : ℕ) → MayCall D ms x a → Stands D.subject x (place_by D ms) → HoldsLast ms (place_by D ms)
      → HoldsLast (Made a t ∷ ms) (moved D.shape a (place_by D ms))
  call-holds ms x (Enter k) t m p before s held at = absurd (cc)
  call-holds ms x (LookOpen id) t m p before s held at = absurd (cc)
  call-holds ms x LookInvalid t m p before s held at = absurd (cc)
  call-holds ms x LookVacant t m p before s held at = absurd (cc)
  call-holds ms x (ClaimUsed n) t m p before s held at = absurd (cc)
  call-holds ms x ShutWon t m p before s held at = absurd (cc)
  call-holds ms x ShutLost t m p before s held at = absurd (cc)
  call-holds ms x LeaveLeft t m p before s held at = absurd (left-not (place_by D ms) s held at)
  call-holds ms x (LeaveOwe id) t m p before s held at = absurd (cc)
  call-holds ms x PayLast t m p before s held at = answered PayLast t ms s held refl at
  call-holds ms x PayDone t m p before s held at = absurd (cc)
  call-holds ms x MarkMarked t m p before s held at =
      more MarkMarked t ms held (before s held (asked-not (place_by D ms) 1 s held at))
  call-holds ms x MarkMissed t m p before s held at =
      more MarkMissed t ms held (before s held (asked-not (place_by D ms) 0 s held at))
  call-holds ms x SweepLast t m p before s held at = answered SweepLast t ms s held refl at
  call-holds ms x (SweepOthers n) t m p before s held at = absurd (cc)
  call-holds ms x (ReserveGot k) t m p before s held at =
      λ again. absurd (true≢false (sym again ∙ ap (λ (h : Held). h.again) (sym (ap held_at at))))
  call-holds ms x (AdmitGot q) t m p before s held at = λ again.
      let says = admit-says D ms x q m p in
      let was = held-on (AdmitGot q) (place_by D ms) s held at in
      let fresh = sym (ap held_at was.at) ∙ ap held_at says.at ∙ says.has in
      absurd (true≢false (sym again ∙ ap (λ (h : Held). h.again) was.is ∙ ap (λ (h : Held). h.again) fresh))
  call-holds ms x (NoteDone n) t m p before s held at =
      kept (NoteDone n) t ms s held (λ h. (refl, refl)) (held-on (NoteDone n) (place_by D ms) s held at) before
  call-holds ms x (SetTotal n) t m p before s held at =
      kept (SetTotal n) t ms s held (λ h. (refl, refl)) (held-on (SetTotal n) (place_by D ms) s held at) before
  call-holds ms x (Install id) t m p before s held at = absurd (cc)
  call-holds ms x Release t m p before s held at = absurd (cc)
  call-holds ms x Announce t m p before s held at = more Announce t ms held (before s held (told-not D.shape (place_by D ms) s held at))
  call-holds ms x a t m p before s held at = more a t ms held (before s held at)

  holds-last : (ms : List Move) → AreDriven D ms → HoldsLast ms (place_by D ms)
  holds-last [] driven s held at = absurd (cc)
  holds-last (Made a t ∷ ms) driven s held at =
      call-holds ms (point_by D ms) a t driven.0 (points-stand D ms driven.1) (holds-last ms driven.1) s held at
  holds-last (Exchanged ∷ ms) driven s held at = λ again. holds-last ms driven.1 s held at again

  -- so each holding that ended was finalised, if it was held again
  abbrev pub AllLast : List Move → List Held → Type 0
  AllLast ms [] = Unit {0}
  AllLast ms (held ∷ rest) = HasLast ms held × AllLast ms rest

  all-more : (a : Act) (t : ℕ) (ms : List Move) (hs : List Held) → AllLast ms hs → AllLast (Made a t ∷ ms) hs
  all-more a t ms [] all = tt
  all-more a t ms (held ∷ hs) all = (more a t ms held all.0, all-more a t ms hs all.1)

  all-kept : (ms : List Move) (hs : List Held) → AllLast ms hs → AllLast (Exchanged ∷ ms) hs
  all-kept ms [] all = tt
  all-kept ms (held ∷ hs) all = ((λ again. all.0 again), all-kept ms hs all.1)

  last-step : (ms : List Move) (x : Point) (a : Act) (t : ℕ) (before : List Held) → MayCall D ms x a → Stands D.subject x (place_by D ms)
      → HoldsLast ms (place_by D ms) → AllLast (Made a t ∷ ms) before
      → AllLast (Made a t ∷ ms) (ended_after a (after D ms x a) (held_at (place_by D ms)) before)
  last-step ms (Fill v) (NoteDone k) t before m p last all =
      (more (NoteDone k) t ms (held_at (place_by D ms)) (subst (HasLast ms) (sym (ap held_at p.at)) (last p.slot p.held p.at)), all)
  last-step ms (Fetch v) (NoteDone k) t before m p last all =
      cond_both (goes_on D.subject (held_at (place_by D ms)) k) (Fill 0) FreeIt
      (λ y. AllLast (Made (NoteDone k) t ∷ ms) (ended_after (NoteDone k) y (held_at (place_by D ms)) before))
      (λ goes. all)
      (λ stops. (more (NoteDone k) t ms (held_at (place_by D ms)) (subst (HasLast ms) (sym (ap held_at p.at)) (last p.slot p.held p.at)), all))
  last-step ms x (NoteDone k) t before m p last all = absurd m
  last-step ms x a t before m p last all = all

  pub ended-last : (ms : List Move) → AreDriven D ms → AllLast ms (ended_by D ms)
  ended-last [] driven = tt
  ended-last (Made a t ∷ ms) driven =
      last-step ms (point_by D ms) a t (ended_by D ms) driven.0 (points-stand D ms driven.1) (holds-last ms driven.1)
      (all-more a t ms (ended_by D ms) (ended-last ms driven.1))
  ended-last (Exchanged ∷ ms) driven = all-kept ms (ended_by D ms) (ended-last ms driven.1)
