-- Tokens after a call of their worker.
use Rattle.std.proofs.Common.{◌≡◌, ◌≢◌, ℕ, ◌+◌, ◌<◌, ◌⊎◌, ⊎_elim, Bool, true, false, cond, eqb}
use Rattle.std.proofs.Common.{◌&&◌, inl, inr, arith, List, [], ◌∷◌, Some, refl, sym, ap, ap₂, ◌∙◌}
use Rattle.std.proofs.Common.{eq-eqb, ne_eqb}
use native.Mathlib.Decide.{ℕ_discrete}
use Rattle.std.proofs.lemmas.Bool.{cond_both}
use Rattle.slot_history.specs.declared.shape.Shape.{Shape}
use Rattle.slot_history.specs.declared.act.Act.{Act}
use Rattle.slot_history.specs.declared.act.Act.TheVariants.{Enter, LookOpen, LookInvalid}
use Rattle.slot_history.specs.declared.act.Act.TheVariants.{LookVacant, ClaimRange, ClaimUsed}
use Rattle.slot_history.specs.declared.act.Act.TheVariants.{ShutWon, ShutLost, LeaveLeft, LeaveOwe}
use Rattle.slot_history.specs.declared.act.Act.TheVariants.{PayLast, PayDone, MarkMarked}
use Rattle.slot_history.specs.declared.act.Act.TheVariants.{MarkMissed, SweepLast, SweepOthers}
use Rattle.slot_history.specs.declared.act.Act.TheVariants.{ReserveGot, ReserveTaken, AdmitGot}
use Rattle.slot_history.specs.declared.act.Act.TheVariants.{AdmitLost, Arrivals, Finished, NoteDone}
use Rattle.slot_history.specs.declared.act.Act.TheVariants.{SetTotal, Install, Release, Announce}
use Rattle.slot_history.specs.declared.act.Act.TheVariants.{TakeReturn, TakeChange}
use Rattle.slot_history.specs.declared.act.Entry.{Entry}
use Rattle.slot_history.specs.declared.place.Place.{Place}
use Rattle.slot_history.specs.declared.place.Place.TheVariants.{Free, Entered, Astray, Inside as At}
use Rattle.slot_history.specs.declared.place.Place.TheVariants.{Used, Behind, Leading, Asking}
use Rattle.slot_history.specs.declared.place.Place.TheVariants.{Owing, Holding, Announcing}
use Rattle.slot_history.specs.States.{held_at, slot_of}
use Rattle.slot_history.specs.Steps.{moved, left, asked_one, holding_after, told_one}
use Rattle.slot_history.specs.Histories.{place_of}
use Rattle.slot_history.proofs.Own.{place-mine, place-other}
use Rattle.slot_station.specs.declared.token.Holder.{Holder}
use Rattle.slot_station.specs.declared.token.Coordinator.{Coordinator}
use Rattle.slot_station.specs.declared.token.Announcer.{Announcer}
use Rattle.slot_station.specs.declared.reply.Mark.{Mark}
use Rattle.slot_station.specs.declared.reply.Mark.TheVariants as mark
use Rattle.slot_station.specs.declared.reply.Admit.{Admit}
use Rattle.slot_station.specs.declared.reply.Admit.TheVariants as admit
use Rattle.slot_station.specs.Replies.{mark_act, admit_act, admitted_holder, marked_more}
use Rattle.slot_station.specs.Tokens.{IsHolder, HoldsAs, IsCoordinator, IsAnnouncer, opens}
use Rattle.slot_station.specs.Tokens.{last_opened}
use Rattle.slot_station.specs.Answers.{announcer_of}

-- a holder's fields, by its place
pub token-of : (d : Shape) (w : ℕ) (p : Place) (h : Holder) → IsHolder d w p h → HoldsAs d w p h
token-of d w p h ok = record {
  worker = ok.worker;
  slot = sym (ap slot_of ok.place);
  query = sym (ap (λ q. (held_at q).query) ok.place);
  stage = sym (ap (λ q. (held_at q).stage) ok.place);
  again = sym (ap (λ q. (held_at q).again) ok.place);
}

-- what a holder that installs becomes
pub announcer-is : (d : Shape) (w : ℕ) (p r : Place) (id : ℕ) → r ≡ moved d (Install id) p → IsAnnouncer d w r (announcer_of w p d)
announcer-is d w p r id goes = record { worker = refl; workers = refl; place = goes }

-- a holder after it admitted a query, noted or set a total; where the admission is lost it is the same
pub admit-holds : (d : Shape) (w : ℕ) (p r : Place) (h : Holder) (q : ℕ) (a : Admit) → IsHolder d w p h → r ≡ moved d (admit_act q a) p
    → IsHolder d w r (admitted_holder q a h)
admit-holds d w p r h q admit.Got ok goes = record {
  worker = ok.worker;
  noted = ok.noted;
  total = ok.total;
  place = goes ∙ ap
      (moved d (AdmitGot q)) ok.place;
}
admit-holds d w p r h q (admit.Lost other) ok goes = record { worker = ok.worker; noted = ok.noted; total = ok.total; place = goes ∙ ok.place }

pub note-holds : (d : Shape) (w : ℕ) (p r : Place) (h : Holder) (k : ℕ) → IsHolder d w p h → r ≡ moved d (NoteDone k) p → IsHolder d w r h
note-holds d w p r h k ok goes = record { worker = ok.worker; noted = k; total = ok.total; place = goes ∙ ap (moved d (NoteDone k)) ok.place }

pub total-holds : (d : Shape) (w : ℕ) (p r : Place) (h : Holder) (t : ℕ) → IsHolder d w p h → r ≡ moved d (SetTotal t) p → IsHolder d w r h
total-holds d w p r h t ok goes = record { worker = ok.worker; noted = ok.noted; total = Some t; place = goes ∙ ap (moved d (SetTotal t)) ok.place }

-- a coordinator that asked one more
pub mark-holds : (d : Shape) (w : ℕ) (p r : Place) (c : Coordinator) (k : Mark) → IsCoordinator d w p c → r ≡ moved d (mark_act k) p
    → IsCoordinator d w r (record c { asked = c.asked + 1; marked = c.marked + marked_more k })
mark-holds d w p r c mark.Marked ok goes = record { worker = ok.worker; workers = ok.workers; place = goes ∙ ap (moved d MarkMarked) ok.place }
mark-holds d w p r c mark.Missed ok goes = record { worker = ok.worker; workers = ok.workers; place = goes ∙ ap (moved d MarkMissed) ok.place }

-- an announcer that told one more, and is not done
pub tell-holds : (d : Shape) (w : ℕ) (p r : Place) (x : Announcer) → IsAnnouncer d w p x → r ≡ moved d Announce p → x.told + 1 < d.workers
    → IsAnnouncer d w r (record x { told = x.told + 1 })
tell-holds d w p r x ok goes more = record {
  worker = ok.worker;
  workers = ok.workers;
  place = goes ∙ ap (moved d Announce) ok.place ∙ ap (λ b. cond b Free (Announcing x.slot x.again (x.told + 1)))
      (ne_eqb (x.told + 1) d.workers (λ e. omega arith));
}

-- ---- the slot that an announcer opened

left-else : (p : Place) (s k : ℕ) (again : Bool) → left p ≢ Announcing s again k
left-else Free s k again = λ e. cc
left-else (Entered t) s k again = λ e. cc
left-else (Astray t) s k again = λ e. cc
left-else (At t id) s k again = λ e. cc
left-else (Used t id) s k again = λ e. cc
left-else (Behind t id) s k again = λ e. cc
left-else (Leading t id) s k again = λ e. cc
left-else (Asking t id n m) s k again = λ e. cc
left-else (Owing t id) s k again = λ e. cc
left-else (Holding t h) s k again = λ e. cc
left-else (Announcing t b n) s k again = λ e. cc

asked-else : (p : Place) (j s k : ℕ) (again : Bool) → asked_one p j ≡ Announcing s again k → p ≡ Announcing s again k
asked-else (Asking t id n m) j s k again e = absurd (cc e)
asked-else Free j s k again e = e
asked-else (Entered t) j s k again e = e
asked-else (Astray t) j s k again e = e
asked-else (At t id) j s k again e = e
asked-else (Used t id) j s k again e = e
asked-else (Behind t id) j s k again e = e
asked-else (Leading t id) j s k again e = e
asked-else (Owing t id) j s k again e = e
asked-else (Holding t h) j s k again e = e
asked-else (Announcing t b n) j s k again e = e

holding-else : (a : Act) (p : Place) (s k : ℕ) (again : Bool) → holding_after a p ≡ Announcing s again k → p ≡ Announcing s again k
holding-else a (Holding t h) s k again e = absurd (cc e)
holding-else a Free s k again e = e
holding-else a (Entered t) s k again e = e
holding-else a (Astray t) s k again e = e
holding-else a (At t id) s k again e = e
holding-else a (Used t id) s k again e = e
holding-else a (Behind t id) s k again e = e
holding-else a (Leading t id) s k again e = e
holding-else a (Asking t id n m) s k again e = e
holding-else a (Owing t id) s k again e = e
holding-else a (Announcing t b n) s k again e = e

told-else : (d : Shape) (p : Place) (s k : ℕ) (again : Bool) → told_one d p ≡ Announcing s again k → (j : ℕ) × (p ≡ Announcing s again j)
told-else d (Announcing t b n) s k again = cond_both (eqb (n + 1) d.workers) Free (Announcing t b (n + 1))
    (λ q. q ≡ Announcing s again k → (j : ℕ) × (Announcing t b n ≡ Announcing s again j)) (λ h e. absurd (cc e)) (λ h e. (n, cc))
told-else d Free s k again = λ e. absurd (cc e)
told-else d (Entered t) s k again = λ e. absurd (cc e)
told-else d (Astray t) s k again = λ e. absurd (cc e)
told-else d (At t id) s k again = λ e. absurd (cc e)
told-else d (Used t id) s k again = λ e. absurd (cc e)
told-else d (Behind t id) s k again = λ e. absurd (cc e)
told-else d (Leading t id) s k again = λ e. absurd (cc e)
told-else d (Asking t id n m) s k again = λ e. absurd (cc e)
told-else d (Owing t id) s k again = λ e. absurd (cc e)
told-else d (Holding t h) s k again = λ e. absurd (cc e)

-- who announces did so before, or has just installed
abbrev Announced : Act → Place → ℕ → Bool → Type 0
Announced a p s again = ((j : ℕ) × (p ≡ Announcing s again j) × (opens a ≡ false)) ⊎ ((opens a ≡ true) × (slot_of p ≡ s) × ((held_at p).again ≡ again))

announced : (d : Shape) (a : Act) (p : Place) (s k : ℕ) (again : Bool) → moved d a p ≡ Announcing s again k → Announced a p s again
announced d (Install id) p s k again e = inr (refl, cc, cc)
announced d Announce p s k again e = let r = told-else d p s k again e in inl (r.0, r.1, refl)
announced d LeaveLeft p s k again e = absurd (left-else p s k again e)
announced d MarkMarked p s k again e = inl (k, asked-else p 1 s k again e, refl)
announced d MarkMissed p s k again e = inl (k, asked-else p 0 s k again e, refl)
announced d (AdmitGot q) p s k again e = inl (k, holding-else (AdmitGot q) p s k again e, refl)
announced d (NoteDone n) p s k again e = inl (k, holding-else (NoteDone n) p s k again e, refl)
announced d (SetTotal t) p s k again e = inl (k, holding-else (SetTotal t) p s k again e, refl)
announced d (ClaimRange n from to) p s k again e = inl (k, e, refl)
announced d (ReserveTaken t word) p s k again e = inl (k, e, refl)
announced d (AdmitLost q now) p s k again e = inl (k, e, refl)
announced d (Arrivals n) p s k again e = inl (k, e, refl)
announced d (Finished n) p s k again e = inl (k, e, refl)
announced d (TakeReturn part bits) p s k again e = inl (k, e, refl)
announced d (TakeChange part bits) p s k again e = inl (k, e, refl)
announced d (Enter t) p s k again e = absurd (cc e)
announced d (LookOpen id) p s k again e = absurd (cc e)
announced d LookInvalid p s k again e = absurd (cc e)
announced d LookVacant p s k again e = absurd (cc e)
announced d (ClaimUsed n) p s k again e = absurd (cc e)
announced d ShutWon p s k again e = absurd (cc e)
announced d ShutLost p s k again e = absurd (cc e)
announced d (LeaveOwe id) p s k again e = absurd (cc e)
announced d PayLast p s k again e = absurd (cc e)
announced d PayDone p s k again e = absurd (cc e)
announced d SweepLast p s k again e = absurd (cc e)
announced d (SweepOthers n) p s k again e = absurd (cc e)
announced d (ReserveGot t) p s k again e = absurd (cc e)
announced d Release p s k again e = absurd (cc e)

opened-step : (d : Shape) (w s k : ℕ) (again : Bool) (e : Entry) (es : List Entry)
    → ((j : ℕ) → place_of d es w ≡ Announcing s again j → last_opened d w es ≡ Some (s, again))
    → Dec (w ≡ e.worker) → place_of d (e ∷ es) w ≡ Announcing s again k → last_opened d w (e ∷ es) ≡ Some (s, again)
opened-step d w s k again e es ih (yes same) at =
    let goes = sym (place-mine d e es w same) ∙ at in
    let eqs : eqb w e.worker ≡ true = eq-eqb w e.worker same in
    ⊎_elim
    (λ (j, was, opens_). ap₂ (λ a b. cond (a && b) (Some (slot_of (place_of d es w), (held_at (place_of d es w)).again)) (last_opened d w es)) eqs opens_
    ∙ ih j was)
    (λ (opens_, slot, kind). ap₂ (λ a b. cond (a && b) (Some (slot_of (place_of d es w), (held_at (place_of d es w)).again)) (last_opened d w es)) eqs
    opens_
    ∙ ap₂ (λ t b. Some (t, b)) slot kind)
    (announced d e.act (place_of d es w) s k again goes)
opened-step d w s k again e es ih (no other) at =
    ap (λ a. cond (a && opens e.act) (Some (slot_of (place_of d es w), (held_at (place_of d es w)).again)) (last_opened d w es)) (ne_eqb w e.worker other)
    ∙ ih k (sym (place-other d e es w other) ∙ at)

-- the slot that an announcer tells of is the one that it opened last
pub announcer-opened : (d : Shape) (w s : ℕ) (again : Bool) (h : List Entry) (k : ℕ) → place_of d h w ≡ Announcing s again k
    → last_opened d w h ≡ Some (s, again)
announcer-opened d w s again [] k at = absurd (cc at)
announcer-opened d w s again (e ∷ es) k at = opened-step d w s k again e es (announcer-opened d w s again es) (ℕ_discrete w e.worker) at
