-- Only the slots, workers and queries of the shape take part.
use Rattle.std.proofs.Common.{◌≡◌, ◌≢◌, ℕ, ◌+◌, ◌<◌, ◌≤◌, ◌⊎◌, Bool, true, false, List, [], ◌∷◌}
use Rattle.std.proofs.Common.{refl, sym, ap, ◌∙◌, subst, inl, inr, ⊎_elim, arith}
use mathlib.Core.Bool.{true≢false}
use Rattle.std.proofs.lemmas.Bool.{cond_both}
use Rattle.slot_history.specs.declared.shape.Shape.{Shape}
use Rattle.slot_history.specs.declared.act.Act.{Act}
use Rattle.slot_history.specs.declared.act.Act.TheVariants.{Enter, LookOpen, LookInvalid}
use Rattle.slot_history.specs.declared.act.Act.TheVariants.{LookVacant, ClaimRange, ClaimUsed}
use Rattle.slot_history.specs.declared.act.Act.TheVariants.{ShutWon, ShutLost, LeaveLeft, LeaveOwe}
use Rattle.slot_history.specs.declared.act.Act.TheVariants.{PayLast, PayDone, MarkMarked}
use Rattle.slot_history.specs.declared.act.Act.TheVariants.{MarkMissed, SweepLast, SweepOthers}
use Rattle.slot_history.specs.declared.act.Act.TheVariants.{ReserveGot, AdmitGot, NoteDone}
use Rattle.slot_history.specs.declared.act.Act.TheVariants.{SetTotal, Install, Release, Announce}
use Rattle.slot_history.specs.declared.act.Act.TheVariants.{TakeReturn, TakeChange}
use Rattle.slot_history.specs.declared.act.Entry.{Entry}
use Rattle.slot_history.specs.declared.place.Place.{Place}
use Rattle.slot_history.specs.declared.place.Place.TheVariants.{Free, Leading, Announcing}
use Rattle.slot_history.specs.Sets.{upd}
use Rattle.slot_history.specs.States.{SlotState, Empty, Reserved, Open, Shut, Finishing}
use Rattle.slot_history.specs.States.{ObjectState, slot_of, is_empty, can_leave}
use Rattle.slot_history.specs.Steps.{site, moved, left, told_one, slot_after, is_in_part, told}
use Rattle.slot_history.specs.Steps.{taken, changes_after, returns_after, admitted_after, next}
use Rattle.slot_history.specs.Steps.{state_after}
use Rattle.slot_history.specs.Allowed.{IsAllowed}
use Rattle.slot_history.specs.Histories.{IsLegal}
use Rattle.slot_history.specs.Bounds.{IsPlaceWithin, IsWithin}
use Rattle.slot_history.proofs.Sets.{pick, upd-cases}

abbrev Moves : Shape → Act → Place → Type 0
Moves d a p = IsPlaceWithin d p → IsPlaceWithin d (moved d a p)

left-within : (d : Shape) (p : Place) → IsPlaceWithin d p → IsPlaceWithin d (left p)
left-within d (Leading s id) k = k
left-within d _ k = tt

-- whoever is at a slot is at one of the shape's
pub within-slots : (d : Shape) (p : Place) → IsPlaceWithin d p → p ≢ Free → slot_of p < d.slots
within-slots d Free k busy = absurd (busy refl)
within-slots d (Announcing s again told) k busy = k.0
within-slots d _ k busy = k

told-within : (d : Shape) (s : ℕ) (again : Bool) (k : ℕ) → IsPlaceWithin d (Announcing s again k) → IsPlaceWithin d (told_one d (Announcing s again k))
told-within d s again k h = pick (k + 1) d.workers Free (Announcing s again (k + 1)) (IsPlaceWithin d) (λ e. tt)
    (λ n. (h.0, let b : k < d.workers = h.1 in omega arith))

moves : (d : Shape) (S : ObjectState) (w : ℕ) (a : Act) → w < d.workers → IsAllowed d S w a → Moves d a (S.places w)
moves d S w (Enter s) low ok = λ k. ok.1
moves d S w (LookOpen id) low ok = subst (Moves d (LookOpen id)) (sym ok.1) (λ k. k)
moves d S w LookInvalid low ok = subst (Moves d LookInvalid) (sym ok.1) (λ k. k)
moves d S w LookVacant low ok = subst (Moves d LookVacant) (sym ok.1) (λ k. k)
moves d S w (ClaimUsed n) low ok = subst (Moves d (ClaimUsed n)) (sym ok.2) (λ k. k)
moves d S w ShutWon low ok = subst (Moves d ShutWon) (sym ok.2) (λ k. k)
moves d S w ShutLost low ok = subst (Moves d ShutLost) (sym ok.2) (λ k. k)
moves d S w LeaveLeft low ok = left-within d (S.places w)
moves d S w (LeaveOwe id) low ok = λ k. within-slots d (S.places w) k (λ e. true≢false (sym ok.0 ∙ ap can_leave e))
moves d S w PayLast low ok = subst (Moves d PayLast) (sym ok.2) (λ k. k)
moves d S w PayDone low ok = λ k. tt
moves d S w MarkMarked low ok = subst (Moves d MarkMarked) (sym ok.4) (λ k. k)
moves d S w MarkMissed low ok = subst (Moves d MarkMissed) (sym ok.4) (λ k. k)
moves d S w SweepLast low ok = subst (Moves d SweepLast) (sym ok.4) (λ k. k)
moves d S w (SweepOthers n) low ok = λ k. tt
moves d S w (ReserveGot s) low ok = λ k. ok.1
moves d S w (AdmitGot q) low ok = subst (Moves d (AdmitGot q)) (sym ok.2) (λ k. k)
moves d S w (NoteDone n) low ok = subst (Moves d (NoteDone n)) (sym ok.2) (λ k. k)
moves d S w (SetTotal t) low ok = subst (Moves d (SetTotal t)) (sym ok.2) (λ k. k)
moves d S w (Install id) low ok = subst (Moves d (Install id)) (sym ok.2) (λ k. (k, omega arith))
moves d S w Release low ok = λ k. tt
moves d S w Announce low ok = subst (Moves d Announce) (sym ok.3) (told-within d ok.0 ok.1 ok.2)
moves d S w _ low ok = λ k. k

-- an empty slot is so after any call but its reservation
stays-empty : (d : Shape) (w : ℕ) (a : Act) (x : SlotState) → ((s : ℕ) → a ≢ ReserveGot s) → is_empty x ≡ true → is_empty (slot_after d w a x) ≡ true
stays-empty d w (ClaimRange n from to) Empty other h = refl
stays-empty d w (ClaimUsed n) Empty other h = refl
stays-empty d w ShutWon Empty other h = refl
stays-empty d w PayLast Empty other h = refl
stays-empty d w PayDone Empty other h = refl
stays-empty d w MarkMarked Empty other h = refl
stays-empty d w MarkMissed Empty other h = refl
stays-empty d w SweepLast Empty other h = refl
stays-empty d w (SweepOthers n) Empty other h = refl
stays-empty d w (ReserveGot s) Empty other h = absurd (other s refl)
stays-empty d w (AdmitGot q) Empty other h = refl
stays-empty d w (NoteDone k) Empty other h = refl
stays-empty d w (SetTotal t) Empty other h = refl
stays-empty d w (Install id) Empty other h = refl
stays-empty d w Release Empty other h = refl
stays-empty d w _ Empty other h = refl
stays-empty d w a (Reserved u k) other h = absurd (cc)
stays-empty d w a (Open t) other h = absurd (cc)
stays-empty d w a (Shut t e) other h = absurd (cc)
stays-empty d w a (Finishing id u k) other h = absurd (cc)

reserve-cases : (a : Act) → ((s : ℕ) × (a ≡ ReserveGot s)) ⊎ ((s : ℕ) → a ≢ ReserveGot s)
reserve-cases (ReserveGot s) = inl (s, refl)
reserve-cases _ = inr (λ s e. absurd (cc))

past-empty : (d : Shape) (S : ObjectState) (w : ℕ) (a : Act) → IsAllowed d S w a → d.slots ≤ site a (S.places w)
    → is_empty (S.slots (site a (S.places w))) ≡ true
    → is_empty (slot_after d w a (S.slots (site a (S.places w)))) ≡ true
past-empty d S w a ok high h = ⊎_elim
    (λ r. absurd (let P : Act → Type 0 = λ b. IsAllowed d S w b → d.slots ≤ site b (S.places w) → ⊥ in
    subst P (sym r.1) (λ fine far. let low : r.0 < d.slots = fine.1 in omega arith) ok high))
    (λ other. stays-empty d w a (S.slots (site a (S.places w))) other h)
    (reserve-cases a)

admits : (d : Shape) (S : ObjectState) (w : ℕ) (a : Act) → IsAllowed d S w a → S.admitted ≤ d.queries → admitted_after a S.admitted ≤ d.queries
admits d S w (AdmitGot q) ok k = let low : q < d.queries = ok.4 in let e : S.admitted ≡ q = ok.5 in omega arith
admits d S w _ ok k = k

-- ---- notices

-- the notices name slots of the shape
abbrev AreNamed : Shape → (ℕ → ℕ → Bool) → Type 0
AreNamed d f = (v s : ℕ) → f v s ≡ true → s < d.slots

told-named : (d : Shape) (again : Bool) (p : Place) (f : ℕ → ℕ → Bool) → IsPlaceWithin d p → AreNamed d f → AreNamed d (told again p f)
told-named d true (Announcing t true k) f fine ok v s = upd-cases f k (upd (f k) t true) v (λ g. g s ≡ true → s < d.slots)
    (λ e. upd-cases (f k) t true s (λ b. b ≡ true → s < d.slots) (λ here h. subst (λ j. j < d.slots) (sym here) fine.0) (λ n. ok k s)) (λ n. ok v s)
told-named d false (Announcing t false k) f fine ok v s = upd-cases f k (upd (f k) t true) v (λ g. g s ≡ true → s < d.slots)
    (λ e. upd-cases (f k) t true s (λ b. b ≡ true → s < d.slots) (λ here h. subst (λ j. j < d.slots) (sym here) fine.0) (λ n. ok k s)) (λ n. ok v s)
told-named d again p f fine ok v s = ok v s

taken-named : (d : Shape) (part w : ℕ) (f : ℕ → ℕ → Bool) → AreNamed d f → AreNamed d (upd f w (taken part (f w)))
taken-named d part w f ok v s = upd-cases f w (taken part (f w)) v (λ g. g s ≡ true → s < d.slots)
    (λ e. cond_both (is_in_part part s) false (f w s) (λ b. b ≡ true → s < d.slots) (λ t h. absurd (cc)) (λ t. ok w s)) (λ n. ok v s)

changes-named : (d : Shape) (w : ℕ) (a : Act) (p : Place) (f : ℕ → ℕ → Bool) → IsPlaceWithin d p → AreNamed d f → AreNamed d (changes_after w a p f)
changes-named d w Announce p f fine ok = told-named d false p f fine ok
changes-named d w (TakeChange part bits) p f fine ok = taken-named d part w f ok
changes-named d w _ p f fine ok = ok

returns-named : (d : Shape) (w : ℕ) (a : Act) (p : Place) (f : ℕ → ℕ → Bool) → IsPlaceWithin d p → AreNamed d f → AreNamed d (returns_after w a p f)
returns-named d w Announce p f fine ok = told-named d true p f fine ok
returns-named d w (TakeReturn part bits) p f fine ok = taken-named d part w f ok
returns-named d w _ p f fine ok = ok

pub within-next : (d : Shape) (S : ObjectState) (w : ℕ) (a : Act) → w < d.workers → IsWithin d S → IsAllowed d S w a → IsWithin d (next d S w a)
within-next d S w a low ok fine = let p : Place = S.places w in let k : ℕ = site a p in record {
  places = λ v. upd-cases S.places w (moved d a p) v (IsPlaceWithin d) (λ e. moves d S w a low fine (ok.places w)) (λ n. ok.places v);
  others = λ v high. upd-cases S.places w (moved d a p) v (λ q. q ≡ Free) (λ e. absurd (omega arith)) (λ n. ok.others v high);
  slots = λ s high. upd-cases S.slots k (slot_after d w a (S.slots k)) s (λ x. is_empty x ≡ true)
      (λ e. let far : d.slots ≤ k = omega arith in past-empty d S w a fine far (ok.slots k far)) (λ n. ok.slots s high);
  admitted = admits d S w a fine ok.admitted;
  changes = changes-named d w a p S.changes (ok.places w) ok.changes;
  returns = returns-named d w a p S.returns (ok.places w) ok.returns;
}

pub within : (d : Shape) (h : List Entry) → IsLegal d h → IsWithin d (state_after d h)
within d [] legal = record {
  places = λ v. tt;
  others = λ v h. refl;
  slots = λ s h. refl;
  admitted = omega arith;
  changes = λ v s h. absurd (cc);
  returns = λ v s h. absurd (cc);
}
within d (e ∷ es) legal = within-next d (state_after d es) e.worker e.act legal.0 (within d es legal.2) legal.1
