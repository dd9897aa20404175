-- An allowed call has just one answer. It rules out a shut that two workers win, and any other answer that depends on more
-- than the state.
use Rattle.std.proofs.Common.{◌≡◌, ℕ, ◌+◌, ◌<◌, ◌⊎◌, Bool, true, false, cond, eqb, ltb, ◌&&◌, min}
use Rattle.std.proofs.Common.{refl, sym, ap, ◌∙◌, subst, inl, inr, ⊎_elim, arith, eq-eqb, ne_eqb}
use Rattle.std.proofs.Common.{eqb-true, pos_of_ne-zero, lt-ltb, le-ltb, ltb-true, ltb-false}
use mathlib.Core.Bool.{true≢false}
use Rattle.std.proofs.lemmas.Bool.{cond_both, cond-true, cond-false, eqb-false, and_from, and_parts}
use Rattle.std.proofs.lemmas.Bool.{and_left, and_right, false_from_ne_true}
use Rattle.slot_history.specs.declared.shape.Shape.{Shape}
use Rattle.slot_history.specs.declared.act.Act.{Act}
use Rattle.slot_history.specs.declared.act.Act.TheVariants.{LookOpen, LookInvalid, LookVacant}
use Rattle.slot_history.specs.declared.act.Act.TheVariants.{ClaimRange, ClaimUsed, ShutWon}
use Rattle.slot_history.specs.declared.act.Act.TheVariants.{ShutLost, LeaveLeft, LeaveOwe, PayLast}
use Rattle.slot_history.specs.declared.act.Act.TheVariants.{PayDone, MarkMarked, MarkMissed}
use Rattle.slot_history.specs.declared.act.Act.TheVariants.{SweepLast, SweepOthers, ReserveGot}
use Rattle.slot_history.specs.declared.act.Act.TheVariants.{ReserveTaken, AdmitGot, AdmitLost}
use Rattle.slot_history.specs.declared.act.Act.TheVariants.{Arrivals, Finished, TakeReturn}
use Rattle.slot_history.specs.declared.act.Act.TheVariants.{TakeChange}
use Rattle.slot_history.specs.declared.place.Place.TheVariants.{Entered}
use Rattle.slot_history.specs.States.{SlotState, Empty, Reserved, Open, Shut, Finishing}
use Rattle.slot_history.specs.States.{ObjectState, slot_of, task_of, id_of, is_empty, is_open}
use Rattle.slot_history.specs.States.{is_swept, is_tagged, is_vacant, owes, slot_word, has_own_cell}
use Rattle.slot_history.specs.States.{is_inside}
use Rattle.slot_history.specs.Steps.{ended}
use Rattle.slot_history.specs.Allowed.{IsAllowed, debts, next_is_at}
use Rattle.slot_history.specs.Table.{IsTable}
use Rattle.slot_history.specs.Calls.{Call, Entering, Looking, Claiming, Shutting, Leaving, Paying}
use Rattle.slot_history.specs.Calls.{MarkingNext, Sweeping, Reserving, Admitting, AskingArrivals}
use Rattle.slot_history.specs.Calls.{AskingFinished, NotingDone, SettingTotal, Installing}
use Rattle.slot_history.specs.Calls.{Releasing, AnnouncingNext, TakingReturn, TakingChange, call_of}
use Rattle.slot_history.specs.Calls.{MayCall, looked_at, answer_at, call_site, reply_of, IsAnswered}
use Rattle.slot_history.proofs.Records.{shut-closed}
use Rattle.slot_history.proofs.Masks.{mask-is, mask-only}
use Rattle.slot_history.proofs.Places.{inside-slots}

-- ---- an answer that a call has

-- an answer is allowed: what `reply_of` says of the slot s is what is allowed there
look-answers : (d : Shape) (S : ObjectState) (w s : ℕ) (x : SlotState) → S.places w ≡ Entered s → S.slots s ≡ x → IsAllowed d S w (looked_at x)
look-answers d S w s Empty at is = (s, at, ap is_vacant is)
look-answers d S w s (Reserved u h) at is = (s, at, ap is_vacant is)
look-answers d S w s (Open t) at is = (s, at, ap is_open is, sym (ap id_of is))
look-answers d S w s (Shut t e) at is = (s, at, ap is_tagged is)
look-answers d S w s (Finishing id u h) at is = (s, at, ap is_tagged is)

pub still-owed : (swept : Bool) (n : ℕ) → (swept && eqb n 0) ≡ false → (swept ≡ false) ⊎ (0 < n)
still-owed true n h = inr (pos_of_ne-zero (eqb-false n 0 h))
still-owed false n h = inl refl

-- `reply_of` at the slot that the worker's place names
abbrev Replies : Shape → ObjectState → ℕ → Call → ℕ → Type 0
Replies d S w c s = IsAllowed d S w (answer_at d S w c (S.slots s))

pub answered : (d : Shape) (S : ObjectState) → IsTable d S → (w : ℕ) (c : Call) → w < d.workers → MayCall d S w c → IsAllowed d S w (reply_of d S w c)
answered d S tab w (Entering s) low ok = ok
answered d S tab w Looking low ok = subst (Replies d S w Looking) (sym (ap slot_of ok.1)) (look-answers d S w ok.0 (S.slots ok.0) ok.1 refl)
answered d S tab w (Claiming n) low ok = subst (Replies d S w (Claiming n)) (sym (ap slot_of ok.2))
    (let t = task_of (S.slots ok.0) in cond_both (ltb t.cursor t.total) (ClaimRange n t.cursor (min t.total (t.cursor + n))) (ClaimUsed n) (IsAllowed d S w)
    (λ k. (ok.0, ok.1, ok.2, ok.3, ok.4, refl, ltb-true t.cursor t.total k, refl))
    (λ k. (ok.0, ok.1, ok.2, ok.3, ok.4, ltb-false t.cursor t.total k)))
answered d S tab w Shutting low ok = subst (Replies d S w Shutting) (sym (ap slot_of ok.2))
    (cond_both (is_open (S.slots ok.0)) ShutWon ShutLost (IsAllowed d S w)
    (λ k. (ok.0, ok.1, ok.2, k))
    (λ k. (
      ok.0,
      ok.1,
      ok.2,
      ⊎_elim (λ open_. absurd (true≢false (sym open_ ∙ k))) (λ shut_. shut_)
          (inside-slots d S tab ok.0 w ok.1 low (ap (λ p. has_own_cell p ok.0) ok.2 ∙ eq-eqb ok.0 ok.0 refl) (ap (λ p. is_inside p ok.1) ok.2
          ∙ eq-eqb ok.1 ok.1 refl)).0,
    )))
answered d S tab w Leaving low ok = let x : SlotState = S.slots (slot_of (S.places w)) in cond_both (owes x w) (LeaveOwe (id_of x)) LeaveLeft (IsAllowed d S w)
    (λ k. (ok, k, refl)) (λ k. (ok, k))
answered d S tab w Paying low ok = subst (Replies d S w Paying) (sym (ap slot_of ok.2))
    (let x : SlotState = S.slots ok.0 in cond_both (is_swept x && eqb (debts d (ended d w PayDone x)) 0) PayLast PayDone (IsAllowed d S w)
    (λ k. let both = and_parts (is_swept x) (eqb (debts d (ended d w PayDone x)) 0) k in
    (ok.0, ok.1, ok.2, both.0, eqb-true (debts d (ended d w PayDone x)) 0 both.1))
    (λ k. (ok.0, ok.1, ok.2, still-owed (is_swept x) (debts d (ended d w PayDone x)) k)))
answered d S tab w MarkingNext low ok = subst (λ j. IsAllowed d S w (cond (next_is_at d S j (S.slots j)) MarkMarked MarkMissed)) (sym (ap slot_of ok.4))
    (cond_both (next_is_at d S ok.0 (S.slots ok.0)) MarkMarked MarkMissed (IsAllowed d S w)
    (λ k. (ok.0, ok.1, ok.2, ok.3, ok.4, ok.5, k)) (λ k. (ok.0, ok.1, ok.2, ok.3, ok.4, ok.5, k)))
answered d S tab w Sweeping low ok = subst (Replies d S w Sweeping) (sym (ap slot_of ok.4))
    (cond_both (eqb (debts d (S.slots ok.0)) 0) SweepLast (SweepOthers (debts d (S.slots ok.0))) (IsAllowed d S w)
    (λ k. (ok.0, ok.1, ok.2, ok.3, ok.4, ok.5, eqb-true (debts d (S.slots ok.0)) 0 k))
    (λ k. (ok.0, ok.1, ok.2, ok.3, ok.4, ok.5, pos_of_ne-zero (eqb-false (debts d (S.slots ok.0)) 0 k), refl)))
answered d S tab w (Reserving s) low ok = cond_both (is_empty (S.slots s)) (ReserveGot s) (ReserveTaken s (slot_word (S.slots s))) (IsAllowed d S w)
    (λ k. (ok.0, ok.1, k)) (λ k. (ok.0, ok.1, k, refl))
answered d S tab w (Admitting q) low ok = cond_both (eqb S.admitted q) (AdmitGot q) (AdmitLost q S.admitted) (IsAllowed d S w)
    (λ k. (ok.0, ok.1, ok.2, ok.3, ok.4, eqb-true S.admitted q k))
    (λ k. (ok.0, ok.1, ok.2, ok.3, ok.4, refl, λ e. true≢false (sym (eq-eqb S.admitted q e) ∙ k)))
answered d S tab w AskingArrivals low ok = refl
answered d S tab w AskingFinished low ok = refl
answered d S tab w (NotingDone k) low ok = ok
answered d S tab w (SettingTotal t) low ok = ok
answered d S tab w (Installing id) low ok = ok
answered d S tab w Releasing low ok = ok
answered d S tab w AnnouncingNext low ok = ok
answered d S tab w (TakingReturn part) low ok = (ok, mask-is part (S.returns w))
answered d S tab w (TakingChange part) low ok = (ok, mask-is part (S.changes w))

-- ---- the only one

look-open : (x : SlotState) (id : ℕ) → is_open x ≡ true → id ≡ id_of x → LookOpen id ≡ looked_at x
look-open (Open t) id h e = ap LookOpen e
look-open _ id h e = absurd (cc)

look-invalid : (x : SlotState) → is_tagged x ≡ true → LookInvalid ≡ looked_at x
look-invalid (Shut t e) h = refl
look-invalid (Finishing id w k) h = refl
look-invalid _ h = absurd (cc)

look-vacant : (x : SlotState) → is_vacant x ≡ true → LookVacant ≡ looked_at x
look-vacant Empty h = refl
look-vacant (Reserved w k) h = refl
look-vacant _ h = absurd (cc)

yes-answer : (b : Bool) (x y : Act) → b ≡ true → x ≡ cond b x y
yes-answer b x y h = sym (cond-true b x y h)

no-answer : (b : Bool) (x y : Act) → b ≡ false → y ≡ cond b x y
no-answer b x y h = sym (cond-false b x y h)

-- what the act says of the slot s is what `reply_of` says there
abbrev Only : Shape → ObjectState → ℕ → Act → ℕ → Type 0
Only d S w a s = a ≡ answer_at d S w (call_of a) (S.slots s)

pub only-answer : (d : Shape) (S : ObjectState) (w : ℕ) (a : Act) → IsAllowed d S w a → a ≡ reply_of d S w (call_of a)
only-answer d S w (LookOpen id) ok = subst (Only d S w (LookOpen id)) (sym (ap slot_of ok.1)) (look-open (S.slots ok.0) id ok.2 ok.3)
only-answer d S w LookInvalid ok = subst (Only d S w LookInvalid) (sym (ap slot_of ok.1)) (look-invalid (S.slots ok.0) ok.2)
only-answer d S w LookVacant ok = subst (Only d S w LookVacant) (sym (ap slot_of ok.1)) (look-vacant (S.slots ok.0) ok.2)
only-answer d S w (ClaimRange n from to) ok = subst (Only d S w (ClaimRange n from to)) (sym (ap slot_of ok.2))
    (let t = task_of (S.slots ok.0) in
    ap (λ k. ClaimRange n from k) ok.7 ∙ ap (λ k. ClaimRange n k (min t.total (k + n))) ok.5
    ∙ yes-answer (ltb t.cursor t.total) (ClaimRange n t.cursor (min t.total (t.cursor + n))) (ClaimUsed n)
    (lt-ltb t.cursor t.total (subst (λ k. k < t.total) ok.5 ok.6)))
only-answer d S w (ClaimUsed n) ok = subst (Only d S w (ClaimUsed n)) (sym (ap slot_of ok.2))
    (let t = task_of (S.slots ok.0) in no-answer (ltb t.cursor t.total) (ClaimRange n t.cursor (min t.total (t.cursor + n))) (ClaimUsed n)
    (le-ltb t.cursor t.total ok.5))
only-answer d S w ShutWon ok = subst (Only d S w ShutWon) (sym (ap slot_of ok.2)) (yes-answer (is_open (S.slots ok.0)) ShutWon ShutLost ok.3)
only-answer d S w ShutLost ok = subst (Only d S w ShutLost) (sym (ap slot_of ok.2))
    (no-answer (is_open (S.slots ok.0)) ShutWon ShutLost (false_from_ne_true (is_open (S.slots ok.0)) (shut-closed (S.slots ok.0) ok.3)))
only-answer d S w LeaveLeft ok = let x : SlotState = S.slots (slot_of (S.places w)) in no-answer (owes x w) (LeaveOwe (id_of x)) LeaveLeft ok.1
only-answer d S w (LeaveOwe id) ok = let x : SlotState = S.slots (slot_of (S.places w)) in ap LeaveOwe ok.2
    ∙ yes-answer (owes x w) (LeaveOwe (id_of x)) LeaveLeft ok.1
only-answer d S w PayLast ok = subst (Only d S w PayLast) (sym (ap slot_of ok.2))
    (let x : SlotState = S.slots ok.0 in yes-answer (is_swept x && eqb (debts d (ended d w PayDone x)) 0) PayLast PayDone
    (and_from (is_swept x) (eqb (debts d (ended d w PayDone x)) 0) ok.3 (eq-eqb (debts d (ended d w PayDone x)) 0 ok.4)))
only-answer d S w PayDone ok = subst (Only d S w PayDone) (sym (ap slot_of ok.2))
    (let x : SlotState = S.slots ok.0 in no-answer (is_swept x && eqb (debts d (ended d w PayDone x)) 0) PayLast PayDone (⊎_elim
    (λ k. and_left (is_swept x) (eqb (debts d (ended d w PayDone x)) 0) k)
    (λ k. and_right (is_swept x) (eqb (debts d (ended d w PayDone x)) 0) (ne_eqb (debts d (ended d w PayDone x)) 0 (λ e. omega arith))) ok.3))
only-answer d S w MarkMarked ok = subst (λ j. MarkMarked ≡ cond (next_is_at d S j (S.slots j)) MarkMarked MarkMissed) (sym (ap slot_of ok.4))
    (yes-answer (next_is_at d S ok.0 (S.slots ok.0)) MarkMarked MarkMissed ok.6)
only-answer d S w MarkMissed ok = subst (λ j. MarkMissed ≡ cond (next_is_at d S j (S.slots j)) MarkMarked MarkMissed) (sym (ap slot_of ok.4))
    (no-answer (next_is_at d S ok.0 (S.slots ok.0)) MarkMarked MarkMissed ok.6)
only-answer d S w SweepLast ok = subst (Only d S w SweepLast) (sym (ap slot_of ok.4))
    (yes-answer (eqb (debts d (S.slots ok.0)) 0) SweepLast (SweepOthers (debts d (S.slots ok.0))) (eq-eqb (debts d (S.slots ok.0)) 0 ok.6))
only-answer d S w (SweepOthers n) ok = subst (Only d S w (SweepOthers n)) (sym (ap slot_of ok.4))
    (ap SweepOthers ok.7 ∙ no-answer (eqb (debts d (S.slots ok.0)) 0) SweepLast (SweepOthers (debts d (S.slots ok.0)))
    (ne_eqb (debts d (S.slots ok.0)) 0 (λ e. let k : n ≡ debts d (S.slots ok.0) = ok.7 in let j : 0 < n = ok.6 in omega arith)))
only-answer d S w (ReserveGot s) ok = yes-answer (is_empty (S.slots s)) (ReserveGot s) (ReserveTaken s (slot_word (S.slots s))) ok.2
only-answer d S w (ReserveTaken s word) ok = ap (ReserveTaken s) ok.3
    ∙ no-answer (is_empty (S.slots s)) (ReserveGot s) (ReserveTaken s (slot_word (S.slots s))) ok.2
only-answer d S w (AdmitGot q) ok = yes-answer (eqb S.admitted q) (AdmitGot q) (AdmitLost q S.admitted) (eq-eqb S.admitted q ok.5)
only-answer d S w (AdmitLost q now) ok = ap (AdmitLost q) ok.5
    ∙ no-answer (eqb S.admitted q) (AdmitGot q) (AdmitLost q S.admitted) (ne_eqb S.admitted q (λ e. ok.6 (ok.5 ∙ e)))
only-answer d S w (Arrivals n) ok = ap Arrivals ok
only-answer d S w (Finished n) ok = ap Finished ok
only-answer d S w (TakeReturn part bits) ok = ap (TakeReturn part) (mask-only part (S.returns w) bits ok.1)
only-answer d S w (TakeChange part bits) ok = ap (TakeChange part) (mask-only part (S.changes w) bits ok.1)
only-answer d S w _ ok = refl

-- ---- an answer of the call

call-of-look : (x : SlotState) → call_of (looked_at x) ≡ Looking
call-of-look Empty = refl
call-of-look _ = refl

call-of-either : (b : Bool) (x y : Act) (c : Call) → call_of x ≡ c → call_of y ≡ c → call_of (cond b x y) ≡ c
call-of-either b x y c of_x of_y = cond_both b x y (λ a. call_of a ≡ c) (λ k. of_x) (λ k. of_y)

call-of-answer : (d : Shape) (S : ObjectState) (w : ℕ) (c : Call) (x : SlotState) → call_of (answer_at d S w c x) ≡ c
call-of-answer d S w Looking x = call-of-look x
call-of-answer d S w (Claiming n) x = let t = task_of x in
    call-of-either (ltb t.cursor t.total) (ClaimRange n t.cursor (min t.total (t.cursor + n))) (ClaimUsed n) (Claiming n) refl refl
call-of-answer d S w Shutting x = call-of-either (is_open x) ShutWon ShutLost Shutting refl refl
call-of-answer d S w Leaving x = call-of-either (owes x w) (LeaveOwe (id_of x)) LeaveLeft Leaving refl refl
call-of-answer d S w Paying x = call-of-either (is_swept x && eqb (debts d (ended d w PayDone x)) 0) PayLast PayDone Paying refl refl
call-of-answer d S w MarkingNext x = call-of-either (next_is_at d S (slot_of (S.places w)) x) MarkMarked MarkMissed MarkingNext refl refl
call-of-answer d S w Sweeping x = call-of-either (eqb (debts d x) 0) SweepLast (SweepOthers (debts d x)) Sweeping refl refl
call-of-answer d S w (Reserving s) x = call-of-either (is_empty x) (ReserveGot s) (ReserveTaken s (slot_word x)) (Reserving s) refl refl
call-of-answer d S w (Admitting q) x = call-of-either (eqb S.admitted q) (AdmitGot q) (AdmitLost q S.admitted) (Admitting q) refl refl
call-of-answer d S w _ x = refl

-- ---- a call that has an allowed answer

may-call : (d : Shape) (S : ObjectState) (w : ℕ) (a : Act) → IsAllowed d S w a → MayCall d S w (call_of a)
may-call d S w (LookOpen id) ok = (ok.0, ok.1)
may-call d S w LookInvalid ok = (ok.0, ok.1)
may-call d S w LookVacant ok = (ok.0, ok.1)
may-call d S w (ClaimRange n from to) ok = (ok.0, ok.1, ok.2, ok.3, ok.4)
may-call d S w (ClaimUsed n) ok = (ok.0, ok.1, ok.2, ok.3, ok.4)
may-call d S w ShutWon ok = (ok.0, ok.1, ok.2)
may-call d S w ShutLost ok = (ok.0, ok.1, ok.2)
may-call d S w LeaveLeft ok = ok.0
may-call d S w (LeaveOwe id) ok = ok.0
may-call d S w PayLast ok = (ok.0, ok.1, ok.2)
may-call d S w PayDone ok = (ok.0, ok.1, ok.2)
may-call d S w MarkMarked ok = (ok.0, ok.1, ok.2, ok.3, ok.4, ok.5)
may-call d S w MarkMissed ok = (ok.0, ok.1, ok.2, ok.3, ok.4, ok.5)
may-call d S w SweepLast ok = (ok.0, ok.1, ok.2, ok.3, ok.4, ok.5)
may-call d S w (SweepOthers n) ok = (ok.0, ok.1, ok.2, ok.3, ok.4, ok.5)
may-call d S w (ReserveGot s) ok = (ok.0, ok.1)
may-call d S w (ReserveTaken s word) ok = (ok.0, ok.1)
may-call d S w (AdmitGot q) ok = (ok.0, ok.1, ok.2, ok.3, ok.4)
may-call d S w (AdmitLost q now) ok = (ok.0, ok.1, ok.2, ok.3, ok.4)
may-call d S w (Arrivals n) ok = tt
may-call d S w (Finished n) ok = tt
may-call d S w (TakeReturn part bits) ok = ok.0
may-call d S w (TakeChange part bits) ok = ok.0
may-call d S w _ ok = ok

pub is-answered : (d : Shape) (S : ObjectState) → IsTable d S → IsAnswered d S
is-answered d S tab = record {
  always = answered d S tab;
  only = only-answer d S;
  of_call = λ w c. call-of-answer d S w c (S.slots (call_site c (S.places w)));
  may = may-call d S;
}
