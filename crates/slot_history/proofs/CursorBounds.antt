-- How far cursors go past their totals.
use Rattle.std.proofs.Common.{◌≡◌, ◌≢◌, ℕ, ◌+◌, ◌*◌, ◌<◌, ◌≤◌, Bool, true, false, not, refl, sym}
use Rattle.std.proofs.Common.{ap, ◌∙◌, subst, ⊎_elim, arith, eq-eqb, eqb-true}
use mathlib.Core.Bool.{true≢false}
use Rattle.std.proofs.lemmas.Bool.{cases_Bool, not-true}
use Rattle.slot_history.specs.declared.shape.Shape.{Shape}
use Rattle.slot_history.specs.declared.shape.TheConstants.{MOST_CLAIM}
use Rattle.slot_history.specs.declared.act.Act.{Act}
use Rattle.slot_history.specs.declared.act.Act.TheVariants.{Enter, LookOpen, LookInvalid}
use Rattle.slot_history.specs.declared.act.Act.TheVariants.{LookVacant, ClaimRange, ClaimUsed}
use Rattle.slot_history.specs.declared.act.Act.TheVariants.{ShutWon, ShutLost, LeaveLeft, LeaveOwe}
use Rattle.slot_history.specs.declared.act.Act.TheVariants.{PayLast, PayDone, MarkMarked}
use Rattle.slot_history.specs.declared.act.Act.TheVariants.{MarkMissed, SweepLast, SweepOthers}
use Rattle.slot_history.specs.declared.act.Act.TheVariants.{ReserveGot, AdmitGot, NoteDone}
use Rattle.slot_history.specs.declared.act.Act.TheVariants.{SetTotal, Install, Release, Announce}
use Rattle.slot_history.specs.declared.place.Place.{Place}
use Rattle.slot_history.specs.declared.place.Place.TheVariants.{Free, Inside, Used, Leading}
use Rattle.slot_history.specs.declared.place.Place.TheVariants.{Announcing}
use Rattle.slot_history.specs.Sets.{upd, count_of}
use Rattle.slot_history.specs.States.{SlotState, Empty, Reserved, Open, Shut, Finishing}
use Rattle.slot_history.specs.States.{ObjectState, slot_of, task_of, is_open, is_shut, can_leave}
use Rattle.slot_history.specs.Steps.{site, moved, left, told_one, slot_after, claimed, shut_by}
use Rattle.slot_history.specs.Steps.{ended, finalised_by, held_on, opened, next}
use Rattle.slot_history.specs.Allowed.{IsAllowed}
use Rattle.slot_history.specs.Bounds.{is_used_at, is_claiming_at, IsCursorBound, AreCursors}
use Rattle.slot_history.proofs.Sets.{pick, upd-same, upd-cases, count-grows, count-grows_one}
use Rattle.slot_history.proofs.Records.{shut-closed}

-- ---- how far cursors go

used-cannot-leave : (p : Place) (s : ℕ) → is_used_at s p ≡ true → can_leave p ≡ true → ⊥
used-cannot-leave (Used t id) s h can = true≢false (sym can)
used-cannot-leave _ s h can = true≢false (sym h)

left-not-claiming : (p : Place) (s : ℕ) → is_claiming_at s (left p) ≡ true → ⊥
left-not-claiming (Leading t id) s h = true≢false (sym h)
left-not-claiming _ s h = true≢false (sym h)

told-not-claiming : (d : Shape) (t : ℕ) (again : Bool) (k s : ℕ) → is_claiming_at s (told_one d (Announcing t again k)) ≡ true → ⊥
told-not-claiming d t again k s = pick (k + 1) d.workers Free (Announcing t again (k + 1)) (λ q. is_claiming_at s q ≡ true → ⊥) (λ e h. true≢false (sym h))
    (λ n h. true≢false (sym h))

-- who found all tuples of an open slot claimed is still there, unless it shuts the slot
used-stays : (d : Shape) (S : ObjectState) (w : ℕ) (a : Act) (s : ℕ) → IsAllowed d S w a → (a ≡ ShutWon → s ≢ site a (S.places w)) → is_open (S.slots s) ≡ true
    → is_used_at s (S.places w) ≡ true → is_used_at s (moved d a (S.places w)) ≡ true
used-stays d S w (Enter t) s ok far open_ h = absurd (true≢false (sym h ∙ ap (is_used_at s) ok.0))
used-stays d S w (LookOpen id) s ok far open_ h = absurd (true≢false (sym h ∙ ap (is_used_at s) ok.1))
used-stays d S w LookInvalid s ok far open_ h = absurd (true≢false (sym h ∙ ap (is_used_at s) ok.1))
used-stays d S w LookVacant s ok far open_ h = absurd (true≢false (sym h ∙ ap (is_used_at s) ok.1))
used-stays d S w (ClaimUsed n) s ok far open_ h = absurd (true≢false (sym h ∙ ap (is_used_at s) ok.2))
used-stays d S w ShutWon s ok far open_ h = absurd (let e : ok.0 ≡ s = eqb-true ok.0 s (sym (ap (is_used_at s) ok.2) ∙ h) in
    far refl (sym e ∙ sym (ap slot_of ok.2)))
used-stays d S w ShutLost s ok far open_ h = absurd (let e : ok.0 ≡ s = eqb-true ok.0 s (sym (ap (is_used_at s) ok.2) ∙ h) in
    shut-closed (S.slots s) (ap (λ j. is_shut (S.slots j)) (sym e) ∙ ok.3) open_)
used-stays d S w LeaveLeft s ok far open_ h = absurd (used-cannot-leave (S.places w) s h ok.0)
used-stays d S w (LeaveOwe id) s ok far open_ h = absurd (used-cannot-leave (S.places w) s h ok.0)
used-stays d S w PayLast s ok far open_ h = absurd (true≢false (sym h ∙ ap (is_used_at s) ok.2))
used-stays d S w PayDone s ok far open_ h = absurd (true≢false (sym h ∙ ap (is_used_at s) ok.2))
used-stays d S w MarkMarked s ok far open_ h = absurd (true≢false (sym h ∙ ap (is_used_at s) ok.4))
used-stays d S w MarkMissed s ok far open_ h = absurd (true≢false (sym h ∙ ap (is_used_at s) ok.4))
used-stays d S w SweepLast s ok far open_ h = absurd (true≢false (sym h ∙ ap (is_used_at s) ok.4))
used-stays d S w (SweepOthers n) s ok far open_ h = absurd (true≢false (sym h ∙ ap (is_used_at s) ok.4))
used-stays d S w (ReserveGot t) s ok far open_ h = absurd (true≢false (sym h ∙ ap (is_used_at s) ok.0))
used-stays d S w (AdmitGot q) s ok far open_ h = absurd (true≢false (sym h ∙ ap (is_used_at s) ok.2))
used-stays d S w (NoteDone k) s ok far open_ h = absurd (true≢false (sym h ∙ ap (is_used_at s) ok.2))
used-stays d S w (SetTotal t) s ok far open_ h = absurd (true≢false (sym h ∙ ap (is_used_at s) ok.2))
used-stays d S w (Install id) s ok far open_ h = absurd (true≢false (sym h ∙ ap (is_used_at s) ok.2))
used-stays d S w Release s ok far open_ h = absurd (true≢false (sym h ∙ ap (is_used_at s) ok.2))
used-stays d S w Announce s ok far open_ h = absurd (true≢false (sym h ∙ ap (is_used_at s) ok.3))
used-stays d S w _ s ok far open_ h = h

-- nobody begins to claim at a shut slot
claiming-was : (d : Shape) (S : ObjectState) (w : ℕ) (a : Act) (s : ℕ) → IsAllowed d S w a → is_shut (S.slots s) ≡ true
    → is_claiming_at s (moved d a (S.places w)) ≡ true → is_claiming_at s (S.places w) ≡ true
claiming-was d S w (Enter t) s ok shut_ h = absurd (cc)
claiming-was d S w (LookOpen id) s ok shut_ h = absurd (let e : ok.0 ≡ s = sym (ap slot_of ok.1) ∙ eqb-true (slot_of (S.places w)) s h in
    shut-closed (S.slots s) shut_ (ap (λ j. is_open (S.slots j)) (sym e) ∙ ok.2))
claiming-was d S w LookInvalid s ok shut_ h = absurd (cc)
claiming-was d S w LookVacant s ok shut_ h = absurd (cc)
claiming-was d S w (ClaimUsed n) s ok shut_ h = absurd (cc)
claiming-was d S w ShutWon s ok shut_ h = absurd (cc)
claiming-was d S w ShutLost s ok shut_ h = absurd (cc)
claiming-was d S w LeaveLeft s ok shut_ h = absurd (left-not-claiming (S.places w) s h)
claiming-was d S w (LeaveOwe id) s ok shut_ h = absurd (cc)
claiming-was d S w PayLast s ok shut_ h = absurd (cc)
claiming-was d S w PayDone s ok shut_ h = absurd (cc)
claiming-was d S w MarkMarked s ok shut_ h = absurd (true≢false (sym h ∙ ap (λ p. is_claiming_at s (moved d MarkMarked p)) ok.4))
claiming-was d S w MarkMissed s ok shut_ h = absurd (true≢false (sym h ∙ ap (λ p. is_claiming_at s (moved d MarkMissed p)) ok.4))
claiming-was d S w SweepLast s ok shut_ h = absurd (cc)
claiming-was d S w (SweepOthers n) s ok shut_ h = absurd (cc)
claiming-was d S w (ReserveGot t) s ok shut_ h = absurd (cc)
claiming-was d S w (AdmitGot q) s ok shut_ h = absurd (true≢false (sym h ∙ ap (λ p. is_claiming_at s (moved d (AdmitGot q) p)) ok.2))
claiming-was d S w (NoteDone k) s ok shut_ h = absurd (true≢false (sym h ∙ ap (λ p. is_claiming_at s (moved d (NoteDone k) p)) ok.2))
claiming-was d S w (SetTotal t) s ok shut_ h = absurd (true≢false (sym h ∙ ap (λ p. is_claiming_at s (moved d (SetTotal t) p)) ok.2))
claiming-was d S w (Install id) s ok shut_ h = absurd (cc)
claiming-was d S w Release s ok shut_ h = absurd (cc)
claiming-was d S w Announce s ok shut_ h = absurd (told-not-claiming d ok.0 ok.1 ok.2 s (sym (ap (λ p. is_claiming_at s (moved d Announce p)) ok.3) ∙ h))
claiming-was d S w _ s ok shut_ h = h

-- a bound that other places keep
keeps : (d : Shape) (f g : ℕ → Place) (s : ℕ) (x : SlotState)
    → (is_open x ≡ true → count_of d.workers (λ v. is_used_at s (f v)) ≤ count_of d.workers (λ v. is_used_at s (g v)))
    → (is_shut x ≡ true → count_of d.workers (λ v. not (is_claiming_at s (f v))) ≤ count_of d.workers (λ v. not (is_claiming_at s (g v))))
    → IsCursorBound d f s x → IsCursorBound d g s x
keeps d f g s (Open t) used claiming h = let c : ℕ = t.cursor in let n : ℕ = t.total in
    let a : ℕ = count_of d.workers (λ v. is_used_at s (f v)) in let b : ℕ = count_of d.workers (λ v. is_used_at s (g v)) in
    let k : a ≤ b = used refl in let i : c < n + MOST_CLAIM * (1 + a) = h in let r : c < n + MOST_CLAIM * (1 + b) = omega arith in r
keeps d f g s (Shut t e) used claiming h = let c : ℕ = t.cursor in let n : ℕ = t.total in
    let a : ℕ = count_of d.workers (λ v. not (is_claiming_at s (f v))) in let b : ℕ = count_of d.workers (λ v. not (is_claiming_at s (g v))) in
    let k : a ≤ b = claiming refl in let i : c < n + MOST_CLAIM * (1 + a) = h in let r : c < n + MOST_CLAIM * (1 + b) = omega arith in r
keeps d f g s _ used claiming h = tt

bound-range : (d : Shape) (g : ℕ → Place) (s n : ℕ) (x : SlotState) → (task_of x).cursor < (task_of x).total → n ≤ MOST_CLAIM
    → IsCursorBound d g s (claimed x n)
bound-range d g s n (Open t) below most = let c : ℕ = t.cursor in let m : ℕ = t.total in let b : ℕ = count_of d.workers (λ v. is_used_at s (g v)) in
    let i : c < m = below in let r : c + n < m + MOST_CLAIM * (1 + b) = omega arith in r
bound-range d g s n (Shut t e) below most = let c : ℕ = t.cursor in let m : ℕ = t.total in let b : ℕ = count_of d.workers (λ v. not (is_claiming_at s (g v))) in
    let i : c < m = below in let r : c + n < m + MOST_CLAIM * (1 + b) = omega arith in r
bound-range d g s n _ below most = tt

bound-used : (d : Shape) (f g : ℕ → Place) (s n : ℕ) (x : SlotState) → n ≤ MOST_CLAIM
    → count_of d.workers (λ v. is_used_at s (f v)) + 1 ≤ count_of d.workers (λ v. is_used_at s (g v))
    → count_of d.workers (λ v. not (is_claiming_at s (f v))) + 1 ≤ count_of d.workers (λ v. not (is_claiming_at s (g v)))
    → IsCursorBound d f s x → IsCursorBound d g s (claimed x n)
bound-used d f g s n (Open t) most used claiming h = let c : ℕ = t.cursor in let m : ℕ = t.total in
    let a : ℕ = count_of d.workers (λ v. is_used_at s (f v)) in let b : ℕ = count_of d.workers (λ v. is_used_at s (g v)) in
    let k : a + 1 ≤ b = used in let i : c < m + MOST_CLAIM * (1 + a) = h in let r : c + n < m + MOST_CLAIM * (1 + b) = omega arith in r
bound-used d f g s n (Shut t e) most used claiming h = let c : ℕ = t.cursor in let m : ℕ = t.total in
    let a : ℕ = count_of d.workers (λ v. not (is_claiming_at s (f v))) in let b : ℕ = count_of d.workers (λ v. not (is_claiming_at s (g v))) in
    let k : a + 1 ≤ b = claiming in let i : c < m + MOST_CLAIM * (1 + a) = h in let r : c + n < m + MOST_CLAIM * (1 + b) = omega arith in r
bound-used d f g s n _ most used claiming h = tt

bound-shut : (d : Shape) (f g : ℕ → Place) (s w : ℕ) (x : SlotState) → is_open x ≡ true
    → count_of d.workers (λ v. is_used_at s (f v)) ≤ count_of d.workers (λ v. not (is_claiming_at s (g v))) → IsCursorBound d f s x
    → IsCursorBound d g s (shut_by w x)
bound-shut d f g s w (Open t) open_ more h = let c : ℕ = t.cursor in let m : ℕ = t.total in
    let a : ℕ = count_of d.workers (λ v. is_used_at s (f v)) in let b : ℕ = count_of d.workers (λ v. not (is_claiming_at s (g v))) in
    let k : a ≤ b = more in let i : c < m + MOST_CLAIM * (1 + a) = h in let r : c < m + MOST_CLAIM * (1 + b) = omega arith in r
bound-shut d f g s w (Shut t e) open_ more h = absurd (cc)
bound-shut d f g s w _ open_ more h = tt

bound-ended : (d : Shape) (g : ℕ → Place) (s w : ℕ) (a : Act) (x : SlotState) → IsCursorBound d g s x → IsCursorBound d g s (ended d w a x)
bound-ended d g s w a (Shut t e) h = h
bound-ended d g s w a (Open t) h = h
bound-ended d g s w a _ h = tt

bound-last : (d : Shape) (g : ℕ → Place) (s w : ℕ) (x : SlotState) → IsCursorBound d g s x → IsCursorBound d g s (finalised_by w x)
bound-last d g s w (Open t) h = h
bound-last d g s w _ h = tt

bound-held : (d : Shape) (g : ℕ → Place) (s : ℕ) (a : Act) (x : SlotState) → IsCursorBound d g s x → IsCursorBound d g s (held_on a x)
bound-held d g s a (Shut t e) h = h
bound-held d g s a (Open t) h = h
bound-held d g s a _ h = tt

bound-fresh : (d : Shape) (g : ℕ → Place) (s id m : ℕ) → IsCursorBound d g s (Open (record { id = id; total = m; cursor = 0 }))
bound-fresh d g s id m = let b : ℕ = count_of d.workers (λ v. is_used_at s (g v)) in let r : 0 < m + MOST_CLAIM * (1 + b) = omega arith in r

bound-opened : (d : Shape) (g : ℕ → Place) (s id : ℕ) (x : SlotState) → IsCursorBound d g s x → IsCursorBound d g s (opened id x)
bound-opened d g s id (Shut t e) h = h
bound-opened d g s id (Open t) h = h
bound-opened d g s id Empty h = tt
bound-opened d g s id (Reserved u k) h = bound-fresh d g s id _
bound-opened d g s id (Finishing jd u k) h = bound-fresh d g s id _

used-not-claiming : (p : Place) (s : ℕ) → is_used_at s p ≡ true → not (is_claiming_at s p) ≡ true
used-not-claiming (Used t id) s h = refl
used-not-claiming (Inside t id) s h = absurd (cc)
used-not-claiming _ s h = refl

not-back : (a b : Bool) → (a ≡ true → b ≡ true) → not b ≡ true → not a ≡ true
not-back false b forth h = refl
not-back true b forth h = absurd (true≢false (sym (forth refl) ∙ not-true b h))

-- the two counts over a call
used-count : (d : Shape) (S : ObjectState) (w : ℕ) (a : Act) (s : ℕ) → IsAllowed d S w a → (a ≡ ShutWon → s ≢ site a (S.places w)) → is_open (S.slots s) ≡ true
    → count_of d.workers (λ v. is_used_at s (S.places v)) ≤ count_of d.workers (λ v. is_used_at s ((next d S w a).places v))
used-count d S w a s fine far open_ = count-grows d.workers (λ v. is_used_at s (S.places v)) (λ v. is_used_at s ((next d S w a).places v))
    (λ v low h. upd-cases S.places w (moved d a (S.places w)) v (λ q. is_used_at s q ≡ true)
    (λ e. used-stays d S w a s fine far open_ (sym (ap (λ u. is_used_at s (S.places u)) e) ∙ h)) (λ n. h))

claiming-count : (d : Shape) (S : ObjectState) (w : ℕ) (a : Act) (s : ℕ) → IsAllowed d S w a → is_shut (S.slots s) ≡ true
    → count_of d.workers (λ v. not (is_claiming_at s (S.places v))) ≤ count_of d.workers (λ v. not (is_claiming_at s ((next d S w a).places v)))
claiming-count d S w a s fine shut_ = count-grows d.workers (λ v. not (is_claiming_at s (S.places v))) (λ v. not (is_claiming_at s ((next d S w a).places v)))
    (λ v low h. upd-cases S.places w (moved d a (S.places w)) v (λ q. not (is_claiming_at s q) ≡ true)
    (λ e. not-back (is_claiming_at s (moved d a (S.places w))) (is_claiming_at s (S.places w)) (claiming-was d S w a s fine shut_)
    (sym (ap (λ u. not (is_claiming_at s (S.places u))) e) ∙ h))
    (λ n. h))

-- one more worker found all tuples claimed
one-more-used : (d : Shape) (f : ℕ → Place) (w s id : ℕ) → w < d.workers → f w ≡ Inside s id
    → (count_of d.workers (λ v. is_used_at s (f v)) + 1 ≤ count_of d.workers (λ v. is_used_at s (upd f w (Used s id) v)))
    × (count_of d.workers (λ v. not (is_claiming_at s (f v))) + 1 ≤ count_of d.workers (λ v. not (is_claiming_at s (upd f w (Used s id) v))))
one-more-used d f w s id low at = let g : ℕ → Place = upd f w (Used s id) in (
  count-grows_one d.workers (λ v. is_used_at s (f v)) (λ v. is_used_at s (g v)) w low (ap (is_used_at s) at) (ap (is_used_at s) (upd-same f w (Used s id))
      ∙ eq-eqb s s refl)
      (λ v k h. upd-cases f w (Used s id) v (λ q. is_used_at s q ≡ true) (λ e. eq-eqb s s refl) (λ n. h)),
  count-grows_one d.workers (λ v. not (is_claiming_at s (f v)))
      (λ v. not (is_claiming_at s (g v))) w low (ap (λ q. not (is_claiming_at s q)) at ∙ ap not (eq-eqb s s refl)) (ap
      (λ q. not (is_claiming_at s q)) (upd-same f w (Used s id)))
      (λ v k h. upd-cases f w (Used s id) v (λ q. not (is_claiming_at s q) ≡ true) (λ e. refl) (λ n. h)),
)

-- the slot of the call, by the place of its worker
abbrev Bounds : Shape → ObjectState → ℕ → Act → Place → Type 0
Bounds d S w a p = let s = site a p in IsCursorBound d S.places s (S.slots s) → IsCursorBound d (upd S.places w (moved d a p)) s (slot_after d w a (S.slots s))

shut-count : (d : Shape) (f : ℕ → Place) (w s id : ℕ) → count_of d.workers (λ v. is_used_at s (f v)) ≤ count_of d.workers
    (λ v. not (is_claiming_at s (upd f w (Leading s id) v)))
shut-count d f w s id = count-grows d.workers (λ v. is_used_at s (f v)) (λ v. not (is_claiming_at s (upd f w (Leading s id) v)))
    (λ v low h. upd-cases f w (Leading s id) v (λ q. not (is_claiming_at s q) ≡ true) (λ e. refl) (λ n. used-not-claiming (f v) s h))

-- the calls that bear on a cursor
abbrev is_claim_or_shut : Act → Bool
is_claim_or_shut (ClaimRange n from to) = true
is_claim_or_shut (ClaimUsed n) = true
is_claim_or_shut ShutWon = true
is_claim_or_shut _ = false

-- the others leave a bound that the new places keep
bound-after : (d : Shape) (g : ℕ → Place) (s w : ℕ) (a : Act) (x : SlotState) → is_claim_or_shut a ≡ false → IsCursorBound d g s x
    → IsCursorBound d g s (slot_after d w a x)
bound-after d g s w (ClaimRange n from to) x other h = absurd (cc)
bound-after d g s w (ClaimUsed n) x other h = absurd (cc)
bound-after d g s w ShutWon x other h = absurd (cc)
bound-after d g s w PayLast x other h = bound-last d g s w x h
bound-after d g s w PayDone x other h = bound-ended d g s w PayDone x h
bound-after d g s w MarkMarked x other h = bound-ended d g s w MarkMarked x h
bound-after d g s w MarkMissed x other h = bound-ended d g s w MarkMissed x h
bound-after d g s w SweepLast x other h = bound-last d g s w x h
bound-after d g s w (SweepOthers n) x other h = bound-ended d g s w (SweepOthers n) x h
bound-after d g s w (ReserveGot t) x other h = tt
bound-after d g s w (AdmitGot q) x other h = bound-held d g s (AdmitGot q) x h
bound-after d g s w (NoteDone k) x other h = bound-held d g s (NoteDone k) x h
bound-after d g s w (SetTotal t) x other h = bound-held d g s (SetTotal t) x h
bound-after d g s w (Install id) x other h = bound-opened d g s id x h
bound-after d g s w Release x other h = tt
bound-after d g s w _ x other h = h

bounds-special : (d : Shape) (S : ObjectState) (w : ℕ) (a : Act) → w < d.workers → IsAllowed d S w a → is_claim_or_shut a ≡ true → Bounds d S w a (S.places w)
bounds-special d S w (ClaimRange n from to) low ok this = λ h. let at : ok.0 ≡ slot_of (S.places w) = sym (ap slot_of ok.2) in
    bound-range d (upd S.places w (S.places w)) (slot_of (S.places w)) n (S.slots (slot_of (S.places w))) (subst
    (λ j. (task_of (S.slots j)).cursor < (task_of (S.slots j)).total) at (subst (λ j. j < (task_of (S.slots ok.0)).total) ok.5 ok.6)) ok.4
bounds-special d S w (ClaimUsed n) low ok this = subst (Bounds d S w (ClaimUsed n)) (sym ok.2)
    (λ h. let r = one-more-used d S.places w ok.0 ok.1 low ok.2 in bound-used d S.places (upd S.places w (Used ok.0 ok.1)) ok.0 n (S.slots ok.0) ok.4 r.0 r.1 h)
bounds-special d S w ShutWon low ok this = subst (Bounds d S w ShutWon) (sym ok.2)
    (λ h. bound-shut d S.places (upd S.places w (Leading ok.0 ok.1)) ok.0 w (S.slots ok.0) ok.3 (shut-count d S.places w ok.0 ok.1) h)
bounds-special d S w _ low ok this = absurd (cc)

shut-is : (a : Act) → is_claim_or_shut a ≡ false → a ≢ ShutWon
shut-is a other e = true≢false (sym (ap is_claim_or_shut e) ∙ other)

pub bound-next : (d : Shape) (S : ObjectState) (w : ℕ) (a : Act) → w < d.workers → AreCursors d S → IsAllowed d S w a → (s : ℕ)
    → IsCursorBound d (next d S w a).places s ((next d S w a).slots s)
bound-next d S w a low ok fine s =
    let k : ℕ = site a (S.places w) in
    let g : ℕ → Place = upd S.places w (moved d a (S.places w)) in
    let same : (j : ℕ) → (a ≡ ShutWon → j ≢ k) → IsCursorBound d g j (S.slots j) =
    λ j far. keeps d S.places g j (S.slots j) (used-count d S w a j fine far) (claiming-count d S w a j fine) (ok.bound j) in
    let here : IsCursorBound d g k (slot_after d w a (S.slots k)) = ⊎_elim
    (λ this. bounds-special d S w a low fine this (ok.bound k))
    (λ other. bound-after d g k w a (S.slots k) other (same k (λ i. absurd (shut-is a other i))))
    (cases_Bool (is_claim_or_shut a)) in
    upd-cases S.slots k (slot_after d w a (S.slots k)) s (λ y. IsCursorBound d g s y)
    (λ e. subst (λ j. IsCursorBound d g j (slot_after d w a (S.slots k))) (sym e) here)
    (λ n. same s (λ i. n))
