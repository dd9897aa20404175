-- How cursors grow: a task set is shut only once its tuples are all claimed, and no cursor wraps. It rules out a claim that
-- is answered a range past the total.
use Rattle.std.proofs.Common.{◌≡◌, ◌≢◌, ℕ, ◌+◌, ◌*◌, ◌<◌, ◌≤◌, ◌⊎◌, Bool, true, not, List, [], ◌∷◌}
use Rattle.std.proofs.Common.{refl, sym, ap, ◌∙◌, subst, inl, inr, ⊎_elim, arith, eq-eqb}
use Rattle.slot_history.specs.declared.shape.Shape.{Shape}
use Rattle.slot_history.specs.declared.shape.TheConstants.{MOST_CLAIM}
use Rattle.slot_history.specs.declared.act.Act.{Act}
use Rattle.slot_history.specs.declared.act.Act.TheVariants.{Enter, LookOpen, LookInvalid}
use Rattle.slot_history.specs.declared.act.Act.TheVariants.{LookVacant, ClaimRange, ClaimUsed}
use Rattle.slot_history.specs.declared.act.Act.TheVariants.{ShutWon, ShutLost, LeaveLeft, LeaveOwe}
use Rattle.slot_history.specs.declared.act.Act.TheVariants.{PayLast, PayDone, MarkMarked}
use Rattle.slot_history.specs.declared.act.Act.TheVariants.{MarkMissed, SweepLast, SweepOthers}
use Rattle.slot_history.specs.declared.act.Act.TheVariants.{ReserveGot, AdmitGot, NoteDone}
use Rattle.slot_history.specs.declared.act.Act.TheVariants.{SetTotal, Install, Release, Announce}
use Rattle.slot_history.specs.declared.act.Entry.{Entry}
use Rattle.slot_history.specs.declared.place.Place.{Place}
use Rattle.slot_history.specs.declared.place.Place.TheVariants.{Free, Used, Leading, Asking}
use Rattle.slot_history.specs.declared.place.Place.TheVariants.{Holding, Announcing}
use Rattle.slot_history.specs.Sets.{upd, count_of}
use Rattle.slot_history.specs.States.{SlotState, Empty, Reserved, Open, Shut, Finishing}
use Rattle.slot_history.specs.States.{ObjectState, slot_of, task_of, is_open, is_shut, is_inside}
use Rattle.slot_history.specs.States.{has_own_cell}
use Rattle.slot_history.specs.Steps.{site, moved, left, told_one, held_after, slot_after, claimed}
use Rattle.slot_history.specs.Steps.{shut_by, next, state_after}
use Rattle.slot_history.specs.Allowed.{IsAllowed}
use Rattle.slot_history.specs.Histories.{IsLegal}
use Rattle.slot_history.specs.Table.{IsTable}
use Rattle.slot_history.specs.Lives.{has_task}
use Rattle.slot_history.specs.Bounds.{is_used_at, is_claiming_at, IsCursorBound, AreCursors}
use Rattle.slot_history.specs.Bounds.{IsCursorLimit}
use Rattle.slot_history.proofs.Sets.{pick, upd-same, upd-cases, count-most}
use Rattle.slot_history.proofs.Table.{table, table-next}
use Rattle.slot_history.proofs.Places.{inside-slots}
use Rattle.slot_history.proofs.Growth.{open-or-shut, Grows, grows-claimed, grows-shut, grows}
use Rattle.slot_history.proofs.CursorBounds.{bound-next}

-- ---- who found all tuples claimed, and which task sets are shut

left-unused : (p : Place) (s id : ℕ) → left p ≢ Used s id
left-unused (Leading t jd) s id e = absurd (cc)
left-unused _ s id e = absurd (cc)

told-unused : (d : Shape) (t : ℕ) (again : Bool) (k s id : ℕ) → told_one d (Announcing t again k) ≢ Used s id
told-unused d t again k s id = pick (k + 1) d.workers Free (Announcing t again (k + 1)) (λ q. q ≢ Used s id) (λ i e. absurd (cc)) (λ n e. absurd (cc))

became-used : (d : Shape) (S : ObjectState) (w : ℕ) (a : Act) (s id : ℕ) → IsAllowed d S w a → moved d a (S.places w) ≡ Used s id → (S.places w ≡ Used s id)
    ⊎ ((n : ℕ) × (a ≡ ClaimUsed n))
became-used d S w (Enter t) s id ok e = absurd (cc)
became-used d S w (LookOpen jd) s id ok e = absurd (cc)
became-used d S w LookInvalid s id ok e = absurd (cc)
became-used d S w LookVacant s id ok e = absurd (cc)
became-used d S w (ClaimUsed n) s id ok e = inr (n, refl)
became-used d S w ShutWon s id ok e = absurd (cc)
became-used d S w ShutLost s id ok e = absurd (cc)
became-used d S w LeaveLeft s id ok e = absurd (left-unused (S.places w) s id e)
became-used d S w (LeaveOwe jd) s id ok e = absurd (cc)
became-used d S w PayLast s id ok e = absurd (cc)
became-used d S w PayDone s id ok e = absurd (cc)
became-used d S w MarkMarked s id ok e = absurd (let r : Asking ok.0 ok.1 (ok.2 + 1) (ok.3 + 1) ≡ Used s id = sym (ap (moved d MarkMarked) ok.4) ∙ e in cc)
became-used d S w MarkMissed s id ok e = absurd (let r : Asking ok.0 ok.1 (ok.2 + 1) (ok.3 + 0) ≡ Used s id = sym (ap (moved d MarkMissed) ok.4) ∙ e in cc)
became-used d S w SweepLast s id ok e = absurd (cc)
became-used d S w (SweepOthers n) s id ok e = absurd (cc)
became-used d S w (ReserveGot t) s id ok e = absurd (cc)
became-used d S w (AdmitGot q) s id ok e = absurd (let r : Holding ok.0 (held_after (AdmitGot q) ok.1) ≡ Used s id = sym (ap (moved d (AdmitGot q)) ok.2)
    ∙ e in cc)
became-used d S w (NoteDone k) s id ok e = absurd (
    let r : Holding ok.0 (held_after (NoteDone k) ok.1) ≡ Used s id = sym (ap (moved d (NoteDone k)) ok.2) ∙ e in cc)
became-used d S w (SetTotal t) s id ok e = absurd (
    let r : Holding ok.0 (held_after (SetTotal t) ok.1) ≡ Used s id = sym (ap (moved d (SetTotal t)) ok.2) ∙ e in cc)
became-used d S w (Install jd) s id ok e = absurd (cc)
became-used d S w Release s id ok e = absurd (cc)
became-used d S w Announce s id ok e = absurd (told-unused d ok.0 ok.1 ok.2 s id (sym (ap (moved d Announce) ok.3) ∙ e))
became-used d S w _ s id ok e = inl e

becomes-shut : (d : Shape) (w : ℕ) (a : Act) (x : SlotState) → is_shut (slot_after d w a x) ≡ true → (is_shut x ≡ true) ⊎ ((a ≡ ShutWon) × (is_open x ≡ true))
becomes-shut d w a (Shut t e) h = inl refl
becomes-shut d w ShutWon (Open t) h = inr (refl, refl)
becomes-shut d w (ClaimRange n from to) (Open t) h = absurd (cc)
becomes-shut d w (ClaimUsed n) (Open t) h = absurd (cc)
becomes-shut d w _ (Open t) h = absurd (cc)
becomes-shut d w (ReserveGot s) Empty h = absurd (cc)
becomes-shut d w _ Empty h = absurd (cc)
becomes-shut d w (Install id) (Reserved u k) h = absurd (cc)
becomes-shut d w _ (Reserved u k) h = absurd (cc)
becomes-shut d w (Install id) (Finishing jd u k) h = absurd (cc)
becomes-shut d w _ (Finishing jd u k) h = absurd (cc)

-- the slot at which a worker found all tuples claimed has a task set
used-task : (d : Shape) (S : ObjectState) → IsTable d S → (v s id : ℕ) → v < d.workers → S.places v ≡ Used s id → has_task (S.slots s) ≡ true
used-task d S ok v s id low at = open-or-shut (S.slots s)
    (inside-slots d S ok s v id low (ap (λ p. has_own_cell p s) at ∙ eq-eqb s s refl) (ap (λ p. is_inside p id) at ∙ eq-eqb id id refl)).0

abbrev Spent : SlotState → Type 0
Spent x = (task_of x).total ≤ (task_of x).cursor

spent-grows : (x y : SlotState) → Grows x y → Spent x → Spent y
spent-grows x y g h = let a : (task_of y).total ≡ (task_of x).total = g.total in let b : (task_of x).cursor ≤ (task_of y).cursor = g.cursor in
    let c : (task_of x).total ≤ (task_of x).cursor = h in omega arith

-- a slot that has a task set before and after a call
spent-after : (d : Shape) (S : ObjectState) (w : ℕ) (a : Act) (s : ℕ) → has_task (S.slots s) ≡ true → has_task ((next d S w a).slots s) ≡ true
    → Spent (S.slots s) → Spent ((next d S w a).slots s)
spent-after d S w a s before after h = let k : ℕ = site a (S.places w) in
    upd-cases S.slots k (slot_after d w a (S.slots k)) s (λ y. has_task y ≡ true → Spent y)
    (λ e t. spent-grows (S.slots k) _ (grows d w a (S.slots k) (ap (λ j. has_task (S.slots j)) (sym e) ∙ before) t) (subst (λ j. Spent (S.slots j)) e h))
    (λ n t. h) after

-- the claim that found all tuples claimed
claimed-spent : (d : Shape) (S : ObjectState) (w n s id : ℕ) → IsAllowed d S w (ClaimUsed n) → moved d (ClaimUsed n) (S.places w) ≡ Used s id
    → Spent ((next d S w (ClaimUsed n)).slots s)
claimed-spent d S w n s id ok e =
    let k : ℕ = slot_of (S.places w) in
    let here : ok.0 ≡ k = sym (ap slot_of ok.2) in
    let same : k ≡ s = ap slot_of e in
    subst (λ j. Spent (upd S.slots k (claimed (S.slots k) n) j)) same
    (subst Spent (sym (upd-same S.slots k (claimed (S.slots k) n)))
    (spent-grows (S.slots k) (claimed (S.slots k) n) (grows-claimed (S.slots k) n) (subst (λ j. Spent (S.slots j)) here ok.5)))

used-next : (d : Shape) (S : ObjectState) (w : ℕ) (a : Act) → w < d.workers → IsTable d S → AreCursors d S → IsAllowed d S w a → (v s id : ℕ) → v < d.workers
    → (next d S w a).places v ≡ Used s id → Spent ((next d S w a).slots s)
used-next d S w a low tab ok fine v s id within at =
    let after : IsTable d (next d S w a) = table-next d S w a low tab fine in
    let now : has_task ((next d S w a).slots s) ≡ true = used-task d (next d S w a) after v s id within at in
    let still : (u : ℕ) → u < d.workers → S.places u ≡ Used s id → Spent ((next d S w a).slots s) =
    λ u h e. spent-after d S w a s (used-task d S tab u s id h e) now (ok.used u s id h e) in
    upd-cases S.places w (moved d a (S.places w)) v (λ q. q ≡ Used s id → Spent ((next d S w a).slots s))
    (λ i e. ⊎_elim (λ was. still w low was)
    (λ r. let P : Act → Type 0 = λ b. IsAllowed d S w b → moved d b (S.places w) ≡ Used s id → Spent ((next d S w b).slots s) in
    subst P (sym r.1) (λ f g. claimed-spent d S w r.0 s id f g) fine e)
    (became-used d S w a s id fine e))
    (λ n e. still v within e) at

shut-next : (d : Shape) (S : ObjectState) (w : ℕ) (a : Act) → w < d.workers → AreCursors d S → IsAllowed d S w a → (s : ℕ)
    → is_shut ((next d S w a).slots s) ≡ true → Spent ((next d S w a).slots s)
shut-next d S w a low ok fine s now = let k : ℕ = site a (S.places w) in
    upd-cases S.slots k (slot_after d w a (S.slots k)) s (λ y. is_shut y ≡ true → Spent y)
    (λ e h. ⊎_elim
    (λ was. spent-grows (S.slots k) _ (grows d w a (S.slots k) (open-or-shut (S.slots k) (inr was)) (open-or-shut _ (inr h))) (ok.shut k was))
    (λ r. let P : Act → Type 0 = λ b. IsAllowed d S w b → Spent (slot_after d w b (S.slots (site b (S.places w)))) in
    subst P (sym r.0) (λ f. let at : f.0 ≡ slot_of (S.places w) = sym (ap slot_of f.2) in
    subst (λ j. Spent (shut_by w (S.slots j))) at (spent-grows (S.slots f.0) _ (grows-shut (S.slots f.0) w) (ok.used w f.0 f.1 low f.2))) fine)
    (becomes-shut d w a (S.slots k) h))
    (λ n h. ok.shut s h) now

pub cursors-next : (d : Shape) (S : ObjectState) (w : ℕ) (a : Act) → w < d.workers → IsTable d S → AreCursors d S → IsAllowed d S w a
    → AreCursors d (next d S w a)
cursors-next d S w a low tab ok fine = record {
  used = used-next d S w a low tab ok fine;
  shut = shut-next d S w a low ok fine;
  bound = bound-next d S w a low ok fine;
}

pub cursors : (d : Shape) (h : List Entry) → IsLegal d h → AreCursors d (state_after d h)
cursors d [] legal = record { used = λ v s id low e. absurd (cc); shut = λ s h. absurd (cc); bound = λ s. tt }
cursors d (e ∷ es) legal = cursors-next d (state_after d es) e.worker e.act legal.0 (table d es legal.2) (cursors d es legal.2) legal.1

limit-of : (d : Shape) (places : ℕ → Place) (s : ℕ) (x : SlotState) → IsCursorBound d places s x
    → (task_of x).cursor ≤ (task_of x).total + MOST_CLAIM * (d.workers + 1)
limit-of d places s (Open t) k =
    let n : ℕ = count_of d.workers (λ v. is_used_at s (places v)) in
    let a : n ≤ d.workers = count-most d.workers (λ v. is_used_at s (places v)) in
    let c : ℕ = t.cursor in let m : ℕ = t.total in
    let b : c < m + MOST_CLAIM * (1 + n) = k in let r : c ≤ m + MOST_CLAIM * (d.workers + 1) = omega arith in r
limit-of d places s (Shut t e) k =
    let n : ℕ = count_of d.workers (λ v. not (is_claiming_at s (places v))) in
    let a : n ≤ d.workers = count-most d.workers (λ v. not (is_claiming_at s (places v))) in
    let c : ℕ = t.cursor in let m : ℕ = t.total in
    let b : c < m + MOST_CLAIM * (1 + n) = k in let r : c ≤ m + MOST_CLAIM * (d.workers + 1) = omega arith in r
limit-of d places s Empty k = omega arith
limit-of d places s (Reserved w h) k = omega arith
limit-of d places s (Finishing id w h) k = omega arith

pub cursor-limit : (d : Shape) (S : ObjectState) → AreCursors d S → IsCursorLimit d S
cursor-limit d S ok s = limit-of d S.places s (S.slots s) (ok.bound s)
