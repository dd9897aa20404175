-- The other workers meet their duty to the slot of a call.
use Rattle.std.proofs.Common.{◌≡◌, ◌≢◌, ℕ, ◌+◌, ◌<◌, Bool, true, false, cond, eqb, not, ◌&&◌, refl}
use Rattle.std.proofs.Common.{sym, ap, ◌∙◌, subst, eq-eqb, eqb-true, ⊎_elim}
use mathlib.Core.Logic.{dite}
use mathlib.Core.Bool.{true≢false}
use native.Mathlib.Decide.{ℕ_discrete}
use Rattle.std.proofs.lemmas.Bool.{and_from, and_left, false_from_ne_true}
use Rattle.slot_history.specs.declared.shape.Shape.{Shape}
use Rattle.slot_history.specs.declared.act.Act.{Act}
use Rattle.slot_history.specs.declared.act.Act.TheVariants.{Enter, LookOpen, LookInvalid}
use Rattle.slot_history.specs.declared.act.Act.TheVariants.{LookVacant, ClaimRange, ClaimUsed}
use Rattle.slot_history.specs.declared.act.Act.TheVariants.{ShutWon, ShutLost, LeaveLeft, LeaveOwe}
use Rattle.slot_history.specs.declared.act.Act.TheVariants.{PayLast, PayDone, MarkMarked}
use Rattle.slot_history.specs.declared.act.Act.TheVariants.{MarkMissed, SweepLast, SweepOthers}
use Rattle.slot_history.specs.declared.act.Act.TheVariants.{ReserveGot, ReserveTaken, AdmitGot}
use Rattle.slot_history.specs.declared.act.Act.TheVariants.{AdmitLost, Arrivals, Finished, NoteDone}
use Rattle.slot_history.specs.declared.act.Act.TheVariants.{SetTotal, Install, Release, Announce}
use Rattle.slot_history.specs.declared.act.Act.TheVariants.{TakeReturn, TakeChange}
use Rattle.slot_history.specs.declared.place.Held.{Held}
use Rattle.slot_history.specs.declared.place.Place.{Place}
use Rattle.slot_history.specs.declared.place.Place.TheVariants.{Entered, Astray, Inside, Used}
use Rattle.slot_history.specs.declared.place.Place.TheVariants.{Behind, Leading, Asking, Owing}
use Rattle.slot_history.specs.declared.place.Place.TheVariants.{Holding}
use Rattle.slot_history.specs.Sets.{upd}
use Rattle.slot_history.specs.States.{TaskSet, Ending, SlotState, Empty, Open, Shut, ObjectState}
use Rattle.slot_history.specs.States.{slot_of, is_empty, is_open, is_swept, is_at, owes}
use Rattle.slot_history.specs.States.{reservation, finalisation}
use Rattle.slot_history.specs.Steps.{site, slot_after, held_after, shut_by, first_ending}
use Rattle.slot_history.specs.Steps.{next_asked, ending_after, ended, finalised_by, held_on, opened}
use Rattle.slot_history.specs.Allowed.{IsAllowed, debts, next_is_at}
use Rattle.slot_history.specs.Table.{Visits, Unasked, Owes, Holds, owing, duty_at_end, duty_of}
use Rattle.slot_history.specs.Table.{works, lags, nth_other, HasAsked, IsLeading, Meets, IsChain}
use Rattle.slot_history.specs.Table.{IsChainOf}
use Rattle.slot_history.proofs.Sets.{upd-same, upd-else, none-counted}
use Rattle.slot_history.proofs.Others.{next-is, next-unasked, all-asked}
use Rattle.slot_history.proofs.Duties.{owing-else, end-cases, end-rests, end-leads, end-owes}
use Rattle.slot_history.proofs.Duties.{end-clear, end-unasked, held-other, asking-leads, owing-owes}
use Rattle.slot_history.proofs.Duties.{holding-holds, leads-slot, owes-slot, holds-slot}
use Rattle.slot_history.proofs.OwnDuty.{claims-same}

-- ---- the other workers at the slot of the call

-- another worker v meets its duty to the slot of the call afterwards, if it did before
abbrev Theirs : Shape → ObjectState → ℕ → Act → ℕ → Place → Type 0
Theirs d S w a v p = let s = site a p in IsChainOf d (S.slots s) → Meets d s (duty_of (S.slots s) w) p
    → Meets d s (duty_of (S.slots s) v) (S.places v) → Meets d s (duty_of (slot_after d w a (S.slots s)) v) (S.places v)

works-lags : (q : Place) → works q ≡ true → lags q ≡ true
works-lags (Inside s id) h = refl
works-lags (Used s id) h = refl
works-lags _ h = absurd (cc)

theirs-shut : (d : Shape) (x : SlotState) (s v w : ℕ) (q : Place) → v ≢ w → is_open x ≡ true → Meets d s (duty_of x v) q → Meets d s (duty_of (shut_by w x) v) q
theirs-shut d (Open t) s v w q other h m = subst (λ D. Meets d s D q) (sym (end-unasked t.id (first_ending w) v other refl))
    (λ b k. let r = m b k in (works-lags q r.0, r.1))
theirs-shut d _ s v w q other h m = absurd (cc)

-- where nobody but w has still to come or to pay, all others are visitors
visits-at-end : (d : Shape) (t : TaskSet) (e : Ending) (s v : ℕ) (q : Place) → (v ≡ e.coordinator → e.swept ≡ true) → (v ≢ e.coordinator → e.asked v ≡ true)
    → owing e v ≡ false
    → Meets d s (duty_at_end t.id e v) q → Meets d s Visits q
visits-at-end d t e s v q rests was clear = end-cases t.id e v (λ D. Meets d s D q → Meets d s Visits q)
    (λ a b m. m)
    (λ a b m. absurd (true≢false (sym (rests a) ∙ b)))
    (λ a b c m. absurd (true≢false (sym c ∙ clear)))
    (λ a b c m. m)
    (λ a b m. absurd (true≢false (sym (was a) ∙ b)))

theirs-last : (d : Shape) (x : SlotState) (t : TaskSet) (e : Ending) (s v w : ℕ) (q : Place) → v ≢ w → x ≡ Shut t e → (v ≡ e.coordinator → e.swept ≡ true)
    → (v ≢ e.coordinator → e.asked v ≡ true) → owing e v ≡ false
    → Meets d s (duty_of x v) q → Meets d s (duty_of (finalised_by w x) v) q
theirs-last d x t e s v w q other is rests was clear m = subst (λ y. Meets d s (duty_of (finalised_by w y) v) q) (sym is)
    (subst (λ D. Meets d s D q) (sym (held-other (finalisation t.id) v w other))
    (visits-at-end d t e s v q rests was clear (subst (λ y. Meets d s (duty_of y v) q) is m)))

theirs-paid-last : (d : Shape) (x : SlotState) (s v w id : ℕ) (q : Place) → v < d.workers → v ≢ w → IsChainOf d x → is_swept x ≡ true
    → debts d (ended d w PayDone x) ≡ 0
    → duty_of x w ≡ Owes id → Meets d s (duty_of x v) q → Meets d s (duty_of (finalised_by w x) v) q
theirs-paid-last d x s v w id q low other chain swept clear owe m =
    let r = owes-slot x w id owe in let t : TaskSet = r.0 in let e : Ending = r.1 in
    let k : IsChain d e = subst (IsChainOf d) r.2 chain in
    let was_swept : e.swept ≡ true = subst (λ y. is_swept y ≡ true) r.2 swept in
    let none : debts d (ended d w PayDone (Shut t e)) ≡ 0 = subst (λ y. debts d (ended d w PayDone y) ≡ 0) r.2 clear in
    theirs-last d x t e s v w q other r.2 (λ c. was_swept) (k.all_asked was_swept v low)
    (sym (owing-else d e v w other) ∙ none-counted d.workers (owes (ended d w PayDone (Shut t e))) none v low) m

theirs-swept-last : (d : Shape) (x : SlotState) (s v w id n k : ℕ) (q : Place) → v < d.workers → v ≢ w → IsChainOf d x → n + 1 ≡ d.workers → debts d x ≡ 0
    → Meets d s (duty_of x w) (Asking s id n k) → Meets d s (duty_of x v) q → Meets d s (duty_of (finalised_by w x) v) q
theirs-swept-last d x s v w id n k q low other chain full clear meets m =
    let r = asking-leads d s id n k (duty_of x w) meets in let e : Ending = r.0 in
    let is = leads-slot x w id e r.1 in let t : TaskSet = is.0 in
    let c : IsChain d e = subst (IsChainOf d) is.1 chain in
    theirs-last d x t e s v w q other is.1 (λ j. absurd (other (j ∙ sym is.3)))
    (λ j. all-asked d e n k r.2 c.coordinator full v low j)
    (none-counted d.workers (owing e) (subst (λ y. debts d y ≡ 0) is.1 clear) v low) m

-- a place that leads one end leads another with the same sets
leads-on : (d : Shape) (e g : Ending) (q : Place) → ((n m : ℕ) → HasAsked d e n m → HasAsked d g n m) → IsLeading d e q → IsLeading d g q
leads-on d e g (Leading s id) same h = same 0 0 h
leads-on d e g (Asking s id n m) same h = same n m h
leads-on d e g _ same h = absurd h

-- a payment of w is no matter of another worker
theirs-paid : (d : Shape) (x : SlotState) (s v w id : ℕ) (q : Place) → v ≢ w → duty_of x w ≡ Owes id → Meets d s (duty_of x v) q
    → Meets d s (duty_of (ended d w PayDone x) v) q
theirs-paid d x s v w id q other owe m =
    let r = owes-slot x w id owe in let t : TaskSet = r.0 in let e : Ending = r.1 in
    let g : Ending = ending_after d w PayDone e in
    subst (λ y. Meets d s (duty_of (ended d w PayDone y) v) q) (sym r.2)
    (end-cases t.id e v (λ D. Meets d s D q → Meets d s (duty_at_end t.id g v) q)
    (λ a b k. subst (λ D. Meets d s D q) (sym (end-rests t.id g v a b)) k)
    (λ a b k. subst (λ D. Meets d s D q) (sym (end-leads t.id g v a b)) (
      k.0,
      k.1,
      leads-on d e g q
          (λ n j h. record { first = h.first; marks = h.marks; within = h.within }) k.2,
    ))
    (λ a b c k. subst (λ D. Meets d s D q) (sym (end-owes t.id g v a b (owing-else d e v w other ∙ c))) k)
    (λ a b c k. subst (λ D. Meets d s D q) (sym (end-clear t.id g v a b (owing-else d e v w other ∙ c))) k)
    (λ a b k. subst (λ D. Meets d s D q) (sym (end-unasked t.id g v a b)) k)
    (subst (λ y. Meets d s (duty_of y v) q) r.2 m))

at-owes : (d : Shape) (s id : ℕ) (q : Place) → is_at q s ≡ true → Meets d s (Unasked id) q → Meets d s (Owes id) q
at-owes d s id (Entered t) h m = (eqb-true t s h, refl, λ b. absurd (cc))
at-owes d s id (Astray t) h m = (eqb-true t s h, refl, λ b. absurd (cc))
at-owes d s id (Inside t jd) h m = let e : t ≡ s = eqb-true t s h in (e, refl, λ b. (m refl e).1)
at-owes d s id (Used t jd) h m = let e : t ≡ s = eqb-true t s h in (e, refl, λ b. (m refl e).1)
at-owes d s id (Behind t jd) h m = let e : t ≡ s = eqb-true t s h in (e, refl, λ b. (m refl e).1)
at-owes d s id (Leading t jd) h m = let r : false ≡ true = (m refl (eqb-true t s h)).0 in absurd (cc)
at-owes d s id _ h m = absurd (cc)

not-at-visits : (d : Shape) (s id : ℕ) (q : Place) → is_at q s ≡ false → Meets d s (Unasked id) q → Meets d s Visits q
not-at-visits d s id (Inside t jd) h m = λ b k. true≢false (sym (eq-eqb t s k) ∙ h)
not-at-visits d s id (Used t jd) h m = λ b k. true≢false (sym (eq-eqb t s k) ∙ h)
not-at-visits d s id (Behind t jd) h m = λ b k. true≢false (sym (eq-eqb t s k) ∙ h)
not-at-visits d s id (Leading t jd) h m = λ b k. true≢false (sym (eq-eqb t s k) ∙ h)
not-at-visits d s id (Asking t jd n j) h m = λ b k. let r : false ≡ true = (m refl k).0 in absurd (cc)
not-at-visits d s id (Owing t jd) h m = λ b k. let r : false ≡ true = (m refl k).0 in absurd (cc)
not-at-visits d s id (Holding t j) h m = λ b k. let r : false ≡ true = (m refl k).0 in absurd (cc)
not-at-visits d s id _ h m = λ b. absurd (cc)

-- the end g is the end e with one more asked worker u, which is marked or not
record AsksOne (e g : Ending) (u : ℕ) (marks : Bool) : Type 0 where
  lead : g.coordinator ≡ e.coordinator
  asked_one : g.asked u ≡ true
  asked : (v : ℕ) → v ≢ u → g.asked v ≡ e.asked v
  owing_one : owing g u ≡ marks
  owing_else : (v : ℕ) → v ≢ u → owing g v ≡ owing e v

-- a worker that was not asked before and is asked now owes where it is at the slot
asked-now : (d : Shape) (s v id : ℕ) (g : Ending) (q : Place) (marks : Bool) → v ≢ g.coordinator → g.asked v ≡ true → owing g v ≡ marks → is_at q s ≡ marks
    → Meets d s (Unasked id) q → Meets d s (duty_at_end id g v) q
asked-now d s v id g q true other was owes_now here m = subst (λ D. Meets d s D q) (sym (end-owes id g v other was owes_now)) (at-owes d s id q here m)
asked-now d s v id g q false other was owes_now here m = subst (λ D. Meets d s D q) (sym (end-clear id g v other was owes_now)) (not-at-visits d s id q here m)

-- the asked worker gets its duty by where it is, and all others keep theirs; `a` is one of the two marks, and `u` is asked
theirs-asked : (d : Shape) (x : SlotState) (a : Act) (s v w id n m : ℕ) (q : Place) (marks : Bool) → v ≢ w → IsChainOf d x
    → ((e : Ending) → IsChain d e → HasAsked d e n m → AsksOne e (ending_after d w a e) (nth_other e.coordinator n) marks)
    → ((e : Ending) (t : TaskSet) → x ≡ Shut t e → next_asked d e ≡ nth_other e.coordinator n → v ≡ nth_other e.coordinator n → is_at q s ≡ marks)
    → n + 1 < d.workers
    → Meets d s (duty_of x w) (Asking s id n m) → Meets d s (duty_of x v) q → Meets d s (duty_of (ended d w a x) v) q
theirs-asked d x a s v w id n m q marks other chain asks here more meets mine_too =
    let r = asking-leads d s id n m (duty_of x w) meets in let e : Ending = r.0 in
    let is = leads-slot x w id e r.1 in let t : TaskSet = is.0 in
    let c : IsChain d e = subst (IsChainOf d) is.1 chain in
    let g : Ending = ending_after d w a e in
    let u : ℕ = nth_other e.coordinator n in
    let k : AsksOne e g u marks = asks e c r.2 in
    let out : e.asked u ≡ false = next-unasked d e n m r.2 in
    let differs : e.asked v ≡ true → v ≢ u = λ b j. true≢false (sym b ∙ ap e.asked j ∙ out) in
    subst (λ y. Meets d s (duty_of (ended d w a y) v) q) (sym is.1)
    (end-cases t.id e v (λ D. Meets d s D q → Meets d s (duty_at_end t.id g v) q)
    (λ l b z. absurd (other (l ∙ sym is.3)))
    (λ l b z. absurd (other (l ∙ sym is.3)))
    (λ l b f z. subst (λ D. Meets d s D q) (sym (end-owes t.id g v (λ j. l (j ∙ k.lead)) (k.asked v (differs b) ∙ b) (k.owing_else v (differs b) ∙ f))) z)
    (λ l b f z. subst (λ D. Meets d s D q) (sym (end-clear t.id g v (λ j. l (j ∙ k.lead)) (k.asked v (differs b) ∙ b) (k.owing_else v (differs b) ∙ f))) z)
    (λ l b z. dite (ℕ_discrete v u)
    (λ j. asked-now d s v t.id g q marks (λ i. l (i ∙ k.lead)) (ap g.asked j ∙ k.asked_one) (ap (owing g) j ∙ k.owing_one)
    (here e t is.1 (next-is d e n m r.2 c.coordinator more) j) z)
    (λ j. subst (λ D. Meets d s D q) (sym (end-unasked t.id g v (λ i. l (i ∙ k.lead)) (k.asked v j ∙ b))) z))
    (subst (λ y. Meets d s (duty_of y v) q) is.1 mine_too))

asks-marked : (d : Shape) (e : Ending) (n m w : ℕ) → IsChain d e → HasAsked d e n m → n + 1 < d.workers
    → AsksOne e (ending_after d w MarkMarked e) (nth_other e.coordinator n) true
asks-marked d e n m w chain h more =
    let u : ℕ = next_asked d e in
    let out : e.asked u ≡ false = ap e.asked (next-is d e n m h chain.coordinator more) ∙ next-unasked d e n m h in
    let unpaid : e.paid u ≡ false = false_from_ne_true (e.paid u) (λ k. true≢false (sym (chain.marked u (chain.paid u k)) ∙ out)) in
    subst (λ k. AsksOne e (ending_after d w MarkMarked e) k true) (next-is d e n m h chain.coordinator more) (record {
      lead = refl;
      asked_one = upd-same e.asked u true;
      asked = λ v k. upd-else e.asked u true v k;
      owing_one = and_from (upd e.marked u true u) (not (e.paid u)) (upd-same e.marked u true) (ap not unpaid);
      owing_else = λ v k. ap (λ b. b && not (e.paid v)) (upd-else e.marked u true v k);
    })

asks-missed : (d : Shape) (e : Ending) (n m w : ℕ) → IsChain d e → HasAsked d e n m → n + 1 < d.workers
    → AsksOne e (ending_after d w MarkMissed e) (nth_other e.coordinator n) false
asks-missed d e n m w chain h more =
    let u : ℕ = next_asked d e in
    let out : e.asked u ≡ false = ap e.asked (next-is d e n m h chain.coordinator more) ∙ next-unasked d e n m h in
    let unmarked : e.marked u ≡ false = false_from_ne_true (e.marked u) (λ k. true≢false (sym (chain.marked u k) ∙ out)) in
    subst (λ k. AsksOne e (ending_after d w MarkMissed e) k false) (next-is d e n m h chain.coordinator more) (record {
      lead = refl;
      asked_one = upd-same e.asked u true;
      asked = λ v k. upd-else e.asked u true v k;
      owing_one = and_left (e.marked u) (not (e.paid u)) unmarked;
      owing_else = λ v k. refl;
    })

next-at : (d : Shape) (S : ObjectState) (e : Ending) (t : TaskSet) (s v : ℕ) (b : Bool) → S.slots s ≡ Shut t e → v ≡ next_asked d e
    → next_is_at d S s (S.slots s) ≡ b → is_at (S.places v) s ≡ b
next-at d S e t s v b is same h = ap (λ u. is_at (S.places u) s) same ∙ sym (ap (next_is_at d S s) is) ∙ h

theirs-swept : (d : Shape) (x : SlotState) (s v w id n m k : ℕ) (q : Place) → v ≢ w → Meets d s (duty_of x w) (Asking s id n m) → Meets d s (duty_of x v) q
    → Meets d s (duty_of (ended d w (SweepOthers k) x) v) q
theirs-swept d x s v w id n m k q other meets mine_too =
    let r = asking-leads d s id n m (duty_of x w) meets in let e : Ending = r.0 in
    let is = leads-slot x w id e r.1 in let t : TaskSet = is.0 in
    let g : Ending = ending_after d w (SweepOthers k) e in
    subst (λ y. Meets d s (duty_of (ended d w (SweepOthers k) y) v) q) (sym is.1)
    (end-cases t.id e v (λ D. Meets d s D q → Meets d s (duty_at_end t.id g v) q)
    (λ l b z. absurd (other (l ∙ sym is.3)))
    (λ l b z. absurd (other (l ∙ sym is.3)))
    (λ l b f z. subst (λ D. Meets d s D q) (sym (end-owes t.id g v l b f)) z)
    (λ l b f z. subst (λ D. Meets d s D q) (sym (end-clear t.id g v l b f)) z)
    (λ l b z. subst (λ D. Meets d s D q) (sym (end-unasked t.id g v l b)) z)
    (subst (λ y. Meets d s (duty_of y v) q) is.1 mine_too))

theirs-reserved : (d : Shape) (x : SlotState) (s v w : ℕ) (q : Place) → v ≢ w → is_empty x ≡ true → Meets d s (duty_of x v) q
    → Meets d s (cond (eqb v w) (Holds reservation) Visits) q
theirs-reserved d Empty s v w q other h m = subst (λ D. Meets d s D q) (sym (held-other reservation v w other)) m
theirs-reserved d _ s v w q other h m = absurd (cc)

-- beside a holder all are visitors
visits-held : (d : Shape) (x : SlotState) (s v w : ℕ) (h : Held) (q : Place) → v ≢ w → Meets d s (duty_of x w) (Holding s h) → Meets d s (duty_of x v) q
    → Meets d s Visits q
visits-held d x s v w h q other meets m = ⊎_elim
    (λ is. subst (λ D. Meets d s D q) (held-other h v w other) (subst (λ y. Meets d s (duty_of y v) q) is m))
    (λ r. subst (λ D. Meets d s D q) (held-other h v w other) (subst (λ y. Meets d s (duty_of y v) q) r.1 m))
    (holds-slot x w h (holding-holds d s h (duty_of x w) meets))

theirs-held : (d : Shape) (x : SlotState) (a : Act) (s v w : ℕ) (h : Held) (q : Place) → v ≢ w → Meets d s (duty_of x w) (Holding s h)
    → Meets d s (duty_of x v) q → Meets d s (duty_of (held_on a x) v) q
theirs-held d x a s v w h q other meets m = let visits : Meets d s Visits q = visits-held d x s v w h q other meets m in ⊎_elim
    (λ is. subst (λ y. Meets d s (duty_of (held_on a y) v) q) (sym is) (subst (λ D. Meets d s D q) (sym (held-other (held_after a h) v w other)) visits))
    (λ r. subst (λ y. Meets d s (duty_of (held_on a y) v) q) (sym r.1) (subst (λ D. Meets d s D q) (sym (held-other (held_after a h) v w other)) visits))
    (holds-slot x w h (holding-holds d s h (duty_of x w) meets))

theirs-opened : (d : Shape) (x : SlotState) (s v w id : ℕ) (h : Held) (q : Place) → v ≢ w → Meets d s (duty_of x w) (Holding s h) → Meets d s (duty_of x v) q
    → Meets d s (duty_of (opened id x) v) q
theirs-opened d x s v w id h q other meets m = let visits : Meets d s Visits q = visits-held d x s v w h q other meets m in ⊎_elim
    (λ is. subst (λ y. Meets d s (duty_of (opened id y) v) q) (sym is) (λ b k. absurd (visits b k)))
    (λ r. subst (λ y. Meets d s (duty_of (opened id y) v) q) (sym r.1) (λ b k. absurd (visits b k)))
    (holds-slot x w h (holding-holds d s h (duty_of x w) meets))

pub theirs : (d : Shape) (S : ObjectState) (w : ℕ) (a : Act) (v : ℕ) → v < d.workers → v ≢ w → IsAllowed d S w a → Theirs d S w a v (S.places w)
theirs d S w (Enter s) v low other ok = λ c m k. k
theirs d S w (LookOpen id) v low other ok = λ c m k. k
theirs d S w LookInvalid v low other ok = λ c m k. k
theirs d S w LookVacant v low other ok = λ c m k. k
theirs d S w (ClaimRange n from to) v low other ok = λ c m k. subst
    (λ D. Meets d (slot_of (S.places w)) D (S.places v)) (sym (claims-same (S.slots (slot_of (S.places w))) n v)) k
theirs d S w (ClaimUsed n) v low other ok = λ c m k. subst
    (λ D. Meets d (slot_of (S.places w)) D (S.places v)) (sym (claims-same (S.slots (slot_of (S.places w))) n v)) k
theirs d S w ShutWon v low other ok = subst (Theirs d S w ShutWon v) (sym ok.2) (λ c m k. theirs-shut d (S.slots ok.0) ok.0 v w (S.places v) other ok.3 k)
theirs d S w ShutLost v low other ok = λ c m k. k
theirs d S w LeaveLeft v low other ok = λ c m k. k
theirs d S w (LeaveOwe id) v low other ok = λ c m k. k
theirs d S w PayLast v low other ok = subst (Theirs d S w PayLast v) (sym ok.2)
    (λ c m k. theirs-paid-last d (S.slots ok.0) ok.0 v w ok.1 (S.places v) low other c ok.3 ok.4 (owing-owes d ok.0 ok.1 _ m) k)
theirs d S w PayDone v low other ok = subst (Theirs d S w PayDone v) (sym ok.2)
    (λ c m k. theirs-paid d (S.slots ok.0) ok.0 v w ok.1 (S.places v) other (owing-owes d ok.0 ok.1 _ m) k)
theirs d S w MarkMarked v low other ok = subst (Theirs d S w MarkMarked v) (sym ok.4)
    (λ c m k. theirs-asked d (S.slots ok.0) MarkMarked ok.0 v w ok.1 ok.2 ok.3 (S.places v) true other c
    (λ e chain h. asks-marked d e ok.2 ok.3 w chain h ok.5) (λ e t is u_is j. next-at d S e t ok.0 v true is (j ∙ sym u_is) ok.6) ok.5 m k)
theirs d S w MarkMissed v low other ok = subst (Theirs d S w MarkMissed v) (sym ok.4)
    (λ c m k. theirs-asked d (S.slots ok.0) MarkMissed ok.0 v w ok.1 ok.2 ok.3 (S.places v) false other c
    (λ e chain h. asks-missed d e ok.2 ok.3 w chain h ok.5) (λ e t is u_is j. next-at d S e t ok.0 v false is (j ∙ sym u_is) ok.6) ok.5 m k)
theirs d S w SweepLast v low other ok = subst (Theirs d S w SweepLast v) (sym ok.4)
    (λ c m k. theirs-swept-last d (S.slots ok.0) ok.0 v w ok.1 ok.2 ok.3 (S.places v) low other c ok.5 ok.6 m k)
theirs d S w (SweepOthers n) v low other ok = subst (Theirs d S w (SweepOthers n) v) (sym ok.4)
    (λ c m k. theirs-swept d (S.slots ok.0) ok.0 v w ok.1 ok.2 ok.3 n (S.places v) other m k)
theirs d S w (ReserveGot s) v low other ok = λ c m k. theirs-reserved d (S.slots s) s v w (S.places v) other ok.2 k
theirs d S w (ReserveTaken s word) v low other ok = λ c m k. k
theirs d S w (AdmitGot q) v low other ok = subst (Theirs d S w (AdmitGot q) v) (sym ok.2)
    (λ c m k. theirs-held d (S.slots ok.0) (AdmitGot q) ok.0 v w ok.1 (S.places v) other m k)
theirs d S w (AdmitLost q now) v low other ok = λ c m k. k
theirs d S w (Arrivals n) v low other ok = λ c m k. k
theirs d S w (Finished n) v low other ok = λ c m k. k
theirs d S w (NoteDone n) v low other ok = subst (Theirs d S w (NoteDone n) v) (sym ok.2)
    (λ c m k. theirs-held d (S.slots ok.0) (NoteDone n) ok.0 v w ok.1 (S.places v) other m k)
theirs d S w (SetTotal t) v low other ok = subst (Theirs d S w (SetTotal t) v) (sym ok.2)
    (λ c m k. theirs-held d (S.slots ok.0) (SetTotal t) ok.0 v w ok.1 (S.places v) other m k)
theirs d S w (Install id) v low other ok = subst (Theirs d S w (Install id) v) (sym ok.2)
    (λ c m k. theirs-opened d (S.slots ok.0) ok.0 v w id ok.1 (S.places v) other m k)
theirs d S w Release v low other ok = subst (Theirs d S w Release v) (sym ok.2) (λ c m k. visits-held d (S.slots ok.0) ok.0 v w ok.1 (S.places v) other m k)
theirs d S w Announce v low other ok = λ c m k. k
theirs d S w (TakeReturn part bits) v low other ok = λ c m k. k
theirs d S w (TakeChange part bits) v low other ok = λ c m k. k
