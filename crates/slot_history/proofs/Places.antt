-- What the table of places says at once: of quiet states, of who is inside, and of cells. Each rules out a state word that
-- is published only after the look: a worker that saw a slot open would be inside when its task set is finalised.
use Rattle.std.proofs.Common.{◌≡◌, ◌≢◌, ℕ, ◌<◌, ◌⊎◌, Bool, true, false, eqb, not, refl, sym, ap}
use Rattle.std.proofs.Common.{◌∙◌, subst, inl, inr, ⊎_elim, eq-eqb, eqb-true}
use mathlib.Core.Bool.{true≢false}
use Rattle.std.proofs.lemmas.Bool.{and_from, and_parts, false_from_ne_true}
use Rattle.slot_history.specs.declared.shape.Shape.{Shape}
use Rattle.slot_history.specs.declared.place.Held.{Held}
use Rattle.slot_history.specs.declared.place.Place.{Place}
use Rattle.slot_history.specs.declared.place.Place.TheVariants.{Free, Inside, Used, Behind, Leading}
use Rattle.slot_history.specs.declared.place.Place.TheVariants.{Holding}
use Rattle.slot_history.specs.States.{TaskSet, Ending, SlotState, Empty, Reserved, Open, Shut}
use Rattle.slot_history.specs.States.{Finishing, ObjectState, slot_of, id_at, id_of, is_empty}
use Rattle.slot_history.specs.States.{is_open, is_shut, owes, has_cell, is_inside, has_own_cell}
use Rattle.slot_history.specs.States.{holds}
use Rattle.slot_history.specs.Notices.{IsQuiet}
use Rattle.slot_history.specs.Table.{Duty, Visits, Works, Unasked, Owes, Leads, Holds, owing}
use Rattle.slot_history.specs.Table.{duty_at_end, duty_of, binds, Meets, IsChain, IsChainOf}
use Rattle.slot_history.specs.Table.{IsTable}
use Rattle.slot_history.specs.Bounds.{AreDebtsWithin}
use Rattle.slot_history.specs.Laws.{QuietSlots, InsideSlots, OneDebt, ShutInside}
use Rattle.slot_history.specs.Laws.{CoordinatorOwesNothing, OneOwner}
use Rattle.slot_history.proofs.Sets.{pick, count-split, count-fewer}
use Rattle.slot_history.proofs.Duties.{IsHeldBy, end-cases, end-leads, end-owes, held-mine}
use Rattle.slot_history.proofs.Duties.{owes-duty, owes-slot, leading-leads, leads-slot}
use Rattle.slot_history.proofs.Duties.{holding-holds, holds-slot}

-- ---- who is inside, by its place

-- whoever has its own cell of a slot is inside, at this slot
pub own-has : (p : Place) (s : ℕ) → has_own_cell p s ≡ true → has_cell p ≡ true
own-has p s h = (and_parts (has_cell p) (eqb (slot_of p) s) h).0

pub own-cell-slot : (p : Place) (s : ℕ) → has_own_cell p s ≡ true → slot_of p ≡ s
own-cell-slot p s h = eqb-true (slot_of p) s (and_parts (has_cell p) (eqb (slot_of p) s) h).1

-- with the id that its place names
pub own-inside : (p : Place) (s : ℕ) → has_own_cell p s ≡ true → is_inside p (id_at p) ≡ true
own-inside p s h = and_from (has_cell p) (eqb (id_at p) (id_at p)) (own-has p s h) (eq-eqb (id_at p) (id_at p) refl)

pub has-own : (p : Place) → has_cell p ≡ true → has_own_cell p (slot_of p) ≡ true
has-own p h = and_from (has_cell p) (eqb (slot_of p) (slot_of p)) h (eq-eqb (slot_of p) (slot_of p) refl)

has-binds : (p : Place) → has_cell p ≡ true → binds p ≡ true
has-binds (Inside t id) h = refl
has-binds (Used t id) h = refl
has-binds (Behind t id) h = refl
has-binds (Leading t id) h = refl
has-binds _ h = absurd (cc)

own-cell-binds : (p : Place) (s : ℕ) → has_own_cell p s ≡ true → binds p ≡ true
own-cell-binds p s h = has-binds p (own-has p s h)

-- whoever is inside with an id has its own cell of the slot that it names
pub inside-cell : (p : Place) (id : ℕ) → is_inside p id ≡ true → has_own_cell p (slot_of p) ≡ true
inside-cell p id h = has-own p (and_parts (has_cell p) (eqb (id_at p) id) h).0

pub inside-id : (p : Place) (id : ℕ) → is_inside p id ≡ true → id_at p ≡ id
inside-id p id h = eqb-true (id_at p) id (and_parts (has_cell p) (eqb (id_at p) id) h).1

-- ---- slots by the duties that they give

pub works-slot : (x : SlotState) (v id : ℕ) → duty_of x v ≡ Works id → (t : TaskSet) × (x ≡ Open t) × (t.id ≡ id)
works-slot (Open t) v id = λ k. (t, refl, cc)
works-slot (Shut t e) v id = λ k. absurd (end-cases t.id e v (λ D. D ≢ Works id) (λ a b c. absurd (cc)) (λ a b c. absurd (cc)) (λ a b c i. absurd (cc))
    (λ a b c i. absurd (cc)) (λ a b i. absurd (cc)) k)
works-slot Empty v id = λ k. absurd (cc)
works-slot (Reserved w h) v id = λ k. absurd (pick v w (Holds h) Visits (λ D. D ≢ Works id) (λ a c. absurd (cc)) (λ a c. absurd (cc)) k)
works-slot (Finishing jd w h) v id = λ k. absurd (pick v w (Holds h) Visits (λ D. D ≢ Works id) (λ a c. absurd (cc)) (λ a c. absurd (cc)) k)

pub unasked-slot : (x : SlotState) (v id : ℕ) → duty_of x v ≡ Unasked id → (t : TaskSet) × (e : Ending) × (x ≡ Shut t e) × (t.id ≡ id) × (e.asked v ≡ false)
unasked-slot (Shut t e) v id = end-cases t.id e v (λ D. D ≡ Unasked id → (u : TaskSet) × (g : Ending) × (Shut t e ≡ Shut u g) × (u.id ≡ id)
    × (g.asked v ≡ false))
    (λ a b c. absurd (cc)) (λ a b c. absurd (cc)) (λ a b c i. absurd (cc)) (λ a b c i. absurd (cc)) (λ a b i. (t, e, refl, cc, b))
unasked-slot (Open t) v id = λ k. absurd (cc)
unasked-slot Empty v id = λ k. absurd (cc)
unasked-slot (Reserved w h) v id = λ k. absurd (pick v w (Holds h) Visits (λ D. D ≢ Unasked id) (λ a c. absurd (cc)) (λ a c. absurd (cc)) k)
unasked-slot (Finishing jd w h) v id = λ k. absurd (pick v w (Holds h) Visits (λ D. D ≢ Unasked id) (λ a c. absurd (cc)) (λ a c. absurd (cc)) k)

-- the slot of a worker that has its own cell of it: open, or shut and not done with the worker
data InsideOf (x : SlotState) (v id : ℕ) : Type 0 where
  at_open : (t : TaskSet) → x ≡ Open t → t.id ≡ id → InsideOf x v id
  at_shut : (t : TaskSet) (e : Ending) → x ≡ Shut t e → t.id ≡ id → (owing e v ≡ true) ⊎ ((e.asked v ≡ false) ⊎ (v ≡ e.coordinator)) → InsideOf x v id

inside-by : (d : Shape) (x : SlotState) (s v : ℕ) (p : Place) (D : Duty) → duty_of x v ≡ D → has_own_cell p s ≡ true → Meets d s D p → InsideOf x v (id_at p)
inside-by d x s v p Visits is h m = absurd (m (own-cell-binds p s h) (own-cell-slot p s h))
inside-by d x s v p (Works id) is h m = let r = works-slot x v id is in at_open r.0 r.1 (r.2 ∙ sym (m (own-cell-binds p s h) (own-cell-slot p s h)).1)
inside-by d x s v p (Unasked id) is h m = let r = unasked-slot x v id is in
    at_shut r.0 r.1 r.2 (r.3 ∙ sym (m (own-cell-binds p s h) (own-cell-slot p s h)).1) (inr (inl r.4))
inside-by d x s v p (Owes id) is h m = let r = owes-slot x v id is in at_shut r.0 r.1 r.2 (r.3 ∙ sym (m.2 (own-cell-binds p s h))) (inl r.6)
inside-by d x s v p (Leads id e) is h m = let r = leads-slot x v id e is in at_shut r.0 e r.1 (r.2 ∙ sym m.1) (inr (inr r.3))
inside-by d x s v p (Holds k) is h m = absurd (let r : false ≡ true = subst (λ q. has_own_cell q s ≡ true) m h in true≢false (sym r))

inside-of : (d : Shape) (S : ObjectState) → IsTable d S → (s v : ℕ) → v < d.workers → has_own_cell (S.places v) s ≡ true
    → InsideOf (S.slots s) v (id_at (S.places v))
inside-of d S ok s v low h = inside-by d (S.slots s) s v (S.places v) (duty_of (S.slots s) v) refl h (ok.duty s v low)

inside-slot-by : (x : SlotState) (v id : ℕ) → InsideOf x v id → ((is_open x ≡ true) ⊎ (is_shut x ≡ true)) × (id_of x ≡ id)
inside-slot-by x v id (at_open t is same) = (inl (ap is_open is), ap id_of is ∙ same)
inside-slot-by x v id (at_shut t e is same how) = (inr (ap is_shut is), ap id_of is ∙ same)

pub inside-slots : (d : Shape) (S : ObjectState) → IsTable d S → InsideSlots d S
inside-slots d S ok s v id low cell h = let r = inside-slot-by (S.slots s) v (id_at (S.places v)) (inside-of d S ok s v low cell) in
    (r.0, r.1 ∙ inside-id (S.places v) id h)

shut-inside-by : (x : SlotState) (v id : ℕ) (t : TaskSet) (e : Ending) → x ≡ Shut t e → InsideOf x v id → (owing e v ≡ true)
    ⊎ ((e.asked v ≡ false) ⊎ (v ≡ e.coordinator))
shut-inside-by x v id t e is (at_open u open_ same) = absurd (let r : Open u ≡ Shut t e = sym open_ ∙ is in cc)
shut-inside-by x v id t e is (at_shut u g shut_ same how) = subst
    (λ k. (owing k v ≡ true) ⊎ ((k.asked v ≡ false) ⊎ (v ≡ k.coordinator))) (let r : Shut u g ≡ Shut t e = sym shut_ ∙ is in let k : g ≡ e = cc in k) how

pub shut-inside : (d : Shape) (S : ObjectState) → IsTable d S → ShutInside d S
shut-inside d S ok s v t e low is cell = shut-inside-by (S.slots s) v _ t e is (inside-of d S ok s v low cell)

-- ---- debts

pub one-debt : (d : Shape) (S : ObjectState) → IsTable d S → OneDebt d S
one-debt d S ok s t v low a b =
    let m : Meets d s (Owes (id_of (S.slots s))) (S.places v) = subst
    (λ D. Meets d s D (S.places v)) (owes-duty d (S.slots s) v (ok.chain s) a) (ok.duty s v low) in
    let k : Meets d t (Owes (id_of (S.slots t))) (S.places v) = subst
    (λ D. Meets d t D (S.places v)) (owes-duty d (S.slots t) v (ok.chain t) b) (ok.duty t v low) in
    sym m.0 ∙ k.0

-- the coordinator leads the end, and nobody that owes does
pub coordinator-owes-nothing : (d : Shape) (S : ObjectState) → IsTable d S → CoordinatorOwesNothing d S
coordinator-owes-nothing d S ok s id w low at =
    let r = leading-leads d s id (duty_of (S.slots s) w) (subst (Meets d s (duty_of (S.slots s) w)) at (ok.duty s w low)) in
    false_from_ne_true (owes (S.slots s) w) (λ h. let e : Leads id r.0 ≡ Owes (id_of (S.slots s)) = sym r.1 ∙ owes-duty d (S.slots s) w (ok.chain s) h in cc)

pub debts-within : (d : Shape) (S : ObjectState) → IsTable d S → AreDebtsWithin d S
debts-within d S ok s t e is = let c : IsChain d e = subst (IsChainOf d) is (ok.chain s) in (
  count-split d.workers e.marked e.paid c.paid,
  count-fewer d.workers e.marked e.coordinator c.coordinator (false_from_ne_true (e.marked e.coordinator)
      (λ k. c.asked e.coordinator (c.marked e.coordinator k) refl)),
)

-- ---- quiet states

quiet-end : (d : Shape) (S : ObjectState) (s : ℕ) (t : TaskSet) (e : Ending) → IsQuiet d S → IsChain d e
    → ((v : ℕ) → v < d.workers → Meets d s (duty_at_end t.id e v) Free) → (b : Bool) → e.swept ≡ b → ⊥
quiet-end d S s t e quiet chain meets false open_ = (subst
    (λ D. Meets d s D Free) (end-leads t.id e e.coordinator refl open_) (meets e.coordinator chain.coordinator)).2
quiet-end d S s t e quiet chain meets true swept =
    let r = chain.one_owes swept in
    let was : e.asked r.0 ≡ true = chain.marked r.0 (and_parts (e.marked r.0) (not (e.paid r.0)) r.2).0 in
    let m : Meets d s (Owes t.id) Free = subst (λ D. Meets d s D Free) (end-owes t.id e r.0 (chain.asked r.0 was) was r.2) (meets r.0 r.1) in
    true≢false (sym m.1)

quiet-slot : (d : Shape) (S : ObjectState) (s : ℕ) (x : SlotState) → IsQuiet d S → IsChainOf d x → ((v : ℕ) → v < d.workers → Meets d s (duty_of x v) Free)
    → (is_empty x ≡ true) ⊎ (is_open x ≡ true)
quiet-slot d S s Empty quiet chain meets = inl refl
quiet-slot d S s (Open t) quiet chain meets = inr refl
quiet-slot d S s (Reserved w h) quiet chain meets = absurd (let r : Free ≡ Holding s h = subst (λ D. Meets d s D Free) (held-mine h w) (meets w chain) in cc)
quiet-slot d S s (Finishing id w h) quiet chain meets = absurd (let r : Free ≡ Holding s h = subst (λ D. Meets d s D Free) (held-mine h w) (meets w chain) in
    cc)
quiet-slot d S s (Shut t e) quiet chain meets = absurd (quiet-end d S s t e quiet chain meets e.swept refl)

pub quiet-slots : (d : Shape) (S : ObjectState) → IsTable d S → QuietSlots d S
quiet-slots d S ok quiet s = quiet-slot d S s (S.slots s) quiet (ok.chain s)
    (λ v low. subst (Meets d s (duty_of (S.slots s) v)) (quiet v low) (ok.duty s v low))

-- ---- cells

holds-is : (p : Place) (s : ℕ) → holds p s ≡ true → (h : Held) × (p ≡ Holding s h)
holds-is (Holding t h) s k = (h, ap (λ j. Holding j h) (eqb-true t s k))
holds-is _ s k = absurd (cc)

-- the holder of a slot, as the slot names it
holder-of : (d : Shape) (S : ObjectState) → IsTable d S → (s u : ℕ) → u < d.workers → holds (S.places u) s ≡ true → (h : Held) × IsHeldBy u h (S.slots s)
holder-of d S ok s u low k = let r = holds-is (S.places u) s k in
    (r.0, holds-slot (S.slots s) u r.0 (holding-holds d s r.0 (duty_of (S.slots s) u) (subst (Meets d s (duty_of (S.slots s) u)) r.1 (ok.duty s u low))))

-- one holder, and nobody inside beside it
abbrev held_by : SlotState → ℕ
held_by (Reserved w h) = w
held_by (Finishing id w h) = w
held_by _ = 0

holder-is : (x : SlotState) (u : ℕ) (h : Held) → IsHeldBy u h x → held_by x ≡ u
holder-is x u h how = ⊎_elim (λ e. ap held_by e) (λ r. ap held_by r.1) how

-- a held slot is neither open nor shut
pub held-not : (x : SlotState) (u : ℕ) (h : Held) → IsHeldBy u h x → (is_open x ≡ true) ⊎ (is_shut x ≡ true) → ⊥
held-not x u h how open_ = ⊎_elim
    (λ e. ⊎_elim (λ k. true≢false (sym k ∙ ap is_open e)) (λ k. true≢false (sym k ∙ ap is_shut e)) open_)
    (λ r. ⊎_elim (λ k. true≢false (sym k ∙ ap is_open r.1)) (λ k. true≢false (sym k ∙ ap is_shut r.1)) open_) how

-- nobody is inside a slot that is held
pub held-outside : (d : Shape) (S : ObjectState) → IsTable d S → (s v u : ℕ) (k : Held) → v < d.workers → IsHeldBy u k (S.slots s)
    → has_own_cell (S.places v) s ≡ false
held-outside d S ok s v u k low held = false_from_ne_true (has_own_cell (S.places v) s)
    (λ cell. held-not (S.slots s) u k held (inside-slot-by (S.slots s) v (id_at (S.places v)) (inside-of d S ok s v low cell)).0)

inside-not-held : (d : Shape) (S : ObjectState) → IsTable d S → (s v u : ℕ) → v < d.workers → u < d.workers → has_own_cell (S.places v) s ≡ true
    → holds (S.places u) s ≡ true → ⊥
inside-not-held d S ok s v u low high cell k = let r = holder-of d S ok s u high k in
    held-not (S.slots s) u r.0 r.1 (inside-slot-by (S.slots s) v (id_at (S.places v)) (inside-of d S ok s v low cell)).0

pub one-owner : (d : Shape) (S : ObjectState) → IsTable d S → OneOwner d S
one-owner d S ok s v t u low high a b = ⊎_elim
    (λ x. ⊎_elim (λ y. x.0 ∙ sym y.0) (λ y. absurd (inside-not-held d S ok s t u low high x.1 y)) b)
    (λ x. ⊎_elim (λ y. absurd (inside-not-held d S ok s u t high low y.1 x))
    (λ y. let p = holder-of d S ok s t low x in let q = holder-of d S ok s u high y in sym (holder-is (S.slots s) t p.0 p.1)
    ∙ holder-is (S.slots s) u q.0 q.1) b) a
