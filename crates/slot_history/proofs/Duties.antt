-- Duties to a slot: which one a worker has, and what its place says of the slot.
use Rattle.std.proofs.Common.{◌≡◌, ◌≢◌, ℕ, ◌⊎◌, true, false, cond, eqb, not, ◌&&◌, refl, sym, ap}
use Rattle.std.proofs.Common.{◌∙◌, inl, inr, eq-eqb, ne_eqb}
use mathlib.Core.Bool.{true≢false}
use Rattle.std.proofs.lemmas.Bool.{cond_both, and_parts, and_right}
use Rattle.slot_history.specs.declared.shape.Shape.{Shape}
use Rattle.slot_history.specs.declared.act.Act.{Act}
use Rattle.slot_history.specs.declared.act.Act.TheVariants.{PayDone}
use Rattle.slot_history.specs.declared.place.Held.{Held}
use Rattle.slot_history.specs.declared.place.Place.TheVariants.{Leading, Asking, Owing, Holding}
use Rattle.slot_history.specs.Sets.{upd}
use Rattle.slot_history.specs.States.{TaskSet, Ending, SlotState, Empty, Reserved, Open, Shut}
use Rattle.slot_history.specs.States.{Finishing, id_of, owes}
use Rattle.slot_history.specs.Steps.{claimed, shut_by, held_on, ending_after}
use Rattle.slot_history.specs.Table.{Duty, Visits, Works, Unasked, Owes, Leads, Holds, owing}
use Rattle.slot_history.specs.Table.{duty_at_end, duty_of, HasAsked, Meets, IsChainOf}
use Rattle.slot_history.proofs.Sets.{pick, upd-same, upd-else}

-- ---- the duty to a slot whose task set is shut

pub end-cases : (id : ℕ) (e : Ending) (v : ℕ) (P : Duty → Type 0)
    → (v ≡ e.coordinator → e.swept ≡ true → P Visits)
    → (v ≡ e.coordinator → e.swept ≡ false → P (Leads id e))
    → (v ≢ e.coordinator → e.asked v ≡ true → owing e v ≡ true → P (Owes id))
    → (v ≢ e.coordinator → e.asked v ≡ true → owing e v ≡ false → P Visits)
    → (v ≢ e.coordinator → e.asked v ≡ false → P (Unasked id))
    → P (duty_at_end id e v)
end-cases id e v P rests leads owes clear unasked = pick v e.coordinator _ _ P
    (λ same. cond_both e.swept _ _ P (rests same) (leads same))
    (λ other. cond_both (e.asked v) _ _ P (λ was. cond_both (owing e v) _ _ P (owes other was) (clear other was)) (unasked other))

end-coordinator : (id : ℕ) (e : Ending) (v : ℕ) → v ≡ e.coordinator → duty_at_end id e v ≡ cond e.swept Visits (Leads id e)
end-coordinator id e v same = ap (λ b. cond b (cond e.swept Visits (Leads id e)) (cond (e.asked v) (cond (owing e v) (Owes id) Visits) (Unasked id)))
    (eq-eqb v e.coordinator same)

end-other : (id : ℕ) (e : Ending) (v : ℕ) → v ≢ e.coordinator → duty_at_end id e v ≡ cond (e.asked v) (cond (owing e v) (Owes id) Visits) (Unasked id)
end-other id e v other = ap (λ b. cond b (cond e.swept Visits (Leads id e)) (cond (e.asked v) (cond (owing e v) (Owes id) Visits) (Unasked id)))
    (ne_eqb v e.coordinator other)

pub end-rests : (id : ℕ) (e : Ending) (v : ℕ) → v ≡ e.coordinator → e.swept ≡ true → duty_at_end id e v ≡ Visits
end-rests id e v same h = end-coordinator id e v same ∙ ap (λ b. cond b Visits (Leads id e)) h

pub end-leads : (id : ℕ) (e : Ending) (v : ℕ) → v ≡ e.coordinator → e.swept ≡ false → duty_at_end id e v ≡ Leads id e
end-leads id e v same h = end-coordinator id e v same ∙ ap (λ b. cond b Visits (Leads id e)) h

pub end-owes : (id : ℕ) (e : Ending) (v : ℕ) → v ≢ e.coordinator → e.asked v ≡ true → owing e v ≡ true → duty_at_end id e v ≡ Owes id
end-owes id e v other was h = end-other id e v other ∙ ap (λ b. cond b (cond (owing e v) (Owes id) Visits) (Unasked id)) was ∙ ap
    (λ b. cond b (Owes id) Visits) h

pub end-clear : (id : ℕ) (e : Ending) (v : ℕ) → v ≢ e.coordinator → e.asked v ≡ true → owing e v ≡ false → duty_at_end id e v ≡ Visits
end-clear id e v other was h = end-other id e v other ∙ ap (λ b. cond b (cond (owing e v) (Owes id) Visits) (Unasked id)) was ∙ ap
    (λ b. cond b (Owes id) Visits) h

pub end-unasked : (id : ℕ) (e : Ending) (v : ℕ) → v ≢ e.coordinator → e.asked v ≡ false → duty_at_end id e v ≡ Unasked id
end-unasked id e v other was = end-other id e v other ∙ ap (λ b. cond b (cond (owing e v) (Owes id) Visits) (Unasked id)) was

-- ---- the duty to a slot that is held

pub held-mine : (h : Held) (w : ℕ) → cond (eqb w w) (Holds h) Visits ≡ Holds h
held-mine h w = ap (λ b. cond b (Holds h) Visits) (eq-eqb w w refl)

pub held-other : (h : Held) (v w : ℕ) → v ≢ w → cond (eqb v w) (Holds h) Visits ≡ Visits
held-other h v w other = ap (λ b. cond b (Holds h) Visits) (ne_eqb v w other)

-- ---- what the place of a worker that meets its duty says of the slot

-- a worker that owes has that duty
pub owes-duty : (d : Shape) (x : SlotState) (v : ℕ) → IsChainOf d x → owes x v ≡ true → duty_of x v ≡ Owes (id_of x)
owes-duty d (Shut t e) v chain h =
    let was : e.asked v ≡ true = chain.marked v (and_parts (e.marked v) (not (e.paid v)) h).0 in end-owes t.id e v (chain.asked v was) was h
owes-duty d Empty v chain h = absurd (cc)
owes-duty d (Reserved w k) v chain h = absurd (cc)
owes-duty d (Open t) v chain h = absurd (cc)
owes-duty d (Finishing id w k) v chain h = absurd (cc)

-- and none that does not owe has it
pub not-owes : (x : SlotState) (v id : ℕ) → owes x v ≡ false → duty_of x v ≢ Owes id
not-owes (Shut t e) v id h = end-cases t.id e v (λ D. D ≢ Owes id) (λ a b c. absurd (cc)) (λ a b c. absurd (cc)) (λ a b c k. true≢false (sym c ∙ h))
    (λ a b c k. absurd (cc)) (λ a b k. absurd (cc))
not-owes Empty v id h = λ k. absurd (cc)
not-owes (Reserved w k) v id h = pick v w (Holds k) Visits (λ D. D ≢ Owes id) (λ e c. absurd (cc)) (λ n c. absurd (cc))
not-owes (Open t) v id h = λ k. absurd (cc)
not-owes (Finishing jd w k) v id h = pick v w (Holds k) Visits (λ D. D ≢ Owes id) (λ e c. absurd (cc)) (λ n c. absurd (cc))

-- the duties that a place has
pub asking-leads : (d : Shape) (s id n m : ℕ) (D : Duty) → Meets d s D (Asking s id n m) → (e : Ending) × (D ≡ Leads id e) × HasAsked d e n m
asking-leads d s id n m (Leads jd e) k = (e, ap (λ i. Leads i e) (sym k.1), k.2)
asking-leads d s id n m Visits k = absurd (k refl refl)
asking-leads d s id n m (Works jd) k = let r = (k refl refl).0 in absurd (cc)
asking-leads d s id n m (Unasked jd) k = let r = (k refl refl).0 in absurd (cc)
asking-leads d s id n m (Owes jd) k = let r = k.1 in absurd (cc)
asking-leads d s id n m (Holds h) k = absurd (cc)

pub leading-leads : (d : Shape) (s id : ℕ) (D : Duty) → Meets d s D (Leading s id) → (e : Ending) × (D ≡ Leads id e) × HasAsked d e 0 0
leading-leads d s id (Leads jd e) k = (e, ap (λ i. Leads i e) (sym k.1), k.2)
leading-leads d s id Visits k = absurd (k refl refl)
leading-leads d s id (Works jd) k = let r = (k refl refl).0 in absurd (cc)
leading-leads d s id (Unasked jd) k = let r = (k refl refl).0 in absurd (cc)
leading-leads d s id (Owes jd) k = let r = k.1 in absurd (cc)
leading-leads d s id (Holds h) k = absurd (cc)

pub owing-owes : (d : Shape) (s id : ℕ) (D : Duty) → Meets d s D (Owing s id) → D ≡ Owes id
owing-owes d s id (Owes jd) k = ap Owes (sym (k.2 refl))
owing-owes d s id Visits k = absurd (k refl refl)
owing-owes d s id (Works jd) k = let r = (k refl refl).0 in absurd (cc)
owing-owes d s id (Unasked jd) k = let r = (k refl refl).0 in absurd (cc)
owing-owes d s id (Leads jd e) k = absurd k.2
owing-owes d s id (Holds h) k = absurd (cc)

pub holding-holds : (d : Shape) (s : ℕ) (h : Held) (D : Duty) → Meets d s D (Holding s h) → D ≡ Holds h
holding-holds d s h (Holds j) k = ap Holds (cc)
holding-holds d s h Visits k = absurd (k refl refl)
holding-holds d s h (Works jd) k = let r = (k refl refl).0 in absurd (cc)
holding-holds d s h (Unasked jd) k = let r = (k refl refl).0 in absurd (cc)
holding-holds d s h (Owes jd) k = let r = k.1 in absurd (cc)
holding-holds d s h (Leads jd e) k = absurd k.2

-- the slot that gives a duty
pub leads-slot : (x : SlotState) (v id : ℕ) (e : Ending) → duty_of x v ≡ Leads id e → (t : TaskSet) × (x ≡ Shut t e) × (t.id ≡ id) × (v ≡ e.coordinator)
    × (e.swept ≡ false)
leads-slot (Shut t g) v id e = end-cases t.id g v (λ D. D ≡ Leads id e → (u : TaskSet) × (Shut t g ≡ Shut u e) × (u.id ≡ id) × (v ≡ e.coordinator)
    × (e.swept ≡ false))
    (λ a b c. absurd (cc))
    (λ a b c. let r : g ≡ e = cc in (t, ap (Shut t) r, cc, a ∙ ap (λ z. z.coordinator) r, sym (ap (λ z. z.swept) r) ∙ b))
    (λ a b c k. absurd (cc)) (λ a b c k. absurd (cc)) (λ a b k. absurd (cc))
leads-slot Empty v id e = λ k. absurd (cc)
leads-slot (Reserved w h) v id e = λ k. absurd (pick v w (Holds h) Visits (λ D. D ≢ Leads id e) (λ a c. absurd (cc)) (λ a c. absurd (cc)) k)
leads-slot (Open t) v id e = λ k. absurd (cc)
leads-slot (Finishing jd w h) v id e = λ k. absurd (pick v w (Holds h) Visits (λ D. D ≢ Leads id e) (λ a c. absurd (cc)) (λ a c. absurd (cc)) k)

pub owes-slot : (x : SlotState) (v id : ℕ) → duty_of x v ≡ Owes id → (t : TaskSet) × (e : Ending) × (x ≡ Shut t e) × (t.id ≡ id) × (v ≢ e.coordinator)
    × (e.asked v ≡ true) × (owing e v ≡ true)
owes-slot (Shut t e) v id = end-cases t.id e v (λ D. D ≡ Owes id → (u : TaskSet) × (g : Ending) × (Shut t e ≡ Shut u g) × (u.id ≡ id) × (v ≢ g.coordinator)
    × (g.asked v ≡ true) × (owing g v ≡ true))
    (λ a b c. absurd (cc)) (λ a b c. absurd (cc))
    (λ a b c k. (t, e, refl, cc, a, b, c))
    (λ a b c k. absurd (cc)) (λ a b k. absurd (cc))
owes-slot Empty v id = λ k. absurd (cc)
owes-slot (Reserved w h) v id = λ k. absurd (pick v w (Holds h) Visits (λ D. D ≢ Owes id) (λ a c. absurd (cc)) (λ a c. absurd (cc)) k)
owes-slot (Open t) v id = λ k. absurd (cc)
owes-slot (Finishing jd w h) v id = λ k. absurd (pick v w (Holds h) Visits (λ D. D ≢ Owes id) (λ a c. absurd (cc)) (λ a c. absurd (cc)) k)

-- a worker holds a slot that it reserved or finalises
abbrev pub IsHeldBy : ℕ → Held → SlotState → Type 0
IsHeldBy w h x = (x ≡ Reserved w h) ⊎ ((id : ℕ) × (x ≡ Finishing id w h))

pub holds-slot : (x : SlotState) (v : ℕ) (h : Held) → duty_of x v ≡ Holds h → IsHeldBy v h x
holds-slot (Reserved w k) v h = pick v w (Holds k) Visits (λ D. D ≡ Holds h → IsHeldBy v h (Reserved w k)) (λ a c. inl (cc)) (λ a c. absurd (cc))
holds-slot (Finishing jd w k) v h = pick v w (Holds k) Visits (λ D. D ≡ Holds h → IsHeldBy v h (Finishing jd w k)) (λ a c. inr (jd, cc)) (λ a c. absurd (cc))
holds-slot (Shut t e) v h = end-cases t.id e v (λ D. D ≡ Holds h → IsHeldBy v h (Shut t e))
    (λ a b c. absurd (cc)) (λ a b c. absurd (cc)) (λ a b c k. absurd (cc)) (λ a b c k. absurd (cc)) (λ a b k. absurd (cc))
holds-slot Empty v h = λ k. absurd (cc)
holds-slot (Open t) v h = λ k. absurd (cc)

-- ---- debts that a call leaves as they are

pub owes-claimed : (x : SlotState) (n v : ℕ) → owes (claimed x n) v ≡ owes x v
owes-claimed Empty n v = refl
owes-claimed _ n v = refl

pub owes-shut : (w : ℕ) (x : SlotState) (v : ℕ) → owes (shut_by w x) v ≡ owes x v
owes-shut w Empty v = refl
owes-shut w _ v = refl

pub owes-held : (a : Act) (x : SlotState) (v : ℕ) → owes (held_on a x) v ≡ owes x v
owes-held a Empty v = refl
owes-held a _ v = refl

-- who pays owes nothing afterwards, and all others what they owed
pub paid-clear : (d : Shape) (e : Ending) (w : ℕ) → owing (ending_after d w PayDone e) w ≡ false
paid-clear d e w = and_right (e.marked w) (not (upd e.paid w true w)) (ap not (upd-same e.paid w true))

pub owing-else : (d : Shape) (e : Ending) (v w : ℕ) → v ≢ w → owing (ending_after d w PayDone e) v ≡ owing e v
owing-else d e v w other = ap (λ b. e.marked v && not b) (upd-else e.paid w true v other)
