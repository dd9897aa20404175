-- What a worker's calls do to its notice records.
use Rattle.std.proofs.Common.{◌≡◌, ℕ, ◌/◌, Bool, true, false, eqb, ◌&&◌, None, refl, sym, ap, ◌∙◌}
use Rattle.std.proofs.Common.{subst, inl, inr}
use Rattle.std.proofs.lemmas.Bool.{cond_both}
use Rattle.slot_history.specs.declared.shape.Shape.{Shape}
use Rattle.slot_history.specs.declared.shape.TheConstants.{STAGES}
use Rattle.slot_history.specs.declared.act.Act.{Act}
use Rattle.slot_history.specs.declared.act.Act.TheVariants.{LookOpen, LookInvalid, LookVacant}
use Rattle.slot_history.specs.declared.act.Act.TheVariants.{ShutWon, ShutLost, TakeReturn}
use Rattle.slot_history.specs.declared.act.Act.TheVariants.{TakeChange}
use Rattle.slot_history.specs.declared.place.Place.{Place}
use Rattle.slot_history.specs.Sets.{upd}
use Rattle.slot_history.specs.States.{SlotState, Open, NoticeRecord, ObjectState, slot_of, is_open}
use Rattle.slot_history.specs.States.{is_shut, is_tagged, is_vacant}
use Rattle.slot_history.specs.Steps.{shut_by, is_in_part, dropped, looked_group, looked}
use Rattle.slot_history.specs.Steps.{records_after, next}
use Rattle.slot_history.specs.Allowed.{IsAllowed}
use Rattle.slot_history.specs.Notices.{MayBe}
use Rattle.slot_history.proofs.Sets.{pick, upd-same, upd-else, upd-cases}

-- a look that finds query q leaves a record that allows q so
looked-may-be : (q : ℕ) (r : NoticeRecord) → MayBe r q → MayBe (looked q r) q
looked-may-be q r (inl unknown) = subst (λ g. MayBe (looked_group g q r) q) (sym unknown) (inr refl)
looked-may-be q r (inr known) = subst (λ g. MayBe (looked_group g q r) q) (sym known) (cond_both (eqb q q) r (dropped r) (λ x. MayBe x q) (λ t. inr known)
    (λ t. inr known))

-- a look keeps a record that lets the worker in
looked-active : (q : ℕ) (r : NoticeRecord) → MayBe r q → r.active ≡ true → (looked q r).active ≡ true
looked-active q r (inl unknown) h = ap (λ g. (looked_group g q r).active) unknown ∙ h
looked-active q r (inr known) h = ap (λ g. (looked_group g q r).active) known ∙ pick q q r (dropped r) (λ x. x.active ≡ true) (λ e. h) (λ n. absurd (n refl))

-- a dropped record keeps its group
drop-may-be : (r : ℕ → NoticeRecord) (k s q : ℕ) → MayBe (r s) q → MayBe (upd r k (dropped (r k)) s) q
drop-may-be r k s q may = upd-cases r k (dropped (r k)) s (λ x. MayBe x q) (λ e. subst (λ j. MayBe (r j) q) e may) (λ n. may)

-- after a call of the worker at p, whose look may answer the query q alone: what its record r may be, it may still be
pub group-after : (a : Act) (p : Place) (changes returns : ℕ → Bool) (r : ℕ → NoticeRecord) (s q : ℕ)
    → ((id : ℕ) → a ≡ LookOpen id → s ≡ slot_of p → q ≡ id / STAGES)
    → MayBe (r s) q → MayBe (records_after a p changes returns r s) q
group-after (LookOpen id) p changes returns r s q answers may = upd-cases r (slot_of p) (looked (id / STAGES) (r (slot_of p))) s (λ x. MayBe x q)
    (λ e. subst (λ j. MayBe (looked j (r (slot_of p))) q) (answers id refl e) (looked-may-be q (r (slot_of p)) (subst (λ j. MayBe (r j) q) e may))) (λ n. may)
group-after LookInvalid p changes returns r s q answers may = drop-may-be r (slot_of p) s q may
group-after LookVacant p changes returns r s q answers may = drop-may-be r (slot_of p) s q may
group-after ShutWon p changes returns r s q answers may = drop-may-be r (slot_of p) s q may
group-after ShutLost p changes returns r s q answers may = drop-may-be r (slot_of p) s q may
group-after (TakeReturn part bits) p changes returns r s q answers may = cond_both (is_in_part part s && returns s) (record (r s) { active = true }) (r s)
    (λ x. MayBe x q) (λ t. may) (λ t. may)
group-after (TakeChange part bits) p changes returns r s q answers may =
    cond_both (is_in_part part s && changes s) (record { active = true; group = None }) (r s) (λ x. MayBe x q) (λ t. inl refl) (λ t. may)
group-after _ p changes returns r s q answers may = may

-- slots that are not open, by what a look or a shut finds there
tagged-closed : (x : SlotState) → is_tagged x ≡ true → is_open x ≡ true → ⊥
tagged-closed (Open t) h o = absurd (cc)
tagged-closed x h o = absurd (cc)

vacant-closed : (x : SlotState) → is_vacant x ≡ true → is_open x ≡ true → ⊥
vacant-closed (Open t) h o = absurd (cc)
vacant-closed x h o = absurd (cc)

pub shut-closed : (x : SlotState) → is_shut x ≡ true → is_open x ≡ true → ⊥
shut-closed (Open t) h o = absurd (cc)
shut-closed x h o = absurd (cc)

-- a slot that was shut just now is not open
shuts : (w : ℕ) (x : SlotState) → is_open (shut_by w x) ≡ true → ⊥
shuts w (Open t) o = absurd (cc)
shuts w x o = absurd (cc)

-- the calls that make a record inactive whatever it is
abbrev pub is_dropping : Act → Bool
is_dropping LookInvalid = true
is_dropping LookVacant = true
is_dropping ShutWon = true
is_dropping ShutLost = true
is_dropping _ = false

-- a slot whose record the worker's call drops is not open
pub drops-closed : (d : Shape) (S : ObjectState) (w : ℕ) (a : Act) (s : ℕ) → IsAllowed d S w a → is_dropping a ≡ true → s ≡ slot_of (S.places w)
    → is_open (S.slots s) ≡ true → is_open ((next d S w a).slots s) ≡ true → ⊥
drops-closed d S w LookInvalid s fine drops e o o' = tagged-closed (S.slots fine.0) fine.2 (ap (λ k. is_open (S.slots k)) (sym (e ∙ ap slot_of fine.1)) ∙ o)
drops-closed d S w LookVacant s fine drops e o o' = vacant-closed (S.slots fine.0) fine.2 (ap (λ k. is_open (S.slots k)) (sym (e ∙ ap slot_of fine.1)) ∙ o)
drops-closed d S w ShutLost s fine drops e o o' = shut-closed (S.slots fine.0) fine.3 (ap (λ k. is_open (S.slots k)) (sym (e ∙ ap slot_of fine.2)) ∙ o)
drops-closed d S w ShutWon s fine drops e o o' = shuts w (S.slots (slot_of (S.places w)))
    (ap is_open (sym (ap (upd S.slots (slot_of (S.places w)) (shut_by w (S.slots (slot_of (S.places w))))) e ∙ upd-same S.slots (slot_of (S.places w)) _)) ∙ o')
drops-closed d S w _ s fine drops e o o' = absurd (cc)

-- the record of another slot than the dropped one stays active
drop-elsewhere : (r : ℕ → NoticeRecord) (k s : ℕ) → (s ≡ k → ⊥) → (r s).active ≡ true → (upd r k (dropped (r k)) s).active ≡ true
drop-elsewhere r k s off h = ap (λ x. x.active) (upd-else r k (dropped (r k)) s off) ∙ h

-- after a call of the worker at p that drops no record of the slot, the record is still active where it lets the worker in
pub active-after : (a : Act) (p : Place) (changes returns : ℕ → Bool) (r : ℕ → NoticeRecord) (s q : ℕ)
    → ((id : ℕ) → a ≡ LookOpen id → s ≡ slot_of p → q ≡ id / STAGES)
    → (is_dropping a ≡ true → s ≡ slot_of p → ⊥) → MayBe (r s) q → (r s).active ≡ true → (records_after a p changes returns r s).active ≡ true
active-after (LookOpen id) p changes returns r s q answers off may h = upd-cases r (slot_of p) (looked (id / STAGES) (r (slot_of p))) s (λ x. x.active ≡ true)
    (λ e. subst (λ j. (looked j (r (slot_of p))).active ≡ true) (answers id refl e)
    (looked-active q (r (slot_of p)) (subst (λ j. MayBe (r j) q) e may) (ap (λ j. (r j).active) (sym e) ∙ h))) (λ n. h)
active-after LookInvalid p changes returns r s q answers off may h = drop-elsewhere r (slot_of p) s (off refl) h
active-after LookVacant p changes returns r s q answers off may h = drop-elsewhere r (slot_of p) s (off refl) h
active-after ShutWon p changes returns r s q answers off may h = drop-elsewhere r (slot_of p) s (off refl) h
active-after ShutLost p changes returns r s q answers off may h = drop-elsewhere r (slot_of p) s (off refl) h
active-after (TakeReturn part bits) p changes returns r s q answers off may h =
    cond_both (is_in_part part s && returns s) (record (r s) { active = true }) (r s) (λ x. x.active ≡ true) (λ t. refl) (λ t. h)
active-after (TakeChange part bits) p changes returns r s q answers off may h =
    cond_both (is_in_part part s && changes s) (record { active = true; group = None }) (r s) (λ x. x.active ≡ true) (λ t. refl) (λ t. h)
active-after _ p changes returns r s q answers off may h = h
