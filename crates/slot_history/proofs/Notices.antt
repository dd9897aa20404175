-- No notice of an open slot is lost.
use Rattle.std.proofs.Common.{◌≡◌, ℕ, ◌+◌, ◌*◌, ◌/◌, ◌<◌, ◌⊎◌, true, false, cond, List, [], ◌∷◌}
use Rattle.std.proofs.Common.{Some, unwrap_or, refl, sym, ap, ◌∙◌, subst, inl, inr, ⊎_elim, arith}
use Rattle.slot_history.specs.declared.shape.Shape.{Shape}
use Rattle.slot_history.specs.declared.shape.TheConstants.{STAGES}
use Rattle.slot_history.specs.declared.act.Act.{Act}
use Rattle.slot_history.specs.declared.act.Act.TheVariants.{LookOpen, Install}
use Rattle.slot_history.specs.declared.act.Entry.{Entry}
use Rattle.slot_history.specs.declared.place.Held.{Held}
use Rattle.slot_history.specs.declared.place.Place.{Place}
use Rattle.slot_history.specs.declared.place.Place.TheVariants.{Holding, Announcing}
use Rattle.slot_history.specs.Sets.{upd}
use Rattle.slot_history.specs.States.{Finishing, NoticeRecord, ObjectState, slot_of, held_at}
use Rattle.slot_history.specs.States.{next_id, id_of, has_id, is_open}
use Rattle.slot_history.specs.Steps.{site, opened, records_after, next, state_after}
use Rattle.slot_history.specs.Allowed.{IsReady, IsAllowed}
use Rattle.slot_history.specs.Histories.{IsLegal}
use Rattle.slot_history.specs.Notices.{IsUntold, ChangeComes, ReturnComes, MayBe, IsNoticedAt}
use Rattle.slot_history.specs.Table.{IsTable}
use Rattle.slot_history.specs.Bounds.{IsReservation, IsFinalisation, IsSlotSound, AreSlotsSound}
use Rattle.slot_history.proofs.Duties.{IsHeldBy}
use Rattle.slot_history.proofs.Table.{table}
use Rattle.slot_history.proofs.Holdings.{holder-slot, slots-sound}
use Rattle.slot_history.proofs.Sets.{upd-same, upd-cases}
use Rattle.slot_history.proofs.Growth.{open-has}
use Rattle.slot_history.proofs.Announcements.{untold-next, IsNew, notice-next}
use Rattle.slot_history.proofs.SameTask.{IsSameTask, task-next}
use Rattle.slot_history.proofs.Records.{group-after, drops-closed, active-after}

-- ---- one call

-- the slot has no task set that it had not, and what the worker knows or will be told of it is not less
record IsNotLess (S T : ObjectState) (s v : ℕ) : Type 0 where
  task : IsSameTask (T.slots s) (S.slots s)
  group : has_id (T.slots s) ≡ true → MayBe (S.records v s) (id_of (S.slots s) / STAGES) → MayBe (T.records v s) (id_of (S.slots s) / STAGES)
  active : is_open (T.slots s) ≡ true → MayBe (S.records v s) (id_of (S.slots s) / STAGES) → (S.records v s).active ≡ true → (T.records v s).active ≡ true
  change : ChangeComes S s v → ChangeComes T s v ⊎ IsNew (T.records v s)
  return_ : ReturnComes S s v → ReturnComes T s v ⊎ ((T.records v s).active ≡ true)

-- an open slot has a task set
-- what the worker knows or will be told of an open slot with query q, and of the query of a slot
abbrev pub KnowsOpen : ObjectState → ℕ → ℕ → ℕ → Type 0
KnowsOpen S s v q = (((S.records v s).active ≡ true) × MayBe (S.records v s) q) ⊎ (ChangeComes S s v ⊎ (ReturnComes S s v × MayBe (S.records v s) q))

abbrev pub KnowsQuery : ObjectState → ℕ → ℕ → ℕ → Type 0
KnowsQuery S s v q = MayBe (S.records v s) q ⊎ ChangeComes S s v

open-stays : (S T : ObjectState) (s v : ℕ) → IsNotLess S T s v → is_open (T.slots s) ≡ true → KnowsOpen S s v (id_of (S.slots s) / STAGES)
    → KnowsOpen T s v (id_of (S.slots s) / STAGES)
open-stays S T s v kept o (inl k) = inl (kept.active o k.1 k.0, kept.group (open-has (T.slots s) (inl o)) k.1)
open-stays S T s v kept o (inr (inl c)) = ⊎_elim (λ comes. inr (inl comes)) (λ new. inl (new.0, inl new.1)) (kept.change c)
open-stays S T s v kept o (inr (inr k)) =
    let may : MayBe (T.records v s) (id_of (S.slots s) / STAGES) = kept.group (open-has (T.slots s) (inl o)) k.1 in
    ⊎_elim (λ comes. inr (inr (comes, may))) (λ active. inl (active, may)) (kept.return_ k.0)

query-stays : (S T : ObjectState) (s v : ℕ) → IsNotLess S T s v → has_id (T.slots s) ≡ true → KnowsQuery S s v (id_of (S.slots s) / STAGES)
    → KnowsQuery T s v (id_of (S.slots s) / STAGES)
query-stays S T s v kept id (inl may) = inl (kept.group id may)
query-stays S T s v kept id (inr c) = ⊎_elim (λ comes. inr comes) (λ new. inl (inl new.1)) (kept.change c)

-- so what is noticed before the call is noticed after it
not-less : (S T : ObjectState) (s v : ℕ) → IsNotLess S T s v → IsNoticedAt S s v → IsNoticedAt T s v
not-less S T s v kept known = record {
  open_slot = λ o.
      let t : (has_id (S.slots s) ≡ true) × (id_of (T.slots s) ≡ id_of (S.slots s)) = kept.task.0 (open-has (T.slots s) (inl o)) in
      subst (λ j. KnowsOpen T s v (j / STAGES)) (sym t.1) (open-stays S T s v kept o (known.open_slot (kept.task.1 o)));
  group = λ id.
      let t : (has_id (S.slots s) ≡ true) × (id_of (T.slots s) ≡ id_of (S.slots s)) = kept.task.0 id in
      subst (λ j. KnowsQuery T s v (j / STAGES)) (sym t.1) (query-stays S T s v kept id (known.group t.0));
}

-- a look answers the id of the slot
answers-id : (d : Shape) (S : ObjectState) (w : ℕ) (a : Act) (s : ℕ) → IsAllowed d S w a → (id : ℕ) → a ≡ LookOpen id → s ≡ slot_of (S.places w)
    → id_of (S.slots s) / STAGES ≡ id / STAGES
answers-id d S w a s fine id is e =
    let look : IsAllowed d S w (LookOpen id) = subst (IsAllowed d S w) is fine in
    ap (λ k. id_of (S.slots k) / STAGES) (e ∙ ap slot_of look.1) ∙ ap (λ j. j / STAGES) (sym look.3)

-- but for an install in the slot, no call makes a worker know less
not-less-next : (d : Shape) (S : ObjectState) (w : ℕ) (a : Act) (s v : ℕ) → IsAllowed d S w a → v < d.workers → IsSameTask ((next d S w a).slots s) (S.slots s)
    → IsNotLess S (next d S w a) s v
not-less-next d S w a s v fine lt same =
    let p : Place = S.places w in
    let after : ℕ → NoticeRecord = records_after a p (S.changes w) (S.returns w) (S.records w) in
    let q : ℕ = id_of (S.slots s) / STAGES in record {
      task = same;
      group = λ id. upd-cases S.records w after v (λ f. MayBe (S.records v s) q → MayBe (f s) q)
          (λ e may. group-after a p (S.changes w) (S.returns w) (S.records w) s q (answers-id d S w a s fine) (subst (λ j. MayBe (S.records j s) q) e may))
          (λ n may. may);
      active = λ o. upd-cases S.records w after v (λ f. MayBe (S.records v s) q → (S.records v s).active ≡ true → (f s).active ≡ true)
          (λ e may h. active-after a p (S.changes w) (S.returns w) (S.records w) s q (answers-id d S w a s fine)
          (λ drops here. drops-closed d S w a s fine drops here (same.1 o) o)
          (subst (λ j. MayBe (S.records j s) q) e may) (ap (λ j. (S.records j s).active) (sym e) ∙ h))
          (λ n may h. h);
      change = ⊎_elim (λ h. ⊎_elim (λ h'. inl (inl h')) (λ new. inr new) (notice-next false d S w a s v h))
          (λ u. inl (untold-next d S w a false s v fine lt u));
      return_ = ⊎_elim (λ h. ⊎_elim (λ h'. inl (inl h')) (λ act. inr act) (notice-next true d S w a s v h)) (λ u. inl (untold-next d S w a true s v fine lt u));
    }

-- ---- an install

-- who drops and joins nothing keeps its records
same-records : (f : ℕ → ℕ → NoticeRecord) (k j : ℕ) → upd f k (f k) j ≡ f j
same-records f k j = upd-cases f k (f k) j (λ y. y ≡ f j) (λ e. ap f (sym e)) (λ n. refl)

-- the task set that comes after a finalised one is of the same query
same-query : (h : Held) (id q : ℕ) → IsReady h → id ≡ next_id h → h.query ≡ Some q → h.again ≡ true → id / STAGES ≡ q
same-query h id q ready next_ query again =
    let e : id ≡ STAGES * q + (h.stage + 1) = next_ ∙ ap (λ o. STAGES * unwrap_or o 0 + cond h.again (h.stage + 1) 0) query ∙ ap
    (λ b. STAGES * q + cond b (h.stage + 1) 0) again in
    let low : h.stage + 1 < STAGES = (ready.next_stage again).1 in
    omega arith

-- whoever installs has still to tell every worker
will-tell : (d : Shape) (S : ObjectState) (w id s v : ℕ) (h : Held) → S.places w ≡ Holding s h → IsUntold (next d S w (Install id)) h.again s v
will-tell d S w id s v h at = (w, 0, upd-same S.places w _ ∙ ap (λ p. Announcing (slot_of p) (held_at p).again 0) at, omega arith)

-- after a reservation of a change
after-reservation : (d : Shape) (S : ObjectState) (w id s v : ℕ) (h : Held) → S.places w ≡ Holding s h → h.again ≡ false
    → IsNoticedAt (next d S w (Install id)) s v
after-reservation d S w id s v h at first =
    let c : ChangeComes (next d S w (Install id)) s v = inr (subst (λ b. IsUntold (next d S w (Install id)) b s v) first (will-tell d S w id s v h at)) in
    record { open_slot = λ o. inr (inl c); group = λ i. inr c }

-- the query of a task set that is finalised is known, and stays so when the next one is installed
query-kept : (d : Shape) (S : ObjectState) (w id s v q : ℕ) → IsAllowed d S w (Install id) → v < d.workers → KnowsQuery S s v q
    → KnowsQuery (next d S w (Install id)) s v q
query-kept d S w id s v q fine low (inl may) = inl (subst (λ f. MayBe (f s) q) (sym (same-records S.records w v)) may)
query-kept d S w id s v q fine low (inr (inl pending)) = inr (inl pending)
query-kept d S w id s v q fine low (inr (inr untold)) = inr (untold-next d S w (Install id) false s v fine low untold)

-- after a finalisation of a return, which serves whoever knows the query; the others have still to be told of the change
after-finalisation : (d : Shape) (S : ObjectState) (w id jd s v : ℕ) (h : Held) → S.places w ≡ Holding s h → IsReady h → id ≡ next_id h
    → S.slots s ≡ Finishing jd w h → IsFinalisation jd h
    → v < d.workers → IsNoticedAt S s v → IsNoticedAt (next d S w (Install id)) s v
after-finalisation d S w id jd s v h at ready next_ is has low known =
    let T : ObjectState = next d S w (Install id) in
    let slot : T.slots s ≡ opened id (Finishing jd w h) = ap (λ p. upd S.slots (slot_of p) (opened id (S.slots (slot_of p))) s) at ∙ upd-same S.slots s _
    ∙ ap (opened id) is in
    let q : id_of (T.slots s) / STAGES ≡ id_of (S.slots s) / STAGES = ap (λ x. id_of x / STAGES) slot
    ∙ same-query h id (jd / STAGES) ready next_ has.query has.again ∙ sym (ap (λ x. id_of x / STAGES) is) in
    let k : KnowsQuery T s v (id_of (T.slots s) / STAGES) =
    subst (KnowsQuery T s v) (sym q) (query-kept d S w id s v _ (s, h, at, ready, next_) low (known.group (ap has_id is))) in
    let r : ReturnComes T s v = inr (subst (λ b. IsUntold T b s v) has.again (will-tell d S w id s v h at)) in
    record { open_slot = λ o. ⊎_elim (λ may. inr (inr (r, may))) (λ c. inr (inl c)) k; group = λ i. k }

installed : (d : Shape) (S : ObjectState) (w id s v : ℕ) (h : Held) → S.places w ≡ Holding s h → IsReady h → id ≡ next_id h → IsHeldBy w h (S.slots s)
    → IsSlotSound (S.slots s) → v < d.workers → IsNoticedAt S s v → IsNoticedAt (next d S w (Install id)) s v
installed d S w id s v h at ready next_ (inl is) ok low known = let has : IsReservation h = subst IsSlotSound is ok in
    after-reservation d S w id s v h at has.again
installed d S w id s v h at ready next_ (inr (jd, is)) ok low known = after-finalisation d S w id jd s v h at ready next_ is (subst IsSlotSound is ok) low known

-- after one call
noticed-next : (d : Shape) (S : ObjectState) (w : ℕ) (a : Act) → IsTable d S → AreSlotsSound d S → w < d.workers → IsAllowed d S w a
    → (s v : ℕ) → v < d.workers → IsNoticedAt S s v → IsNoticedAt (next d S w a) s v
noticed-next d S w a places ok low fine s v v_low known = ⊎_elim
    (λ same. not-less S (next d S w a) s v (not-less-next d S w a s v fine v_low same) known)
    (λ (here, (id, is)).
    let install : IsAllowed d S w (Install id) = subst (IsAllowed d S w) is fine in
    let s_is : s ≡ install.0 = here ∙ ap (λ b. site b (S.places w)) is ∙ ap slot_of install.2 in
    let at : S.places w ≡ Holding s install.1 = install.2 ∙ ap (λ j. Holding j install.1) (sym s_is) in
    subst (λ b. IsNoticedAt (next d S w b) s v) (sym is)
    (installed d S w id s v install.1 at install.3 install.4 (holder-slot d S places w s install.1 low at) (ok s) v_low known))
    (task-next d S w a s)

-- after every legal history
pub noticed : (d : Shape) (h : List Entry) → IsLegal d h → (s v : ℕ) → v < d.workers → IsNoticedAt (state_after d h) s v
noticed d [] legal s v low = record { open_slot = λ o. absurd (cc); group = λ i. absurd (cc) }
noticed d (e ∷ es) legal s v low = noticed-next d (state_after d es) e.worker e.act (table d es legal.2) (slots-sound d es legal.2) legal.0 legal.1 s v low
    (noticed d es legal.2 s v low)
