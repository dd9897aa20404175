-- A slot serves no more task sets of its query than there are.
use Rattle.std.proofs.Common.{◌≡◌, ◌⊎◌, inl, inr, ⊎_elim, ℕ, ◌+◌, ◌*◌, ◌/◌, ◌%◌, ◌<◌, ◌≤◌, cond, List}
use Rattle.std.proofs.Common.{Some, None, refl, sym, ap, ap₂, ◌∙◌, subst, arith}
use Rattle.std.specs.Prelude.{unwrap_or, IsSome}
use Rattle.std.proofs.lemmas.Bool.{true≢false}
use Rattle.slot_history.specs.declared.shape.Shape.{Shape}
use Rattle.slot_history.specs.declared.shape.TheConstants.{STAGES}
use Rattle.slot_history.specs.declared.act.Act.{Act}
use Rattle.slot_history.specs.declared.act.Act.TheVariants.{ReserveGot, AdmitGot, NoteDone, SetTotal, Install, Release}
use Rattle.slot_history.specs.declared.act.Entry.{Entry}
use Rattle.slot_history.specs.declared.place.Held.{Held}
use Rattle.slot_history.specs.declared.place.Place.{Place}
use Rattle.slot_history.specs.declared.place.Place.TheVariants.{Holding}
use Rattle.slot_history.specs.States.{SlotState, Empty, Reserved, Open, Shut, Finishing, ObjectState, slot_of, held_at, reservation}
use Rattle.slot_history.specs.Steps.{site, slot_after, claimed, shut_by, finalised_by, ended, held_on, opened}
use Rattle.slot_history.specs.Steps.{next, state_after}
use Rattle.slot_history.specs.Allowed.{IsAllowed}
use Rattle.slot_history.specs.Lives.{query_in, Book, IsBook, IsSlotBook}
use Rattle.slot_history.specs.Bounds.{IsReservation, IsFinalisation, IsSlotSound, AreSlotsSound}
use Rattle.slot_history.specs.Table.{IsTable}
use Rattle.slot_history.proofs.Duties.{IsHeldBy}
use Rattle.slot_history.proofs.Sets.{upd-cases}
use Rattle.slot_history.proofs.SlotSteps.{after-others}
use Rattle.slot_history.proofs.Holdings.{holder-slot}
use Rattle.slot_history.proofs.Book.{install-fresh}
use Rattle.slot_history.proofs.BookSteps.{IsFresh}
use Rattle.slot_station.specs.Desks.{Desk}
use Rattle.turn_model.specs.Workloads.{Workload}
use Rattle.turn_model.specs.Points.{stages_held, rest_of, point_by}
use Rattle.turn_model.specs.Learned.{place_by}
use Rattle.turn_model.specs.Measure.{done_in}
use Rattle.turn_model.proofs.OwnMoves.{moves-tell}
use Rattle.run_laws.specs.Ends.{HaveStages}
use Rattle.run_laws.proofs.Made.{IsMade}
use Rattle.run_laws.proofs.PointsStand.{IsHolding, IsOpening, IsDone, points-stand, admit-says, install-says, release-says, note-says}

-- ---- what a call of a worker says of its place

-- what its moves say of the place at which a worker makes a call
abbrev pub Says : Workload → Act → Place → Type 0
Says load (AdmitGot q) p = IsHolding (λ held. held ≡ reservation) p
Says load (Install id) p = IsHolding (IsOpening load) p
Says load (NoteDone n) p = (n ≡ 1) ⊎ (n ≡ rest_of load (held_at p))
Says load Release p = IsHolding (IsDone load) p
Says load a p = Unit {0}

says : (D : Desk Workload) (a : Act) (h : List Entry) (m : IsMade D a h) → Says D.subject a (place_by D m.moves)
says D (AdmitGot q) h m = admit-says D m.moves (point_by D m.moves) q m.may (points-stand D m.moves m.driven)
says D (Install id) h m = install-says D m.moves (point_by D m.moves) id m.may (points-stand D m.moves m.driven)
says D (NoteDone n) h m = note-says D m.moves (point_by D m.moves) n m.may
says D Release h m = release-says D m.moves (point_by D m.moves) m.may (points-stand D m.moves m.driven)
says D a h m = tt

pub made-says : (D : Desk Workload) (a : Act) (h : List Entry) → IsMade D a h → Says D.subject a ((state_after D.shape h).places D.worker)
made-says D a h m = subst (Says D.subject a) (sym (moves-tell D h m.moves m.mine).place) (says D a h m)

pub held-is : (p : Place) (s t : ℕ) (h g : Held) → p ≡ Holding s h → p ≡ Holding t g → h ≡ g
held-is p s t h g one other = ap held_at (sym one ∙ other)

-- ---- a slot serves no more task sets of its query than there are

abbrev pub Fits : Workload → SlotState → Type 0
Fits load Empty = Unit {0}
Fits load (Reserved w held) = (q : ℕ) → held.query ≡ Some q → held.noted ≤ load.stages q
Fits load (Open t) = t.id % STAGES < load.stages (t.id / STAGES)
Fits load (Shut t end) = t.id % STAGES < load.stages (t.id / STAGES)
Fits load (Finishing id w held) = (id % STAGES < load.stages (id / STAGES)) × (id % STAGES + held.noted ≤ load.stages (id / STAGES))

pub fits-done : (load : Workload) (x : SlotState) (q : ℕ) → Fits load x → query_in x ≡ Some q → done_in x ≤ load.stages q
fits-done load Empty q fits is = absurd (cc)
fits-done load (Reserved w held) q fits is = fits q is
fits-done load (Open t) q fits is = let f : t.id % STAGES < load.stages (t.id / STAGES) = fits in
    let e : load.stages (t.id / STAGES) ≡ load.stages q = ap (λ o. load.stages (unwrap_or o 0)) is in omega (arith, f, e)
fits-done load (Shut t end) q fits is = let f : t.id % STAGES < load.stages (t.id / STAGES) = fits in
    let e : load.stages (t.id / STAGES) ≡ load.stages q = ap (λ o. load.stages (unwrap_or o 0)) is in omega (arith, f, e)
fits-done load (Finishing id w held) q fits is = let f : id % STAGES + held.noted ≤ load.stages (id / STAGES) = fits.1 in
    let e : load.stages (id / STAGES) ≡ load.stages q = ap (λ o. load.stages (unwrap_or o 0)) is in omega (arith, f, e)

fits-claimed : (load : Workload) (x : SlotState) (n : ℕ) → Fits load x → Fits load (claimed x n)
fits-claimed load Empty n f = f
fits-claimed load _ n f = f

fits-shut : (load : Workload) (w : ℕ) (x : SlotState) → Fits load x → Fits load (shut_by w x)
fits-shut load w Empty f = f
fits-shut load w _ f = f

fits-last : (load : Workload) (w : ℕ) (x : SlotState) → Fits load x → Fits load (finalised_by w x)
fits-last load w (Shut t end) f = (f, let g : t.id % STAGES < load.stages (t.id / STAGES) = f in omega (arith, g))
fits-last load w _ f = f

fits-ended : (load : Workload) (d : Shape) (w : ℕ) (a : Act) (x : SlotState) → Fits load x → Fits load (ended d w a x)
fits-ended load d w a Empty f = f
fits-ended load d w a _ f = f

fits-total : (load : Workload) (t : ℕ) (x : SlotState) → Fits load x → Fits load (held_on (SetTotal t) x)
fits-total load t Empty f = f
fits-total load t _ f = f

module _ (d : Shape) (load : Workload) (stages : HaveStages d load) (S : ObjectState) (w : ℕ) (low : w < d.workers) (tab : IsTable d S)
    (sound : AreSlotsSound d S) (B : Book) (held_low : B.admitted ≤ d.queries) (book_is : IsBook B S.slots) where
  -- a note of a slot that is held: at least one stage is left, and all that are left are noted, or one
  fits-noted : (x : SlotState) (s n : ℕ) (h : Held) → IsSlotBook B s x → IsSlotSound x → IsHeldBy w h x → IsSome h.query → h.noted ≡ 0
      → ((n ≡ 1) ⊎ (n ≡ rest_of load h)) → Fits load x → Fits load (held_on (NoteDone n) x)
  fits-noted x s n h known ok (inl is) some_query none says fits = subst (λ y. Fits load (held_on (NoteDone n) y)) (sym is) (λ q e.
      let k : IsReservation h = subst IsSlotSound is ok in
      let admitted : q < B.admitted = (subst (IsSlotBook B s) is known q e).0 in
      let some : 0 < load.stages q = stages q (omega (arith, admitted, held_low)) in
      let first : h.stage ≡ 0 = k.stage in
      let all : stages_held load h ≡ load.stages q = ap (λ o. load.stages (unwrap_or o 0)) e in
      ⊎_elim (λ one. omega (arith, one, some)) (λ rest. omega (arith, rest, first, all)) says)
  fits-noted x s n h known ok (inr (id, is)) some_query none says fits = subst (λ y. Fits load (held_on (NoteDone n) y)) (sym is)
      (let k : IsFinalisation id h = subst IsSlotSound is ok in
      let f = subst (Fits load) is fits in
      let left : id % STAGES < load.stages (id / STAGES) = f.0 in
      let at : h.stage ≡ id % STAGES = k.stage in
      let all : stages_held load h ≡ load.stages (id / STAGES) = ap (λ o. load.stages (unwrap_or o 0)) k.query in
      let most : id % STAGES + n ≤ load.stages (id / STAGES) =
      ⊎_elim (λ one. omega (arith, one, left)) (λ rest. omega (arith, rest, at, all, left)) says in
      (left, most))

  -- the task set that is opened is the first one of its query, or the next
  fits-opened : (id : ℕ) → (ok : IsAllowed d S w (Install id)) → IsOpening load ok.1 → Fits load (S.slots ok.0) → Fits load (opened id (S.slots ok.0))
  fits-opened id ok says fits = let s : ℕ = ok.0 in let h : Held = ok.1 in ⊎_elim
      (λ is. subst (λ y. Fits load (opened id y)) (sym is)
      (let k : IsReservation h = subst IsSlotSound is (sound s) in
      let fresh : IsFresh B (S.slots s) id = install-fresh d S w id B low tab sound ok book_is in
      let admitted : id / STAGES < B.admitted = fresh.low in
      let some : 0 < load.stages (id / STAGES) = stages (id / STAGES) (omega (arith, admitted, held_low)) in
      let first : id ≡ STAGES * unwrap_or h.query 0 + 0 = ok.4 ∙ ap (λ b. STAGES * unwrap_or h.query 0 + cond b (h.stage + 1) 0) k.again in
      let zero_stage : id % STAGES ≡ 0 = omega (arith, first) in
      let r : id % STAGES < load.stages (id / STAGES) = omega (arith, zero_stage, some) in r))
      (λ how. subst (λ y. Fits load (opened id y)) (sym how.1)
      (let jd : ℕ = how.0 in
      let k : IsFinalisation jd h = subst IsSlotSound how.1 (sound s) in
      let more : h.stage + 1 < stages_held load h = ⊎_elim (λ r. absurd (true≢false (sym k.again ∙ r.0))) (λ r. r.1) says in
      let small : h.stage + 1 < STAGES = (ok.3.next_stage k.again).1 in
      let next_one : id ≡ STAGES * (jd / STAGES) + (h.stage + 1) = ok.4 ∙ ap₂
      (λ q b. STAGES * q + b) (ap (λ o. unwrap_or o 0) k.query) (ap (λ b. cond b (h.stage + 1) 0) k.again) in
      let of : id / STAGES ≡ jd / STAGES = omega (arith, next_one, small) in
      let at : id % STAGES ≡ h.stage + 1 = omega (arith, next_one, small) in
      let all : stages_held load h ≡ load.stages (id / STAGES) = ap (λ o. load.stages (unwrap_or o 0)) k.query ∙ ap load.stages (sym of) in
      let r : id % STAGES < load.stages (id / STAGES) = omega (arith, at, all, more) in r))
      (holder-slot d S tab w s h low ok.2)

  fits-after : (a : Act) → IsAllowed d S w a → Says load a (S.places w) → Fits load (S.slots (site a (S.places w)))
      → Fits load (slot_after d w a (S.slots (site a (S.places w))))
  fits-after (ReserveGot s) ok say = λ f q e. absurd (cc)
  fits-after (AdmitGot q) ok say = let at : ok.0 ≡ slot_of (S.places w) = sym (ap slot_of ok.2) in
      let none : ok.1.noted ≡ 0 = ap (λ (h : Held). h.noted) (held-is (S.places w) ok.0 say.slot ok.1 say.held ok.2 say.at ∙ say.has) in
      subst (λ j. Fits load (S.slots j) → Fits load (held_on (AdmitGot q) (S.slots j))) at
      (λ f. ⊎_elim
      (λ is. subst (λ y. Fits load (held_on (AdmitGot q) y)) (sym is) (λ r e. omega (arith, none)))
      (λ how. absurd (let k : IsFinalisation how.0 ok.1 = subst IsSlotSound how.1 (sound ok.0) in
      let r : None ≡ Some (how.0 / STAGES) = sym ok.3 ∙ k.query in cc))
      (holder-slot d S tab w ok.0 ok.1 low ok.2))
  fits-after (NoteDone n) ok say = let at : ok.0 ≡ slot_of (S.places w) = sym (ap slot_of ok.2) in
      subst (λ j. Fits load (S.slots j) → Fits load (held_on (NoteDone n) (S.slots j))) at
      (fits-noted (S.slots ok.0) ok.0 n ok.1 (book_is.slot ok.0) (sound ok.0) (holder-slot d S tab w ok.0 ok.1 low ok.2) ok.3 ok.4
      (subst (λ h. (n ≡ 1) ⊎ (n ≡ rest_of load h)) (ap held_at ok.2) say))
  fits-after (SetTotal t) ok say = fits-total load t (S.slots (slot_of (S.places w)))
  fits-after (Install id) ok say = let at : ok.0 ≡ slot_of (S.places w) = sym (ap slot_of ok.2) in
      subst (λ j. Fits load (S.slots j) → Fits load (opened id (S.slots j))) at
      (fits-opened id ok (subst (IsOpening load) (held-is (S.places w) say.slot ok.0 say.held ok.1 say.at ok.2) say.has))
  fits-after Release ok say = λ f. tt
  fits-after a ok say = after-others d w (λ x y. Fits load x → Fits load y) (λ x f. f) (fits-claimed load) (fits-shut load w) (fits-last load w)
      (fits-ended load d w) a refl (S.slots (site a (S.places w)))

  pub fits-next : (a : Act) → IsAllowed d S w a → Says load a (S.places w) → ((s : ℕ) → Fits load (S.slots s))
      → (s : ℕ) → Fits load ((next d S w a).slots s)
  fits-next a ok say fits s = let k : ℕ = site a (S.places w) in
      upd-cases S.slots k (slot_after d w a (S.slots k)) s (Fits load) (λ e. fits-after a ok say (fits k)) (λ n. fits s)
