-- What a call's reply says follows from what the call made (`Makes`), whatever the form of the object.
use Rattle.std.proofs.Common.{◌≡◌, ℕ, ◌+◌, ◌*◌, ◌<◌, ◌⊎◌, inl, inr, Bool, true, false, cond, ltb}
use Rattle.std.proofs.Common.{◌∷◌, [], Some, IsSome, refl, sym, ap, ◌∙◌, subst, eq-eqb, arith}
use Rattle.std.specs.Prelude.{IsSomeAnd, min, Option, List}
use Rattle.std.specs.Int.{bit_at}
use Rattle.std.proofs.lemmas.Nat.Bits.{bit_at_above}
use borrow.Author.Tests.{ltb-true, ltb-false}
use Rattle.slot_history.specs.declared.act.Act.{Act}
use Rattle.slot_history.specs.declared.act.Act.TheVariants.{TakeReturn, TakeChange}
use Rattle.slot_history.specs.declared.act.Entry.{Entry}
use Rattle.slot_history.specs.declared.place.Place.TheVariants.{Inside, Leading}
use Rattle.slot_history.specs.States.{SlotState, Open, Shut, ObjectState, task_of, id_of, id_at}
use Rattle.slot_history.specs.States.{is_open, is_shut, is_inside, has_own_cell}
use Rattle.slot_history.specs.Steps.{moved, state_after}
use Rattle.slot_history.specs.Allowed.{IsMask, IsAllowed}
use Rattle.slot_history.specs.Histories.{IsLegal, entry, place_of, ranges_of, total_of}
use Rattle.slot_history.specs.Lives.{has_task}
use Rattle.slot_history.specs.Numbers.{named_id}
use Rattle.slot_history.proofs.Claims.{tiles-cursor}
use Rattle.slot_history.proofs.Own.{calls-go-on}
use Rattle.slot_history.proofs.Places.{inside-slots}
use Rattle.slot_history.proofs.Ranges.{ranges-go-on}
use Rattle.slot_history.proofs.Stations.{coordinator-leaves}
use Rattle.slot_history.proofs.Subject.{subject-shows}
use Rattle.slot_history.proofs.Table.{table}
use Rattle.slot_history.proofs.Within.{within}
use Rattle.slot_station.specs.declared.reply.Claim.{Claim}
use Rattle.slot_station.specs.declared.reply.Claim.TheVariants as claim
use Rattle.slot_station.specs.declared.reply.Leave.{Leave}
use Rattle.slot_station.specs.declared.reply.Leave.TheVariants as leave
use Rattle.slot_station.specs.declared.reply.Look.{Look}
use Rattle.slot_station.specs.declared.reply.Look.TheVariants as look
use Rattle.slot_station.specs.Desks.{Seen, Makes, own_place, own_ranges, own_total, totals_of}
use Rattle.slot_station.specs.Replies.{look_act, claim_act, leave_act, SeesTaskSet, IsCutRange}
use Rattle.slot_station.specs.Replies.{LiesPast, OwesTaskSet, NamesSlots}

-- ---- masks

one-bit : (b : Bool) → ◌≡◌ {A = ℕ} (cond b 1 0) 1 → b ≡ true
one-bit true h = refl
one-bit false h = absurd (omega arith)

named-slot : (part : ℕ) (f : ℕ → Bool) (bits k : ℕ) → IsMask part f bits → bit_at bits k ≡ 1 → (b : Bool) → ltb k 64 ≡ b → f (part * 64 + k) ≡ true
named-slot part f bits k mask is true t = one-bit (f (part * 64 + k)) (sym (mask.each k (ltb-true k 64 t)) ∙ is)
named-slot part f bits k mask is false t = absurd (let z = bit_at_above bits 64 k mask.small (ltb-false k 64 t) in omega arith)

-- the mask of pending notices names slots that there are
names-slots : (slots : ℕ) (pending : ℕ → Bool) (part bits : ℕ) → ((s : ℕ) → pending s ≡ true → s < slots) → IsMask part pending bits
    → NamesSlots slots part bits
names-slots slots pending part bits names mask k is = names (part * 64 + k) (named-slot part pending bits k mask is (ltb k 64) refl)

-- ---- a task set that is worked on

work-task : (x : SlotState) → (is_open x ≡ true) ⊎ (is_shut x ≡ true) → (has_task x ≡ true) × (id_of x ≡ (task_of x).id)
work-task (Open t) h = (refl, refl)
work-task (Shut t e) h = (refl, refl)
work-task _ (inl h) = absurd (cc)
work-task _ (inr h) = absurd (cc)

-- ---- what the call a made of `old`

module _ {O Sub : Type 0} {total : Sub → ℕ → Option ℕ} {old new : Seen O Sub} where
  module _ {a : Act} (m : Makes total a old new) where
    -- what the worker had not seen before the call, with the call allowed after it
    abbrev Found : Type 0
    Found = (h : List Entry) × (new.trail ≡ entry old.desk.worker a ∷ h) × IsLegal old.desk.shape h × (old.desk.worker < old.desk.shape.workers)
        × IsAllowed old.desk.shape (state_after old.desk.shape h) old.desk.worker a × (place_of old.desk.shape h old.desk.worker ≡ own_place old)

    found : Found
    found = (calls-go-on old.desk.shape old.desk.worker a old.trail new.trail m.called).allowed

    -- where the worker is after the call
    pub place-after : own_place new ≡ moved old.desk.shape a (own_place old)
    place-after = subst (λ D. place_of D.shape new.trail D.worker ≡ moved old.desk.shape a (own_place old)) (sym m.desk)
        (calls-go-on old.desk.shape old.desk.worker a old.trail new.trail m.called).place

    -- a task set that the call or its answer names is one of the subject
    pub names-task_set : (id : ℕ) → named_id a ≡ Some id → IsSome (totals_of total old id)
    names-task_set id is =
        let legal = m.called.4 in
        (subject-shows (totals_of total old) old.desk.shape new.trail legal m.of_subject).named (entry old.desk.worker a) found.0 id ([], found.1) is

  -- a task set that was seen is one of the subject
  pub sees-task_set : (l : Look) → Makes total (look_act l) old new → SeesTaskSet (totals_of total old) l
  sees-task_set (look.Open id) m = names-task_set m id refl
  sees-task_set look.Invalid m = tt
  sees-task_set look.Vacant m = tt

  -- and so is one for which the worker has to pay
  pub owes-task_set : (l : Leave) → Makes total (leave_act l) old new → OwesTaskSet (totals_of total old) l
  owes-task_set (leave.Owe x) m = names-task_set m x.id refl
  owes-task_set leave.Left m = tt

  -- whoever shut the task set leaves without a debt
  pub coordinator-left : (l : Leave) → Makes total (leave_act l) old new → (s id : ℕ) → own_place old ≡ Leading s id → l ≡ leave.Left
  coordinator-left leave.Left m s id at = refl
  coordinator-left (leave.Owe x) m s id at = absurd (coordinator-leaves old.desk.shape old.desk.worker s id x.id old.trail new.trail m.called at)

  -- a range that was claimed is cut at the subject's total
  pub range-cut : (n : ℕ) (c : Claim) → Makes total (claim_act n c) old new → IsCutRange (own_total total old) n c
  range-cut n (claim.Range from to) m =
      let d = old.desk.shape in
      let w = old.desk.worker in
      let (h, grows, legal, low, (s, id, at, some_, most, starts, below, ends), same) = found m in
      let S : ObjectState = state_after d h in
      let x : SlotState = S.slots s in
      let had = inside-slots d S (table d h legal) s w id low
      (subst (λ q. has_own_cell q s ≡ true) (sym at) (eq-eqb s s refl)) (subst (λ q. is_inside q id ≡ true) (sym at) (eq-eqb id id refl)) in
      let t = work-task x had.0 in
      let installed : total_of d (task_of x).id h ≡ Some (task_of x).total = (tiles-cursor d h legal s t.0).0 in
      let named : id_at (own_place old) ≡ (task_of x).id = ap id_at (sym same ∙ at) ∙ sym had.1 ∙ t.1 in
      let has : totals_of total old (task_of x).id ≡ Some (task_of x).total =
      m.of_subject (task_of x).id (task_of x).total (ap (total_of d (task_of x).id) grows ∙ installed) in
      subst (λ o. IsSomeAnd o (λ u. (from < u) × (to ≡ min u (from + n)))) (sym (ap (totals_of total old) named ∙ has)) (below, ends)
  range-cut n (claim.Exhausted x) m = tt

  -- and lies past the worker's earlier ones
  pub range-past : (n : ℕ) (c : Claim) → Makes total (claim_act n c) old new → (s id : ℕ) × (own_place old ≡ Inside s id) → LiesPast (own_ranges old) c
  range-past n (claim.Range from to) m (s, id, at) =
      let d = old.desk.shape in
      let w = old.desk.worker in
      subst (λ p. LiesPast (ranges_of d w (id_at p) old.trail) (claim.Range from to)) (sym at)
      (ranges-go-on d w n from to s id old.trail new.trail m.called at)
  range-past n (claim.Exhausted x) m at = tt

  -- what a worker takes names slots that there are
  pub returns-named : {part bits : ℕ} → Makes total (TakeReturn part bits) old new → NamesSlots old.desk.shape.slots part bits
  returns-named {part = part} {bits = bits} m =
      let (h, grows, legal, low, (in_, mask), same) = found m in
      names-slots old.desk.shape.slots ((state_after old.desk.shape h).returns old.desk.worker) part bits
      ((within old.desk.shape h legal).returns old.desk.worker) mask

  pub changes-named : {part bits : ℕ} → Makes total (TakeChange part bits) old new → NamesSlots old.desk.shape.slots part bits
  changes-named {part = part} {bits = bits} m =
      let (h, grows, legal, low, (in_, mask), same) = found m in
      names-slots old.desk.shape.slots ((state_after old.desk.shape h).changes old.desk.worker) part bits
      ((within old.desk.shape h legal).changes old.desk.worker) mask
