-- The replies and the records of a worker, from call to call.
use Rattle.std.proofs.Common.{◌≡◌, ◌⊎◌, inl, inr, ⊎_elim, ℕ, zero, suc, ◌+◌, ◌-◌, ◌<◌}
use Rattle.std.proofs.Common.{◌≤◌, true, cond, List, [], ◌∷◌, ◌++◌, Some, None}
use Rattle.std.proofs.Common.{length, slice_get, refl, sym, ap, ◌∙◌, subst, eq-eqb, ne_eqb, arith}
use Rattle.std.specs.Prelude.{reverse}
use Rattle.std.proofs.lemmas.List.{length-reverse, reverse-append}
use Rattle.std.proofs.lemmas.List.Elements.{All-push}
use Rattle.std.specs.Vec.{vec_capacity}
use Rattle.std.specs.declared.vec.Vec.{Vec}
use Rattle.std.specs.Global.{Global}
use Rattle.slot_history.specs.declared.act.Act.TheVariants.{NoteDone}
use Rattle.slot_history.specs.declared.act.Entry.{Entry}
use Rattle.slot_history.specs.declared.place.Held.{Held}
use Rattle.slot_history.specs.States.{finalised_id}
use Rattle.slot_history.specs.Histories.{IsLegal, Begins}
use Rattle.slot_station.specs.Desks.{Desk}
use Rattle.slot_station.specs.declared.token.Coordinator.{Coordinator}
use Rattle.report_text.specs.declared.replies.QueryReply.{QueryReply}
use Rattle.report_text.specs.declared.replies.Reply.TheVariants.{Memory}
use Rattle.report_text.specs.declared.report.Record.{Record}
use Rattle.turn_model.specs.Workloads.{Workload, sets_of}
use Rattle.turn_model.specs.Moves.{Move, Made, Exchanged}
use Rattle.turn_model.specs.Points as point
use Rattle.turn_model.specs.Points.{Point, FreeIt, point_by}
use Rattle.turn_model.specs.Driven.{held_by}
use Rattle.turn_model.specs.Reports.{RanOut}
use Rattle.worker_machine.specs.declared.kept.Core.{Core}
use Rattle.worker_machine.specs.declared.phase.Phase.{Phase}
use Rattle.worker_machine.specs.declared.phase.Phase.TheVariants as phase
use Rattle.turn_model.proofs.RecordsStay.{of-work-stays}
use Rattle.turn_model.specs.Endings.{Beside, Work, HasRoom, IsRecordAt, IsReplyAt, ended_after, ended_by, gathered_by, gathered_after, work_by}
use Rattle.turn_model.specs.Tellings.{AreShortOut, IsOfWork}
use Rattle.worker_machine.specs.Outcomes.{IsAsked, IsPicked}
use Rattle.worker_machine.specs.Telling.{Tells, given_up, telling_of}

-- ---- lists, item by item

pub beside-length : {A B : Type 0} (P : A → B → Type 0) (xs : List A) (ys : List B) → Beside P xs ys → length xs ≡ length ys
beside-length P [] [] all = refl
beside-length P (x ∷ xs) (y ∷ ys) all = let e = beside-length P xs ys all.1 in omega (arith, e)
beside-length P [] (y ∷ ys) all = absurd (all)
beside-length P (x ∷ xs) [] all = absurd (all)

-- ---- a longer trail

-- what was seen before a call is a beginning of what was seen after it
pub called-begins : {e : Entry} {new before old : List Entry} → new ≡ e ∷ before → Begins before old → Begins new old
called-begins {e} is (more, rest) = (e ∷ more, is ∙ ap (λ l. e ∷ l) rest)

-- and what was told of it stays right
pub told-grown : {D : Desk Workload} {early : List Entry} {work : Work} {core : Core} {p : Phase} (h : List Entry) → IsLegal D.shape h → Begins h early
    → Tells D early work core p → Tells D h work core p
told-grown {D} {early} {work} {core} {p} h legal begins has = record {
  reply_room = has.reply_room;
  record_room = has.record_room;
  tells = λ room. of-work-stays D h early work (telling_of core p) legal begins (has.tells room);
}

-- ---- what stays

pub told-kept : {D : Desk Workload} {h : List Entry} {work : Work} (core core' : Core) (p p' : Phase) → core'.replies ≡ core.replies
    → core'.records ≡ core.records → given_up p' ≡ given_up p → Tells D h work core p → Tells D h work core' p'
told-kept {D} {h} {work} core core' p p' replies records gives has = record {
  reply_room = subst (λ (v : Vec QueryReply Global). D.shape.queries ≤ vec_capacity v) (sym replies) has.reply_room;
  record_room = subst (λ (v : Vec Record Global). sets_of D.shape D.subject ≤ vec_capacity v) (sym records) has.record_room;
  tells = λ room. let t = has.tells room in record {
    replies = subst (λ (v : Vec QueryReply Global). Beside (IsReplyAt D.subject) (reverse v.items) work.ended) (sym replies) t.replies;
    records = subst (λ (v : Vec Record Global). Beside (IsRecordAt D h) (reverse v.items) work.gathered) (sym records) t.records;
    short = subst (λ (v : Vec QueryReply Global). AreShortOut v.items (given_up p') core'.records.items) (sym replies)
        (subst (λ (v : Vec Record Global). AreShortOut core.replies.items (given_up p') v.items) (sym records)
        (subst (λ o. AreShortOut core.replies.items o core.records.items) (sym gives) t.short));
  };
}

pub asked-gives : (c : Coordinator) (p : Phase) → IsAsked c p → given_up p ≡ None
asked-gives c (phase.Ask d) ok = refl
asked-gives c (phase.Sweep d) ok = refl
asked-gives c p ok = absurd (ok)

pub picked-gives : (slots : ℕ) (p : Phase) → IsPicked slots p → given_up p ≡ None
picked-gives slots (phase.Ready e) ok = refl
picked-gives slots (phase.Enter s) ok = refl
picked-gives slots p ok = absurd (ok)

-- an exchange with which no task set is gathered
pub exchange-tells : (D : Desk Workload) (ms : List Move) (x : Point) {h : List Entry} {core core' : Core} {p p' : Phase} → x ≡ point_by D ms
    → gathered_after x D.shape.workers (finalised_id (held_by D ms)) (gathered_by D ms) ≡ gathered_by D ms
    → core'.replies ≡ core.replies → core'.records ≡ core.records → given_up p' ≡ given_up p
    → Tells D h (work_by D ms) core p → Tells D h (work_by D (Exchanged ∷ ms)) core' p'
exchange-tells D ms x {h} {core} {core'} {p} {p'} at none replies records gives has =
    subst (λ (g : List ℕ). Tells D h (record { ended = ended_by D ms; gathered = g }) core' p')
    (sym none ∙ ap (λ y. gathered_after y D.shape.workers (finalised_id (held_by D ms)) (gathered_by D ms)) at)
    (told-kept core core' p p' replies records gives has)

-- ---- one more

get-left : {A : Type 0} (xs ys : List A) (i : ℕ) (x : A) → slice_get xs i ≡ Some x → slice_get (xs ++ ys) i ≡ Some x
get-left [] ys i x got = absurd (cc)
get-left (z ∷ zs) ys zero x got = got
get-left (z ∷ zs) ys (suc i) x got = get-left zs ys i x got

get-last : {A : Type 0} (xs : List A) (x : A) → slice_get (xs ++ x ∷ []) (length xs) ≡ Some x
get-last [] x = refl
get-last (z ∷ zs) x = get-last zs x

pub still-out : (replies : List QueryReply) (r : QueryReply) (q : ℕ) → RanOut q replies → RanOut q (replies ++ r ∷ [])
still-out replies r q (i, x, got, is) = (i, x, get-left replies (r ∷ []) i x got, is)

pub now-out : (replies : List QueryReply) (r : QueryReply) (q : ℕ) → r.query ≡ q → r.reply ≡ Memory → RanOut q (replies ++ r ∷ [])
now-out replies r q same none = (length replies, r, get-last replies r, (same, none))

reverse-push : {A : Type 0} (xs : List A) (x : A) → reverse (xs ++ x ∷ []) ≡ x ∷ reverse xs
reverse-push xs x = reverse-append xs (x ∷ [])

-- ---- a reply

-- what a worker replies with the note of a holding's last task sets
pub record Replies (D : Desk Workload) (held : Held) (old new : Core) : Type 0 where
  pub reply : QueryReply
  pub at : IsReplyAt D.subject reply held
  pub room : vec_capacity old.replies ≤ vec_capacity new.replies
  pub pushed : length old.replies.items < vec_capacity old.replies → new.replies.items ≡ old.replies.items ++ reply ∷ []
  pub records : new.records ≡ old.records

module _ (D : Desk Workload) (ms : List Move) (n : ℕ) (h : List Entry) (core core' : Core) (p p' : Phase) (r : Replies D (held_by D ms) core core')
    (gives : (q : ℕ) → given_up p ≡ Some q → (r.reply.query ≡ q) × (r.reply.reply ≡ Memory)) (has : Tells D h (work_by D ms) core p) where
  replied-tells : HasRoom D (record { ended = held_by D ms ∷ ended_by D ms; gathered = gathered_by D ms })
      → IsOfWork D h (record { ended = held_by D ms ∷ ended_by D ms; gathered = gathered_by D ms }) (telling_of core' p')
  replied-tells room =
      let most = room.replies in
      let t = has.tells (record { replies = omega (arith, most); records = room.records }) in
      let len = beside-length (IsReplyAt D.subject) (reverse core.replies.items) (ended_by D ms) t.replies in
      let len' : length (reverse core.replies.items) ≡ length core.replies.items = length-reverse core.replies.items in
      let cap = has.reply_room in
      let is : core'.replies.items ≡ core.replies.items ++ r.reply ∷ [] = r.pushed (omega (arith, most, len, len', cap)) in
      let out : (q : ℕ) → RanOut q core.replies.items ⊎ (given_up p ≡ Some q) → RanOut q core'.replies.items ⊎ (given_up p' ≡ Some q) =
      λ q was. inl (subst (RanOut q) (sym is) (⊎_elim (still-out core.replies.items r.reply q)
      (λ e. now-out core.replies.items r.reply q (gives q e).0 (gives q e).1) was)) in
      record {
        replies = subst (λ (l : List QueryReply). Beside (IsReplyAt D.subject) l (held_by D ms ∷ ended_by D ms))
            (sym (ap reverse is ∙ reverse-push core.replies.items r.reply)) (r.at, t.replies);
        records = subst (λ (v : Vec Record Global). Beside (IsRecordAt D h) (reverse v.items) (gathered_by D ms)) (sym r.records) t.records;
        short = subst (λ (v : Vec Record Global). AreShortOut core'.replies.items (given_up p') v.items) (sym r.records)
            (λ k d lt is-short. out _ (t.short k d lt is-short));
      }

  pub told-replied : point_by D (Made (NoteDone n) 0 ∷ ms) ≡ FreeIt → Tells D h (work_by D (Made (NoteDone n) 0 ∷ ms)) core' p'
  told-replied freed =
      let more-room = r.room in
      let cap = has.reply_room in
      subst (λ (x : Point). Tells D h (record { ended = ended_after (NoteDone n) x (held_by D ms) (ended_by D ms); gathered = gathered_by D ms })
      core' p') (sym freed) (record {
        reply_room = omega (arith, more-room, cap);
        record_room = subst (λ (v : Vec Record Global). sets_of D.shape D.subject ≤ vec_capacity v) (sym r.records) has.record_room;
        tells = replied-tells;
      })

-- a note after which the holding goes on
pub told-noted : (D : Desk Workload) (ms : List Move) (n : ℕ) {h : List Entry} {core core' : Core} {p p' : Phase} → point.Fill 0
    ≡ point_by D (Made (NoteDone n) 0 ∷ ms)
    → core'.replies ≡ core.replies → core'.records ≡ core.records → given_up p' ≡ given_up p
    → Tells D h (work_by D ms) core p → Tells D h (work_by D (Made (NoteDone n) 0 ∷ ms)) core' p'
told-noted D ms n {h} {core} {core'} {p} {p'} goes replies records gives has =
    subst (λ (x : Point). Tells D h (record { ended = ended_after (NoteDone n) x (held_by D ms) (ended_by D ms); gathered = gathered_by D ms }) core' p') goes
    (told-kept core core' p p' replies records gives has)

-- ---- a record

-- what a worker writes down of a task set whose benches it gathered
pub record Gathers (D : Desk Workload) (h : List Entry) (held : Held) (old new : Core) (next : Phase) : Type 0 where
  pub kept : Record
  pub at : IsRecordAt D h kept (finalised_id held)
  pub room : vec_capacity old.records ≤ vec_capacity new.records
  pub pushed : length old.records.items < vec_capacity old.records → new.records.items ≡ old.records.items ++ kept ∷ []
  pub replies : new.replies ≡ old.replies
  pub gives : kept.short ≡ true → given_up next ≡ Some kept.query

module _ (D : Desk Workload) (ms : List Move) (h : List Entry) (core core' : Core) (p p' : Phase) (r : Gathers D h (held_by D ms) core core' p')
    (none : given_up p ≡ None) (has : Tells D h (work_by D ms) core p) where
  gathered-tells : HasRoom D (record { ended = ended_by D ms; gathered = finalised_id (held_by D ms) ∷ gathered_by D ms })
      → IsOfWork D h (record { ended = ended_by D ms; gathered = finalised_id (held_by D ms) ∷ gathered_by D ms }) (telling_of core' p')
  gathered-tells room =
      let most = room.records in
      let t = has.tells (record { replies = room.replies; records = omega (arith, most) }) in
      let len = beside-length (IsRecordAt D h) (reverse core.records.items) (gathered_by D ms) t.records in
      let len' : length (reverse core.records.items) ≡ length core.records.items = length-reverse core.records.items in
      let cap = has.record_room in
      let is : core'.records.items ≡ core.records.items ++ r.kept ∷ [] = r.pushed (omega (arith, most, len, len', cap)) in
      let stays : (q : ℕ) → RanOut q core.replies.items ⊎ (given_up p ≡ Some q) → RanOut q core'.replies.items ⊎ (given_up p' ≡ Some q) =
      λ q was. ⊎_elim (λ out. inl (subst (λ (v : Vec QueryReply Global). RanOut q v.items) (sym r.replies) out))
      (λ e. absurd (let bad : None ≡ Some q = sym none ∙ e in cc)) was in
      record {
        replies = subst (λ (v : Vec QueryReply Global). Beside (IsReplyAt D.subject) (reverse v.items) (ended_by D ms)) (sym r.replies) t.replies;
        records = subst (λ (l : List Record). Beside (IsRecordAt D h) l (finalised_id (held_by D ms) ∷ gathered_by D ms))
            (sym (ap reverse is ∙ reverse-push core.records.items r.kept)) (r.at, t.records);
        short = subst (AreShortOut core'.replies.items (given_up p')) (sym is)
            (All-push (λ (kept : Record). kept.short ≡ true → RanOut kept.query core'.replies.items ⊎ (given_up p' ≡ Some kept.query))
            core.records.items r.kept (λ k d lt is-short. stays _ (t.short k d lt is-short)) (λ is-short. inr (r.gives is-short)));
      }

  pub told-gathered : point.Fetch (D.shape.workers - 1) ≡ point_by D ms → 0 < D.shape.workers → Tells D h (work_by D (Exchanged ∷ ms)) core' p'
  told-gathered at some =
      let more-room = r.room in
      let cap = has.record_room in
      subst (λ (g : List ℕ). Tells D h (record { ended = ended_by D ms; gathered = g }) core' p')
      (sym (ap (λ b. cond b (finalised_id (held_by D ms) ∷ gathered_by D ms) (gathered_by D ms))
      (eq-eqb (D.shape.workers - 1 + 1) D.shape.workers (omega (arith, some))))
      ∙ ap (λ (x : Point). gathered_after x D.shape.workers (finalised_id (held_by D ms)) (gathered_by D ms)) at) (record {
        reply_room = subst (λ (v : Vec QueryReply Global). D.shape.queries ≤ vec_capacity v) (sym r.replies) has.reply_room;
        record_room = omega (arith, more-room, cap);
        tells = gathered-tells;
      })

-- a fetch that is not the last one
pub fetch-tells : (D : Desk Workload) (ms : List Move) (v : ℕ) {h : List Entry} {core core' : Core} {p p' : Phase} → point.Fetch v ≡ point_by D ms
    → v + 1 < D.shape.workers → core'.replies ≡ core.replies → core'.records ≡ core.records → given_up p' ≡ given_up p
    → Tells D h (work_by D ms) core p → Tells D h (work_by D (Exchanged ∷ ms)) core' p'
fetch-tells D ms v at more =
    exchange-tells D ms (point.Fetch v) at
    (ap (λ b. cond b (finalised_id (held_by D ms) ∷ gathered_by D ms) (gathered_by D ms)) (ne_eqb (v + 1) D.shape.workers (λ e. omega (arith, e, more))))
