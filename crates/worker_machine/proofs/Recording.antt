-- The record of a task set that was gathered, by the holder's trail.
use Rattle.std.proofs.Common.{◌≡◌, ℕ, ◌-◌, ◌%◌, ◌<◌, Bool, true, cond, List, [], ◌∷◌}
use Rattle.std.proofs.Common.{◌++◌, map, Some, None, unwrap_or, refl, sym, ap, ap₂, ◌∙◌, subst, arith}
use Rattle.std.specs.Prelude.{reverse}
use Rattle.std.specs.Arc.{arc_value}
use Rattle.std.proofs.lemmas.List.{reverse-append}
use Rattle.slot_history.specs.declared.shape.Shape.{Shape}
use Rattle.slot_history.specs.declared.shape.TheConstants.{STAGES}
use Rattle.slot_history.specs.declared.act.Entry.{Entry}
use Rattle.slot_history.specs.declared.place.Held.{Held}
use Rattle.slot_history.specs.States.{finalised_id, held_at}
use Rattle.slot_history.specs.Histories.{Morsel, Tiles, claims_of, finisher_of, lasts_of, slot_with}
use Rattle.slot_history.specs.Histories as history
use Rattle.slot_history.proofs.TaskSetsKept.{task-sets-stay}
use Rattle.slot_history.proofs.Finishers.{holder-is-finisher}
use Rattle.slot_history.proofs.Holders.{holder-finishes}
use Rattle.slot_history.proofs.Looks.{finishing-in-slot}
use Rattle.slot_station.specs.declared.token.Holder.{Holder}
use Rattle.slot_station.specs.Desks.{Desk, KeepsTrail, Seen, own_place}
use Rattle.turn_model.specs.Moves.{Move, Exchanged}
use Rattle.turn_model.specs.Points as point
use Rattle.turn_model.specs.Points.{point_by}
use Rattle.turn_model.specs.Learned.{place_by}
use Rattle.turn_model.specs.Driven.{held_by}
use Rattle.turn_model.specs.Reports.{as_claim, id_of_record}
use Rattle.bench_cell.specs.declared.plan.Plan.{Plan}
use Rattle.bench_cell.specs.Plans.{total_of}
use Rattle.bench_cell.specs.Gathering.{Ended, IsRecordOf}
use Rattle.bench_cell.specs.Tilings.{FitClaims, journal_of}
use Rattle.report_text.specs.declared.report.Record.{Record}
use Rattle.worker_machine.specs.declared.kept.Core.{Core}
use Rattle.worker_machine.specs.declared.phase.Phase.{Phase}
use Rattle.worker_machine.specs.Hands.{HoldsAs, IsHistoryOf, IsTaskHeld, finalised_by}
use Rattle.worker_machine.specs.Loads.{load_of, model_desk}
use Rattle.turn_model.specs.Endings.{IsRecordAt, work_by}
use Rattle.worker_machine.specs.Telling.{Tells, KeepsRecord, given_up}
use Rattle.worker_machine.proofs.Telling.{Gathers, told-gathered}
use Rattle.worker_machine.proofs.Calls.{place-kept}
use Rattle.worker_machine.proofs.Replying.{some-query}
use Rattle.worker_machine.proofs.Finishing.{tiled-by}
use Rattle.worker_machine.proofs.Tasks.{parts, task-stage}

some-is : (x y : ℕ) → Some x ≡ Some y → x ≡ y
some-is x y e = ap (λ o. unwrap_or o x) e

map-push : {A B : Type 0} (f : A → B) (xs : List A) (x : A) → map f (xs ++ x ∷ []) ≡ map f xs ++ f x ∷ []
map-push f [] x = refl
map-push f (y ∷ ys) x = ap (λ l. f y ∷ l) (map-push f ys x)

-- the total of a task set of a plan that was read
pub total-at : (plan plan' : Plan) (id id' total : ℕ) → plan' ≡ plan → id' ≡ id → total_of plan' id' ≡ Some total → total_of plan id ≡ Some total
total-at plan plan' id id' total same at is = ap₂ total_of (sym same) (sym at) ∙ is

-- a record that is known to be short, or not to be, is as short as it says
pub of-itself : {ended : Ended} {short : Bool} {kept : Record} → IsRecordOf ended short kept → IsRecordOf ended kept.short kept
of-itself e = record {
  query_is = e.query_is;
  stage_is = e.stage_is;
  slot_is = e.slot_is;
  total_is = e.total_is;
  finisher_is = e.finisher_is;
  short_is = refl;
}

-- the claims of a record, the oldest first
journal-is : (claims : List Morsel) → journal_of claims ≡ reverse (map as_claim claims)
journal-is [] = refl
journal-is (m ∷ ms) =
    ap (map as_claim) (reverse-append (m ∷ []) ms) ∙ map-push as_claim (reverse ms) m ∙ ap (λ l. l ++ as_claim m ∷ []) (journal-is ms)
    ∙ sym (reverse-append (as_claim m ∷ []) (map as_claim ms))

-- the holder, at the last fetch
module _ {O : Type 0} (seen : Seen O Plan) (h : Holder) (held : HoldsAs seen h 0 None) (again : h.again ≡ true) (known : IsHistoryOf seen)
    (low : seen.desk.worker < seen.desk.shape.workers) (task : IsTaskHeld seen.desk.subject h) {core core' : Core} {p : Phase}
    (has : arc_value core.plan ≡ seen.desk.subject) (owner : core.worker ≡ seen.desk.worker) (r : KeepsRecord core core' h p)
    (fit : FitClaims (arc_value core.plan) (finalised_by h) (claims_of seen.desk.shape (finalised_by h) seen.trail) core.benches.items) where
  abbrev holding : Held
  holding = record { query = h.query; stage = h.stage; again = h.again; noted = 0; total = None }

  recorded-id : id_of_record r.kept ≡ finalised_by h
  recorded-id =
      let q = r.ends.query_is in
      let k = r.ends.stage_is in
      omega (arith, q, k)

  recorded-total : (total : ℕ) → history.total_of seen.desk.shape (finalised_by h) seen.trail ≡ Some total → r.kept.total ≡ total
  recorded-total total is =
      r.ends.total_is ∙ some-is r.total total (sym r.total_is ∙ ap (λ (x : Plan). total_of x (finalised_by h)) has ∙ known.totals (finalised_by h) total is)

  pub recorded-at : IsRecordAt (model_desk seen.desk) seen.trail r.kept (finalised_by h)
  recorded-at =
      let d : Shape = seen.desk.shape in
      let id : ℕ = finalised_by h in
      let trail : List Entry = seen.trail in
      let t = tiled-by seen h held again known low in
      let same : r.kept.total ≡ t.1.0 = recorded-total t.1.0 t.1.1 in
      let sum : r.total ≡ t.1.0 = sym r.ends.total_is ∙ same in
      let in-slot = finishing-in-slot d trail known.legal h.slot id seen.desk.worker holding
      (holder-finishes d seen.desk.worker h.slot holding trail known.legal low held.place again) in (
        recorded-id,
        record {
          stage = subst (λ k. k < (load_of seen.desk.subject).stages r.kept.query) (sym r.ends.stage_is)
              (subst (λ q. id % STAGES < (load_of seen.desk.subject).stages q) (sym r.ends.query_is) (task-stage seen.desk.subject id task.task));
          last = subst (λ i. lasts_of d i trail ≡ 1) (sym recorded-id) ((task-sets-stay d trail trail known.legal ([], refl)).last id t.0);
          slot = subst (λ i. slot_with d i trail ≡ Some r.kept.slot) (sym recorded-id) (in-slot.0 ∙ ap Some (sym r.ends.slot_is));
          total = subst (λ i. history.total_of d i trail ≡ Some r.kept.total) (sym recorded-id) (t.1.1 ∙ ap Some (sym same));
          of_load = subst (λ i. total_of seen.desk.subject i ≡ Some r.kept.total) (sym recorded-id) (known.totals id t.1.0 t.1.1 ∙ ap Some (sym same));
          finisher = subst (λ i. finisher_of d i trail ≡ Some r.kept.finisher) (sym recorded-id)
              (holder-is-finisher d trail known.legal seen.desk.worker h.slot holding low held.place again ∙ ap Some (sym (r.ends.finisher_is ∙ owner)));
          claims = r.claims (claims_of d id trail) (subst (Tiles (claims_of d id trail)) (sym sum) t.1.2) fit
              ∙ ap (λ l. cond r.kept.short [] l) (journal-is (claims_of d id trail))
              ∙ ap (λ i. cond r.kept.short [] (reverse (map as_claim (claims_of d i trail)))) (sym recorded-id);
        },
      )

  pub short-gives : r.kept.short ≡ true → given_up p ≡ Some r.kept.query
  short-gives short =
      let ps = parts (finalised_by h) (unwrap_or h.query 0) h.stage refl task.low in
      ap given_up (r.short short) ∙ ap (λ b. cond b h.query None) again ∙ some-query h.query task.query ∙ ap Some (sym (r.ends.query_is ∙ ps.0))

  -- what was gathered is written down
  pub gathers : (ms : List Move) → own_place seen ≡ place_by (model_desk seen.desk) ms → core'.replies ≡ core.replies
      → Gathers (model_desk seen.desk) seen.trail (held_by (model_desk seen.desk) ms) core core' p
  gathers ms at replies = record {
    kept = r.kept;
    at = subst (IsRecordAt (model_desk seen.desk) seen.trail r.kept) (sym (ap (λ x. finalised_id (held_at x)) (sym at ∙ held.place))) recorded-at;
    room = r.room;
    pushed = r.pushed;
    replies = replies;
    gives = short-gives;
  }

-- the last fetch
pub fetch-told : {O : Type 0} (old new : Seen O Plan) → KeepsTrail old new → (h : Holder) → HoldsAs new h 0 None → h.again ≡ true → IsHistoryOf new
    → new.desk.worker < new.desk.shape.workers → IsTaskHeld new.desk.subject h → {core core' : Core} {p : Phase} → arc_value core.plan ≡ new.desk.subject
    → core.worker ≡ new.desk.worker → KeepsRecord core core' h p
    → FitClaims (arc_value core.plan) (finalised_by h) (claims_of new.desk.shape (finalised_by h) new.trail) core.benches.items
    → core'.replies ≡ core.replies → (q : Phase) → given_up q ≡ None → (ms : List Move) → own_place old ≡ place_by (model_desk old.desk) ms
    → point.Fetch (old.desk.shape.workers - 1) ≡ point_by (model_desk old.desk) ms → 0 < old.desk.shape.workers
    → Tells (model_desk old.desk) old.trail (work_by (model_desk old.desk) ms) core q
    → Tells (model_desk old.desk) old.trail (work_by (model_desk old.desk) (Exchanged ∷ ms)) core' p
fetch-told old new k h held again known low task {core} {core'} {p} has owner r fit replies q none ms at last some told =
    let placed = subst (λ (y : Desk Plan). own_place new ≡ place_by (model_desk y) ms) (sym k.desk) (place-kept k ∙ at) in
    let gets : Gathers (model_desk old.desk) old.trail (held_by (model_desk old.desk) ms) core core' p =
    subst (λ (t : List Entry). Gathers (model_desk old.desk) t (held_by (model_desk old.desk) ms) core core' p) k.trail
    (subst (λ (y : Desk Plan). Gathers (model_desk y) new.trail (held_by (model_desk y) ms) core core' p) k.desk
    (gathers new h held again known low task has owner r fit ms placed replies)) in
    told-gathered (model_desk old.desk) ms old.trail core core' q p gets none told last some
