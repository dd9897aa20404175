-- The finish of a task set.
use Rattle.std.proofs.Common.{◌≡◌, ℕ, ◌+◌, ◌%◌, ◌^◌, ◌<◌, true, List, [], ◌∷◌, Some, None, ◌∙◌}
use Rattle.std.proofs.Common.{All, length, slice_get, IfOk, Result, Ok, Err, sym, ap, subst, arith}
use Rattle.std.specs.Arc.{arc_value}
use Rattle.std.specs.declared.sync.Arc.{Arc}
use Rattle.std.specs.Global.{Global}
use Rattle.std.proofs.lemmas.List.Elements.{All-nil, All-from_get_or}
use Rattle.std.proofs.lemmas.Option.{slice_get-get_or}
use Rattle.slot_history.specs.declared.shape.Shape.{Shape}
use Rattle.slot_history.specs.declared.shape.TheConstants.{STAGES}
use Rattle.slot_history.specs.declared.act.Entry.{Entry}
use Rattle.slot_history.specs.declared.place.Held.{Held}
use Rattle.slot_history.specs.States.{held_at, finalised_id}
use Rattle.slot_history.specs.Histories.{Morsel, Tiles, claims_of, ranges_of, ranges_by, lasts_of, total_of as total_with}
use Rattle.slot_history.proofs.Claims.{ranges-claims}
use Rattle.slot_history.proofs.Holders.{holder-tiles}
use Rattle.slot_history.proofs.Numbers.{claims-within}
use Rattle.slot_station.specs.declared.token.Holder.{Holder}
use Rattle.slot_station.specs.Desks.{Desk, Seen, FinalisedFits, own_holding}
use Rattle.bench_cell.specs.declared.plan.Plan.{Plan}
use Rattle.bench_cell.specs.declared.bench.Bench.{Bench}
use Rattle.bench_cell.specs.Plans.{total_of}
use Rattle.bench_cell.specs.Benches.{AreInputsOf, BenchFits, IsBenchOf}
use Rattle.bench_cell.proofs.TilingLemmas.{tiles_cover}
use Rattle.bench_cell.specs.Tilings.{FitClaims}
use Rattle.bench_cell.specs.Gathering.{CoverTotal, HasWhole, IsWhole}
use Rattle.pipe_ops.specs.Inputs.{AreInputs}
use Rattle.pipe_ops.specs.declared.inputs.Inputs.{Inputs}
use Rattle.pipe_ops.specs.declared.results.StageResult.{StageResult}
use Rattle.report_text.specs.declared.report.ClaimOf.{ClaimOf}
use Rattle.worker_machine.specs.declared.kept.Core.{Core}
use Rattle.worker_machine.specs.Benches.{AreFresh, AreOfTaskSet, HasResult}
use Rattle.worker_machine.specs.Desks.{AreNextMade, HasDesk, desk_of}
use Rattle.worker_machine.specs.Plans.{IsTask}
use Rattle.worker_machine.specs.Hands.{HoldsAs, IsHistoryOf, IsNextMade, IsTaskHeld, next_by, finalised_by}
use Rattle.worker_machine.proofs.Desks.{plan-of, workers-of}
use Rattle.worker_machine.proofs.InputsLemmas.{task-in}
use Rattle.worker_machine.proofs.Tasks.{held-query, next-is}

pub all-from : {A : Type 0} (P : A → Type 0) (xs : List A) → ((u : ℕ) (x : A) → slice_get xs u ≡ Some x → P x) → All P xs
all-from P [] each = All-nil P
all-from P (x ∷ xs) each = All-from_get_or P (x ∷ xs) x (λ u lt. each u _ (slice_get-get_or (x ∷ xs) u x lt))

-- the benches of a task set have its id
pub ids-of : {plan : Plan} {id : ℕ} {bs : List Bench} → AreOfTaskSet plan id bs → All (λ (b : Bench). b.id ≡ id) bs
ids-of {plan} {id} {bs} of = all-from (λ (b : Bench). b.id ≡ id) bs (λ u b got. (of.fit.each u b got).of_set.id_is)

-- the claims of the task set that is finalised, and their total, by the holder's trail
module _ {O : Type 0} (seen : Seen O Plan) (h : Holder) (held : HoldsAs seen h 0 None) (again : h.again ≡ true) (known : IsHistoryOf seen)
    (low : seen.desk.worker < seen.desk.shape.workers) where
  pub tiled-by : (0 < lasts_of seen.desk.shape (finalised_by h) seen.trail)
      × ((total : ℕ) × (total_with seen.desk.shape (finalised_by h) seen.trail ≡ Some total)
      × Tiles (claims_of seen.desk.shape (finalised_by h) seen.trail) total)
  tiled-by =
      let k : Held = record { query = h.query; stage = h.stage; again = h.again; noted = 0; total = None } in
      holder-tiles seen.desk.shape seen.desk.worker h.slot k seen.trail known.legal low held.place again

-- what was fetched fits the claims of the task set that is finalised
pub fetched-fit : {O : Type 0} (seen : Seen O Plan) (h : Holder) (bs : List Bench) → HoldsAs seen h 0 None → IsHistoryOf seen
    → length bs ≡ seen.desk.shape.workers → ((u : ℕ) (c : Bench) → slice_get bs u ≡ Some c → FinalisedFits BenchFits seen u c) → (plan : Plan)
    → plan ≡ seen.desk.subject → FitClaims plan (finalised_by h) (claims_of seen.desk.shape (finalised_by h) seen.trail) bs
fetched-fit seen h bs held known count each plan is =
    let d : Shape = seen.desk.shape in
    let id : ℕ = finalised_by h in
    let trail : List Entry = seen.trail in
    let at : finalised_id (own_holding seen) ≡ id = ap (λ p. finalised_id (held_at p)) held.place in
    record {
      each = λ u c got. subst (λ p. BenchFits p u id (ranges_by u (claims_of d id trail)) c) (sym is)
          (subst (λ rs. BenchFits seen.desk.subject u id rs c) (ranges-claims d u id trail)
          (subst (λ i. BenchFits seen.desk.subject u i (ranges_of d u i trail) c) at (each u c got).1));
      within = subst (λ n. All (λ (m : Morsel). m.worker < n) (claims_of d id trail)) (sym count) (claims-within d trail known.legal id);
    }

-- what was fetched are the benches of all workers on the task set that is finalised
pub fetched-for : {O : Type 0} (seen : Seen O Plan) (h : Holder) (bs : List Bench) → HoldsAs seen h 0 None → h.again ≡ true → IsHistoryOf seen
    → seen.desk.worker < seen.desk.shape.workers → length bs ≡ seen.desk.shape.workers
    → ((u : ℕ) (c : Bench) → slice_get bs u ≡ Some c → FinalisedFits BenchFits seen u c) → (plan : Plan) → plan ≡ seen.desk.subject
    → AreOfTaskSet plan (finalised_by h) bs
fetched-for seen h bs held again known low count each plan is =
    let d : Shape = seen.desk.shape in
    let id : ℕ = finalised_by h in
    let trail : List Entry = seen.trail in
    let t = tiled-by seen h held again known low in
    record {
      claims = claims_of d id trail;
      total = t.1.0;
      total_is = subst (λ p. total_of p id ≡ Some t.1.0) (sym is) (known.totals id t.1.0 t.1.1);
      tiled = t.1.2;
      fit = fetched-fit seen h bs held known count each plan is;
    }

-- the benches of the next task set are in hand
pub next-made : {O : Type 0} (seen : Seen O Plan) (core : Core) (h : Holder) → HasDesk core seen.desk → h.again ≡ true → IsTaskHeld (arc_value core.plan) h
    → AreNextMade core (finalised_by h) → IsNextMade seen core.benches.items h
next-made seen core h has again held made =
    let next = next-is h again in
    let plan = plan-of core has in
    let query = made.query in
    let low = held.low in
    record {
      again = again;
      task = subst (λ p. IsTask p (next_by h)) plan (subst (IsTask (arc_value core.plan)) (sym next) made.task);
      low = omega (arith, query, low);
      count = made.count ∙ workers-of core has;
      fresh = subst (λ (D : Desk Plan). AreFresh D.subject (next_by h) D.shape.workers core.benches.items) has
          (subst (λ i. AreFresh (arc_value core.plan) i core.workers core.benches.items) (sym next) made.fresh);
    }

-- an id of the plan is small
pub few-id : (plan : Plan) (h : Holder) → IsTaskHeld plan h → finalised_by h < 2 ^ 15
few-id plan h held =
    let q = held-query plan h held in
    let few = plan.few in
    let low = held.low in
    omega (arith, q, few, low)

-- the benches of the next task set were made of its inputs
pub next-benches : (old new : Core) (id : ℕ) (next : Inputs) → desk_of new ≡ desk_of old → id % STAGES + 1 < STAGES → AreInputs next → AreInputsOf
    (arc_value old.plan) (id + 1) next
    → length new.benches.items ≡ new.workers → AreFresh (arc_value old.plan) (id + 1) new.workers new.benches.items → AreNextMade new id
next-benches old new id next same low sound of count fresh =
    let e : arc_value new.plan ≡ arc_value old.plan = ap (λ (D : Desk Plan). D.subject) same in
    record {
      query = omega (arith, low);
      task = subst (λ p. IsTask p (id + 1)) (sym e) (task-in (arc_value old.plan) (id + 1) next of sound);
      count = count;
      fresh = subst (λ p. AreFresh p (id + 1) new.workers new.benches.items) (sym e) fresh;
    }

tiles-cover : (plan : Plan) (id : ℕ) (bs : List Bench) (of : AreOfTaskSet plan id bs) → All IsWhole bs → CoverTotal plan id of.total bs
tiles-cover plan id bs of all = tiles_cover plan id of.total of.claims bs of.total_is of.tiled of.fit all

-- what the benches give is the whole result of the task set, for the inputs of the first of them
pub result-of : (plan : Plan) (id : ℕ) (bs : List Bench) (b : Bench) (whole : StageResult) (claims : List ClaimOf) → AreOfTaskSet plan id bs
    → slice_get bs 0 ≡ Some b
    → HasWhole bs whole claims → HasResult plan id whole (arc_value b.inputs)
result-of plan id bs b whole claims of got has =
    let first = (of.fit.each 0 b got).of_set in
    let each : All (IsBenchOf plan id) bs = all-from (IsBenchOf plan id) bs (λ u x g. (of.fit.each u x g).of_set) in
    record {
      sound = first.bench_is.inputs;
      of_set = first.inputs;
      whole_is = has.result_is plan id of.total each (tiles-cover plan id bs of has.none_short) (arc_value b.inputs) first.inputs;
    }

-- the same for a copy of them, if there is one
pub result-for : (plan : Plan) (id : ℕ) (bs : List Bench) (b : Bench) (whole : StageResult) (claims : List ClaimOf) → AreOfTaskSet plan id bs
    → slice_get bs 0 ≡ Some b
    → HasWhole bs whole claims → (from : Arc Inputs Global) → from ≡ b.inputs → {E : Type 0} (copy : Result (Arc Inputs Global) E) → IfOk copy
    (λ x. arc_value x ≡ arc_value from)
    → IfOk copy (λ x. HasResult plan id whole (arc_value x))
result-for plan id bs b whole claims of got has from is (Ok x) same = subst (HasResult plan id whole) (sym (same ∙ ap arc_value is))
    (result-of plan id bs b whole claims of got has)
result-for plan id bs b whole claims of got has from is (Err e) same = same
