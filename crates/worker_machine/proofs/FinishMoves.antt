-- What the calls of a finish do to what a worker keeps, by the moves.
use Rattle.std.proofs.Common.{◌≡◌, ◌⊎◌, inl, inr, ℕ, ◌+◌, ◌%◌, ◌<◌, true, false, cond, ltb, List, Some, None, refl, sym, ap, ◌∙◌, subst}
use Rattle.std.proofs.Common.{Bool, if◌then◌else◌, ◌==◌, ◌≤◌, length, get_or, slice_get, unwrap_or, lt-ltb, le-ltb, arith}
use Rattle.std.specs.Option.{option_map, option_map_or}
use Rattle.std.proofs.lemmas.Bool.{cases_order}
use Rattle.std.proofs.lemmas.Option.{slice_get_cases}
use Rattle.slot_history.specs.declared.shape.TheConstants.{STAGES}
use Rattle.slot_history.specs.declared.place.Held.{Held}
use Rattle.slot_history.specs.States.{held_at}
use Rattle.stride_set.specs.Strides.{Strides}
use Rattle.slot_station.specs.declared.token.Holder.{Holder}
use Rattle.slot_station.specs.Desks.{Seen, own_place}
use Rattle.plan_ast.specs.Answer.{answer_of}
use Rattle.plan_ast.specs.Stages.{builds, scans, merges, merges_of, stage_at, stages_of}
use Rattle.plan_ast.specs.declared.answers.Answer.{Answer}
use Rattle.plan_ast.specs.declared.queries.Join.{Join}
use Rattle.plan_ast.specs.declared.queries.NamedTable.{NamedTable}
use Rattle.plan_ast.specs.declared.queries.Output.{Output}
use Rattle.plan_ast.specs.declared.queries.Output.TheVariants.{Rows, Totals, Groups}
use Rattle.plan_ast.specs.declared.queries.Query.{Query}
use Rattle.plan_ast.proofs.SideLemmas.{stage_at-merges, stage_at-scans}
use Rattle.pipe_ops.specs.Inputs.{checked_in, query_in, tables_in}
use Rattle.pipe_ops.specs.StageResults.{IsResultOf, IsScanned}
use Rattle.pipe_ops.specs.declared.results.StageResult.TheVariants as result
use Rattle.turn_model.specs.Moves.{Move}
use Rattle.turn_model.specs.Learned.{place_by}
use Rattle.turn_model.specs.Points as point
use Rattle.turn_model.specs.Points.{goes_on}
use Rattle.bench_cell.specs.declared.plan.Plan.{Plan}
use Rattle.bench_cell.specs.declared.bench.Bench.{Bench}
use Rattle.bench_cell.specs.Plans.{checked_of, subject_of_plan, tables_of}
use Rattle.bench_cell.proofs.PlanLemmas.{query-at}
use Rattle.worker_machine.specs.declared.kept.Core.{Core}
use Rattle.worker_machine.specs.declared.phase.Phase.{Phase}
use Rattle.worker_machine.specs.declared.phase.Phase.TheVariants as phase
use Rattle.worker_machine.specs.Benches.{IsResultFor}
use Rattle.worker_machine.specs.Loads.{load_of, model_desk}
use Rattle.worker_machine.specs.PointsOf.{point_of}
use Rattle.worker_machine.specs.Hands.{EndsQuery, HoldsAs, IsNextMade, IsTaskHeld, next_by, finalised_by}
use Rattle.worker_machine.specs.Outcomes.{IsFinishing}
use Rattle.worker_machine.specs.Keeps.{chosen}
use Rattle.worker_machine.proofs.Tasks.{next-is, parts, task-stage}

-- ---- the last result of a query

scanned : (tables : List NamedTable) (query : Query) (output : Output) (answer : Answer) → IsScanned tables query output (result.Answer answer)
    → (merges_of output ≡ 0) × (answer ≡ answer_of tables query)
scanned tables query (Rows columns) answer is = (refl, is)
scanned tables query (Totals aggs) answer is = (refl, is)
scanned tables query (Groups by aggs) answer is = absurd (is)

merges-few : (output : Output) → merges_of output ≤ 1
merges-few (Rows columns) = omega arith
merges-few (Totals aggs) = omega arith
merges-few (Groups by aggs) = omega arith

module _ (tables : List NamedTable) (query : Query) (number : ℕ) (answer : Answer) (low : number < stages_of query)
    (is : IsResultOf tables query (stage_at query number) (result.Answer answer)) where
  -- a build has no answer
  built : ((join : Join) × (number < length query.joins) × (slice_get query.joins number ≡ Some join) × (get_or query.joins number join ≡ join))
      ⊎ ((length query.joins ≤ number) × (slice_get query.joins number ≡ None)) → length query.joins ≤ number
  built (inl (join, short, got, rest)) =
      let stage : stage_at query number ≡ builds join = ap (λ o. option_map_or builds o (if number == length query.joins then scans else merges)) got in
      absurd (subst (λ s. IsResultOf tables query s (result.Answer answer)) stage is)
  built (inr (past, none)) = past

  by-order : length query.joins ≤ number → (number ≡ length query.joins) ⊎ ((number < length query.joins) ⊎ (length query.joins < number))
      → (number + 1 ≡ stages_of query) × (answer ≡ answer_of tables query)
  by-order past (inl last) =
      let s = scanned tables query query.output answer (subst (λ s. IsResultOf tables query s (result.Answer answer)) (stage_at-scans query number last) is) in
      let none = s.0 in
      (omega (arith, last, none), s.1)
  by-order past (inr (inl short)) = absurd (omega (arith, past, short))
  by-order past (inr (inr over)) =
      let few = merges-few query.output in (
        omega (arith, over, few, low),
        subst (λ s. IsResultOf tables query s (result.Answer answer)) (stage_at-merges query number over) is,
      )

  -- a stage whose result is an answer is the last one
  pub answer-last : (number + 1 ≡ stages_of query) × (answer ≡ answer_of tables query)
  answer-last = by-order (built (slice_get_cases query.joins number).1) (cases_order number (length query.joins))

-- so is the one of a holding
pub ends-query : (plan : Plan) (h : Holder) (answer : Answer) → IsTaskHeld plan h → h.again ≡ true → IsResultFor plan (finalised_by h) (result.Answer answer)
    → EndsQuery plan h answer
ends-query plan h answer held again (inputs, has) =
    let q : ℕ = unwrap_or h.query 0 in
    let ps = parts (finalised_by h) q h.stage refl held.low in
    let e = answer-last (tables_in inputs) (query_in inputs) inputs.stage answer has.sound.stage has.whole_is in
    let got : slice_get (checked_of plan) q ≡ Some (checked_in inputs) = ap (slice_get (checked_of plan)) (sym ps.0) ∙ has.of_set.query in
    let query : slice_get (subject_of_plan plan).queries q ≡ Some (query_in inputs) = query-at plan q (checked_in inputs) got in
    let stages : (load_of plan).stages q ≡ stages_of (query_in inputs) = ap (λ o. option_map_or stages_of o 0) query in
    let at : inputs.stage ≡ h.stage = has.of_set.stage ∙ ps.1 in
    record {
      last = ap (λ n. n + 1) (sym at) ∙ e.0 ∙ sym stages;
      answer_is = ap (option_map (answer_of (tables_of plan))) query
          ∙ ap (λ tables. Some (answer_of tables (query_in inputs))) (sym has.of_set.tables) ∙ ap Some (sym e.1);
      again = again;
    }

-- ---- the points

pub finishing-chosen : (core : Core) (h : Holder) (p : Phase) → IsFinishing core h p → (st : Strides) → chosen p st ≡ st
finishing-chosen core h (phase.Give k) ok st = refl
finishing-chosen core h (phase.Note k answer) ok st = refl
finishing-chosen core h p ok st = absurd (ok)

-- all cells were fetched
pub finishing-point : (n : ℕ) (core : Core) (h : Holder) (p : Phase) → IsFinishing core h p → h.again ≡ true → point_of n p ≡ point.Fetch n
finishing-point n core h (phase.Give k) ok again =
    ap (λ (x : Holder). cond x.again (point.Fetch n) (point.Fill 0)) ok ∙ ap (λ b. cond b (point.Fetch n) (point.Fill 0)) again
finishing-point n core h (phase.Note k answer) ok again = refl
finishing-point n core h p ok again = absurd (ok)

-- one stage was noted, and there is a next one, or there is none
module _ {O : Type 0} (seen : Seen O Plan) (h : Holder) (ms : List Move) (holds : HoldsAs seen h 0 None)
    (at : own_place seen ≡ place_by (model_desk seen.desk) ms) where
  pub held-made : held_at (place_by (model_desk seen.desk) ms) ≡ record { query = h.query; stage = h.stage; again = h.again; noted = 0; total = None }
  held-made = ap held_at (sym at ∙ holds.place)

  abbrev stages : ℕ
  stages = (load_of seen.desk.subject).stages (unwrap_or h.query 0)

  noted-point : (b : Bool) → ltb (h.stage + 1) stages ≡ b
      → cond (goes_on (load_of seen.desk.subject) (held_at (place_by (model_desk seen.desk) ms)) 1) (point.Fill 0) point.FreeIt
      ≡ cond b (point.Fill 0) point.FreeIt
  noted-point b is =
      ap (λ (k : Held). cond (goes_on (load_of seen.desk.subject) k 1) (point.Fill 0) point.FreeIt) held-made ∙ ap (λ x. cond x (point.Fill 0) point.FreeIt) is

  pub note-goes : (benches : List Bench) → IsNextMade seen benches h
      → point.Fill 0 ≡ cond (goes_on (load_of seen.desk.subject) (held_at (place_by (model_desk seen.desk) ms)) 1) (point.Fill 0) point.FreeIt
  note-goes benches next =
      let is = next-is h next.again in
      let low = next.low in
      let ps = parts (next_by h) (unwrap_or h.query 0) (h.stage + 1) (omega (arith, is)) low in
      let lt : h.stage + 1 < stages = subst (λ k. k < stages) ps.1
      (subst (λ q. next_by h % STAGES < (load_of seen.desk.subject).stages q) ps.0 (task-stage seen.desk.subject (next_by h) next.task)) in
      sym (noted-point true (lt-ltb (h.stage + 1) stages lt))

  pub note-ends : (answer : Answer) → EndsQuery seen.desk.subject h answer
      → point.FreeIt ≡ cond (goes_on (load_of seen.desk.subject) (held_at (place_by (model_desk seen.desk) ms)) 1) (point.Fill 0) point.FreeIt
  note-ends answer ends =
      let last = ends.last in
      sym (noted-point false (le-ltb (h.stage + 1) stages (omega (arith, last))))
