-- Task sets of a plan by their numbers.
use Rattle.std.proofs.Common.{◌≡◌, ℕ, ◌+◌, ◌-◌, ◌*◌, ◌/◌, ◌%◌, ◌<◌, ◌≤◌, Bool, true, false, if◌then◌else◌, List, Option, Some, None, IsSome, ◌⊎◌, ◌∙◌}
use Rattle.std.proofs.Common.{nat_lt, length, slice_get, unwrap_or, option_and_then, option_map, get_or, inl}
use Rattle.std.proofs.Common.{inr, refl, sym, ap, ap₂, subst, arith, lt-ltb, ltb-true}
use Rattle.std.specs.Option.{option_map_or}
use Rattle.std.specs.Arc.{arc_value}
use Rattle.std.specs.declared.sync.Arc.{Arc}
use Rattle.std.specs.Global.{Global}
use Rattle.plan_ast.specs.declared.checks.Checked.{Checked}
use Rattle.std.proofs.lemmas.List.{length-map}
use Rattle.std.proofs.lemmas.Option.{slice_get_within, slice_get-map, slice_get_cases}
use Rattle.slot_history.specs.declared.shape.TheConstants.{STAGES}
use Rattle.slot_station.specs.declared.token.Holder.{Holder}
use Rattle.plan_ast.specs.Checks.{query_of}
use Rattle.plan_ast.specs.Stages.{stage_at, stages_of, tuples_of}
use Rattle.plan_ast.specs.declared.queries.NamedTable.{NamedTable}
use Rattle.plan_ast.specs.declared.queries.Query.{Query}
use Rattle.bench_cell.specs.declared.plan.Plan.{Plan}
use Rattle.turn_model.specs.Workloads.{total_at}
use Rattle.bench_cell.specs.Plans.{checked_of, stages_in, subject_of_plan, tables_of}
use Rattle.bench_cell.proofs.PlanLemmas.{query-at}
use Rattle.worker_machine.specs.Hands.{IsTaskHeld, MayInstall, next_by, finalised_by}
use Rattle.worker_machine.specs.Plans.{IsTask}
use Rattle.worker_machine.specs.Loads.{load_of}

some-of : {A : Type 0} (b : Bool) (x : A) → IsSome (if b then Some x else None) → b ≡ true
some-of true x h = refl
some-of false x h = absurd (cc)

stage-of : (o : Option Query) (tables : List NamedTable) (k : ℕ) → IsSome (option_and_then (total_at tables k) o) → k < option_map_or stages_of o 0
stage-of (Some q) tables k h = ltb-true k (stages_of q) (some-of (nat_lt k (stages_of q)) (tuples_of tables q (stage_at q k)) h)
stage-of None tables k h = absurd (cc)

of-stage : (o : Option Query) (tables : List NamedTable) (k : ℕ) → k < option_map_or stages_of o 0 → IsSome (option_and_then (total_at tables k) o)
of-stage (Some q) tables k lt =
    subst (λ b. IsSome (if b then Some (tuples_of tables q (stage_at q k)) else None)) (sym (lt-ltb k (stages_of q) lt)) refl
of-stage None tables k lt = absurd (omega (arith, lt))

-- a task set of the plan is one of a query and a stage
pub task-stage : (plan : Plan) (id : ℕ) → IsTask plan id → id % STAGES < (load_of plan).stages (id / STAGES)
task-stage plan id h = stage-of (slice_get (subject_of_plan plan).queries (id / STAGES)) (tables_of plan) (id % STAGES) h

pub parts : (id q k : ℕ) → id ≡ STAGES * q + k → k < STAGES → (id / STAGES ≡ q) × (id % STAGES ≡ k)
parts id q k is low = (omega (arith, is, low), omega (arith, is, low))

pub stage-task : (plan : Plan) (q k id : ℕ) → id ≡ STAGES * q + k → k < STAGES → k < (load_of plan).stages q → IsTask plan id
stage-task plan q k id is low lt =
    let ps = parts id q k is low in
    of-stage (slice_get (subject_of_plan plan).queries (id / STAGES)) (tables_of plan) (id % STAGES)
    (subst (λ j. j < (load_of plan).stages (id / STAGES)) (sym ps.1) (subst (λ j. k < (load_of plan).stages j) (sym ps.0) lt))

some-get : (o : Option Query) (k : ℕ) → k < option_map_or stages_of o 0 → (q : Query) × (o ≡ Some q)
some-get (Some q) k lt = (q, refl)
some-get None k lt = absurd (omega (arith, lt))

-- its stage is one of that query
pub stage-below : (plan : Plan) (id : ℕ) → IsTask plan id → (c : Checked) → slice_get (checked_of plan) (id / STAGES) ≡ Some c → id % STAGES < stages_in c
stage-below plan id task c got = subst (λ o. id % STAGES < option_map_or stages_of o 0) (query-at plan (id / STAGES) c got) (task-stage plan id task)

pub by-parts : (id : ℕ) → STAGES * (id / STAGES) + id % STAGES ≡ id
by-parts id = omega arith

-- its query is one of the plan
pub task-query : (plan : Plan) (id : ℕ) → IsTask plan id → id / STAGES < length plan.queries.items
task-query plan id task =
    let got = some-get (slice_get (subject_of_plan plan).queries (id / STAGES)) (id % STAGES) (task-stage plan id task) in
    let within = slice_get_within (subject_of_plan plan).queries (id / STAGES) got.0 got.1 in
    subst (λ n. id / STAGES < n) (length-map (checked_of plan) query_of ∙ length-map plan.queries.items arc_value) within

-- the stage of a holding lies within its query
pub held-stage : (plan : Plan) (h : Holder) → IsTaskHeld plan h → h.stage < (load_of plan).stages (unwrap_or h.query 0)
held-stage plan h held =
    let lt = task-stage plan (finalised_by h) held.task in
    let ps = parts (finalised_by h) (unwrap_or h.query 0) h.stage refl held.low in
    subst (λ k. k < (load_of plan).stages (unwrap_or h.query 0)) ps.1 (subst (λ q. finalised_by h % STAGES < (load_of plan).stages q) ps.0 lt)

pub held-query : (plan : Plan) (h : Holder) → IsTaskHeld plan h → unwrap_or h.query 0 < length plan.queries.items
held-query plan h held =
    subst (λ q. q < length plan.queries.items) (parts (finalised_by h) (unwrap_or h.query 0) h.stage refl held.low).0
    (task-query plan (finalised_by h) held.task)

-- as many stages may be noted as are left, at least one
pub rest-notes : (plan : Plan) (h : Holder) (all : ℕ) → IsTaskHeld plan h → all ≡ (load_of plan).stages (unwrap_or h.query 0) → all ≤ 4
    → (h.stage ≤ all) × (0 < all - h.stage) × (h.stage + (all - h.stage) ≤ STAGES)
rest-notes plan h all held is few =
    let at : h.stage < all = subst (λ n. h.stage < n) (sym is) (held-stage plan h held) in
    (omega (arith, at), omega (arith, at), omega (arith, at, few))

-- the first task set of a query that was just admitted may be installed
pub first-next : (plan : Plan) (h h' : Holder) (q : ℕ) → h' ≡ record h { query = Some q } → h.stage ≡ 0 → h.again ≡ false → 0 < (load_of plan).stages q
    → (next_by h' ≡ STAGES * q) × MayInstall plan h' 0 × IsTaskHeld plan h'
first-next plan h h' q is stage again some =
    let task : IsTask plan (STAGES * q + 0) = stage-task plan q 0 (STAGES * q + 0) refl (omega arith) some in
    let query : h'.query ≡ Some q = ap (λ (x : Holder). x.query) is in
    let stage' : h'.stage ≡ 0 = ap (λ (x : Holder). x.stage) is ∙ stage in
    let again' : h'.again ≡ false = ap (λ (x : Holder). x.again) is ∙ again in
    let next : next_by h' ≡ STAGES * q + 0 =
    ap₂ (λ (o : Option ℕ) (n : ℕ). STAGES * unwrap_or o 0 + n) query (ap (λ (b : Bool). if b then h'.stage + 1 else 0) again') in
    let fin : finalised_by h' ≡ STAGES * q + 0 = ap₂ (λ (o : Option ℕ) (n : ℕ). STAGES * unwrap_or o 0 + n) query stage' in (
      omega (arith, next),
      record {
        query = subst IsSome (sym query) refl;
        low = subst (λ n. n < STAGES) (sym stage') (omega arith);
        next = subst (IsTask plan) (sym next) task;
        stage = λ e. absurd (cc);
      },
      record { query = subst IsSome (sym query) refl; low = subst (λ n. n < STAGES) (sym stage') (omega arith); task = subst (IsTask plan) (sym fin) task },
    )

-- the next stage of a finalisation
pub next-is : (h : Holder) → h.again ≡ true → next_by h ≡ finalised_by h + 1
next-is h again =
    let e : next_by h ≡ STAGES * unwrap_or h.query 0 + (h.stage + 1) = ap (λ (b : Bool). STAGES * unwrap_or h.query 0 + (if b then h.stage + 1 else 0)) again in
    omega (arith, e)

-- what is read of a query by its number is that of the query there
pub read-of-get : {A : Type 0} (f : Query → A) (other : A) (plan : Plan) (q : ℕ) (c : Arc Checked Global) → slice_get plan.queries.items q ≡ Some c
    → option_map_or f (slice_get (subject_of_plan plan).queries q) other ≡ f (query_of (arc_value c))
read-of-get f other plan q c got =
    ap (λ o. option_map_or f o other) (query-at plan q (arc_value c) (slice_get-map arc_value plan.queries.items q ∙ ap (option_map arc_value) got))

-- each query has a first stage
pub stages-of-get : (plan : Plan) (q : ℕ) (c : Arc Checked Global) → slice_get plan.queries.items q ≡ Some c → (load_of plan).stages q ≡ stages_in (arc_value c)
stages-of-get = read-of-get stages_of 0

some-stage : (c : Checked) → 0 < stages_in c
some-stage c = omega arith

pub first-stage : (plan : Plan) (q : ℕ) → q < length plan.queries.items → 0 < (load_of plan).stages q
first-stage plan q low = at (slice_get_cases plan.queries.items q).1 where
  at : ((c : Arc Checked Global) × (q < length plan.queries.items) × (slice_get plan.queries.items q ≡ Some c) × (get_or plan.queries.items q c ≡ c))
      ⊎ ((length plan.queries.items ≤ q) × (slice_get plan.queries.items q ≡ None)) → 0 < (load_of plan).stages q
  at (inl (c, w, got, rest)) = subst (λ n. 0 < n) (sym (stages-of-get plan q c got)) (some-stage (arc_value c))
  at (inr (past, none)) = absurd (omega (arith, past, low))
