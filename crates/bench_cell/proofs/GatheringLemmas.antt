-- What accumulators of benches make together.
use Rattle.std.proofs.Common.{◌≡◌, ◌<◌, ◌+◌, ◌/◌, ◌%◌, ◌++◌, ℕ, List, [], ◌∷◌, Option, Some, None, MatchOption, All, arith, length, map, get_or, refl}
use Rattle.std.proofs.Common.{ap, sym, subst, ◌∙◌, option_map, reverse, rules, slice_get}
use Rattle.std.specs.Arc.{arc_value}
use Rattle.std.specs.List.{AllZip}
use Rattle.std.specs.Option.{IsSome}
use Rattle.std.proofs.lemmas.List.{append-nil, append_assoc, length-reverse, map-append, reverse-append, reverse-reverse}
use Rattle.std.proofs.lemmas.List.Elements.{All-cons, All-head, All-nil, All-tail}
use Rattle.slot_history.specs.declared.shape.TheConstants.{STAGES}
use Rattle.plan_ast.specs.Checks.{query_of}
use Rattle.plan_ast.specs.Folds.{Tuples}
use Rattle.plan_ast.specs.Stages.{stage_at, stages_of, tuples_of}
use Rattle.plan_ast.specs.declared.checks.Checked.{Checked}
use Rattle.plan_ast.specs.declared.queries.NamedTable.{NamedTable}
use Rattle.plan_ast.specs.declared.queries.Query.{Query}
use Rattle.pipe_ops.specs.Inputs.{AreInputs, IsAccOf, checked_in, number_in, query_in, tables_in, total_in}
use Rattle.pipe_ops.specs.StageFolds.{Holds}
use Rattle.pipe_ops.specs.StageResults.{Cover, IsResultOf as IsStageResult, IsWholeResult, Share}
use Rattle.pipe_ops.specs.declared.acc.Acc.{Acc}
use Rattle.pipe_ops.specs.declared.inputs.Inputs.{Inputs}
use Rattle.pipe_ops.specs.declared.results.StageResult.{StageResult}
use Rattle.bench_cell.specs.Benches.{AreInputsOf, IsBenchOf, acc_in, bench_tuples}
use Rattle.bench_cell.specs.Gathering.{AreAccsOf, CoverTotal, IsResultOf, IsWhole}
use Rattle.bench_cell.specs.Plans.{checked_of, stages_in, total_of}
use Rattle.bench_cell.specs.declared.bench.Bench.{Bench}
use Rattle.bench_cell.specs.declared.plan.Plan.{Plan}
use Rattle.bench_cell.proofs.PlanLemmas.{total_by-is}

heads : {A : Type 0} (x y : A) (xs ys : List A) → x ∷ xs ≡ y ∷ ys → x ≡ y
heads x y xs ys e = cc

tails : {A : Type 0} (x y : A) (xs ys : List A) → x ∷ xs ≡ y ∷ ys → xs ≡ ys
tails x y xs ys e = cc

same_some : {A : Type 0} (o : Option A) (x y : A) → o ≡ Some x → o ≡ Some y → x ≡ y
same_some o x y one other = cc

-- what holds of some inputs of a task set holds of all
pub same_task : (plan : Plan) (id : ℕ) (i j : Inputs) → AreInputsOf plan id i → AreInputsOf plan id j → (P : List NamedTable → Checked → ℕ → Type 0)
    → P (tables_in i) (checked_in i) (number_in i) → P (tables_in j) (checked_in j) (number_in j)
same_task plan id i j one other P h =
    let tables : tables_in i ≡ tables_in j = one.tables ∙ sym other.tables in
    let checked : checked_in i ≡ checked_in j = same_some (slice_get (checked_of plan) (id / STAGES)) (checked_in i) (checked_in j) one.query other.query in
    let number : number_in i ≡ number_in j = one.stage ∙ sym other.stage in
    subst (λ t. P t (checked_in j) (number_in j)) tables
    (subst (λ c. P (tables_in i) c (number_in j)) checked (subst (P (tables_in i) (checked_in i)) number h))

-- the total of a task set is that of its inputs
pub total_of-inputs : (plan : Plan) (id : ℕ) (inputs : Inputs) → AreInputsOf plan id inputs → AreInputs inputs → total_of plan id ≡ Some (total_in inputs)
total_of-inputs plan id inputs of are =
    let query : Query = query_in inputs in
    let below : id % STAGES < stages_in (checked_in inputs) = subst (λ n. n < stages_of query) of.stage are.stage in
    total_by-is plan (id / STAGES) (id % STAGES) (checked_in inputs) of.query below
    ∙ ap (λ t. Some (tuples_of t query (stage_at query (id % STAGES)))) (sym of.tables)
    ∙ ap (λ n. Some (tuples_of (tables_in inputs) query (stage_at query n))) (sym of.stage)

-- the accumulators of benches hold the folds over their tuples
held_by : (plan : Plan) (id : ℕ) (inputs : Inputs) → AreInputsOf plan id inputs → (benches : List Bench) (accs : List Acc)
    → All (IsBenchOf plan id) benches → map acc_in benches ≡ map Some accs → AllZip (IsAccOf inputs) (map bench_tuples benches) accs
held_by plan id inputs of [] [] each same = tt
held_by plan id inputs of [] (acc ∷ accs) each same = cc
held_by plan id inputs of (bench ∷ benches) [] each same = cc
held_by plan id inputs of (bench ∷ benches) (acc ∷ accs) each same =
    let this : IsBenchOf plan id bench = All-head (IsBenchOf plan id) bench benches each in
    let is : acc_in bench ≡ Some acc = heads (acc_in bench) (Some acc) (map acc_in benches) (map Some accs) same in
    let own : IsAccOf (arc_value bench.inputs) (bench_tuples bench) acc =
    subst (λ o. MatchOption o (Unit {0}) (IsAccOf (arc_value bench.inputs) (bench_tuples bench))) is this.bench_is.holds in (
      same_task plan id (arc_value bench.inputs) inputs this.inputs of (λ t c n. Holds t (query_of c) (stage_at (query_of c) n) (bench_tuples bench) acc) own,
      held_by plan id inputs of benches accs (All-tail (IsBenchOf plan id) bench benches each)
          (tails (acc_in bench) (Some acc) (map acc_in benches) (map Some accs) same),
    )

some_whole : {A B : Type 0} (f : A → B) (held : Option A) (y : B) → option_map f held ≡ Some y → IsSome held
some_whole f (Some x) y is = search rules
some_whole f None y is = cc

-- benches that all have an accumulator are not short
pub all_whole : (benches : List Bench) (accs : List Acc) → AreAccsOf benches accs → All IsWhole benches
all_whole [] accs same = All-nil IsWhole
all_whole (bench ∷ benches) [] same = cc
all_whole (bench ∷ benches) (acc ∷ accs) same =
    All-cons IsWhole bench benches (some_whole _ bench.acc acc (heads (acc_in bench) (Some acc) (map acc_in benches) (map Some accs) same))
    (all_whole benches accs (tails (acc_in bench) (Some acc) (map acc_in benches) (map Some accs) same))

-- what merges the accumulators of benches that cover the total is the task set's whole result
pub merged_result : (benches : List Bench) (accs : List Acc) (inputs : Inputs) (result : StageResult)
    → ((other : Bench) → inputs ≡ arc_value (get_or benches 0 other).inputs) → 0 < length benches → AreInputs inputs → AreAccsOf benches accs
    → ((sets : List Tuples) → Share inputs sets accs → Cover inputs sets → IsWholeResult inputs result)
    → (plan : Plan) (id total : ℕ) → All (IsBenchOf plan id) benches → CoverTotal plan id total benches → IsResultOf plan id result
merged_result [] accs inputs result first some are same merges plan id total each covers = absurd (omega (arith, some))
merged_result (bench ∷ benches) accs inputs result first some are same merges plan id total each covers =
    let this : IsBenchOf plan id bench = All-head (IsBenchOf plan id) bench benches each in
    let of : AreInputsOf plan id inputs = subst (AreInputsOf plan id) (sym (first bench)) this.inputs in
    let all : total_in inputs ≡ total = same_some (total_of plan id) (total_in inputs) total (total_of-inputs plan id inputs of are) covers.total_is in
    let sets : List Tuples = map bench_tuples (bench ∷ benches) in
    let share : Share inputs sets accs = record { each = held_by plan id inputs of (bench ∷ benches) accs each same; apart = covers.apart } in
    let cover : Cover inputs sets = λ tuple below. covers.cover tuple (subst (λ n. tuple < n) all below) in
    λ other are_other. same_task plan id inputs other of are_other
    (λ t c n. IsStageResult t (query_of c) (stage_at (query_of c) n) result) (merges sets share cover)

-- the accumulators of benches in the reverse order
turned : (benches : List Bench) → map acc_in (reverse benches) ≡ reverse (map acc_in benches)
turned [] = refl
turned (bench ∷ benches) =
    ap (map acc_in) (reverse-append (bench ∷ []) benches) ∙ map-append acc_in (reverse benches) (bench ∷ [])
    ∙ ap (λ (l : List (Option Acc)). l ++ acc_in bench ∷ []) (turned benches) ∙ sym (reverse-append (acc_in bench ∷ []) (map acc_in benches))

-- benches in the reverse order are as many
pub turned_length : (benches rest : List Bench) → rest ≡ reverse benches → length rest + 0 ≡ length benches
turned_length benches rest is =
    let same : length rest ≡ length benches = ap length is ∙ length-reverse benches in
    omega (arith, same)

-- no accumulator was taken
pub taken_none : (benches : List Bench) (accs : List Acc) (rest : List Bench) → accs ≡ [] → rest ≡ reverse benches
    → map Some accs ++ reverse (map acc_in rest) ≡ map acc_in benches
taken_none benches accs rest none is =
    ap (λ (l : List Acc). map Some l ++ reverse (map acc_in rest)) none ∙ ap (λ (l : List Bench). reverse (map acc_in l)) is
    ∙ ap reverse (turned benches) ∙ reverse-reverse (map acc_in benches)

-- one accumulator more was taken
pub taken_more : (accs : List Acc) (acc : Acc) (before after all : List (Option Acc)) → before ≡ after ++ Some acc ∷ []
    → map Some accs ++ reverse before ≡ all → map Some (accs ++ acc ∷ []) ++ reverse after ≡ all
taken_more accs acc before after all is held =
    ap (λ (l : List (Option Acc)). l ++ reverse after) (map-append Some accs (acc ∷ []))
    ∙ append_assoc (map Some accs) (Some acc ∷ []) (reverse after)
    ∙ sym (ap (λ (l : List (Option Acc)). map Some accs ++ l) (ap reverse is ∙ reverse-append after (Some acc ∷ [])))
    ∙ held

-- all accumulators were taken
pub taken_all : (accs : List Acc) (rest : List Bench) (all : List (Option Acc)) → length rest ≡ 0
    → map Some accs ++ reverse (map acc_in rest) ≡ all → all ≡ map Some accs
taken_all accs [] all none held = sym held ∙ append-nil (map Some accs)
taken_all accs (bench ∷ rest) all none held = absurd (omega (arith, none))
