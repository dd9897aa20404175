-- Benches of one task set, and what they make together.
use Rattle.std.specs.Prelude.{◌≡◌, ◌/◌, ◌%◌, ◌<◌, ℕ, Bool, true, false, List, [], All}
use Rattle.std.specs.Prelude.{IsPermutation, IsSortedByKey, IsSome, Some, flat_map, map}
use Rattle.std.specs.Ordering.{nat_cmp}
use Rattle.pipe_ops.specs.StageResults.{AreAllDisjoint, IsWholeResult, union_of}
use Rattle.pipe_ops.specs.declared.acc.Acc.{Acc}
use Rattle.pipe_ops.specs.declared.inputs.Inputs.{Inputs}
use Rattle.pipe_ops.specs.declared.results.StageResult.{StageResult}
use Rattle.report_text.specs.declared.report.ClaimOf.{ClaimOf}
use Rattle.report_text.specs.declared.report.Record.{Record}
use Rattle.slot_history.specs.declared.shape.TheConstants.{STAGES}
use Rattle.bench_cell.specs.Benches.{AreInputsOf, IsBenchOf, acc_in, bench_tuples, ranges_in}
use Rattle.bench_cell.specs.Plans.{total_of}
use Rattle.bench_cell.specs.declared.bench.Bench.{Bench}
use Rattle.bench_cell.specs.declared.gathered.Gathered.{Gathered}
use Rattle.bench_cell.specs.declared.gathered.Gathered.TheVariants.{Short, Whole}
use Rattle.bench_cell.specs.declared.plan.Plan.{Plan}

-- a bench that is not short
abbrev pub IsWhole : Bench → Type 0
IsWhole bench = IsSome bench.acc

-- the accumulators are those of the benches, of which none is short
abbrev pub AreAccsOf : List Bench → List Acc → Type 0
AreAccsOf benches accs = map acc_in benches ≡ map Some accs

-- ---- claims

-- a range as the claim of a worker
abbrev pub claim_by : ℕ → ℕ × ℕ → ClaimOf
claim_by worker range = record { from = range.0; to = range.1; worker = worker }

-- the ranges of a bench, as claims of its worker
abbrev pub claims_in : Bench → List ClaimOf
claims_in bench = map (claim_by bench.worker) (ranges_in bench)

-- these are just the claims of benches, in ascending order of where they begin
pub record AreClaimsOf (benches : List Bench) (claims : List ClaimOf) : Type 0 where
  pub same : IsPermutation (flat_map claims_in benches) claims
  pub ascend : IsSortedByKey (λ claim. claim.from) nat_cmp claims

-- ---- results

-- the benches' ranges cover this total of the task set, each tuple once
pub record CoverTotal (plan : Plan) (id total : ℕ) (benches : List Bench) : Type 0 where
  pub total_is : total_of plan id ≡ Some total
  pub apart : AreAllDisjoint (map bench_tuples benches)
  pub cover : (tuple : ℕ) → tuple < total → union_of (map bench_tuples benches) tuple ≡ true

-- the whole result of a task set, for all inputs of it
abbrev pub IsResultOf : Plan → ℕ → StageResult → Type 0
IsResultOf plan id result =
    (inputs : Inputs) → AreInputsOf plan id inputs → IsWholeResult inputs result

-- what no bench lacks: the claims, and the whole result if the benches cover the total
pub record HasWhole (benches : List Bench) (result : StageResult) (claims : List ClaimOf)
    : Type 0 where
  pub none_short : All IsWhole benches
  pub claims_are : AreClaimsOf benches claims
  pub result_is : (plan : Plan) (id total : ℕ) → All (IsBenchOf plan id) benches
      → CoverTotal plan id total benches → IsResultOf plan id result

-- what is noted of a task set at its end: its id, its slot, its total, and who finalised it
pub record Ended : Type 0 where
  pub id : ℕ
  pub slot : ℕ
  pub total : ℕ
  pub finisher : ℕ

-- the record of a task set notes its end
pub record IsRecordOf (ended : Ended) (short : Bool) (kept : Record) : Type 0 where
  pub query_is : kept.query ≡ ended.id / STAGES
  pub stage_is : kept.stage ≡ ended.id % STAGES
  pub slot_is : kept.slot ≡ ended.slot
  pub total_is : kept.total ≡ ended.total
  pub finisher_is : kept.finisher ≡ ended.finisher
  pub short_is : kept.short ≡ short

-- what gathering the benches of a task set gives at its end
abbrev pub Gives : Ended → List Bench → Gathered → Type 0
Gives ended benches (Whole result kept) =
    IsRecordOf ended false kept × HasWhole benches result kept.claims
Gives ended benches (Short kept) = IsRecordOf ended true kept × (kept.claims ≡ [])
