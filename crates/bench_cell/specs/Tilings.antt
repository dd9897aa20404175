-- Benches that fit the claims of a task set.
use Rattle.std.specs.Prelude.{◌≡◌, ◌<◌, ℕ, true, false, List, [], All, Some, length, map, reverse}
use Rattle.std.specs.Prelude.{slice_get}
use Rattle.report_text.specs.declared.report.ClaimOf.{ClaimOf}
use Rattle.slot_history.specs.Histories.{Morsel, Tiles, ranges_by}
use Rattle.bench_cell.specs.Benches.{BenchFits}
use Rattle.bench_cell.specs.Gathering.{AreClaimsOf, CoverTotal, Ended, Gives, IsRecordOf}
use Rattle.bench_cell.specs.Gathering.{IsResultOf}
use Rattle.bench_cell.specs.Gathering.{IsWhole}
use Rattle.bench_cell.specs.Plans.{total_of}
use Rattle.bench_cell.specs.declared.bench.Bench.{Bench}
use Rattle.bench_cell.specs.declared.gathered.Gathered.{Gathered}
use Rattle.bench_cell.specs.declared.gathered.Gathered.TheVariants.{Short, Whole}
use Rattle.bench_cell.specs.declared.plan.Plan.{Plan}

-- benches of a task set, those of worker 0, 1 and so on, fit its claims: each fits the ranges that
-- its worker claimed, and each claim is by one of these workers
pub record FitClaims (plan : Plan) (id : ℕ) (claims : List Morsel) (benches : List Bench)
    : Type 0 where
  pub each : (w : ℕ) (bench : Bench) → slice_get benches w ≡ Some bench
      → BenchFits plan w id (ranges_by w claims) bench
  pub within : All (λ (claim : Morsel). claim.worker < length benches) claims

-- a claim as a record has it
abbrev pub claim_in : Morsel → ClaimOf
claim_in claim = record { from = claim.from; to = claim.to; worker = claim.worker }

-- claims as a record has them, the oldest first
abbrev pub journal_of : List Morsel → List ClaimOf
journal_of claims = map claim_in (reverse claims)

-- what gathering gives of a task set with these claims at its end: its whole result and a record of
-- just these claims, or a short record
abbrev pub GivesClaims : Plan → Ended → List Morsel → Gathered → Type 0
GivesClaims plan ended claims (Whole result kept) = IsRecordOf ended false kept
    × (kept.claims ≡ journal_of claims) × IsResultOf plan ended.id result
GivesClaims plan ended claims (Short kept) = IsRecordOf ended true kept × (kept.claims ≡ [])

-- ---- the laws, as the functions of module `laws` state them

-- benches that fit claims which tile the total of their task set cover it, if none is short
abbrev pub TilesCover : Type 0
TilesCover = (plan : Plan) (id total : ℕ) (claims : List Morsel) (benches : List Bench)
    → total_of plan id ≡ Some total → Tiles claims total → FitClaims plan id claims benches
    → All IsWhole benches → CoverTotal plan id total benches

-- the claims of such benches, in ascending order, are these claims, the oldest first
abbrev pub TilesAreKept : Type 0
TilesAreKept = (plan : Plan) (id total : ℕ) (claims : List Morsel) (benches : List Bench)
    → Tiles claims total → FitClaims plan id claims benches → All IsWhole benches
    → (kept : List ClaimOf) → AreClaimsOf benches kept → kept ≡ journal_of claims

-- what gathering benches gives that fit claims which tile the total
abbrev pub TilesGive : Type 0
TilesGive = (plan : Plan) (ended : Ended) (claims : List Morsel) (benches : List Bench)
    → total_of plan ended.id ≡ Some ended.total → Tiles claims ended.total
    → FitClaims plan ended.id claims benches
    → (gathered : Gathered) → Gives ended benches gathered → GivesClaims plan ended claims gathered
