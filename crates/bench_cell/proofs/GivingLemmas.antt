-- What gathering benches gives that fit claims which tile the total.
use Rattle.std.proofs.Common.{◌≡◌, ℕ, suc, All, List, [], ◌∷◌, Some, refl, slice_get}
use Rattle.slot_history.specs.Histories.{Morsel, Tiles}
use Rattle.bench_cell.specs.Benches.{IsBenchOf}
use Rattle.bench_cell.specs.Gathering.{Ended, Gives}
use Rattle.bench_cell.specs.Plans.{total_of}
use Rattle.bench_cell.specs.Tilings.{FitClaims, GivesClaims}
use Rattle.bench_cell.specs.declared.bench.Bench.{Bench}
use Rattle.bench_cell.specs.declared.gathered.Gathered.{Gathered}
use Rattle.bench_cell.specs.declared.gathered.Gathered.TheVariants.{Short, Whole}
use Rattle.bench_cell.specs.declared.plan.Plan.{Plan}
use Rattle.std.proofs.lemmas.List.Elements.{All-cons, All-nil}
use Rattle.bench_cell.proofs.JournalLemmas.{tiles_kept}
use Rattle.bench_cell.proofs.TilingLemmas.{tiles_cover}

All-each : {A : Type 0} (P : A → Type 0) (xs : List A) → ((i : ℕ) (x : A) → slice_get xs i ≡ Some x → P x) → All P xs
All-each P [] each = All-nil P
All-each P (x ∷ xs) each = All-cons P x xs (each 0 x refl) (All-each P xs (λ i y at. each (suc i) y at))

pub tiles_give : (plan : Plan) (ended : Ended) (claims : List Morsel) (benches : List Bench) → total_of plan ended.id ≡ Some ended.total
    → Tiles claims ended.total → FitClaims plan ended.id claims benches → (gathered : Gathered) → Gives ended benches gathered
    → GivesClaims plan ended claims gathered
tiles_give plan ended claims benches is tiles fit (Whole result kept) gives =
    let whole = gives.1.none_short in
    let each : All (IsBenchOf plan ended.id) benches = All-each (IsBenchOf plan ended.id) benches (λ i bench at. (fit.each i bench at).of_set) in (
      gives.0,
      tiles_kept plan ended.id ended.total claims benches tiles fit whole kept.claims gives.1.claims_are,
      gives.1.result_is plan ended.id ended.total each (tiles_cover plan ended.id ended.total claims benches is tiles fit whole),
    )
tiles_give plan ended claims benches is tiles fit (Short kept) gives = gives
