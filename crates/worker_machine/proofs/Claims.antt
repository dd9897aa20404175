-- A range that was claimed, and the bench that works on it.
use Rattle.std.proofs.Common.{◌≡◌, ◌⊎◌, ℕ, ◌≤◌, Some, sym, ap, ◌∙◌}
use Rattle.std.specs.Arc.{arc_value}
use Rattle.slot_history.specs.declared.place.Place.TheVariants.{Inside}
use Rattle.slot_history.specs.States.{id_at}
use Rattle.slot_station.specs.declared.reply.Claim.TheVariants.{Range}
use Rattle.slot_station.specs.Desks.{Seen, own_place, own_ranges, own_total, OwnFits}
use Rattle.slot_station.specs.Replies.{IsCutRange, LiesPast}
use Rattle.plan_ast.specs.Folds.{AreDisjoint, range_of}
use Rattle.pipe_ops.specs.Inputs.{total_in}
use Rattle.bench_cell.specs.declared.plan.Plan.{Plan}
use Rattle.bench_cell.specs.declared.bench.Bench.{Bench}
use Rattle.bench_cell.specs.Plans.{total_of}
use Rattle.bench_cell.specs.Benches.{BenchFits, IsShort, bench_tuples}
use Rattle.bench_cell.proofs.ApartLemmas.{past_apart}
use Rattle.worker_machine.proofs.InputsLemmas.{total-in}
use Rattle.worker_machine.proofs.Sizes.{cut-end}

module _ {O : Type 0} (seen : Seen O Plan) (b : Bench) (own : OwnFits BenchFits seen b) (n from to : ℕ) where
  pub work-within : IsCutRange (own_total total_of seen) n (Range from to) → to ≤ total_in (arc_value b.inputs)
  work-within cut = cut-end (own_total total_of seen) (total_in (arc_value b.inputs)) from to n cut
      (total-in seen.desk.subject (id_at (own_place seen)) (arc_value b.inputs) own.of_set.inputs own.of_set.bench_is.inputs)

  pub work-apart : LiesPast (own_ranges seen) (Range from to) → IsShort b ⊎ AreDisjoint (bench_tuples b) (range_of from to)
  work-apart past = past_apart seen.desk.subject seen.desk.worker (id_at (own_place seen)) (own_ranges seen) b from to own past

pub task-within : {O : Type 0} (seen : Seen O Plan) (plan : Plan) (s id n from to : ℕ) → own_place seen ≡ Inside s id → plan ≡ seen.desk.subject
    → IsCutRange (own_total total_of seen) n (Range from to) → (total : ℕ) → total_of plan id ≡ Some total → to ≤ total
task-within seen plan s id n from to at is cut total e =
    cut-end (own_total total_of seen) total from to n cut (ap (λ p. total_of seen.desk.subject (id_at p)) at ∙ ap (λ p. total_of p id) (sym is) ∙ e)
