-- Complete runs by a meter, as the laws of whole runs take them.
use Rattle.std.proofs.Common.{◌≡◌, ℕ, ◌^◌, ◌≤◌, List, [], ◌∷◌, arith}
use Rattle.std.specs.Prelude.{max, min}
use Rattle.slot_history.specs.declared.shape.Shape.{Shape}
use Rattle.slot_history.specs.declared.act.Act.{Act}
use Rattle.slot_history.specs.declared.act.Act.TheVariants.{ClaimRange}
use Rattle.slot_station.specs.Desks.{Desk}
use Rattle.turn_model.specs.Workloads.{Workload}
use Rattle.turn_model.specs.Moves.{Move, Made, Exchanged}
use Rattle.turn_model.specs.Learned.{query_by}
use Rattle.turn_model.specs.Runs.{Run, desk_at, IsTimedCall, AreTimed, IsDriven, IsComplete}
use Rattle.run_laws.specs.Ends.{IsWork, IsPlayed}
use Rattle.run_laws.specs.Merging.{AreShort, IsWhole}

-- `may_take` says which times a meter may answer
module _ (may_take : ℕ → ℕ → ℕ → Type 0) where
  call-short : (load : Workload) (q : ℕ) (a : Act) (t : ℕ) → IsTimedCall may_take load q a t → t ≤ 2 ^ 36
  call-short load q (ClaimRange n from to) t timed = let is : t ≡ max 1 (min timed.0 (2 ^ 36)) = timed.2 in omega (arith, is)
  call-short load q _ t timed = let is : t ≡ 0 = timed in omega (arith, is)

  pub times-short : (D : Desk Workload) (ms : List Move) → AreTimed may_take D ms → AreShort ms
  times-short D [] timed = tt
  times-short D (Made a t ∷ ms) timed = (call-short D.subject (query_by D ms) a t timed.0, times-short D ms timed.1)
  times-short D (Exchanged ∷ ms) timed = times-short D ms timed.1

  pub driven-played : (d : Shape) (load : Workload) (run : Run) → IsDriven may_take d load run → IsPlayed d load run
  driven-played d load run driven = record {
    legal = driven.legal;
    driven = λ w low. (driven.each w low).driven;
    mine = λ w low. (driven.each w low).mine;
  }

  pub complete-whole : (d : Shape) (load : Workload) (run : Run) → IsWork d load → ((q : ℕ) → d.queries ≤ q → load.stages q ≡ 0)
      → IsComplete may_take d load run → IsWhole d load run
  complete-whole d load run work no_more complete = record {
    work = work;
    no_more = no_more;
    played = driven-played d load run complete.driven;
    short = λ w low. times-short (desk_at d load w) (run.team w) ((complete.driven.each w low).timed);
    over = complete.over;
  }
