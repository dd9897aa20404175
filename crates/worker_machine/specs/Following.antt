-- A worker that follows its station.
use Rattle.std.specs.Prelude.{◌≡◌}
use Rattle.slot_station.specs.Desks.{Desk, Seen}
use Rattle.bench_cell.specs.declared.plan.Plan.{Plan}
use Rattle.worker_machine.specs.declared.kept.Core.{Core}
use Rattle.worker_machine.specs.declared.phase.Phase.{Phase}
use Rattle.worker_machine.specs.declared.phase.Phase.TheVariants.{Ready}
use Rattle.worker_machine.specs.declared.phase.Stepped.{Stepped}
use Rattle.worker_machine.specs.declared.phase.Stepped.TheVariants.{More, End}
use Rattle.turn_model.specs.declared.turn.Turn.TheVariants.{Acted}
use Rattle.worker_machine.specs.declared.state.Worker.{Worker}
use Rattle.worker_machine.specs.Hands.{InHand}
use Rattle.worker_machine.specs.Desks.{HasDesk, CoreFits, desk_of}
use Rattle.worker_machine.specs.Keeps.{IsUntold}

-- At this phase: the station is this worker's, with the plan, workers and slots that it was made
-- for, and what it keeps and has in hand is what its trail and its notes of cells say.
pub record FollowsAt {O : Type 0} (core : Core) (seen : Seen O Plan) (phase : Phase)
    : Type 0 where
  pub desk : HasDesk core seen.desk
  pub fits : CoreFits core phase
  pub hand : InHand seen core.benches.items phase

abbrev pub Follows : {O : Type 0} → Worker → Seen O Plan → Type 0
Follows worker seen = FollowsAt worker.core seen worker.phase

-- a worker at this desk that has made no call
pub record IsNewFor (desk : Desk Plan) (worker : Worker) : Type 0 where
  pub desk_is : desk_of worker.core ≡ desk
  pub ready : worker.phase ≡ Ready Acted
  pub untold : IsUntold desk.shape worker.core

abbrev pub stepped : Phase → Stepped
stepped (Ready turn) = End turn
stepped _ = More
