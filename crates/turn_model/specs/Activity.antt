-- Which slots are active.
use Rattle.std.specs.Prelude.{◌≡◌, ℕ, List}
use Rattle.slot_station.specs.Desks.{Desk}
use Rattle.turn_model.specs.Workloads.{Workload}
use Rattle.turn_model.specs.Moves.{Move}
use Rattle.turn_model.specs.Learned.{record_by, strides_by}

-- the slots that are active among the passes are those whose notice records are
abbrev pub ActiveByRecords : Type 0
ActiveByRecords = (D : Desk Workload) (ms : List Move) (s : ℕ)
    → (strides_by D ms).active s ≡ (record_by D s ms).active
