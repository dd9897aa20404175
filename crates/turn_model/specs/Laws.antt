-- What a history of a worker's moves tells of the worker.
use Rattle.std.specs.Prelude.{◌≡◌, ℕ, List}
use Rattle.slot_history.specs.declared.act.Entry.{Entry}
use Rattle.slot_history.specs.Histories.{own_calls, place_of, own_record}
use Rattle.slot_station.specs.Desks.{Desk}
use Rattle.turn_model.specs.Workloads.{Workload}
use Rattle.turn_model.specs.Moves.{Move, entries}
use Rattle.turn_model.specs.Learned.{place_by, record_by}

-- the worker's place and its notice records after a history are those of its moves
pub record TellsOf (D : Desk Workload) (h : List Entry) (ms : List Move) : Type 0 where
  pub place : place_of D.shape h D.worker ≡ place_by D ms
  pub records : (s : ℕ) → own_record D.shape D.worker s h ≡ record_by D s ms

-- ---- the laws, as the functions of module `laws` state them

abbrev pub MovesTell : Type 0
MovesTell = (D : Desk Workload) (h : List Entry) (ms : List Move)
    → own_calls D.worker h ≡ entries D.worker ms → TellsOf D h ms
