-- What the law of a call reads of the state that a legal history leaves.
use Rattle.std.proofs.Common.{◌*◌, ◌+◌, ◌≤◌, List, arith}
use Rattle.slot_history.specs.declared.shape.Shape.{Shape}
use Rattle.slot_history.specs.declared.shape.TheConstants.{MOST_QUERIES, STAGES}
use Rattle.slot_history.specs.declared.act.Entry.{Entry}
use Rattle.slot_history.specs.States.{ObjectState}
use Rattle.slot_history.specs.Steps.{state_after}
use Rattle.slot_history.specs.Histories.{IsLegal}
use Rattle.slot_history.specs.Bounds.{IsShape, IsWithin, AreSlotsSound, IsCursorLimit}
use Rattle.slot_history.specs.Table.{IsTable}
use Rattle.slot_history.proofs.Table.{table}
use Rattle.slot_history.proofs.Within.{within}
use Rattle.slot_history.proofs.Holdings.{slots-sound}
use Rattle.slot_history.proofs.Cursors.{cursors, cursor-limit}
use Rattle.slot_history.proofs.NotedSets.{finished-bound}

pub record IsFit (d : Shape) (S : ObjectState) : Type 0 where
  pub shape : IsShape d
  pub table : IsTable d S
  pub within : IsWithin d S
  pub sound : AreSlotsSound d S
  pub limit : IsCursorLimit d S
  pub finished : S.finished ≤ STAGES * (STAGES + 1) * MOST_QUERIES

pub fit-of : (d : Shape) (h : List Entry) → IsShape d → IsLegal d h → IsFit d (state_after d h)
fit-of d h shape legal = record {
  shape = shape;
  table = table d h legal;
  within = within d h legal;
  sound = slots-sound d h legal;
  limit = cursor-limit d (state_after d h) (cursors d h legal);
  finished = let b = finished-bound d h legal in let a = (within d h legal).admitted in let q = shape.queries in omega arith;
}
