use Rattle.std.proofs.Common.{◌≡◌}
use Rattle.std.specs.Prelude.{length}
use Rattle.station_rows.specs.Boards.{AreOf}
use Rattle.station_rows.proofs.Passes.{FreeFrom}
use Rattle.station_rows.proofs.board_form.free_passes.Given as goal

abbrev pub invariant-loop-worker : goal.invariant-loop-worker
invariant-loop-worker g l =
    (l.board ≡ l.fn.board)
    × (l.worker-end ≡ l.fn.board.shape.workers)
    × AreOf l.fn.board l.kept.items
    × (length l.passes.items ≡ l.worker)
    × FreeFrom l.fn.board 0 l.passes.items
