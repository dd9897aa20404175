use Rattle.std.proofs.Common.{◌≡◌}
use Rattle.std.specs.Prelude.{All, IfOk}
use Rattle.board_rule.specs.Passes.{IsPassOf}
use Rattle.station_rows.specs.Boards.{AreOf}
use Rattle.station_rows.proofs.threads.gather.Given as goal

abbrev pub invariant-loop-one : goal.invariant-loop-one
invariant-loop-one l =
    (l.board ≡ l.fn.board)
    × All (λ one. IfOk one (λ r. IsPassOf l.fn.board r.0)) l.one-iterator.rest.items
    × AreOf l.fn.board l.kept.items
