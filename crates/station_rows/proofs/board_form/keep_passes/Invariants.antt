use Rattle.std.proofs.Common.{◌≡◌}
use Rattle.std.specs.Prelude.{All}
use Rattle.board_rule.specs.Passes.{IsPassOf}
use Rattle.station_rows.specs.Boards.{AreOf}
use Rattle.station_rows.proofs.board_form.keep_passes.Given as goal

abbrev pub invariant-loop-pass : goal.invariant-loop-pass
invariant-loop-pass l =
    (l.board ≡ l.fn.board)
    × All (IsPassOf l.fn.board) l.pass-iterator.rest.items
    × AreOf l.fn.board l.kept.items
