use Rattle.std.proofs.Common.{◌≡◌}
use Rattle.board_rule.specs.Passes.{IsPassOf}
use Rattle.station_rows.proofs.threads.visits.Given as goal

abbrev pub invariant-loop : goal.invariant-loop
invariant-loop g l = (l.site ≡ l.fn.site) × IsPassOf l.fn.site.board.now l.pass
