use Rattle.slot_history.specs.Calls.{Leaving}
use Rattle.board_visit.proofs.visit.leave.Given as goal

abbrev pub ghosts-make_step : goal.ghosts-make_step
ghosts-make_step g a = record { call = Leaving }
