use Rattle.slot_history.specs.Calls.{Looking}
use Rattle.board_visit.proofs.visit.look.Given as goal

abbrev pub ghosts-make_step : goal.ghosts-make_step
ghosts-make_step g a = record { call = Looking }
