use Rattle.slot_history.specs.Calls.{Shutting}
use Rattle.board_finish.proofs.finish.shut.Given as goal

abbrev pub ghosts-make_step : goal.ghosts-make_step
ghosts-make_step g a = record { call = Shutting }
