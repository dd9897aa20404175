use Rattle.slot_history.specs.Calls.{Sweeping}
use Rattle.board_finish.proofs.finish.sweep.Given as goal

abbrev pub ghosts-make_step : goal.ghosts-make_step
ghosts-make_step g a = record { call = Sweeping }
