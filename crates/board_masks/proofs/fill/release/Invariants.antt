use Rattle.slot_history.specs.Calls.{Releasing}
use Rattle.board_masks.proofs.fill.release.Given as goal

abbrev pub ghosts-make_step : goal.ghosts-make_step
ghosts-make_step g a = record { call = Releasing }
