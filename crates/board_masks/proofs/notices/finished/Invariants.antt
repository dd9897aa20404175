use Rattle.slot_history.specs.Calls.{AskingFinished}
use Rattle.board_masks.proofs.notices.finished.Given as goal

abbrev pub ghosts-make_step : goal.ghosts-make_step
ghosts-make_step g a = record { call = AskingFinished }
