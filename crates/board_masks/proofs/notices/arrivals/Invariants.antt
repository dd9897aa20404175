use Rattle.slot_history.specs.Calls.{AskingArrivals}
use Rattle.board_masks.proofs.notices.arrivals.Given as goal

abbrev pub ghosts-make_step : goal.ghosts-make_step
ghosts-make_step g a = record { call = AskingArrivals }
