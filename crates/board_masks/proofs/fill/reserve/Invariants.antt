use Rattle.slot_history.specs.Calls.{Reserving}
use Rattle.board_rule.proofs.Operands.{slot_named}
use Rattle.board_masks.proofs.fill.reserve.Given as goal

abbrev pub ghosts-make_step : goal.ghosts-make_step
ghosts-make_step g a = record { call = Reserving (slot_named a.address) }
