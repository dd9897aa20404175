use Rattle.slot_history.specs.Calls.{Admitting}
use Rattle.board_rule.proofs.Operands.{operand}
use Rattle.board_masks.proofs.fill.admit.Given as goal

abbrev pub ghosts-make_step : goal.ghosts-make_step
ghosts-make_step g a = record { call = Admitting (operand a.operation) }
