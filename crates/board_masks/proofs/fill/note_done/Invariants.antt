use Rattle.slot_history.specs.Calls.{NotingDone}
use Rattle.board_rule.proofs.Operands.{operand}
use Rattle.board_masks.proofs.fill.note_done.Given as goal

abbrev pub ghosts-make_step : goal.ghosts-make_step
ghosts-make_step g a = record { call = NotingDone (operand a.operation) }
