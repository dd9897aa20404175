use Rattle.slot_history.specs.Calls.{Claiming}
use Rattle.board_rule.proofs.Operands.{operand}
use Rattle.board_visit.proofs.visit.claim.Given as goal

abbrev pub ghosts-make_step : goal.ghosts-make_step
ghosts-make_step g a = record { call = Claiming (operand a.operation) }
