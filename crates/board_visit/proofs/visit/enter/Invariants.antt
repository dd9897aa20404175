use Rattle.slot_history.specs.Calls.{Entering}
use Rattle.slot_words.specs.Encodings.{slot_in}
use Rattle.board_rule.proofs.Operands.{operand}
use Rattle.board_visit.proofs.visit.enter.Given as goal

abbrev pub ghosts-make_step : goal.ghosts-make_step
ghosts-make_step g a = record { call = Entering (slot_in (operand a.operation)) }
