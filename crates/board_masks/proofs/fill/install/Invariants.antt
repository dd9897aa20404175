use Rattle.slot_history.specs.Calls.{Installing}
use Rattle.slot_words.specs.Encodings.{id_in}
use Rattle.board_rule.proofs.Operands.{operand}
use Rattle.board_masks.proofs.fill.install.Given as goal

abbrev pub ghosts-make_step : goal.ghosts-make_step
ghosts-make_step g a = record { call = Installing (id_in (operand a.operation)) }
