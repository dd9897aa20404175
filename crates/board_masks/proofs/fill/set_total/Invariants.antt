use Rattle.slot_history.specs.Calls.{SettingTotal}
use Rattle.slot_words.specs.Encodings.{total_in}
use Rattle.board_rule.proofs.Operands.{operand}
use Rattle.board_masks.proofs.fill.set_total.Given as goal

abbrev pub ghosts-make_step : goal.ghosts-make_step
ghosts-make_step g a = record { call = SettingTotal (total_in (operand a.operation)) }
