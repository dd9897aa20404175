use Rattle.slot_history.specs.Calls.{TakingChange}
use Rattle.board_rule.proofs.Operands.{part_named}
use Rattle.board_masks.proofs.notices.take_change.Given as goal

abbrev pub ghosts-make_step : goal.ghosts-make_step
ghosts-make_step g a = record { call = TakingChange (part_named a.address) }
