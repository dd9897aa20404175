use Rattle.slot_history.specs.Calls.{MarkingNext}
use Rattle.board_finish.proofs.finish.mark_next.Given as goal

abbrev pub ghosts-make_step : goal.ghosts-make_step
ghosts-make_step g a = record { call = MarkingNext }
