use Rattle.slot_station.proofs.Follows.{returns-named}
use Rattle.board_masks.proofs.notices.take_return.Goals as goal

pub returns-clause-slots : goal.returns-clause-slots
returns-clause-slots g c = returns-named c.make_step.ensures.made
