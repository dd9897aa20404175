use Rattle.slot_station.proofs.Follows.{changes-named}
use Rattle.board_masks.proofs.notices.take_change.Goals as goal

pub returns-clause-slots : goal.returns-clause-slots
returns-clause-slots g c = changes-named c.make_step.ensures.made
