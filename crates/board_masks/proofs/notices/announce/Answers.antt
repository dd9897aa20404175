use Rattle.board_rule.proofs.Callers.{told-done}
use Rattle.board_masks.proofs.notices.announce.Goals as goal

pub returns-clause-done : goal.returns-clause-done
returns-clause-done g c all = told-done c.make_step.ensures.stepped c.make_step.ensures.made c.args.announcer.now c.requires.announcer all
