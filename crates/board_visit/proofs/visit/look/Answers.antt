use Rattle.slot_station.proofs.Follows.{sees-task_set}
use Rattle.board_rule.proofs.Callers.{made-as}
use Rattle.board_visit.proofs.visit.look.Goals as goal

pub returns-clause-task_set : goal.returns-clause-task_set
returns-clause-task_set g c = sees-task_set c.look_read-look.result (made-as c.look_read-look.ensures c.make_step-found.ensures.made)
