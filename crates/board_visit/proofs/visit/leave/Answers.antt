use Rattle.std.proofs.Common.{ap, ◌∙◌}
use Rattle.slot_history.specs.Steps.{moved}
use Rattle.slot_station.specs.Tokens.{LeaveGives}
use Rattle.slot_station.proofs.Follows.{owes-task_set, coordinator-left}
use Rattle.board_rule.specs.Passes.{board_shape}
use Rattle.board_rule.proofs.Callers.{advances-as, brings}
use Rattle.board_visit.proofs.visit.leave.Goals as goal

pub returns-clause-made : goal.returns-clause-made
returns-clause-made g c =
    advances-as c.make_step-found.ensures.stepped c.leave_read-leave.ensures.act c.place_after-pass.result
    (c.place_after-pass.ensures ∙ ap (λ a. moved c.args.board.now.shape a c.make_step-found.new.pass.place) c.act.ensures) c.make_step-found.ensures.made

pub returns-clause-task_set : goal.returns-clause-task_set
returns-clause-task_set g c = owes-task_set c.leave_read-leave.result (returns-clause-made g c).1

pub returns-clause-coordinator : goal.returns-clause-coordinator
returns-clause-coordinator g c = coordinator-left c.leave_read-leave.result (returns-clause-made g c).1

pub returns-clause-debt : goal.returns-clause-debt
returns-clause-debt g c =
    brings c.make_step-found.ensures.stepped c.leave_read-leave.ensures.act LeaveGives c.leave_read-leave.result
    (c.leave_read-leave.ensures.gives (board_shape c.args.board.now))
