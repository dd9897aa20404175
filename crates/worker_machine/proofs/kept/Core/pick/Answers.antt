use Rattle.std.proofs.Common.{refl, ap, ◌∙◌}
use Rattle.std.specs.Arc.{arc_value}
use Rattle.turn_model.specs.Workloads.{sets_of}
use Rattle.turn_model.specs.Points.{ended_as, picked}
use Rattle.bench_cell.specs.Plans as plans
use Rattle.worker_machine.specs.Desks.{desk_of}
use Rattle.worker_machine.specs.Loads.{load_of}
use Rattle.worker_machine.proofs.Picking.{ends-idle, ends-over, none-picks}
use Rattle.worker_machine.proofs.Moving.{rest-kept}
use Rattle.worker_machine.proofs.kept.Core.pick.Goals as goal

pub returns-in-Some-clause-picks : goal.returns-in-Some-clause-picks
returns-in-Some-clause-picks c =
    let core = c.args.self.now in
    record {
      strides = c.in-Some.ensures.floor;
      point = λ workers. ap (λ o. picked o (ended_as core.finished (sets_of (desk_of core).shape (load_of (arc_value core.plan))))) c.in-Some.ensures.choice;
      rest = rest-kept refl refl refl refl refl;
    }

pub returns-then-self-sets-clause-picks : goal.returns-then-self-sets-clause-picks
returns-then-self-sets-clause-picks c =
    none-picks c.in-None.ensures.unchanged c.in-None.ensures.choice (rest-kept refl refl refl refl refl)
    (ends-idle (arc_value c.args.self.now.plan) (desk_of c.args.self.now).shape refl (c.sets.ensures ∙ ap plans.sets_of c.deref.ensures) c.if-self-sets.true)

pub returns-else-self-sets-clause-picks : goal.returns-else-self-sets-clause-picks
returns-else-self-sets-clause-picks c =
    none-picks c.in-None.ensures.unchanged c.in-None.ensures.choice (rest-kept refl refl refl refl refl)
    (ends-over (arc_value c.args.self.now.plan) (desk_of c.args.self.now).shape refl (c.sets.ensures ∙ ap plans.sets_of c.deref.ensures) c.if-self-sets.false)
