use Rattle.std.proofs.Common.{sym, subst, refl}
use Rattle.one_thread.specs.Stories.{Story}
use Rattle.plain_slots.specs.Objects.{MayMove}
use Rattle.plain_slots.proofs.Following.{quiet, counted-at, makes}
use Rattle.plain_slots.proofs.object.PlainObject.go_on.Goals as goal

pub step-requires-clause-counted : goal.step-requires-clause-counted
step-requires-clause-counted c = counted-at c.self.inside c.self.invariant c.args.worker
    (subst (λ (x : Story). MayMove x c.args.worker c.args.act.now) (sym c.self.view_is) c.requires).below

pub invariant_of-self : goal.invariant_of-self
invariant_of-self c =
    let may = subst (λ (x : Story). MayMove x c.args.worker c.args.act.now) (sym c.self.view_is) c.requires in
    quiet c.self.inside c.self.invariant c.args.worker may.below c.args.act.now c.args.act.now refl may.allowed _ _
    (c.step.ensures.places, c.step.ensures.log) may.still may.calm

pub returns : goal.returns
returns c = makes _ _ _ _ c.args.worker c.args.act.now c.args.act.now c.self.view_is refl c.step.ensures.log (invariant_of-self c).legal
