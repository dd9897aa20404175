use Rattle.std.proofs.Common.{unwrap_or, refl, ap, ◌∙◌}
use Rattle.slot_history.specs.declared.place.Held.{Held}
use Rattle.slot_history.specs.declared.act.Act.TheVariants.{Install}
use Rattle.slot_history.specs.Calls.{Installing}
use Rattle.slot_station.proofs.TokensKept.{announcer-is}
use Rattle.slot_station.specs.Tokens.{IsAnnouncer}
use Rattle.plain_slots.proofs.Endings.{install-after}
use Rattle.plain_slots.proofs.Following.{spot, brought}
use Rattle.plain_slots.proofs.object.PlainObjectSlotObject.install.Goals as goal

pub index_mut-requires : goal.index_mut-requires
index_mut-requires c =
    (spot c.self.inside c.self.invariant _ c.self.view_is c.args.worker (Installing c.args.id) tt c.requires _ c.index.ensures _ c.slot_at.ensures).index

pub invariant_of-self : goal.invariant_of-self
invariant_of-self c =
    let s = spot c.self.inside c.self.invariant _ c.self.view_is c.args.worker (Installing c.args.id) tt c.requires _ c.index.ensures _ c.slot_at.ensures in
    install-after c.self.inside c.self.invariant c.args.worker c.index.result.now c.slot_at.result c.args.id c.unwrap_or.result s
    (c.unwrap_or.ensures ∙ ap (λ (h : Held). unwrap_or h.total 0) c.held_at.ensures) _ _ (c.step.ensures.places, c.step.ensures.log)

pub returns-clause-announcer : goal.returns-clause-announcer
returns-clause-announcer c =
    let o = c.self.inside in
    let s = spot c.self.inside c.self.invariant _ c.self.view_is c.args.worker (Installing c.args.id) tt c.requires _ c.index.ensures _ c.slot_at.ensures in
    brought s {a = Install c.args.id} refl c.step.ensures.log (λ p. IsAnnouncer o.shape c.args.worker p c.announcer.result)
    (rw c.announcer.ensures (announcer-is o.shape c.args.worker c.index.result.now _ c.args.id refl))
