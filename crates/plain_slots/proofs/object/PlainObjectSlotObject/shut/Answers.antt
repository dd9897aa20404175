use Rattle.std.proofs.Common.{sym}
use Rattle.slot_history.specs.Calls.{Shutting}
use Rattle.slot_station.specs.Tokens.{ShutGives}
use Rattle.plain_slots.proofs.Calls.{shut-after, shut-gives}
use Rattle.plain_slots.proofs.Following.{spot, slot-read, makes, brought}
use Rattle.plain_slots.proofs.object.PlainObjectSlotObject.shut.Goals as goal

pub invariant_of-self : goal.invariant_of-self
invariant_of-self c =
    let s = spot c.self.inside c.self.invariant _ c.self.view_is c.args.worker Shutting tt c.requires _ c.index.ensures _ c.slot_at.ensures in
    let shows = slot-read c.self.inside c.self.invariant c.slot_at.result s.in_slots c.index_mut-slot.result.now c.index_mut-slot.ensures.value in
    shut-after c.self.inside c.self.invariant c.args.worker c.index.result.now c.slot_at.result s c.shut_in.result c.shut_in.new.slot
    (c.shut_in.ensures _ (sym shows) c.args.worker) c.shut_by-shut.result c.shut_by-shut.ensures c.act.result c.act.ensures
    _ _ (c.step.ensures.places, c.step.ensures.log)

pub returns-clause-made : goal.returns-clause-made
returns-clause-made c = makes _ _ _ _ c.args.worker _ c.act.result c.self.view_is c.act.ensures c.step.ensures.log (invariant_of-self c).legal

pub index_mut-slot-requires : goal.index_mut-slot-requires
index_mut-slot-requires c =
    (spot c.self.inside c.self.invariant _ c.self.view_is c.args.worker Shutting tt c.requires _ c.index.ensures _ c.slot_at.ensures).index

pub returns-clause-first : goal.returns-clause-first
returns-clause-first c =
    let s = spot c.self.inside c.self.invariant _ c.self.view_is c.args.worker Shutting tt c.requires _ c.index.ensures _ c.slot_at.ensures in
    brought s c.act.ensures c.step.ensures.log (λ p. ShutGives c.self.inside.shape c.args.worker p c.shut_by-shut.result)
    (shut-gives c.self.inside.shape c.args.worker c.index.result.now c.shut_in.result _ c.shut_by-shut.ensures)
