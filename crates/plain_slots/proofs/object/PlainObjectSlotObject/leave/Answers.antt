use Rattle.std.proofs.Common.{sym}
use Rattle.slot_history.specs.Calls.{Leaving}
use Rattle.slot_station.specs.Tokens.{LeaveGives}
use Rattle.plain_slots.proofs.Calls.{debt-read, debt-index, leave-after, leave-gives}
use Rattle.plain_slots.proofs.Following.{spot, slot-read, makes, brought}
use Rattle.plain_slots.proofs.object.PlainObjectSlotObject.leave.Goals as goal

pub index-requires-2 : goal.index-requires-2
index-requires-2 c = (spot c.self.inside c.self.invariant _ c.self.view_is c.args.worker Leaving tt c.requires _ c.index.ensures _ c.slot_at-s.ensures).index

pub invariant_of-self : goal.invariant_of-self
invariant_of-self c =
    let s = spot c.self.inside c.self.invariant _ c.self.view_is c.args.worker Leaving tt c.requires _ c.index.ensures _ c.slot_at-s.ensures in
    let shows = slot-read c.self.inside c.self.invariant c.slot_at-s.result s.in_slots c.index-2.result.now c.index-2.ensures in
    leave-after c.self.inside c.self.invariant c.args.worker c.index.result.now c.slot_at-s.result s c.index-owes.result.now
    (debt-read c.self.inside c.self.invariant c.slot_at-s.result c.args.worker s.in_slots s.low _ c.cell_index.ensures _ c.index-owes.ensures)
    c.id_in.result (c.id_in.ensures _ (sym shows)) c.left_by-leave.result c.left_by-leave.ensures c.act.result c.act.ensures
    _ _ (c.step.ensures.places, c.step.ensures.log)

pub returns-clause-made : goal.returns-clause-made
returns-clause-made c = makes _ _ _ _ c.args.worker _ c.act.result c.self.view_is c.act.ensures c.step.ensures.log (invariant_of-self c).legal

pub index-owes-requires : goal.index-owes-requires
index-owes-requires c =
    let s = spot c.self.inside c.self.invariant _ c.self.view_is c.args.worker Leaving tt c.requires _ c.index.ensures _ c.slot_at-s.ensures in
    debt-index c.self.inside c.self.invariant c.slot_at-s.result c.args.worker s.in_slots s.low _ c.cell_index.ensures

pub returns-clause-debt : goal.returns-clause-debt
returns-clause-debt c =
    let s = spot c.self.inside c.self.invariant _ c.self.view_is c.args.worker Leaving tt c.requires _ c.index.ensures _ c.slot_at-s.ensures in
    brought s c.act.ensures c.step.ensures.log (λ p. LeaveGives c.self.inside.shape c.args.worker p c.left_by-leave.result)
    (leave-gives c.self.inside.shape c.args.worker _ c.id_in.result c.index-owes.result.now c.index.result.now _ c.left_by-leave.ensures s.slot)
