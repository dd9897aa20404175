use Rattle.std.proofs.Common.{false, set, sym, ap, ◌∙◌}
use Rattle.slot_history.specs.Calls.{Paying}
use Rattle.slot_station.specs.Tokens.{PayGives}
use Rattle.plain_slots.proofs.Calls.{debt-index, count-read, count-index}
use Rattle.plain_slots.proofs.Endings.{one-owes, pay-after, pay-gives}
use Rattle.plain_slots.proofs.Following.{spot, slot-read, makes, brought}
use Rattle.plain_slots.proofs.object.PlainObjectSlotObject.pay.Goals as goal

pub index_mut-requires : goal.index_mut-requires
index_mut-requires c =
    let s = spot c.self.inside c.self.invariant _ c.self.view_is c.args.worker Paying tt c.requires _ c.index.ensures _ c.slot_at-s.ensures in
    debt-index c.self.inside c.self.invariant c.slot_at-s.result c.args.worker s.in_slots s.low c.cell_index.result c.cell_index.ensures

pub index_mut-requires-2 : goal.index_mut-requires-2
index_mut-requires-2 c = (spot c.self.inside c.self.invariant _ c.self.view_is c.args.worker Paying tt c.requires _ c.index.ensures _ c.slot_at-s.ensures).index

pub invariant_of-self : goal.invariant_of-self
invariant_of-self c =
    let o = c.self.inside in
    let s = spot c.self.inside c.self.invariant _ c.self.view_is c.args.worker Paying tt c.requires _ c.index.ensures _ c.slot_at-s.ensures in
    let shows = slot-read c.self.inside c.self.invariant c.slot_at-s.result s.in_slots c.index_mut-2.result.now c.index_mut-2.ensures.value in
    pay-after c.self.inside c.self.invariant c.args.worker c.index.result.now c.slot_at-s.result s _
    (ap (λ i. set o.owing.items i false) c.cell_index.ensures) c.index_mut-debts.result.now c.paid_by-pay.new.debts
    (count-read c.self.inside c.self.invariant c.slot_at-s.result s.in_slots _ c.index_mut-debts.ensures.value) c.paid_by-pay.ensures.debts
    c.paid_by-pay.new.slot (λ x e k. c.paid_by-pay.ensures.slot x (e ∙ sym shows) k) c.paid_by-pay.result
    (λ x e. c.paid_by-pay.ensures.pay x (e ∙ sym shows)) c.act.result c.act.ensures _ _ (c.step.ensures.places, c.step.ensures.log)

pub returns-clause-made : goal.returns-clause-made
returns-clause-made c = makes _ _ _ _ c.args.worker _ c.act.result c.self.view_is c.act.ensures c.step.ensures.log (invariant_of-self c).legal

pub index_mut-debts-requires : goal.index_mut-debts-requires
index_mut-debts-requires c =
    let s = spot c.self.inside c.self.invariant _ c.self.view_is c.args.worker Paying tt c.requires _ c.index.ensures _ c.slot_at-s.ensures in
    count-index c.self.inside c.self.invariant c.slot_at-s.result s.in_slots

pub paid_by-pay-requires : goal.paid_by-pay-requires
paid_by-pay-requires c =
    let s = spot c.self.inside c.self.invariant _ c.self.view_is c.args.worker Paying tt c.requires _ c.index.ensures _ c.slot_at-s.ensures in
    one-owes c.self.inside c.self.invariant c.args.worker c.index.result.now c.slot_at-s.result s c.index_mut-debts.result.now
    (count-read c.self.inside c.self.invariant c.slot_at-s.result s.in_slots _ c.index_mut-debts.ensures.value)

pub returns-clause-holder : goal.returns-clause-holder
returns-clause-holder c =
    let s = spot c.self.inside c.self.invariant _ c.self.view_is c.args.worker Paying tt c.requires _ c.index.ensures _ c.slot_at-s.ensures in
    let shows = slot-read c.self.inside c.self.invariant c.slot_at-s.result s.in_slots c.index_mut-2.result.now c.index_mut-2.ensures.value in
    brought s c.act.ensures c.step.ensures.log (λ p. PayGives c.self.inside.shape c.args.worker p c.paid_by-pay.result)
    (pay-gives c.self.inside.shape c.args.worker c.index.result.now _ _ (c.paid_by-pay.ensures.pay _ (sym shows)))
