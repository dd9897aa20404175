use Rattle.std.proofs.Common.{sym, ◌∙◌}
use Rattle.slot_history.specs.Calls.{Sweeping}
use Rattle.slot_station.specs.Tokens.{SweepGives}
use Rattle.plain_slots.proofs.Calls.{count-read, count-index}
use Rattle.plain_slots.proofs.Endings.{sweep-after, sweep-gives}
use Rattle.plain_slots.proofs.Following.{spot, slot-read, counted-at, makes, brought}
use Rattle.plain_slots.proofs.object.PlainObjectSlotObject.sweep.Goals as goal

pub index-debts-requires : goal.index-debts-requires
index-debts-requires c =
    let s = spot c.self.inside c.self.invariant _ c.self.view_is c.args.worker Sweeping tt c.requires _ c.index.ensures _ c.slot_at-s.ensures in
    count-index c.self.inside c.self.invariant c.slot_at-s.result s.in_slots

pub index_mut-requires : goal.index_mut-requires
index_mut-requires c = (spot c.self.inside c.self.invariant _ c.self.view_is c.args.worker Sweeping tt c.requires _ c.index.ensures _ c.slot_at-s.ensures).index

pub invariant_of-self : goal.invariant_of-self
invariant_of-self c =
    let s = spot c.self.inside c.self.invariant _ c.self.view_is c.args.worker Sweeping tt c.requires _ c.index.ensures _ c.slot_at-s.ensures in
    let shows = slot-read c.self.inside c.self.invariant c.slot_at-s.result s.in_slots c.index_mut.result.now c.index_mut.ensures.value in
    sweep-after c.self.inside c.self.invariant c.args.worker c.index.result.now c.slot_at-s.result s c.index-debts.result.now
    (count-read c.self.inside c.self.invariant c.slot_at-s.result s.in_slots _ c.index-debts.ensures)
    c.swept_by-sweep.new.slot (λ x e d k. c.swept_by-sweep.ensures.slot x (e ∙ sym shows) d k) c.swept_by-sweep.result c.swept_by-sweep.ensures.sweep
    c.act.result c.act.ensures _ _ (c.step.ensures.places, c.step.ensures.log)

pub returns-clause-made : goal.returns-clause-made
returns-clause-made c = makes _ _ _ _ c.args.worker _ c.act.result c.self.view_is c.act.ensures c.step.ensures.log (invariant_of-self c).legal

pub step-requires-clause-counted : goal.step-requires-clause-counted
step-requires-clause-counted c = counted-at c.self.inside c.self.invariant c.args.worker
    (spot c.self.inside c.self.invariant _ c.self.view_is c.args.worker Sweeping tt c.requires _ c.index.ensures _ c.slot_at-s.ensures).low

pub returns-clause-holder : goal.returns-clause-holder
returns-clause-holder c =
    let s = spot c.self.inside c.self.invariant _ c.self.view_is c.args.worker Sweeping tt c.requires _ c.index.ensures _ c.slot_at-s.ensures in
    brought s c.act.ensures c.step.ensures.log (λ p. SweepGives c.self.inside.shape c.args.worker p c.swept_by-sweep.result)
    (sweep-gives c.self.inside.shape c.args.worker c.index.result.now c.index-debts.result.now _ c.swept_by-sweep.ensures.sweep)
