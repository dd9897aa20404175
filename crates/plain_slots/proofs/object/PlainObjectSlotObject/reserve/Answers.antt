use Rattle.std.proofs.Common.{sym}
use Rattle.slot_history.specs.Calls.{Reserving}
use Rattle.slot_station.specs.Tokens.{ReserveGives}
use Rattle.plain_slots.proofs.Calls.{reserve-after, reserve-gives}
use Rattle.plain_slots.proofs.Following.{slot-read, makes, may-make, moved-there}
use Rattle.plain_slots.proofs.object.PlainObjectSlotObject.reserve.Goals as goal

pub invariant_of-self : goal.invariant_of-self
invariant_of-self c =
    let asks = may-make c.self.inside _ c.self.view_is c.args.worker (Reserving c.args.s) c.requires in
    let shows = slot-read c.self.inside c.self.invariant c.args.s asks.may.1 c.index_mut.result.now c.index_mut.ensures.value in
    reserve-after c.self.inside c.self.invariant c.args.worker asks.below c.args.s asks.may.0 asks.may.1 c.reserved_by-reserve.result
    (c.reserved_by-reserve.ensures.reserve _ (sym shows)) c.act.result c.act.ensures _ _ (c.step.ensures.places, c.step.ensures.log)
    c.reserved_by-reserve.new.slot (c.reserved_by-reserve.ensures.slot _ (sym shows))

pub returns-clause-made : goal.returns-clause-made
returns-clause-made c = makes _ _ _ _ c.args.worker _ c.act.result c.self.view_is c.act.ensures c.step.ensures.log (invariant_of-self c).legal

pub returns-clause-holder : goal.returns-clause-holder
returns-clause-holder c =
    let asks = may-make c.self.inside _ c.self.view_is c.args.worker (Reserving c.args.s) c.requires in
    let shows = slot-read c.self.inside c.self.invariant c.args.s asks.may.1 c.index_mut.result.now c.index_mut.ensures.value in
    moved-there c.self.inside c.args.worker c.act.ensures c.step.ensures.log
    (λ p. ReserveGives c.self.inside.shape c.args.worker p c.reserved_by-reserve.result)
    (reserve-gives c.self.inside.shape c.args.worker c.args.s _ _ _ (c.reserved_by-reserve.ensures.reserve _ (sym shows)))
