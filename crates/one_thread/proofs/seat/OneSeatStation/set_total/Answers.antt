use Rattle.std.proofs.Common.{refl}
use Rattle.slot_station.specs.Tokens.{IsHolder}
use Rattle.slot_history.specs.Calls.{SettingTotal}
use Rattle.one_thread.proofs.Seated.{seat, may-make, table-after, token-goes, seat-makes}
use Rattle.slot_station.proofs.TokensKept.{total-holds}
use Rattle.one_thread.proofs.seat.OneSeatStation.set_total.Goals as goal

pub invariant_of-table : goal.invariant_of-table
invariant_of-table g c = table-after (seat c.args.self.now c.table.inside c.table.view_is c.table.invariant) c.set_total.ensures tt

pub set_total-requires : goal.set_total-requires
set_total-requires g c = may-make (seat c.args.self.now c.table.inside c.table.view_is c.table.invariant) (SettingTotal c.args.total)
    (c.args._holder.now.slot, _, c.requires.holder.place, c.requires.query, c.requires.number)

pub returns-clause-made : goal.returns-clause-made
returns-clause-made g c = seat-makes (seat c.args.self.now c.table.inside c.table.view_is c.table.invariant) c.set_total.ensures tt

pub returns-clause-holder : goal.returns-clause-holder
returns-clause-holder g c =
    let w = c.args.self.now.worker in
    token-goes (seat c.args.self.now c.table.inside c.table.view_is c.table.invariant) c.set_total.ensures
    (λ d p. IsHolder d w p c.args._holder.now) (λ d p. IsHolder d w p c.args._holder.now)
    (λ d p ok. total-holds d w p _ c.args._holder.now c.args.total ok refl) c.requires.holder
