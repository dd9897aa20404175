use Rattle.std.proofs.Common.{refl}
use Rattle.slot_station.specs.Tokens.{IsHolder}
use Rattle.slot_history.specs.Calls.{Admitting}
use Rattle.one_thread.proofs.Seated.{seat, may-make, admits, keeps, token-goes, makes}
use Rattle.slot_station.proofs.TokensKept.{admit-holds}
use Rattle.one_thread.proofs.seat.OneSeatStation.admit.Goals as goal

pub invariant_of-table : goal.invariant_of-table
invariant_of-table g c = keeps (seat c.args.self.now c.table.inside c.table.view_is c.table.invariant)
    c.admit-admit.ensures (admits c.args.q c.admit-admit.result)

pub returns-clause-made : goal.returns-clause-made
returns-clause-made g c = makes (seat c.args.self.now c.table.inside c.table.view_is c.table.invariant)
    c.admit-admit.ensures (admits c.args.q c.admit-admit.result)

pub admit-admit-requires : goal.admit-admit-requires
admit-admit-requires g c = may-make (seat c.args.self.now c.table.inside c.table.view_is c.table.invariant) (Admitting c.args.q)
    (c.args.holder.now.slot, _, c.requires.holder.place, c.requires.none, c.requires.query)

pub returns-clause-holder : goal.returns-clause-holder
returns-clause-holder g c =
    let w = c.args.self.now.worker in
    token-goes (seat c.args.self.now c.table.inside c.table.view_is c.table.invariant) c.admit-admit.ensures
    (λ d p. IsHolder d w p c.args.holder.now) (λ d p. IsHolder d w p c.admit.new.self)
    (λ d p ok. rw c.admit.ensures (admit-holds d w p _ c.args.holder.now c.args.q c.admit-admit.result ok refl)) c.requires.holder
