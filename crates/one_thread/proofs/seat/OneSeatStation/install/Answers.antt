use Rattle.std.proofs.Common.{ap, ◌∙◌, subst}
use Rattle.slot_history.specs.States.{held_at, next_id}
use Rattle.slot_history.specs.Allowed.{IsReady}
use Rattle.slot_station.specs.Tokens.{IsAnnouncer}
use Rattle.slot_history.specs.Calls.{Installing}
use Rattle.one_thread.proofs.Seated.{seat, may-make, call-allows, table-after, brought, seat-makes}
use Rattle.one_thread.proofs.seat.OneSeatStation.install.Goals as goal

pub invariant_of-table : goal.invariant_of-table
invariant_of-table g c =
    let x = seat c.args.self.now c.table.inside c.table.view_is c.table.invariant in
    table-after x c.install.ensures.made (call-allows x (Installing c.args.id) (c.requires.cells, c.requires.total))

pub returns-clause-made : goal.returns-clause-made
returns-clause-made g c =
    let x = seat c.args.self.now c.table.inside c.table.view_is c.table.invariant in
    seat-makes x c.install.ensures.made (call-allows x (Installing c.args.id) (c.requires.cells, c.requires.total))

pub install-requires : goal.install-requires
install-requires g c =
    let x = seat c.args.self.now c.table.inside c.table.view_is c.table.invariant in
    let at = c.requires.holder.place in
    may-make x (Installing c.args.id)
    (c.args._holder.slot, _, at, subst (λ p. IsReady (held_at p)) at c.requires.ready, c.requires.id ∙ ap (λ p. next_id (held_at p)) at)

pub returns-clause-announcer : goal.returns-clause-announcer
returns-clause-announcer g c = brought (seat c.args.self.now c.table.inside c.table.view_is c.table.invariant) c.install.ensures.made
    (λ d p. IsAnnouncer d c.args.self.now.worker p c.install.result) c.install.ensures.announcer
