use Rattle.std.proofs.Common.{refl, sym, ap, ◌∙◌}
use Rattle.slot_history.specs.States.{held_at}
use Rattle.slot_station.specs.Tokens.{IsHolder}
use Rattle.slot_history.specs.Calls.{NotingDone}
use Rattle.one_thread.proofs.Seated.{seat, may-make, table-after, token-goes, seat-makes}
use Rattle.slot_station.proofs.TokensKept.{note-holds}
use Rattle.one_thread.proofs.seat.OneSeatStation.note_done.Goals as goal

pub invariant_of-table : goal.invariant_of-table
invariant_of-table g c = table-after (seat c.args.self.now c.table.inside c.table.view_is c.table.invariant) c.note_done.ensures tt

pub returns-clause-made : goal.returns-clause-made
returns-clause-made g c = seat-makes (seat c.args.self.now c.table.inside c.table.view_is c.table.invariant) c.note_done.ensures tt

pub note_done-requires : goal.note_done-requires
note_done-requires g c =
    let x = seat c.args.self.now c.table.inside c.table.view_is c.table.invariant in
    let at = c.requires.holder.place in
    let once = sym (ap (λ p. (held_at p).noted) at) ∙ c.requires.once in
    may-make x (NotingDone c.args.k) (c.args._holder.now.slot, _, at, c.requires.query, once, c.requires.number.0, c.requires.number.1)

pub returns-clause-holder : goal.returns-clause-holder
returns-clause-holder g c =
    token-goes (seat c.args.self.now c.table.inside c.table.view_is c.table.invariant) c.note_done.ensures
    (λ d p. IsHolder d c.args.self.now.worker p c.args._holder.now) (λ d p. IsHolder d c.args.self.now.worker p c.args._holder.now)
    (λ d p ok. note-holds d c.args.self.now.worker p _ c.args._holder.now c.args.k ok refl) c.requires.holder
