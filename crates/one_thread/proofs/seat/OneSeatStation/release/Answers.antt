use Rattle.std.proofs.Common.{◌<◌, subst}
use Rattle.slot_history.specs.States.{held_at}
use Rattle.std.proofs.Common.{⊎_elim, inl, inr}
use Rattle.slot_history.specs.Calls.{Releasing}
use Rattle.one_thread.proofs.Seated.{seat, may-make, call-allows, table-after, seat-makes}
use Rattle.one_thread.proofs.seat.OneSeatStation.release.Goals as goal

pub invariant_of-table : goal.invariant_of-table
invariant_of-table g c =
    let x = seat c.args.self.now c.table.inside c.table.view_is c.table.invariant in
    table-after x c.release.ensures (call-allows x Releasing c.requires.cells)

pub returns-clause-made : goal.returns-clause-made
returns-clause-made g c =
    let x = seat c.args.self.now c.table.inside c.table.view_is c.table.invariant in
    seat-makes x c.release.ensures (call-allows x Releasing c.requires.cells)

pub release-requires : goal.release-requires
release-requires g c =
    let x = seat c.args.self.now c.table.inside c.table.view_is c.table.invariant in
    let at = c.requires.holder.place in
    may-make x Releasing
    (c.args._holder.slot, _, at, ⊎_elim (λ h. inl h) (λ h. inr (subst (λ p. 0 < (held_at p).noted) at h)) c.requires.noted)
