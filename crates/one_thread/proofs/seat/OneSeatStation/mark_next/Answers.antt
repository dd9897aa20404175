use Rattle.std.proofs.Common.{refl, ◌∙◌, subst, arith}
use Rattle.slot_station.specs.Tokens.{IsCoordinator}
use Rattle.slot_history.specs.declared.place.Place.TheVariants.{Asking}
use Rattle.slot_station.specs.Places.{IsCounted}
use Rattle.slot_history.specs.Calls.{MarkingNext}
use Rattle.one_thread.proofs.Seated.{seat, place-of, may-make, marks, keeps, token-goes, makes}
use Rattle.slot_station.proofs.TokensKept.{mark-holds}
use Rattle.one_thread.proofs.seat.OneSeatStation.mark_next.Goals as goal

pub invariant_of-table : goal.invariant_of-table
invariant_of-table g c = keeps (seat c.args.self.now c.table.inside c.table.view_is c.table.invariant)
    c.mark_next-mark.ensures.made (marks c.mark_next-mark.result)

pub returns-clause-made : goal.returns-clause-made
returns-clause-made g c = makes (seat c.args.self.now c.table.inside c.table.view_is c.table.invariant)
    c.mark_next-mark.ensures.made (marks c.mark_next-mark.result)

pub mark_next-mark-requires : goal.mark_next-mark-requires
mark_next-mark-requires g c = may-make (seat c.args.self.now c.table.inside c.table.view_is c.table.invariant) MarkingNext
    (_, _, _, _, c.requires.coordinator.place, c.requires.unasked)

pub count-requires : goal.count-requires
count-requires g c =
    let x = seat c.args.self.now c.table.inside c.table.view_is c.table.invariant in
    let now = c.args.coordinator.now in
    let at = place-of x ∙ c.requires.coordinator.place in
    let k : IsCounted (Asking now.slot now.id now.asked now.marked) = subst IsCounted at c.mark_next-mark.ensures.counted in
    let a = k.0 in
    let b = k.1 in
    (omega arith, omega arith)

pub returns-clause-coordinator : goal.returns-clause-coordinator
returns-clause-coordinator g c =
    let w = c.args.self.now.worker in
    token-goes (seat c.args.self.now c.table.inside c.table.view_is c.table.invariant) c.mark_next-mark.ensures.made
    (λ d p. IsCoordinator d w p c.args.coordinator.now) (λ d p. IsCoordinator d w p c.count.new.self)
    (λ d p ok. rw c.count.ensures (mark-holds d w p _ c.args.coordinator.now c.mark_next-mark.result ok refl)) c.requires.coordinator
