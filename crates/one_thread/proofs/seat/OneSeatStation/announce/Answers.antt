use Rattle.std.proofs.Common.{◌+◌, ◌<◌}
use Rattle.slot_station.specs.Tokens.{IsAnnouncer}
use Rattle.slot_history.specs.declared.shape.Shape.{Shape}
use Rattle.slot_history.specs.Calls.{AnnouncingNext}
use Rattle.one_thread.proofs.Seated.{seat, may-make, shape-for, token-old, table-after, new-place, token-for, seat-makes, seat-done}
use Rattle.slot_station.proofs.TokensKept.{tell-holds}
use Rattle.one_thread.proofs.seat.OneSeatStation.announce.Goals as goal

pub invariant_of-table : goal.invariant_of-table
invariant_of-table g c = table-after (seat c.args.self.now c.table.inside c.table.view_is c.table.invariant) c.announce.ensures.made tt

pub returns-clause-made : goal.returns-clause-made
returns-clause-made g c = seat-makes (seat c.args.self.now c.table.inside c.table.view_is c.table.invariant) c.announce.ensures.made tt

pub announce-requires : goal.announce-requires
announce-requires g c = may-make (seat c.args.self.now c.table.inside c.table.view_is c.table.invariant) AnnouncingNext
    (_, _, _, c.requires.announcer.place)

pub returns-clause-announcer : goal.returns-clause-announcer
returns-clause-announcer g c more =
    let x = seat c.args.self.now c.table.inside c.table.view_is c.table.invariant in
    let w = c.args.self.now.worker in
    let old = token-old x (λ d p. IsAnnouncer d w p c.args.announcer.now) c.requires.announcer in
    let untold = shape-for x (λ (d : Shape). c.args.announcer.now.told + 1 < d.workers) more in
    token-for x c.announce.ensures.made (λ d p. IsAnnouncer d w p (record c.args.announcer.now { told = c.args.announcer.now.told + 1 }))
    (tell-holds (g.O.SlotObject.story c.table.inside.object).shape w _ _ c.args.announcer.now old (new-place x c.announce.ensures.made) untold)

pub returns-clause-done : goal.returns-clause-done
returns-clause-done g c all = seat-done (seat c.args.self.now c.table.inside c.table.view_is c.table.invariant) c.announce.ensures.made c.args.announcer.now
    c.requires.announcer all
