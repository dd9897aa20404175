use Rattle.std.proofs.Common.{◌<◌, length, inl, refl, sym, ap, ◌∙◌, arith}
use Rattle.slot_history.specs.States.{slot_of}
use Rattle.slot_station.proofs.ExchangesSeen.{exchanges-say}
use Rattle.one_thread.specs.Seats.{shown_by, desk_over}
use Rattle.one_thread.proofs.Seated.{seat, place-of}
use Rattle.one_thread.proofs.SeatCells.{seat-index, seat-finds, seat-exchanges}
use Rattle.one_thread.proofs.seat.OneSeatStation.own_cell.Goals as goal

pub index_mut-requires : goal.index_mut-requires
index_mut-requires g c =
    let x = seat c.args.self.now c.table.inside c.table.view_is c.table.invariant in
    let l = c.table.inside.cells.ok.0 in
    let i : c.cell_index-at.result < length c.table.inside.cells.items = seat-index x c.shape.ensures.legal x.worker (inl (refl, c.requires.place))
    (c.slot_at-slot.ensures ∙ ap slot_of (c.place.ensures ∙ place-of x)) c.shape.ensures.shape
    c.cell_index-at.ensures in
    omega arith

pub invariant_of-table : goal.invariant_of-table
invariant_of-table g c =
    let x = seat c.args.self.now c.table.inside c.table.view_is c.table.invariant in
    let say = (exchanges-say g.B.Fits.fits (Unit {0})).own (shown_by (desk_over x.start x.worker) x.now.log) c.requires.place c.args.new in
    seat-exchanges x c.shape.ensures.legal x.worker (inl (refl, c.requires.place))
    (c.slot_at-slot.ensures ∙ ap slot_of (c.place.ensures ∙ place-of x)) c.shape.ensures.shape
    c.cell_index-at.ensures c.replace-old.ensures.after (c.kept_for-note.ensures ∙ sym say.2) (say.1 c.requires.fits)
    c.exchanged.ensures

pub returns-clause-says : goal.returns-clause-says
returns-clause-says g c =
    let x = seat c.args.self.now c.table.inside c.table.view_is c.table.invariant in
    let say = (exchanges-say g.B.Fits.fits (Unit {0})).own (shown_by (desk_over x.start x.worker) x.now.log) c.requires.place c.replace-old.result in
    say.0 (seat-finds x c.shape.ensures.legal x.worker (inl (refl, c.requires.place))
    (c.slot_at-slot.ensures ∙ ap slot_of (c.place.ensures ∙ place-of x)) c.shape.ensures.shape
    c.cell_index-at.ensures (rw c.replace-old.ensures.value c.index_mut.ensures.value))
