use Rattle.std.proofs.Common.{◌<◌, length, inr, sym, ap, ◌∙◌, arith}
use Rattle.slot_history.specs.States.{slot_of}
use Rattle.slot_station.proofs.ExchangesSeen.{exchanges-say}
use Rattle.one_thread.specs.Seats.{shown_by, desk_over}
use Rattle.one_thread.proofs.Seated.{seat}
use Rattle.one_thread.proofs.SeatCells.{seat-index, seat-finds, seat-exchanges}
use Rattle.one_thread.proofs.seat.OneSeatStation.cell.Goals as goal

pub index_mut-requires : goal.index_mut-requires
index_mut-requires g c =
    let x = seat c.args.self.now c.table.inside c.table.view_is c.table.invariant in
    let l = c.table.inside.cells.ok.0 in
    let i : c.cell_index-at.result < length c.table.inside.cells.items = seat-index x c.shape.ensures.legal c.args.worker
    (inr (c.args.holder.now.slot, _, c.requires.holder.place, c.requires.worker))
    (sym (ap slot_of c.requires.holder.place)) c.shape.ensures.shape c.cell_index-at.ensures in
    omega arith

pub invariant_of-table : goal.invariant_of-table
invariant_of-table g c =
    let x = seat c.args.self.now c.table.inside c.table.view_is c.table.invariant in
    let say = (exchanges-say g.B.Fits.fits (Unit {0})).held (shown_by (desk_over x.start x.worker) x.now.log) _ _ c.requires.holder.place
    c.args.worker c.args.new in
    seat-exchanges x c.shape.ensures.legal c.args.worker (inr (c.args.holder.now.slot, _, c.requires.holder.place, c.requires.worker))
    (sym (ap slot_of c.requires.holder.place)) c.shape.ensures.shape c.cell_index-at.ensures c.replace-old.ensures.after (c.fresh_for-note.ensures ∙ sym say.2)
    (say.1 c.requires.fits) c.exchanged.ensures

pub returns-clause-says : goal.returns-clause-says
returns-clause-says g c =
    let x = seat c.args.self.now c.table.inside c.table.view_is c.table.invariant in
    let say = (exchanges-say g.B.Fits.fits (Unit {0})).held (shown_by (desk_over x.start x.worker) x.now.log) _ _ c.requires.holder.place c.args.worker
    c.replace-old.result in
    say.0 (seat-finds x c.shape.ensures.legal c.args.worker (inr (c.args.holder.now.slot, _, c.requires.holder.place, c.requires.worker))
    (sym (ap slot_of c.requires.holder.place)) c.shape.ensures.shape c.cell_index-at.ensures (rw c.replace-old.ensures.value c.index_mut.ensures.value))
