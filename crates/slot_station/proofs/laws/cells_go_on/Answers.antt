use Rattle.slot_station.proofs.CellsKept.{cell-call}
use Rattle.slot_station.proofs.laws.cells_go_on.Goals as goal

pub returns : goal.returns
returns g c subject totals m w a legal allow cell low =
    cell-call (g.B.Fits.fits subject cell.worker) totals m.shape m.history m.notes w a legal allow cell.slot cell.value cell.worker low
