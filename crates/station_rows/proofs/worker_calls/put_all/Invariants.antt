use Rattle.std.proofs.Common.{◌≡◌, ℕ, ◌<◌}
use Rattle.slot_station.specs.Desks.{KeepsTrail}
use Rattle.slot_station.specs.Cells.{fresh_note}
use Rattle.station_rows.proofs.worker_calls.put_all.Given as goal

abbrev pub invariant-loop-worker : goal.invariant-loop-worker
invariant-loop-worker g l =
    KeepsTrail (g.S.Station.seen l.fn.station) (g.S.Station.seen l.station)
    × (l.holder ≡ l.fn.holder)
    × (l.id ≡ l.fn.id)
    × (l.workers ≡ (g.S.Station.seen l.fn.station).desk.shape.workers)
    × ((v : ℕ) → v < l.worker-counter → (g.S.Station.seen l.station).notes v ≡ fresh_note l.fn.id)
