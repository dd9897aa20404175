use Rattle.std.proofs.Common.{refl}
use Rattle.worker_machine.proofs.Moving.{exchanges-by, keeps-on}
use Rattle.worker_machine.specs.Loads.{model_desk}
use Rattle.turn_model.specs.Points as point
use Rattle.worker_machine.proofs.Telling.{exchange-tells}
use Rattle.worker_machine.proofs.kept.Core.back.Goals as goal

pub returns-clause-moves : goal.returns-clause-moves
returns-clause-moves g c =
    let old = g.S.Station.seen c.args.station.now in
    exchanges-by c.own_cell.ensures.put.stays tt (λ ms k. keeps-on k refl) refl refl refl
    (λ ms h. exchange-tells (model_desk old.desk) ms point.Back h.point refl refl refl refl h.told)
