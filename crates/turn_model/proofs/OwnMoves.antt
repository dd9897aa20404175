-- A worker's place and its notice records, by its moves.
use Rattle.std.proofs.Common.{◌≡◌, ℕ, List, [], ◌∷◌, refl, ap, ap₂, ◌∙◌}
use Rattle.slot_history.specs.Steps.{moved}
use Rattle.slot_history.specs.Histories.{entry, place_of, own_record, own_record_after}
use Rattle.slot_history.proofs.Own.{place-mine, place-own, record-by-own}
use Rattle.slot_station.specs.Desks.{Desk}
use Rattle.turn_model.specs.Workloads.{Workload}
use Rattle.turn_model.specs.Moves.{Move, Made, Exchanged, entries}
use Rattle.turn_model.specs.Learned.{place_by, record_by}
use Rattle.turn_model.specs.Laws.{MovesTell}

pub place-at : (D : Desk Workload) (ms : List Move) → place_of D.shape (entries D.worker ms) D.worker ≡ place_by D ms
place-at D [] = refl
place-at D (Made a t ∷ ms) = place-mine D.shape (entry D.worker a) (entries D.worker ms) D.worker refl ∙ ap (moved D.shape a) (place-at D ms)
place-at D (Exchanged ∷ ms) = place-at D ms

record-at : (D : Desk Workload) (s : ℕ) (ms : List Move) → own_record D.shape D.worker s (entries D.worker ms) ≡ record_by D s ms
record-at D s [] = refl
record-at D s (Made a t ∷ ms) =
    (record-by-own D.shape D.worker s).mine (entry D.worker a) (entries D.worker ms) refl
    ∙ ap₂ (λ p r. own_record_after a p s r) (place-at D ms) (record-at D s ms)
record-at D s (Exchanged ∷ ms) = record-at D s ms

pub moves-tell : MovesTell
moves-tell D h ms mine = record {
  place = place-own D.shape D.worker h ∙ ap (λ l. place_of D.shape l D.worker) mine ∙ place-at D ms;
  records = λ s. (record-by-own D.shape D.worker s).own h ∙ ap (own_record D.shape D.worker s) mine ∙ record-at D s ms;
}
