use Rattle.std.proofs.Common.{ap, ◌∙◌, ◌∷◌, []}
use Rattle.slot_station.specs.Log.{calls_of_first}
use Rattle.slot_station.proofs.Memos.{calls-logged}
use Rattle.slot_station.proofs.history.HistoryKeeper.keep.Goals as goal

pub returns : goal.returns
returns g c =
    c.of.ensures ∙ ap calls_of_first c.into_badge-badge.ensures.2 ∙ ap (λ l. calls_of_first (l ∷ [])) c.compare_exchange_with.ensures.2.0 ∙ calls-logged
    (g.X.ShowsHistory.history c.args.last.now)
