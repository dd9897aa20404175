-- What the workers of a table have done in a run.
use Rattle.std.proofs.Common.{ℕ, ◌<◌, sym, ap, ◌∙◌, subst}
use Rattle.std.proofs.lemmas.Option.{slice_get_within}
use Rattle.slot_history.specs.Histories.{Begins, IsLegal, own_calls}
use Rattle.slot_station.specs.Log.{calls_of}
use Rattle.one_thread.proofs.Trails.{begins, own-trail}
use Rattle.one_thread.specs.Seats.{trail_in}
use Rattle.turn_model.specs.Runs.{Run, desk_at}
use Rattle.worker_machine.specs.Loads.{load_of}
use Rattle.pool_run.specs.Scenes.{Scene, HasPlayed, TeamFollows}
use Rattle.pool_run.proofs.Ended.{HaveDone}
use Rattle.pool_run.proofs.Places.{item-at}
use Rattle.pool_run.proofs.Played.{mine-in}
use Rattle.pool_run.proofs.Totals.{IsMadeBy, of-load}

pub table-done : {may_take : ℕ → ℕ → ℕ → Type 0} {at : Scene} {run : Run} → HasPlayed may_take at run → TeamFollows at
    → IsLegal at.table.shape (calls_of at.table.log) → HaveDone may_take at.table.shape at.table.subject run at.team
table-done {may_take} {at} {run} played follows legal = record {
  legal = lawful;
  of_load = of-load at.table.shape (load_of at.table.subject) run.history lawful made-by;
  count = follows.count;
  no_more = played.no_more;
  each = λ w x here. record {
    trail = trail_in w (calls_of at.table.log);
    desk = (follows.each w x here).desk;
    made = played.made w x here;
    timed = played.timed w (subst (λ n. w < n) follows.count (slice_get_within at.team w x here));
    begins = subst (λ h. Begins h (trail_in w (calls_of at.table.log))) (sym played.history) (begins w (calls_of at.table.log));
    own = ap (own_calls w) played.history ∙ sym (own-trail w (calls_of at.table.log));
  };
} where
  lawful : IsLegal at.table.shape run.history
  lawful = subst (IsLegal at.table.shape) (sym played.history) legal

  made-by : (w : ℕ) → w < at.table.shape.workers → IsMadeBy (desk_at at.table.shape (load_of at.table.subject) w) run.history
  made-by w below =
      let x = item-at at.team at.table.shape.workers w follows.count below in
      let m = played.made w x.0 x.1 in
      record { moves = run.team w; driven = m.driven; mine = ap (own_calls w) played.history ∙ mine-in at.table w x.0 (run.team w) m }
