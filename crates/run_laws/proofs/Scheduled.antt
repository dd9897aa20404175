-- Runs that ended are scheduled.
use Rattle.slot_history.specs.Histories.{IsLegal}
use Rattle.slot_history.proofs.Claims.{tiles-total}
use Rattle.slot_history.proofs.TaskSets.{once-in-place}
use Rattle.run_laws.specs.Scheduled.{RunsAreScheduled}
use Rattle.run_laws.proofs.Completes.{over-is-done}
use Rattle.run_laws.proofs.FairTurns.{workers-are-fair}

pub runs-are-scheduled : RunsAreScheduled
runs-are-scheduled d load run report ended is =
    let legal : IsLegal d run.history = ended.played.legal in
    record {
      legal = legal;
      own = ended.played.mine;
      tiled = λ id last. let tiles = (tiles-total d run.history legal).1 id last in
          record { total = tiles.0; of_load = ended.of_load id tiles.0 tiles.1; tiles = tiles.2 };
      once = once-in-place d run.history legal;
      done = over-is-done d load run ended.work ended.played ended.over;
      answered = is.replies;
      fair = λ w low. workers-are-fair d load run w ended.played low;
    }
