use Rattle.std.proofs.Common.{[], sym, ap, subst}
use Rattle.turn_model.specs.Told.{told_by}
use Rattle.worker_machine.specs.Loads.{model_desk}
use Rattle.worker_machine.specs.PointsOf.{point_of}
use Rattle.std.proofs.lemmas.List.Elements.{All-nil}
use Rattle.worker_machine.specs.Replies.{AreAnswers}
use Rattle.worker_machine.specs.Keeps.{Knows}
use Rattle.worker_machine.proofs.Untold.{none-told}
use Rattle.std.proofs.Common.{◌≤◌, refl, ◌∙◌}
use Rattle.std.specs.Arc.{arc_value}
use Rattle.std.specs.Vec.{vec_capacity}
use Rattle.slot_station.specs.Desks.{Desk}
use Rattle.turn_model.specs.Workloads.{sets_of}
use Rattle.bench_cell.specs.declared.plan.Plan.{Plan}
use Rattle.worker_machine.specs.Desks.{desk_of}
use Rattle.worker_machine.specs.Loads.{load_of}
use Rattle.worker_machine.proofs.Picking.{sets-are}
use Rattle.worker_machine.proofs.Untold.{none-written}
use Rattle.worker_machine.proofs.laws.new_has_made_none.Goals as goal

pub returns : goal.returns
returns g c =
    let made = c.requires.made in
    let seen = g.S.Station.seen c.args.station.now in
    let core = c.args.worker.now.core in
    record {
      driven = tt;
      mine = c.requires.none;
      knows = subst (Knows (model_desk seen.desk) (told_by (model_desk seen.desk) []) c.args.worker.now.core) (sym made.ready)
          (none-told (model_desk seen.desk) made.untold);
      point = ap (point_of seen.desk.shape.workers) made.ready;
      shares = made.untold.shares;
      answers = subst (AreAnswers seen.desk.subject) (sym made.untold.replies) (record { each = All-nil _ });
      told = none-written (model_desk seen.desk) seen.trail core made.untold.replies made.untold.records made.untold.reply_room
          (subst (λ n. n ≤ vec_capacity core.records) (sets-are (arc_value core.plan) (desk_of core).shape refl
          ∙ ap (λ (x : Desk Plan). sets_of x.shape (load_of x.subject)) made.desk_is) made.untold.record_room);
    }
