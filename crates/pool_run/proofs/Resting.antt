-- The rest of a turn, step by step.
use Rattle.std.proofs.Common.{◌≡◌, ℕ, false, List, [], ◌∷◌, ◌++◌, refl, sym, ap, ◌∙◌, subst, append_assoc}
use Rattle.std.proofs.Math.Logic.{∥∥₁_elim, ∥∥₁_map, ∥∥₁_prop}
use Rattle.std.proofs.lemmas.List.Elements.{All-nil, All-append}
use Rattle.slot_station.specs.Desks.{Desk}
use Rattle.slot_station.specs.Log.{who}
use Rattle.one_thread.specs.Tables.{TableStory}
use Rattle.one_thread.specs.Seats.{IsSince, desk_over}
use Rattle.turn_model.specs.declared.turn.Turn.{Turn}
use Rattle.turn_model.specs.Moves.{Move}
use Rattle.turn_model.specs.Driven.{May}
use Rattle.turn_model.specs.Runs.{IsTimed}
use Rattle.turn_model.specs.Points as point
use Rattle.turn_model.specs.Points.{has_ended, point_by}
use Rattle.bench_cell.specs.declared.plan.Plan.{Plan}
use Rattle.worker_machine.specs.declared.phase.Phase.TheVariants.{Ready}
use Rattle.worker_machine.specs.declared.state.Worker.{Worker}
use Rattle.worker_machine.specs.Keeps.{HasMade, Moves}
use Rattle.worker_machine.specs.Left.{is_ready}
use Rattle.worker_machine.specs.Loads.{model_desk}
use Rattle.worker_machine.specs.PointsOf.{point_of}
use Rattle.worker_machine.specs.Turning.{Adds, Goes}
use Rattle.pool_run.specs.Rests.{Rests}
use Rattle.pool_run.specs.Scenes.{Since, stands_in}
use Rattle.pool_run.proofs.Points.{ended-in}
use Rattle.pool_run.proofs.SeatViews.{desk-since}

-- the steps of w so far: what they left to others, and what moves they were
pub record OnTheWay (may_take : ℕ → ℕ → ℕ → Type 0) (old new : TableStory Plan) (w : ℕ) (x y : Worker) : Type 0 where
  pub since : Since old new w
  pub goes : Goes may_take (stands_in old w x) (stands_in new w y)

since-none : (old : TableStory Plan) (w : ℕ) → Since old old w
since-none old w = record { shape = refl; subject = refl; since = ∣ record { more = []; log = refl; own = All-nil (λ step. who step ≡ w) } ∣₁ }

pub since-more : {old mid new : TableStory Plan} {w : ℕ} → Since old mid w → Since mid new w → Since old new w
since-more {old} {mid} {new} {w} a b = record {
  shape = b.shape ∙ a.shape;
  subject = b.subject ∙ a.subject;
  since = ∥∥₁_elim a.since ∥∥₁_prop (λ x. ∥∥₁_map b.since (λ y. both x y));
} where
  both : IsSince old mid w → IsSince mid new w → IsSince old new w
  both x y = record {
    more = y.more ++ x.more;
    log = y.log ∙ ap (λ l. y.more ++ l) x.log ∙ sym (append_assoc y.more x.more old.log);
    own = All-append (λ step. who step ≡ w) y.more x.more y.own x.own;
  }

-- before the first step
pub sets-out : (may_take : ℕ → ℕ → ℕ → Type 0) (old : TableStory Plan) (w : ℕ) (x : Worker) → OnTheWay may_take old old w x x
sets-out may_take old w x = record {
  since = since-none old w;
  goes = record { more = []; goes = λ ms made. tt; adds = record { timed = λ ms made t. t; made = λ ms made. made } };
}

module _ {may_take : ℕ → ℕ → ℕ → Type 0} {old mid new : TableStory Plan} {w : ℕ} {x y z : Worker} (way : OnTheWay may_take old mid w x y)
    (s : Since mid new w) (m : Moves may_take (stands_in mid w y) (stands_in new w z)) where
  -- the desk of the model is the same on the way
  desk-then : desk_over mid w ≡ desk_over old w
  desk-then = desk-since way.since w

  may-then : (ms : List Move) → HasMade (stands_in old w x) ms → May (model_desk (desk_over old w)) (way.goes.more ++ ms) m.move
  may-then ms made =
      subst (λ (D : Desk Plan). May (model_desk D) (way.goes.more ++ ms) m.move) desk-then (m.may (way.goes.more ++ ms) (way.goes.adds.made ms made))

  adds-then : Adds may_take (stands_in old w x) (m.move ∷ way.goes.more) (stands_in new w z)
  adds-then = record {
    timed = λ ms made t. (
      subst (λ (D : Desk Plan). IsTimed may_take (model_desk D) (way.goes.more ++ ms) m.move) desk-then
          (m.timed (way.goes.more ++ ms) (way.goes.adds.made ms made)),
      way.goes.adds.timed ms made t,
    );
    made = λ ms made. m.made (way.goes.more ++ ms) (way.goes.adds.made ms made);
  }

  point-then : (ms : List Move) → HasMade (stands_in old w x) ms
      → has_ended (point_by (model_desk (desk_over old w)) (m.move ∷ way.goes.more ++ ms)) ≡ is_ready z.phase
  point-then ms made =
      subst (λ (D : Desk Plan). has_ended (point_by (model_desk D) (m.move ∷ way.goes.more ++ ms)) ≡ is_ready z.phase) (desk-since s w ∙ desk-then)
      (ended-in new (m.made (way.goes.more ++ ms) (way.goes.adds.made ms made)))

  -- one step more, and the turn goes on
  pub goes-further : is_ready z.phase ≡ false → OnTheWay may_take old new w x z
  goes-further under = record {
    since = since-more way.since s;
    goes = record {
      more = m.move ∷ way.goes.more;
      goes = λ ms made. (may-then ms made, point-then ms made ∙ under, way.goes.goes ms made);
      adds = adds-then;
    };
  }

  -- or it ends the turn
  pub ends-there : {turn : Turn} → z.phase ≡ Ready turn → Rests may_take (stands_in old w x) turn (stands_in new w z)
  ends-there {turn} ends = record {
    more = m.move ∷ way.goes.more;
    ends = λ ms made. record {
      last = m.move;
      before = way.goes.more;
      all = refl;
      way = way.goes.goes ms made;
      may = may-then ms made;
      ends = subst (λ (D : Desk Plan). point_by (model_desk D) (m.move ∷ way.goes.more ++ ms) ≡ point.Ready turn) (desk-since s w ∙ desk-then)
          (sym (m.made (way.goes.more ++ ms) (way.goes.adds.made ms made)).point ∙ ap (point_of new.shape.workers) ends);
    };
    adds = adds-then;
  }
