-- A turn under way.
use Rattle.std.proofs.Common.{◌≡◌, ℕ, ◌<◌, Bool, true, false, cond, List, [], ◌∷◌, ◌++◌, refl, sym, ap, ◌∙◌, subst}
use Rattle.slot_history.specs.declared.act.Act.{Act}
use Rattle.slot_history.specs.declared.act.Act.TheVariants.{ClaimRange}
use Rattle.slot_station.specs.Desks.{Desk}
use Rattle.turn_model.specs.Workloads.{Workload}
use Rattle.turn_model.specs.declared.turn.Turn.{Turn}
use Rattle.turn_model.specs.declared.turn.Turn.TheVariants.{Acted}
use Rattle.turn_model.specs.Moves.{Move, Made, Exchanged}
use Rattle.turn_model.specs.Learned.{query_by}
use Rattle.turn_model.specs.Points.{Fetch, Fill, has_ended, point_by}
use Rattle.turn_model.specs.Driven.{May}
use Rattle.turn_model.specs.Runs.{IsTimed, IsTimedCall}
use Rattle.bench_cell.specs.declared.plan.Plan.{Plan}
use Rattle.worker_machine.specs.declared.phase.Phase.{Phase}
use Rattle.worker_machine.specs.declared.phase.Phase.TheVariants.{Ready, Give}
use Rattle.worker_machine.specs.declared.phase.Stepped.{Stepped}
use Rattle.worker_machine.specs.declared.phase.Stepped.TheVariants.{More, End}
use Rattle.worker_machine.specs.Following.{stepped}
use Rattle.worker_machine.specs.Left.{left, IsBelow, is_ready}
use Rattle.worker_machine.specs.Loads.{model_desk}
use Rattle.worker_machine.specs.PointsOf.{point_of}
use Rattle.worker_machine.specs.Keeps.{HasMade, Moves, Standing, takes_none}
use Rattle.worker_machine.specs.Turning.{Goes, Turns}

pub more-left : (D : Desk Plan) (n : ℕ) (p : Phase) → More ≡ stepped p → IsBelow D n p → left D p < n
more-left D n (Ready e) more h = absurd (cc)
more-left D n p more h = h

abbrev turn_of : Stepped → Turn
turn_of (End turn) = turn
turn_of More = Acted

pub ended-phase : (p : Phase) (turn : Turn) → End turn ≡ stepped p → p ≡ Ready turn
ended-phase (Ready e) turn is = ap (λ x. Ready (turn_of x)) (sym is)
ended-phase p turn is = absurd (cc)

-- ---- moves

module _ (may_take : ℕ → ℕ → ℕ → Type 0) where
  -- a call that takes no time is timed by every meter
  timed-call : (load : Workload) (q : ℕ) (a : Act) (t : ℕ) → IsTimedCall takes_none load q a t → IsTimedCall may_take load q a t
  timed-call load q (ClaimRange n from to) t timed = absurd (timed.1)
  timed-call load q a t timed = timed

  timed-move : (D : Desk Workload) (ms : List Move) (m : Move) → IsTimed takes_none D ms m → IsTimed may_take D ms m
  timed-move D ms (Made a t) timed = timed-call D.subject (query_by D ms) a t timed
  timed-move D ms Exchanged timed = tt

pub moves-any : {may_take : ℕ → ℕ → ℕ → Type 0} {from to : Standing} → Moves takes_none from to → Moves may_take from to
moves-any {may_take} {from} {to} m = record {
  move = m.move;
  may = m.may;
  timed = λ ms made. timed-move may_take (model_desk from.desk) ms m.move (m.timed ms made);
  made = m.made;
}

-- a turn is under way at each phase but Ready
not-ended : (again : Bool) (workers : ℕ) → has_ended (cond again (Fetch workers) (Fill 0)) ≡ false
not-ended true workers = refl
not-ended false workers = refl

pub more-point : (workers : ℕ) (p : Phase) → More ≡ stepped p → has_ended (point_of workers p) ≡ false
more-point workers (Ready e) more = absurd (cc)
more-point workers (Give holder) more = not-ended holder.again workers
more-point workers p more = refl

pub ready-point : (workers : ℕ) (p : Phase) → is_ready p ≡ true → has_ended (point_of workers p) ≡ true
ready-point workers (Ready e) ready = refl
ready-point workers p ready = absurd (cc)

pub none-yet : {may_take : ℕ → ℕ → ℕ → Type 0} (from : Standing) → Goes may_take from from
none-yet from = record { more = []; goes = λ ms made. tt; adds = record { timed = λ ms made timed. timed; made = λ ms made. made } }

-- one move more
module _ {may_take : ℕ → ℕ → ℕ → Type 0} {from mid to : Standing} (g : Goes may_take from mid) (m : Moves may_take mid to)
    (here : mid.desk ≡ from.desk) (there : to.desk ≡ mid.desk) where
  may-next : (ms : List Move) → HasMade from ms → May (model_desk from.desk) (g.more ++ ms) m.move
  may-next ms made = subst (λ (D : Desk Plan). May (model_desk D) (g.more ++ ms) m.move) here (m.may (g.more ++ ms) (g.adds.made ms made))

  made-next : (ms : List Move) → HasMade from ms → HasMade to (m.move ∷ g.more ++ ms)
  made-next ms made = m.made (g.more ++ ms) (g.adds.made ms made)

  timed-next : (ms : List Move) → HasMade from ms → IsTimed may_take (model_desk from.desk) (g.more ++ ms) m.move
  timed-next ms made = subst (λ (D : Desk Plan). IsTimed may_take (model_desk D) (g.more ++ ms) m.move) here (m.timed (g.more ++ ms) (g.adds.made ms made))

  point-next : (ms : List Move) → HasMade from ms → point_of to.desk.shape.workers to.phase ≡ point_by (model_desk from.desk) (m.move ∷ g.more ++ ms)
  point-next ms made = (made-next ms made).point ∙ ap (λ (D : Desk Plan). point_by (model_desk D) (m.move ∷ g.more ++ ms)) (there ∙ here)

  pub goes-on : More ≡ stepped to.phase → Goes may_take from to
  goes-on more = record {
    more = m.move ∷ g.more;
    goes = λ ms made. (may-next ms made, sym (ap has_ended (point-next ms made)) ∙ more-point to.desk.shape.workers to.phase more, g.goes ms made);
    adds = record { timed = λ ms made timed. (timed-next ms made, g.adds.timed ms made timed); made = made-next };
  }

  pub turn-ends : {turn : Turn} → to.phase ≡ Ready turn → is_ready from.phase ≡ true → Turns may_take from turn to
  turn-ends {turn} ended ready = record {
    more = m.move ∷ g.more;
    turns = λ ms made. record {
      begins = sym (ap has_ended made.point) ∙ ready-point from.desk.shape.workers from.phase ready;
      turns = record {
        last = m.move;
        before = g.more;
        all = refl;
        way = g.goes ms made;
        may = may-next ms made;
        ends = sym (point-next ms made) ∙ ap (point_of to.desk.shape.workers) ended;
      };
    };
    adds = record { timed = λ ms made timed. (timed-next ms made, g.adds.timed ms made timed); made = made-next };
  }
