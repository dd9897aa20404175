-- Whether a worker is over, or has a turn under way, by its moves.
use Rattle.std.proofs.Common.{◌≡◌, ℕ, ◌<◌, Bool, true, false, cond, List, refl, sym, ap, ◌∙◌}
use Rattle.turn_model.specs.Moves.{Move}
use Rattle.turn_model.specs.Points as point
use Rattle.turn_model.specs.Points.{Point, has_ended, point_by}
use Rattle.turn_model.specs.Runs.{desk_at}
use Rattle.turn_model.specs.declared.turn.Turn.{Turn}
use Rattle.turn_model.specs.declared.turn.Turn.TheVariants.{Over}
use Rattle.slot_station.specs.Desks.{Desk}
use Rattle.worker_machine.specs.declared.phase.Stepped.TheVariants.{More, End}
use Rattle.worker_machine.specs.Following.{stepped}
use Rattle.one_thread.specs.Tables.{TableStory}
use Rattle.bench_cell.specs.declared.plan.Plan.{Plan}
use Rattle.worker_machine.specs.declared.phase.Phase.{Phase}
use Rattle.worker_machine.specs.declared.phase.Phase.TheVariants.{Ready, Give}
use Rattle.worker_machine.specs.declared.state.Worker.{Worker}
use Rattle.worker_machine.specs.Keeps.{HasMade}
use Rattle.worker_machine.specs.Left.{is_ready, left, IsBelow}
use Rattle.worker_machine.specs.Loads.{load_of}
use Rattle.worker_machine.specs.PointsOf.{point_of}
use Rattle.pool_run.specs.Scenes.{stands_in}

ended-cond : (b : Bool) (n : ℕ) → has_ended (cond b (point.Fetch n) (point.Fill 0)) ≡ false
ended-cond true n = refl
ended-cond false n = refl

pub ended-point : (n : ℕ) (p : Phase) → has_ended (point_of n p) ≡ is_ready p
ended-point n (Give h) = ended-cond h.again n
ended-point n p = refl

over-phase : (n : ℕ) (p : Phase) → point_of n p ≡ point.Ready Over → is_ready p ≡ true → p ≡ Ready Over
over-phase n (Ready t) e ready = cc
over-phase n p e ready = absurd (cc)

-- what a step came to, by the phase after it
pub phase-end : (p : Phase) (t : Turn) → End t ≡ stepped p → p ≡ Ready t
phase-end (Ready u) t e = cc
phase-end p t e = absurd (cc)

pub phase-more : (p : Phase) → More ≡ stepped p → is_ready p ≡ false
phase-more (Ready u) e = absurd (cc)
phase-more p e = refl

pub under-way : (ready : Bool) → (ready ≡ true → ⊥) → ready ≡ false
under-way true not = absurd (not refl)
under-way false not = refl

pub left-less : (D : Desk Plan) (n : ℕ) (p : Phase) → is_ready p ≡ false → IsBelow D n p → left D p < n
left-less D n (Ready u) under below = absurd (cc)
left-less D n p under below = below

module _ (table : TableStory Plan) {w : ℕ} {x : Worker} {ms : List Move} (made : HasMade (stands_in table w x) ms) where
  pub over-in : x.phase ≡ Ready Over → point_by (desk_at table.shape (load_of table.subject) w) ms ≡ point.Ready Over
  over-in over = sym made.point ∙ ap (point_of table.shape.workers) over

  pub over-of : point_by (desk_at table.shape (load_of table.subject) w) ms ≡ point.Ready Over → x.phase ≡ Ready Over
  over-of over =
      let at : point_of table.shape.workers x.phase ≡ point.Ready Over = made.point ∙ over in
      over-phase table.shape.workers x.phase at (sym (ended-point table.shape.workers x.phase) ∙ ap has_ended at)

  pub ended-in : has_ended (point_by (desk_at table.shape (load_of table.subject) w) ms) ≡ is_ready x.phase
  ended-in = ap has_ended (sym made.point) ∙ ended-point table.shape.workers x.phase
