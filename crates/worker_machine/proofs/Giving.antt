-- The points after a holder told a worker of its task set, or gave its query up.
use Rattle.std.proofs.Common.{◌≡◌, ◌≢◌, ℕ, ◌+◌, ◌-◌, Bool, true, false, ◌&&◌, cond, eqb, ltb, List, None, unwrap_or, inr, refl, sym, ap, ◌∙◌, arith}
use Rattle.std.proofs.Common.{eq-eqb, ne_eqb, le-ltb}
use native.Mathlib.Decide.{ℕ_discrete}
use Rattle.slot_history.specs.declared.shape.Shape.{Shape}
use Rattle.slot_history.specs.declared.act.Act.TheVariants.{Announce, NoteDone}
use Rattle.slot_history.specs.declared.place.Place.{Place}
use Rattle.slot_history.specs.declared.place.Place.TheVariants.{Free, Announcing}
use Rattle.slot_history.specs.Steps.{moved}
use Rattle.slot_history.specs.declared.place.Held.{Held}
use Rattle.slot_history.specs.States.{held_at}
use Rattle.slot_station.specs.declared.token.Holder.{Holder}
use Rattle.slot_station.specs.Desks.{Desk, Seen}
use Rattle.bench_cell.specs.declared.plan.Plan.{Plan}
use Rattle.turn_model.specs.Workloads.{Workload}
use Rattle.turn_model.specs.Moves.{Move}
use Rattle.turn_model.specs.declared.turn.Turn.TheVariants.{Acted}
use Rattle.turn_model.specs.Points.{Ready, Tells, Fetch, Fill, FreeIt, after, goes_on, rest_of, told}
use Rattle.turn_model.specs.Driven.{GivesUp, MayCall, held_by}
use Rattle.worker_machine.specs.declared.kept.Core.{Core}
use Rattle.worker_machine.specs.declared.phase.Phase.{Phase}
use Rattle.worker_machine.specs.Hands.{HoldsAs}
use Rattle.worker_machine.specs.Loads.{load_of, model_desk}
use Rattle.worker_machine.specs.Keeps.{HasMade, standing}
use Rattle.worker_machine.proofs.Moving.{place-made}

module _ (d : Shape) (s n : ℕ) (again : Bool) (p : Place) (at : Announcing s again n ≡ p) where
  told-is : (b : Bool) → eqb (n + 1) d.workers ≡ b → told (cond b Free (Announcing s again (n + 1))) ≡ told (moved d Announce p)
  told-is b is = ap (λ x. told (cond x Free (Announcing s again (n + 1)))) (sym is) ∙ ap (λ x. told (moved d Announce x)) at

  pub told-last : n + 1 ≡ d.workers → Ready Acted ≡ told (moved d Announce p)
  told-last all = told-is true (eq-eqb (n + 1) d.workers all)

  pub told-more : n + 1 ≢ d.workers → Tells ≡ told (moved d Announce p)
  told-more some = told-is false (ne_eqb (n + 1) d.workers some)

-- once all stages that are left were noted, there is no next one
pub rest-ends : (all stage : ℕ) → (eqb (all - stage) 1 && ltb (stage + 1) all) ≡ false
rest-ends all stage = at (ℕ_discrete (all - stage) 1) where
  at : Dec (all - stage ≡ 1) → (eqb (all - stage) 1 && ltb (stage + 1) all) ≡ false
  at (yes e) = ap (λ b. b && ltb (stage + 1) all) (eq-eqb (all - stage) 1 e) ∙ le-ltb (stage + 1) all (omega (arith, e))
  at (no n) = ap (λ b. b && ltb (stage + 1) all) (ne_eqb (all - stage) 1 n)

-- the holder gives up a query of which it noted nothing
module _ {O : Type 0} (seen : Seen O Plan) {core : Core} {phase : Phase} (h : Holder) (ms : List Move) (made : HasMade (standing core phase seen) ms)
    (held : HoldsAs seen h 0 None) (n : ℕ) (is : n ≡ (load_of seen.desk.subject).stages (unwrap_or h.query 0) - h.stage) where
  held-is : held_by (model_desk seen.desk) ms ≡ record { query = h.query; stage = h.stage; again = h.again; noted = 0; total = None }
  held-is = ap held_at (sym (place-made seen ms made) ∙ held.place)

  pub gives-up : GivesUp (model_desk seen.desk) ms n
  gives-up = record { all = is ∙ sym (ap (rest_of (load_of seen.desk.subject)) held-is); none = ap (λ (k : Held). k.noted) held-is }

  pub ends-all : goes_on (load_of seen.desk.subject) (held_by (model_desk seen.desk) ms) n ≡ false
  ends-all =
      ap (λ k. goes_on (load_of seen.desk.subject) k n) held-is
      ∙ ap (λ k. eqb k 1 && ltb (h.stage + 1) ((load_of seen.desk.subject).stages (unwrap_or h.query 0))) is
      ∙ rest-ends ((load_of seen.desk.subject).stages (unwrap_or h.query 0)) h.stage

module _ (D : Desk Workload) (ms : List Move) (n : ℕ) (gives : GivesUp D ms n) where
  -- a query may be given up after its admission, and after a task set of it was gathered
  pub may-give : (again : Bool) → MayCall D ms (cond again (Fetch D.shape.workers) (Fill 0)) (NoteDone n)
  may-give true = (refl, inr gives)
  may-give false = (refl, gives)

  pub given : (again : Bool) → goes_on D.subject (held_by D ms) n ≡ false → FreeIt ≡ after D ms (cond again (Fetch D.shape.workers) (Fill 0)) (NoteDone n)
  given true ends = sym (ap (λ b. cond b (Fill 0) FreeIt) ends)
  given false ends = refl
