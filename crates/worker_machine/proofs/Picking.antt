-- What the choice of a slot and the test of the next arrival are, by the moves.
use Rattle.std.proofs.Common.{◌≡◌, ℕ, zero, suc, ◌+◌, ◌<◌, ◌≤◌, Bool, cond, List, [], ◌∷◌, Option, Some, None, length, slice_get, sum_by}
use Rattle.std.proofs.Common.{refl, sym, ap, ◌∙◌, subst, arith, lt-ltb, le-ltb}
use Rattle.std.specs.Arc.{arc_value}
use Rattle.std.specs.declared.sync.Arc.{Arc}
use Rattle.std.specs.Global.{Global}
use Rattle.plan_ast.specs.declared.checks.Checked.{Checked}
use Rattle.std.proofs.lemmas.List.Sums.{sum_by-cons}
use Rattle.slot_history.specs.Sets.{sum_below}
use Rattle.slot_history.specs.declared.shape.Shape.{Shape}
use Rattle.stride_set.specs.Strides.{choice_of, strides_of}
use Rattle.slot_station.specs.Desks.{Desk}
use Rattle.turn_model.specs.Workloads.{Workload, sets_of}
use Rattle.turn_model.specs.Moves.{Move}
use Rattle.turn_model.specs.Told.{Told}
use Rattle.turn_model.specs.Learned.{strides_by, finished_by}
use Rattle.turn_model.specs.declared.turn.Turn.{Turn}
use Rattle.turn_model.specs.declared.turn.Turn.TheVariants.{Idle, Over}
use Rattle.turn_model.specs.Points.{Ready, ended_as, is_due, pick, picked}
use Rattle.bench_cell.specs.declared.plan.Plan.{Plan}
use Rattle.bench_cell.specs.Plans.{stages_in}
use Rattle.bench_cell.specs.Plans as plans
use Rattle.worker_machine.specs.declared.kept.Core.{Core}
use Rattle.worker_machine.specs.declared.phase.Phase.{Phase}
use Rattle.worker_machine.specs.declared.phase.Phase.TheVariants as phase
use Rattle.worker_machine.specs.Desks.{desk_of}
use Rattle.worker_machine.specs.Loads.{load_of, model_desk}
use Rattle.worker_machine.specs.PointsOf.{point_of}
use Rattle.worker_machine.specs.Keeps.{KeepsRest, Knows, Picks, chosen}
use Rattle.worker_machine.proofs.Tasks.{stages-of-get}

-- ---- the number of task sets

-- a sum begins with its first number
sum-shift : (n : ℕ) (f : ℕ → ℕ) → sum_below (suc n) f ≡ f 0 + sum_below n (λ k. f (suc k))
sum-shift zero f = refl
sum-shift (suc n) f = let r : sum_below (suc n) f ≡ f 0 + sum_below n (λ k. f (suc k)) = sum-shift n f in omega arith

-- the sum over a list, by the numbers of its items
sum-each : {X : Type 0} (f : X → ℕ) (xs : List X) (g : ℕ → ℕ) → ((i : ℕ) (x : X) → slice_get xs i ≡ Some x → g i ≡ f x) → sum_by f xs ≡ sum_below (length xs) g
sum-each f [] g same = refl
sum-each f (x ∷ xs) g same =
    let c : sum_by f (x ∷ xs) ≡ f x + sum_by f xs = sum_by-cons f x xs in
    let r : sum_by f xs ≡ sum_below (length xs) (λ k. g (suc k)) = sum-each f xs (λ k. g (suc k)) (λ i y got. same (suc i) y got) in
    let h : sum_below (suc (length xs)) g ≡ g 0 + sum_below (length xs) (λ k. g (suc k)) = sum-shift (length xs) g in
    let z : g 0 ≡ f x = same 0 x refl in
    omega arith

pub sets-are : (plan : Plan) (d : Shape) → d.queries ≡ length plan.queries.items → plans.sets_of plan ≡ sets_of d (load_of plan)
sets-are plan d is =
    sum-each (λ (c : Arc Checked Global). stages_in (arc_value c)) plan.queries.items (load_of plan).stages (λ q c got. stages-of-get plan q c got)
    ∙ ap (λ n. sum_below n (load_of plan).stages) (sym is)

-- how a turn ends that finds no slot active
module _ (plan : Plan) (d : Shape) (is : d.queries ≡ length plan.queries.items) {done sets : ℕ} (count : sets ≡ plans.sets_of plan) where
  pub ends-idle : done < sets → Idle ≡ ended_as done (sets_of d (load_of plan))
  ends-idle lt = sym (ap (λ b. cond b Idle Over) (lt-ltb done (sets_of d (load_of plan)) (subst (λ k. done < k) (count ∙ sets-are plan d is) lt)))

  pub ends-over : sets ≤ done → Over ≡ ended_as done (sets_of d (load_of plan))
  ends-over ge = sym (ap (λ b. cond b Idle Over) (le-ltb done (sets_of d (load_of plan)) (subst (λ k. k ≤ done) (count ∙ sets-are plan d is) ge)))

none-picked : {o : Option ℕ} {turn t : Turn} → None ≡ o → turn ≡ t → Ready turn ≡ picked o t
none-picked {o} {turn} {t} none is = ap Ready is ∙ ap (λ x. picked x t) none

-- no slot is active: the turn ends
pub none-picks : {core core' : Core} {turn : Turn} → core'.strides ≡ core.strides → None ≡ choice_of (strides_of core.strides) → KeepsRest core core'
    → turn ≡ ended_as core.finished (sets_of (desk_of core).shape (load_of (arc_value core.plan))) → Picks core core' (phase.Ready turn)
none-picks same none rest ends = record { strides = ap strides_of same; point = λ workers. none-picked none ends; rest = rest }

-- ---- the choice

module _ {core core' : Core} {phase' : Phase} (p : Picks core core' phase') where
  -- it is the one that the moves give
  pub pick-point : {desk : Desk Plan} (ms : List Move) (workers : ℕ) → desk_of core ≡ desk → strides_of core.strides ≡ strides_by (model_desk desk) ms
      → core.finished ≡ finished_by (model_desk desk) ms → point_of workers phase' ≡ pick (model_desk desk) ms
  pick-point {desk} ms workers has strides finished =
      p.point workers
      ∙ ap (λ st. picked (choice_of st) (ended_as core.finished (sets_of (desk_of core).shape (load_of (arc_value core.plan))))) strides
      ∙ ap (λ n. picked (choice_of (strides_by (model_desk desk) ms)) (ended_as n (sets_of (desk_of core).shape (load_of (arc_value core.plan))))) finished
      ∙ ap (λ (x : Desk Plan). picked (choice_of (strides_by (model_desk desk) ms))
      (ended_as (finished_by (model_desk desk) ms) (sets_of x.shape (load_of x.subject)))) has

  pub pick-knows : {D : Desk Workload} {told : Told} {phase : Phase} → Knows D told core phase → chosen phase told.strides ≡ told.strides
      → Knows D told core' phase'
  pick-knows k same = record {
    strides = p.strides ∙ ap (chosen phase') (k.strides ∙ same);
    finished = p.rest.finished ∙ k.finished;
    arrived = p.rest.arrived ∙ k.arrived;
    times = p.rest.times ∙ k.times;
    slots = λ s known got. k.slots s known (ap (λ (v : _). slice_get v.items s) (sym p.rest.known) ∙ got);
  }

-- ---- the next arrival

pub due-by : {d desk : Desk Plan} {b : Bool} (n : ℕ) {done told : ℕ} → d ≡ desk → b ≡ is_due (model_desk d) n done → done ≡ told
    → is_due (model_desk desk) n told ≡ b
due-by {d} {desk} n {done} has due same =
    ap (is_due (model_desk desk) n) (sym same) ∙ ap (λ (x : Desk Plan). is_due (model_desk x) n done) (sym has) ∙ sym due
