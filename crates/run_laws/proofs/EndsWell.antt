-- Turns that workers make while all workers are free end well, and lower the numbers as one.
use Rattle.std.proofs.Common.{◌≡◌, ◌≢◌, ⊎_elim, ℕ, ◌+◌, ◌-◌, ◌*◌, ◌^◌, ◌<◌, ◌≤◌, Bool, true, false, cond}
use Rattle.std.proofs.Common.{List, [], ◌∷◌, ◌++◌, refl, sym, ap, ◌∙◌, subst, arith}
use Rattle.std.proofs.lemmas.Bool.{true≢false, false_from_ne_true, ne_eqb, eq-eqb}
use mathlib.Core.Logic.{dite}
use native.Mathlib.Decide.{ℕ_discrete}
use Rattle.slot_history.specs.declared.shape.Shape.{Shape}
use Rattle.slot_history.specs.declared.shape.TheConstants.{STAGES, MOST_SLOTS, MOST_WORKERS, MOST_QUERIES, MOST_TOTAL}
use Rattle.slot_history.specs.declared.act.Entry.{Entry}
use Rattle.slot_history.specs.declared.place.Place.{Place}
use Rattle.slot_history.specs.declared.place.Place.TheVariants.{Free}
use Rattle.slot_history.specs.Sets.{sum_below, count_of}
use Rattle.slot_history.specs.States.{SlotState, Empty, Reserved, Open, Shut, Finishing, ObjectState, task_of}
use Rattle.slot_history.specs.Steps.{state_after}
use Rattle.slot_history.specs.Histories.{entry, own_calls}
use Rattle.slot_history.specs.Bounds.{IsSlotSound}
use Rattle.slot_history.proofs.Sets.{pick, count-most, count-grows_one}
use Rattle.slot_history.proofs.Own.{own-mine, own-other}
use Rattle.slot_history.proofs.Holdings.{slots-sound}
use Rattle.slot_station.specs.Desks.{Desk}
use Rattle.turn_model.specs.declared.turn.Turn.TheVariants.{Over}
use Rattle.turn_model.specs.Workloads.{Workload, sets_of}
use Rattle.turn_model.specs.Moves.{Move, Made, Exchanged, entries}
use Rattle.turn_model.specs.Learned.{place_by}
use Rattle.turn_model.specs.Points.{Point, Ready, has_ended, point_by}
use Rattle.turn_model.specs.Driven.{AreDriven}
use Rattle.turn_model.specs.Runs.{Run, and_then, desk_at}
use Rattle.turn_model.specs.Orders.{point_in, IsOver}
use Rattle.turn_model.specs.Measure.{unnoted, unclaimed, count_all, notices, is_over, not_over, left_in, as_one}
use Rattle.turn_model.proofs.Measure.{falls-as-one}
use Rattle.turn_model.proofs.OwnMoves.{moves-tell}
use Rattle.run_laws.specs.Ends.{IsWork, IsPlayed, IsKept, Playing, PlaysAlone, ActsOrEnds, EndedAreFree, TurnsEndWell, LeftIsLow, TurnsFallAsOne}
use Rattle.run_laws.proofs.OrdersDrive.{ends-driven}
use Rattle.run_laws.proofs.Made.{played-made}
use Rattle.run_laws.proofs.Least.{sum-bounded}
use Rattle.run_laws.proofs.PointsStand.{Stands, points-stand}
use Rattle.run_laws.proofs.Turns.{turn-inv, turn-quiet}

-- ---- workers whose turns have ended

ended-free : (load : Workload) (x : Point) (p : Place) → has_ended x ≡ true → Stands load x p → p ≡ Free
ended-free load (Ready turn) p h stands = stands
ended-free load x p h stands = absurd (true≢false (sym h))

pub ended-are-free : EndedAreFree
ended-are-free d load run played ended w low =
    let D : Desk Workload = desk_at d load w in
    let ms : List Move = run.team w in
    (moves-tell D run.history ms (played.mine w low)).place
    ∙ ended-free load (point_by D ms) (place_by D ms) (ended w low) (points-stand D ms (played.driven w low))

-- ---- the run after a turn

-- calls of one worker are not another's
not-own : (v w : ℕ) (more : List Move) (h : List Entry) → v ≢ w → own_calls v (entries w more ++ h) ≡ own_calls v h
not-own v w [] h other = refl
not-own v w (Made a t ∷ more) h other = own-other (entry w a) (entries w more ++ h) v other ∙ not-own v w more h other
not-own v w (Exchanged ∷ more) h other = not-own v w more h other

module _ (d : Shape) (load : Workload) (run : Run) (p : Playing) (alone : PlaysAlone d load run p) where
  abbrev w : ℕ
  w = p.worker

  abbrev D : Desk Workload
  D = desk_at d load w

  all-driven : AreDriven D (p.moves ++ run.team w)
  all-driven = ends-driven D p.moves (run.team w) p.turn alone.turns.turns (alone.before.driven w alone.worker)

  played-next : IsPlayed d load (and_then run w p.moves)
  played-next = record {
    legal = alone.legal;
    driven = λ v low. pick v w (p.moves ++ run.team v) (run.team v) (AreDriven (desk_at d load v))
        (λ same. subst (λ u. AreDriven (desk_at d load u) (p.moves ++ run.team u)) (sym same) all-driven)
        (λ other. alone.before.driven v low);
    mine = λ v low. pick v w (p.moves ++ run.team v) (run.team v) (λ ms. own_calls v (entries w p.moves ++ run.history) ≡ entries v ms)
        (λ same. subst (λ u. own_calls u (entries w p.moves ++ run.history) ≡ entries u (p.moves ++ run.team u)) (sym same) mine-next)
        (λ other. not-own v w p.moves run.history other ∙ alone.before.mine v low);
  } where
    mine-next : own_calls w (entries w p.moves ++ run.history) ≡ entries w (p.moves ++ run.team w)
    mine-next = all-mine-of p.moves where
      all-mine-of : (more : List Move) → own_calls w (entries w more ++ run.history) ≡ entries w (more ++ run.team w)
      all-mine-of [] = alone.before.mine w alone.worker
      all-mine-of (Made a t ∷ more) = own-mine (entry w a) (entries w more ++ run.history) w refl ∙ ap (λ l. entry w a ∷ l) (all-mine-of more)
      all-mine-of (Exchanged ∷ more) = all-mine-of more

  module _ (work : IsWork d load) where
    ends : ActsOrEnds d load (record {
      before = state_after d run.history;
      after = state_after d (and_then run w p.moves).history;
      turn = p.turn;
    })
    ends = turn-inv d load work w alone.worker run.history (run.team w) alone.quiet (alone.before.driven w alone.worker) (alone.before.mine w alone.worker)
        p.moves p.turn alone.turns alone.legal (played-made d load (and_then run w p.moves) played-next)

pub turns-end-well : TurnsEndWell
turns-end-well d load run p work alone = (
  played-next d load run p alone,
  record {
    ends = ends d load run p alone work;
    quiet = turn-quiet d load work p.worker alone.worker run.history (run.team p.worker) alone.quiet (alone.before.driven p.worker alone.worker)
        (alone.before.mine p.worker alone.worker) p.moves p.turn alone.turns (all-driven d load run p alone) alone.legal;
  },
)

-- ---- the numbers are low

total-low : (x : SlotState) → IsSlotSound x → (task_of x).total ≤ MOST_TOTAL
total-low Empty ok = omega arith
total-low (Reserved w h) ok = omega arith
total-low (Open t) ok = ok
total-low (Shut t end) ok = ok
total-low (Finishing id w h) ok = omega arith

all-low : (d : Shape) (f : ℕ → ℕ → Bool) → d.slots ≤ MOST_SLOTS → d.workers ≤ MOST_WORKERS → count_all d f ≤ MOST_WORKERS * MOST_SLOTS
all-low d f slots workers =
    let sum : sum_below d.workers (λ w. count_of d.slots (f w)) ≤ d.workers * MOST_SLOTS = sum-bounded d.workers (λ w. count_of d.slots (f w)) MOST_SLOTS
    (λ w low. let c : count_of d.slots (f w) ≤ d.slots = count-most d.slots (f w) in omega (arith, c, slots)) in
    omega (arith, sum, workers)

pub left-is-low : LeftIsLow
left-is-low d load h workers work legal most =
    let S : ObjectState = state_after d h in
    let slots : d.slots ≤ MOST_SLOTS = work.shape.slots.1 in
    let team : d.workers ≤ MOST_WORKERS = work.shape.workers.1 in
    let queries : d.queries ≤ MOST_QUERIES = work.shape.queries in
    let sound = slots-sound d h legal in
    record {
      sets = let sum : sum_below d.queries load.stages ≤ d.queries * STAGES = sum-bounded d.queries load.stages STAGES work.few in omega (arith, sum, queries);
      tuples =
          let sum : unclaimed d S ≤ d.slots * MOST_TOTAL = sum-bounded d.slots (λ s. (task_of (S.slots s)).total - (task_of (S.slots s)).cursor) MOST_TOTAL
          (λ s low. let t : (task_of (S.slots s)).total ≤ MOST_TOTAL = total-low (S.slots s) (sound s) in omega (arith, t)) in omega (arith, sum, slots);
      notices =
          let a : count_all d S.changes ≤ MOST_WORKERS * MOST_SLOTS = all-low d S.changes slots team in
          let b : count_all d S.returns ≤ MOST_WORKERS * MOST_SLOTS = all-low d S.returns slots team in
          let c : count_all d (λ w s. (S.records w s).active) ≤ MOST_WORKERS * MOST_SLOTS = all-low d (λ w s. (S.records w s).active) slots team in
          omega (arith, a, b, c);
      workers = omega (arith, most, team);
    }

-- ---- as one number

over-is : (x : Point) → is_over x ≡ true → x ≡ Ready Over
over-is (Ready Over) h = refl
over-is x h = absurd (true≢false (sym h))

-- whether a worker is not over
abbrev is_left : Shape → Workload → Run → ℕ → Bool
is_left d load run w = cond (is_over (point_in d load run w)) false true

-- one worker less is not over
fewer-left : (d : Shape) (load : Workload) (run : Run) (w : ℕ) (more : List Move) → w < d.workers → (IsOver d load run w → ⊥)
    → point_by (desk_at d load w) (more ++ run.team w) ≡ Ready Over → not_over d load (and_then run w more) < not_over d load run
fewer-left d load run w more low going ends =
    let next : Run = and_then run w more in
    let before : is_left d load run w ≡ true =
    ap (λ b. cond b false true) (false_from_ne_true (is_over (point_in d load run w)) (λ h. going (over-is (point_in d load run w) h))) in
    let here : point_in d load next w ≡ Ready Over =
    ap (λ b. point_by (desk_at d load w) (cond b (more ++ run.team w) (run.team w))) (eq-eqb w w refl) ∙ ends in
    let after : is_left d load next w ≡ false = ap (λ x. cond (is_over x) false true) here in
    let r : not_over d load next + 1 ≤ not_over d load run = count-grows_one d.workers (is_left d load next) (is_left d load run) w low after before
    (λ v v_low h. dite (ℕ_discrete v w)
    (λ same. ap (is_left d load run) same ∙ before)
    (λ other. sym (ap (λ b. cond (is_over (point_by (desk_at d load v) (cond b (more ++ run.team v) (run.team v)))) false true) (ne_eqb v w other)) ∙ h)) in
    omega (arith, r)

-- numbers that are kept with one worker less
kept-less : (d : Shape) (load : Workload) (S T : ObjectState) (before after : ℕ) → IsKept d S T → after < before
    → as_one (left_in d load T after) < as_one (left_in d load S before)
kept-less d load S T before after kept fewer =
    let q : d.queries - T.admitted ≡ d.queries - S.admitted = ap (λ n. d.queries - n) kept.admitted in
    let s : unnoted d load T ≡ unnoted d load S = ap (λ n. sets_of d load - n) kept.finished in
    let t : unclaimed d T ≡ unclaimed d S = kept.tuples in
    let n : notices d T ≤ notices d S = kept.notices_fall in
    less-last (d.queries - S.admitted) (unnoted d load S) (unclaimed d S) (d.queries - T.admitted) (unnoted d load T) (unclaimed d T)
    (notices d S) (notices d T) before after q s t n fewer where
      less-last : (q s t i j k m n x y : ℕ) → i ≡ q → j ≡ s → k ≡ t → n ≤ m → y < x
          → (((i * 2 ^ 16 + j) * 2 ^ 40 + k) * 2 ^ 17 + n) * 2 ^ 7 + y < (((q * 2 ^ 16 + s) * 2 ^ 40 + t) * 2 ^ 17 + m) * 2 ^ 7 + x
      less-last q s t i j k m n x y a b c e f = omega (arith, a, b, c, e, f)

pub turns-fall-as-one : TurnsFallAsOne
turns-fall-as-one d load run p work alone going =
    let next : Run = and_then run p.worker p.moves in
    let S : ObjectState = state_after d run.history in
    let T : ObjectState = state_after d next.history in
    ⊎_elim
    (λ acts. falls-as-one d load S T (not_over d load run) (not_over d load next) acts.1
    (left-is-low d load next.history (not_over d load next) work alone.legal (count-most d.workers (is_left d load next))))
    (λ over. kept-less d load S T (not_over d load run) (not_over d load next) over.1
    (fewer-left d load run p.worker p.moves alone.worker going (alone.turns.turns.ends ∙ ap Ready over.0)))
    (ends d load run p alone work)
