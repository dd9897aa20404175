-- A round of turns lowers a number that the table and the team give.
use Rattle.std.proofs.Common.{◌≡◌, ℕ, ◌<◌, Bool, true, false, cond, List, slice_get, Option, Some, None, sym, ap, ap₂, ◌∙◌, subst, arith}
use Rattle.std.specs.List.{range_with_len}
use Rattle.std.proofs.lemmas.Option.{slice_get_within}
use Rattle.slot_history.specs.Sets.{count_of}
use Rattle.slot_history.specs.Histories.{IsLegal}
use Rattle.slot_history.specs.Steps.{state_after}
use Rattle.slot_history.proofs.Sets.{count-same}
use Rattle.slot_station.specs.Log.{calls_of}
use Rattle.one_thread.specs.Tables.{TableStory}
use Rattle.turn_model.specs.Points.{Point}
use Rattle.turn_model.specs.Runs.{Run}
use Rattle.turn_model.specs.Orders.{point_in}
use Rattle.turn_model.specs.Measure.{as_one, left_in, is_over}
use Rattle.run_laws.specs.Ends.{IsWork, IsPlayed}
use Rattle.run_laws.proofs.EndsWell.{ended-are-free}
use Rattle.bench_cell.specs.declared.plan.Plan.{Plan}
use Rattle.worker_machine.specs.declared.state.Worker.{Worker}
use Rattle.worker_machine.specs.Loads.{load_of}
use Rattle.worker_machine.specs.PointsOf.{point_of}
use Rattle.pool_run.specs.declared.stint.Stint.TheVariants.{WholeTurn}
use Rattle.pool_run.specs.Plays.{Leads, stints_by}
use Rattle.pool_run.specs.Scenes.{Scene, HasPlayed, TeamFollows, NoneTurns, HasGoing, Between}
use Rattle.run_laws.proofs.CompleteRuns.{driven-played}
use Rattle.pool_run.proofs.Ended.{driven}
use Rattle.pool_run.proofs.Ending.{table-done}
use Rattle.pool_run.proofs.Places.{item-at}
use Rattle.pool_run.proofs.Falling.{IsFree, Falls, in-range, number, range-below, turns-fall}
use Rattle.pool_run.proofs.Points.{ended-in, over-of}

-- whether a worker, if there is one, is not over
abbrev pub goes_on : ℕ → Option Worker → Bool
goes_on workers None = true
goes_on workers (Some x) = cond (is_over (point_of workers x.phase)) false true

-- the number that rounds lower
abbrev pub left_at : TableStory Plan → List Worker → ℕ
left_at table team = as_one (left_in table.shape (load_of table.subject) (state_after table.shape (calls_of table.log))
    (count_of table.shape.workers (λ w. goes_on table.shape.workers (slice_get team w))))

module _ {may_take : ℕ → ℕ → ℕ → Type 0} {at : Scene} {run : Run} (played : HasPlayed may_take at run) (follows : TeamFollows at) where
  goes-same : (w : ℕ) → w < at.table.shape.workers
      → cond (is_over (point_in at.table.shape (load_of at.table.subject) run w)) false true ≡ goes_on at.table.shape.workers (slice_get at.team w)
  goes-same w below =
      let x = item-at at.team at.table.shape.workers w follows.count below in
      ap (λ (p : Point). cond (is_over p) false true) (sym (played.made w x.0 x.1).point) ∙ sym (ap (goes_on at.table.shape.workers) x.1)

  number-at : number at.table.shape (load_of at.table.subject) run ≡ left_at at.table at.team
  number-at = ap₂ (λ h k. as_one (left_in at.table.shape (load_of at.table.subject) (state_after at.table.shape h) k)) played.history
      (count-same at.table.shape.workers _ _ goes-same)

  is-played : IsLegal at.table.shape (calls_of at.table.log) → IsPlayed at.table.shape (load_of at.table.subject) run
  is-played legal = driven-played may_take at.table.shape (load_of at.table.subject) run (driven (table-done played follows legal))

  is-free : NoneTurns at.team → IsLegal at.table.shape (calls_of at.table.log) → IsFree at.table.shape (load_of at.table.subject) run
  is-free none legal = record {
    played = is-played legal;
    quiet = ended-are-free at.table.shape (load_of at.table.subject) run (is-played legal) (λ w below.
        let x = item-at at.team at.table.shape.workers w follows.count below in
        ended-in at.table (played.made w x.0 x.1) ∙ none w x.0 x.1);
  }

pub round-lowers : {may_take : ℕ → ℕ → ℕ → Type 0} {b c : Scene} → Between may_take b → TeamFollows c → IsLegal c.table.shape (calls_of c.table.log)
    → IsWork b.table.shape (load_of b.table.subject) → HasGoing b.team
    → Leads may_take (stints_by WholeTurn (range_with_len 0 b.table.shape.workers)) b c → left_at c.table c.team < left_at b.table b.team
round-lowers {may_take} {b} {c} at follows legal work going q =
    let d = b.table.shape in
    let load = load_of b.table.subject in
    let y = q.leads at.run at.played in
    let legal-end : IsLegal d y.next.history =
    subst (IsLegal d) (sym y.played.history) (subst (λ k. IsLegal k (calls_of c.table.log)) q.shape legal) in
    let falls : Falls d load (range_with_len 0 d.workers) at.run y.next =
    turns-fall d load work (range_with_len 0 d.workers) at.run y.next y.plays (λ w i. let h = range-below d.workers 0 w i in omega arith)
    (is-free at.played at.follows at.none at.legal) legal-end in
    let low : going.worker < d.workers = subst (λ n. going.worker < n) at.follows.count (slice_get_within b.team going.worker going.item going.here) in
    let less : number d load y.next < number d load at.run =
    falls.less going.worker (in-range d.workers 0 going.worker (omega arith) (omega arith))
    (λ over. going.not_over (over-of b.table (at.played.made going.worker going.item going.here) over)) in
    let was : number d load at.run ≡ left_at b.table b.team = number-at at.played at.follows in
    let now : number d load y.next ≡ left_at c.table c.team =
    ap₂ (λ k s. number k (load_of s) y.next) (sym q.shape) (sym q.subject) ∙ number-at y.played follows in
    subst (λ n. left_at c.table c.team < n) was (subst (λ n. n < number d load at.run) now less)
