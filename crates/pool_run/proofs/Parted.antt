-- The run that the workers of a board made, once all are over and the board has ended.
use Rattle.std.proofs.Common.{◌≡◌, ◌⊎◌, ℕ, ◌<◌, ◌≤◌, List, [], Some, length, slice_get, refl, sym, ap, ◌∙◌, subst, arith, inl, inr}
use Rattle.std.proofs.lemmas.Option.{slice_get_cases, slice_get_within}
use Rattle.slot_history.specs.declared.place.Place.TheVariants.{Free}
use Rattle.slot_history.specs.declared.shape.Shape.{Shape}
use Rattle.slot_history.specs.Histories.{IsLegal, IsOfTotals, own_calls}
use Rattle.slot_station.specs.Desks.{Desk, own_place}
use Rattle.board_rule.specs.Lives.{AreAll, AreFree, Ended, IsFreePass, IsJoined}
use Rattle.board_rule.specs.Passes.{board_shape, board_subject, seen_of}
use Rattle.board_rule.specs.declared.board.Board.{Board}
use Rattle.board_rule.specs.declared.board.Pass.{Pass}
use Rattle.report_text.specs.declared.report.Report.{Report}
use Rattle.turn_model.specs.Moves.{Move}
use Rattle.turn_model.specs.Runs.{AreTimed, Run}
use Rattle.bench_cell.specs.Plans.{total_of}
use Rattle.bench_cell.specs.declared.bench.Bench.{Bench}
use Rattle.bench_cell.specs.declared.plan.Plan.{Plan}
use Rattle.worker_machine.specs.Hands.{InHand}
use Rattle.worker_machine.specs.Keeps.{HasMade}
use Rattle.worker_machine.specs.Left.{is_ready}
use Rattle.worker_machine.specs.Loads.{model_desk}
use Rattle.worker_machine.specs.declared.state.Worker.{Worker}
use Rattle.pool_run.specs.Collected.{IsToldBy}
use Rattle.pool_run.specs.Runs.{MayRun, RanBy, asked_of, threads}
use Rattle.pool_run.specs.Scenes.{AreOver, NoneTurns}
use Rattle.pool_run.specs.Seated.{AreSeated, IsOver, SitsAt}
use Rattle.pool_run.proofs.Ended.{HasDone, HaveDone, desk_in, ran-by}
use Rattle.pool_run.proofs.Places.{item-at}
use Rattle.pool_run.proofs.Teams.{some-same}
use Rattle.pool_run.proofs.Works.{plan-works}

-- ---- the run of workers, each of which made some moves

module _ (D : ℕ → Worker → List Move → Type 0) (team : List Worker)
    (each : (w : ℕ) (worker : Worker) → slice_get team w ≡ Some worker → (ms : List Move) × D w worker ms) where
  abbrev Found : ℕ → Type 0
  Found w = ((x : Worker) × (slice_get team w ≡ Some x)) ⊎ (length team ≤ w)

  found : (w : ℕ) → Found w
  found w = elim (slice_get_cases team w).1 [ inl p ↦ inl (p.0, p.2) | inr p ↦ inr p.0 ]

  moves_at : (w : ℕ) → Found w → List Move
  moves_at w (inl p) = (each w p.0 p.1).0
  moves_at w (inr p) = []

  at-found : (w : ℕ) (f : Found w) (x : Worker) → slice_get team w ≡ Some x → D w x (moves_at w f)
  unfolding moves_at
  at-found w (inl p) x here = subst (λ y. D w y (each w p.0 p.1).0) (some-same p.0 x (sym p.1 ∙ here)) (each w p.0 p.1).1
  at-found w (inr p) x here = let low : w < length team = slice_get_within team w x here in absurd (omega arith)

  past-none : (w : ℕ) (f : Found w) → length team ≤ w → moves_at w f ≡ []
  unfolding moves_at
  past-none w (inl p) past = let low : w < length team = slice_get_within team w p.0 p.1 in absurd (omega arith)
  past-none w (inr p) past = refl

  pub all_moves : ℕ → List Move
  all_moves w = moves_at w (found w)

  pub moves-are : (w : ℕ) (x : Worker) → slice_get team w ≡ Some x → D w x (all_moves w)
  unfolding all_moves
  moves-are w x here = at-found w (found w) x here

  pub no-moves : (w : ℕ) → length team ≤ w → all_moves w ≡ []
  unfolding all_moves
  no-moves w past = past-none w (found w) past

-- ---- the passes of workers that are over

module _ {may_take : ℕ → ℕ → ℕ → Type 0} {board : Board Bench Plan} {team : List Worker} {passes : List (Pass Bench Plan)}
    (seated : AreSeated (IsOver may_take board) team passes) where
  -- the pass of a worker
  pub record HasPass (w : ℕ) (worker : Worker) : Type 0 where
    pub pass : Pass Bench Plan
    pub here : slice_get passes w ≡ Some pass
    pub sits : SitsAt (IsOver may_take board) w worker pass

  pass-of : (w : ℕ) (worker : Worker) → slice_get team w ≡ Some worker → HasPass w worker
  pass-of w worker here =
      let p = item-at passes (length team) w seated.count (slice_get_within team w worker here) in
      record { pass = p.0; here = p.1; sits = seated.each w worker p.0 here p.1 }

  pub are-over : AreOver team
  are-over w worker here = (pass-of w worker here).sits.meets.over

  pub none-turn : NoneTurns team
  none-turn w worker here = ap is_ready (are-over w worker here)

  pub are-all : length team ≡ (board_shape board).workers → AreAll board passes
  are-all count w low =
      let x = item-at team (board_shape board).workers w count low in
      let p = pass-of w x.0 x.1 in
      (w, p.pass, p.here, p.sits.number)

  free-at : (w : ℕ) (worker : Worker) (pass : Pass Bench Plan) → SitsAt (IsOver may_take board) w worker pass → IsFreePass board pass
  free-at w worker pass s =
      let hand : own_place (seen_of board pass) ≡ Free = subst (InHand (seen_of board pass) worker.core.benches.items) s.meets.over s.meets.stands.follows.hand in
      record { of_board = s.meets.of_board; place = sym s.meets.of_board.6 ∙ hand }

  pub are-free : AreFree board passes
  are-free k pass here =
      let x = item-at team (length team) k refl (subst (λ n. k < n) seated.count (slice_get_within passes k pass here)) in
      free-at k x.0 pass (seated.each k x.0 pass x.1 here)

  module _ {d : Shape} {plan : Plan} (shape : board_shape board ≡ d) (subject : board_subject board ≡ plan) {end : Ended}
      (joined : IsJoined board total_of passes end) where
    desk-is : (w : ℕ) (pass : Pass Bench Plan) → pass.worker ≡ w → (seen_of board pass).desk ≡ desk_in d plan w
    desk-is w pass number =
        ap (λ (v : ℕ). desk_in (board_shape board) (board_subject board) v) number
        ∙ ap (λ (s : Shape). desk_in s (board_subject board) w) shape
        ∙ ap (λ (p : Plan). desk_in d p w) subject

    done-of : (w : ℕ) (worker : Worker) → slice_get team w ≡ Some worker → (ms : List Move) × HasDone may_take d plan end.history w worker ms
    done-of w worker here =
        let p = pass-of w worker here in
        let number = p.sits.number in
        let stands = p.sits.meets.stands in
        let same = desk-is w p.pass number in
        let trail = p.pass.seat.me.0.trail in (
          stands.moves,
          record {
            trail = trail;
            desk = stands.follows.desk ∙ same;
            made = subst (λ (D : Desk Plan). HasMade (record { core = worker.core; phase = worker.phase; desk = D; trail = trail }) stands.moves) same stands.made;
            timed = subst (λ (D : Desk Plan). AreTimed may_take (model_desk D) stands.moves) same stands.timed;
            begins = joined.begins w p.pass p.here;
            own = subst (λ v. own_calls v end.history ≡ own_calls v trail) number (joined.own w p.pass p.here);
          },
        )

    abbrev Done : ℕ → Worker → List Move → Type 0
    Done = HasDone may_take d plan end.history

    pub run-of : Run
    run-of = record { team = all_moves Done team done-of; history = end.history }

    pub have-done : length team ≡ d.workers → HaveDone may_take d plan run-of team
    unfolding run-of
    have-done count = record {
      legal = subst (λ (s : Shape). IsLegal s end.history) shape joined.words_are.legal;
      of_load = subst (λ (p : Plan). IsOfTotals (total_of p) d end.history) subject
          (subst (λ (s : Shape). IsOfTotals (total_of (board_subject board)) s end.history) shape joined.of_subject);
      count = count;
      no_more = λ w past. no-moves Done team done-of w (subst (λ n. n ≤ w) (sym count) past);
      each = moves-are Done team done-of;
    }

pub ran-by-threads : {may_take : ℕ → ℕ → ℕ → Type 0} {board : Board Bench Plan} {team : List Worker} {passes : List (Pass Bench Plan)}
    (seated : AreSeated (IsOver may_take board) team passes) (plan : Plan) (workers slots : ℕ)
    (shape : board_shape board ≡ (asked_of plan workers slots threads).shape) (subject : board_subject board ≡ plan) {end : Ended}
    (joined : IsJoined board total_of passes end) → length team ≡ workers → MayRun (asked_of plan workers slots threads)
    → {report : Report} {elapsed : List (List ℕ)} → IsToldBy team report elapsed
    → RanBy may_take (asked_of plan workers slots threads) report end.history elapsed
unfolding run-of
ran-by-threads seated plan workers slots shape subject {end} joined count may told =
    ran-by (have-done seated shape subject joined count) (are-over seated) told refl (plan-works plan workers slots threads may) threads may.order tt end.history refl
