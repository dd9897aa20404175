-- Workers at their seats, and back from them.
use Rattle.std.proofs.Common.{◌≡◌, ℕ, ◌+◌, true, List, [], ◌∷◌, ◌++◌, length, slice_get, sym, ap, ◌∙◌, subst, arith}
use Rattle.std.proofs.lemmas.List.{length-append}
use Rattle.board_rule.specs.declared.board.Board.{Board}
use Rattle.board_rule.specs.declared.board.Pass.{Pass}
use Rattle.bench_cell.specs.declared.bench.Bench.{Bench}
use Rattle.bench_cell.specs.declared.plan.Plan.{Plan}
use Rattle.worker_machine.specs.declared.state.Worker.{Worker}
use Rattle.worker_machine.specs.Left.{is_ready}
use Rattle.pool_run.specs.declared.threads.seated.Seated.{Seated}
use Rattle.pool_run.specs.Seated.{AreSeated, AreSeatedDown, IsFresh, IsUnderWay, SitsAt, SitsDownAt}
use Rattle.pool_run.proofs.Places.{both-more, each-less, each-more, the-last}

-- a worker that has made no move is under way
pub under-way : (may_take : ℕ → ℕ → ℕ → Type 0) {here board : Board Bench Plan} {worker : Worker} {its pass : Pass Bench Plan} → here ≡ board → its ≡ pass
    → IsFresh board worker pass → IsUnderWay may_take here worker its × (is_ready worker.phase ≡ true)
under-way may_take {here} {board} {worker} {its} {pass} same is fresh =
    subst (λ b. IsUnderWay may_take b worker its × (is_ready worker.phase ≡ true)) (sym same)
    (subst (λ p. IsUnderWay may_take board worker p × (is_ready worker.phase ≡ true)) (sym is)
    (record { follows = fresh.follows; moves = []; made = fresh.made; timed = tt }, fresh.ready))

module _ (P : Worker → Pass Bench Plan → Type 0) where
  -- one worker more
  pub seated-more : {team : List Worker} {passes : List (Pass Bench Plan)} (worker : Worker) (pass : Pass Bench Plan) → AreSeated P team passes
      → pass.worker ≡ length team → P worker pass → AreSeated P (team ++ worker ∷ []) (passes ++ pass ∷ [])
  seated-more {team} {passes} worker pass was number meets = record {
    count = length-append passes (pass ∷ []) ∙ ap (λ n. n + 1) was.count ∙ sym (length-append team (worker ∷ []));
    each = both-more (SitsAt P) team passes worker pass was.count was.each (record { number = number; meets = meets });
  }

  -- all but the last one
  pub seated-less : {team : List Worker} {passes : List (Pass Bench Plan)} (worker : Worker) (pass : Pass Bench Plan)
      → AreSeated P (team ++ worker ∷ []) (passes ++ pass ∷ []) → AreSeated P team passes
  seated-less {team} {passes} worker pass was = record {
    count = shorter;
    each = λ w u v here there. was.each w u v (each-less team worker w u here) (each-less passes pass w v there);
  } where
    shorter : length passes ≡ length team
    shorter =
        let count = was.count in
        let one : length (passes ++ pass ∷ []) ≡ length passes + 1 = length-append passes (pass ∷ []) in
        let other : length (team ++ worker ∷ []) ≡ length team + 1 = length-append team (worker ∷ []) in
        omega arith

  pub the-last-sits : (team : List Worker) (passes : List (Pass Bench Plan)) (worker : Worker) (pass : Pass Bench Plan)
      → AreSeated P (team ++ worker ∷ []) (passes ++ pass ∷ []) → SitsAt P (length team) worker pass
  the-last-sits team passes worker pass was = was.each (length team) worker pass (the-last team worker)
      (ap (slice_get (passes ++ pass ∷ [])) (sym (seated-less {team = team} {passes = passes} worker pass was).count) ∙ the-last passes pass)

  module _ {M : Type 0} (workers : ℕ) where
    pub down-more : (all : List (Seated M)) (sits : Seated M) → AreSeatedDown P workers all → sits.pass.worker + length all + 1 ≡ workers
        → P sits.worker sits.pass → AreSeatedDown P workers (all ++ sits ∷ [])
    down-more all sits was number meets = each-more (SitsDownAt P workers) all sits was (number, meets)

    pub down-less : (all : List (Seated M)) (sits : Seated M) → AreSeatedDown P workers (all ++ sits ∷ []) → AreSeatedDown P workers all
    down-less all sits was k other here = was k other (each-less all sits k other here)

    pub the-last-down : (all : List (Seated M)) (sits : Seated M) → AreSeatedDown P workers (all ++ sits ∷ []) → SitsDownAt P workers (length all) sits
    the-last-down all sits was = was (length all) sits (the-last all sits)

-- the last worker goes to its seat, and the last one comes back from it
module _ (P : Worker → Pass Bench Plan → Type 0) {M : Type 0} (workers : ℕ) (sits : Seated M) (team : List Worker) (passes : List (Pass Bench Plan))
    (all : List (Seated M)) where
  pub sit-one : (team' : List Worker) (passes' : List (Pass Bench Plan)) (all' : List (Seated M)) → team' ≡ team ++ sits.worker ∷ []
      → passes' ≡ passes ++ sits.pass ∷ [] → all' ≡ all ++ sits ∷ [] → length team' + length all ≡ workers → AreSeated P team' passes'
      → AreSeatedDown P workers all → AreSeated P team passes × AreSeatedDown P workers all'
  sit-one team' passes' all' of_team of_passes of_all count seated down =
      let was : AreSeated P (team ++ sits.worker ∷ []) (passes ++ sits.pass ∷ []) =
      subst (λ l. AreSeated P (team ++ sits.worker ∷ []) l) of_passes (subst (λ l. AreSeated P l passes') of_team seated) in
      let it : SitsAt P (length team) sits.worker sits.pass = the-last-sits P team passes sits.worker sits.pass was in
      let number : sits.pass.worker ≡ length team = it.number in
      let long : length team' ≡ length team + 1 = ap length of_team ∙ length-append team (sits.worker ∷ []) in
      let at : sits.pass.worker + length all + 1 ≡ workers = omega (arith, number, long, count) in (
        seated-less P sits.worker sits.pass was,
        subst (AreSeatedDown P workers) (sym of_all) (down-more P workers all sits down at it.meets),
      )

  pub rise-one : (team' : List Worker) (passes' : List (Pass Bench Plan)) (all' : List (Seated M)) → all' ≡ all ++ sits ∷ []
      → team' ≡ team ++ sits.worker ∷ [] → passes' ≡ passes ++ sits.pass ∷ [] → length all' + length team ≡ workers → AreSeated P team passes
      → AreSeatedDown P workers all' → AreSeated P team' passes' × AreSeatedDown P workers all
  rise-one team' passes' all' of_all of_team of_passes count seated down =
      let was : AreSeatedDown P workers (all ++ sits ∷ []) = subst (AreSeatedDown P workers) of_all down in
      let it : SitsDownAt P workers (length all) sits = the-last-down P workers all sits was in
      let number : sits.pass.worker + length all + 1 ≡ workers = it.0 in
      let long : length all' ≡ length all + 1 = ap length of_all ∙ length-append all (sits ∷ []) in
      let at : sits.pass.worker ≡ length team = omega (arith, number, long, count) in (
        subst (λ l. AreSeated P l passes') (sym of_team) (subst (AreSeated P (team ++ sits.worker ∷ [])) (sym of_passes)
            (seated-more P sits.worker sits.pass seated at it.1)),
        down-less P workers all sits was,
      )
