-- The moves of one worker more.
use Rattle.std.proofs.Common.{◌≡◌, ◌≢◌, ℕ, ◌<◌, ◌≤◌, cond, List, [], ◌∷◌, ◌++◌, All, length, slice_get, slice_set, Some}
use Rattle.std.proofs.Common.{refl, sym, ap, ◌∙◌, subst, arith, eq-eqb, ne_eqb}
use native.Mathlib.Decide.{ℕ_discrete}
use Rattle.std.proofs.Math.Logic.{∥∥₁_elim}
use Rattle.std.proofs.Props.{props}
use Rattle.std.proofs.lemmas.List.{append_cancel_right}
use Rattle.std.proofs.lemmas.List.Elements.{All-head, All-tail}
use Rattle.slot_history.specs.Histories.{entry, own_calls}
use Rattle.slot_history.proofs.Own.{own-mine}
use Rattle.slot_station.specs.declared.log.Logged.{Logged}
use Rattle.slot_station.specs.declared.log.Logged.TheVariants.{Call, Exchanged}
use Rattle.slot_station.specs.Desks.{Desk}
use Rattle.slot_station.specs.Log.{calls_of, who}
use Rattle.one_thread.specs.Tables.{TableStory}
use Rattle.one_thread.specs.Seats.{IsSince}
use Rattle.one_thread.proofs.Trails.{own-trail}
use Rattle.turn_model.specs.Moves as move
use Rattle.turn_model.specs.Moves.{Move, entries}
use Rattle.turn_model.specs.Runs.{Run, AreTimed, and_then, desk_at}
use Rattle.bench_cell.specs.declared.plan.Plan.{Plan}
use Rattle.worker_machine.specs.declared.state.Worker.{Worker}
use Rattle.worker_machine.specs.Keeps.{HasMade}
use Rattle.worker_machine.specs.Loads.{load_of, model_desk}
use Rattle.worker_machine.specs.Turning.{Adds, standing_of}
use Rattle.pool_run.specs.Scenes.{scene, Since, stands_in, HasPlayed}
use Rattle.pool_run.proofs.SeatViews.{shown-since, desk-since}
use Rattle.pool_run.proofs.Teams.{each-set}

-- ---- the entries of the moves

pub entries-append : (w : ℕ) (more ms : List Move) → entries w (more ++ ms) ≡ entries w more ++ entries w ms
entries-append w [] ms = refl
entries-append w (move.Made a t ∷ more) ms = ap (λ l. entry w a ∷ l) (entries-append w more ms)
entries-append w (move.Exchanged ∷ more) ms = entries-append w more ms

calls-append : (more log : List Logged) → calls_of (more ++ log) ≡ calls_of more ++ calls_of log
calls-append [] log = refl
calls-append (Call e ∷ more) log = ap (λ l. e ∷ l) (calls-append more log)
calls-append (Exchanged x ∷ more) log = calls-append more log

own-append : (w : ℕ) (more log : List Logged) → All (λ step. who step ≡ w) more
    → own_calls w (calls_of (more ++ log)) ≡ calls_of more ++ own_calls w (calls_of log)
own-append w [] log own = refl
own-append w (Call e ∷ more) log own =
    own-mine e (calls_of (more ++ log)) w (sym (All-head (λ step. who step ≡ w) (Call e) more own))
    ∙ ap (λ l. e ∷ l) (own-append w more log (All-tail (λ step. who step ≡ w) (Call e) more own))
own-append w (Exchanged x ∷ more) log own = own-append w more log (All-tail (λ step. who step ≡ w) (Exchanged x) more own)

-- if a worker made the moves `ms` before and `more` since, the history grew by the entries of `more`
grew : (old new : TableStory Plan) (w : ℕ) (more ms : List Move) → IsSince old new w
    → own_calls w (calls_of old.log) ≡ entries w ms → own_calls w (calls_of new.log) ≡ entries w (more ++ ms)
    → calls_of new.log ≡ entries w more ++ calls_of old.log
grew old new w more ms since was now =
    let l = since.more in
    let by_log : own_calls w (calls_of new.log) ≡ calls_of l ++ entries w ms =
    ap (λ k. own_calls w (calls_of k)) since.log ∙ own-append w l old.log since.own ∙ ap (λ k. calls_of l ++ k) was in
    let same : calls_of l ≡ entries w more =
    append_cancel_right (calls_of l) (entries w more) (entries w ms) (sym by_log ∙ now ∙ entries-append w more ms) in
    ap calls_of since.log ∙ calls-append l old.log ∙ ap (λ k. k ++ calls_of old.log) same

history-grew : (old new : TableStory Plan) (w : ℕ) (more ms : List Move) → ∥ IsSince old new w ∥₁
    → own_calls w (calls_of old.log) ≡ entries w ms → own_calls w (calls_of new.log) ≡ entries w (more ++ ms)
    → calls_of new.log ≡ entries w more ++ calls_of old.log
history-grew old new w more ms since was now = ∥∥₁_elim since (hlevel props) (λ h. grew old new w more ms h was now)

-- ---- the run

pub mine-in : (table : TableStory Plan) (w : ℕ) (x : Worker) (ms : List Move) → HasMade (stands_in table w x) ms
    → own_calls w (calls_of table.log) ≡ entries w ms
mine-in table w x ms made = sym (own-trail w (calls_of table.log)) ∙ made.mine

team-mine : (run : Run) (w : ℕ) (more : List Move) → (and_then run w more).team w ≡ more ++ run.team w
team-mine run w more = ap (λ b. cond b (more ++ run.team w) (run.team w)) (eq-eqb w w refl)

team-other : (run : Run) (w : ℕ) (more : List Move) (v : ℕ) → v ≢ w → (and_then run w more).team v ≡ run.team v
team-other run w more v other = ap (λ b. cond b (more ++ run.team v) (run.team v)) (ne_eqb v w other)

module _ {may_take : ℕ → ℕ → ℕ → Type 0} {old new : TableStory Plan} {w : ℕ} (s : Since old new w) (team : List Worker) (x y : Worker) where
  -- a worker at its place made more moves
  pub plays-on : (low : w < old.shape.workers) (count : length team ≡ old.shape.workers) → slice_get team w ≡ Some x
      → (more : List Move) → Adds may_take (stands_in old w x) more (stands_in new w y) → (run : Run) → HasPlayed may_take (scene old team) run
      → HasPlayed may_take (scene new (slice_set team w y)) (and_then run w more)
  plays-on low count got more adds run was =
      let made = was.made w x got in
      let made' = adds.made (run.team w) made in
      record {
        history = ap (λ h. entries w more ++ h) was.history
            ∙ sym (history-grew old new w more (run.team w) s.since (mine-in old w x (run.team w) made) (mine-in new w y (more ++ run.team w) made'));
        no_more = λ v past.
            let past' : old.shape.workers ≤ v = subst (λ d. d.workers ≤ v) s.shape past in
            team-other run w more v (λ e. absurd (omega arith)) ∙ was.no_more v past';
        made = each-set team w y (λ v z. HasMade (stands_in new v z) ((and_then run w more).team v)) (subst (λ n. w < n) (sym count) low)
            (subst (HasMade (stands_in new w y)) (sym (team-mine run w more)) made')
            (λ v z other here. subst (HasMade (stands_in new v z)) (sym (team-other run w more v other))
            (subst (λ k. HasMade (standing_of z k) (run.team v)) (sym (shown-since s v other)) (was.made v z here)));
        timed = λ v below. timed v (subst (λ d. v < d.workers) s.shape below) (ℕ_discrete v w);
      } where
        at-new : (v : ℕ) (ms : List Move) → AreTimed may_take (desk_at old.shape (load_of old.subject) v) ms
            → AreTimed may_take (desk_at new.shape (load_of new.subject) v) ms
        at-new v ms h = subst (λ (D : Desk Plan). AreTimed may_take (model_desk D) ms) (sym (desk-since s v)) h

        timed : (v : ℕ) → v < old.shape.workers → Dec (v ≡ w) → AreTimed may_take (desk_at new.shape (load_of new.subject) v) ((and_then run w more).team v)
        timed v below (yes e) = subst (λ k. AreTimed may_take (desk_at new.shape (load_of new.subject) k) ((and_then run w more).team k)) (sym e)
            (subst (AreTimed may_take (desk_at new.shape (load_of new.subject) w)) (sym (team-mine run w more))
            (at-new w (more ++ run.team w) (adds.timed (run.team w) (was.made w x got) (was.timed w low))))
        timed v below (no n) = subst (AreTimed may_take (desk_at new.shape (load_of new.subject) v)) (sym (team-other run w more v n))
            (at-new v (run.team v) (was.timed v below))
