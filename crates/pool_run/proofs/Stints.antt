-- What one worker of a team plays, and what it does not.
use Rattle.std.proofs.Common.{◌≡◌, ℕ, ◌<◌, true, List, [], ◌∷◌, length, slice_get, slice_set, Some, refl, sym, ap, ◌∙◌}
use Rattle.slot_history.specs.declared.shape.Shape.{Shape}
use Rattle.turn_model.specs.Workloads.{Workload}
use Rattle.turn_model.specs.declared.turn.Turn.{Turn}
use Rattle.turn_model.specs.Moves.{Move}
use Rattle.turn_model.specs.Runs.{Run, and_then, desk_at}
use Rattle.turn_model.specs.Orders.{PlayInOrder, none, passes, plays}
use Rattle.one_thread.specs.Tables.{TableStory}
use Rattle.bench_cell.specs.declared.plan.Plan.{Plan}
use Rattle.worker_machine.specs.declared.phase.Phase.{Phase}
use Rattle.worker_machine.specs.declared.state.Worker.{Worker}
use Rattle.worker_machine.specs.Keeps.{HasMade, Moves, Standing}
use Rattle.worker_machine.specs.Left.{is_ready}
use Rattle.worker_machine.specs.Loads.{load_of}
use Rattle.worker_machine.specs.Turning.{Turns}
use Rattle.pool_run.specs.declared.stint.Stint.{Stint}
use Rattle.pool_run.specs.declared.stint.Stint.TheVariants.{WholeTurn, OneStep, RestOfTurn}
use Rattle.pool_run.specs.Plays.{Play, Leads, stints_by}
use Rattle.pool_run.specs.Rests.{Rests}
use Rattle.pool_run.specs.Scenes.{Scene, scene, Since, stands_in, HasPlayed}
use Rattle.pool_run.specs.Stints.{Acts, EndsTurns, IsPassedOver, IsStint, PassesOver, PlaysStint}
use Rattle.pool_run.proofs.Played.{plays-on}
use Rattle.pool_run.proofs.Points.{over-in, over-of, ended-in}

-- ---- a turn, a step and the rest of a turn are stints

module _ {may_take : ℕ → ℕ → ℕ → Type 0} {from to : Standing} where
  pub turn-acts : {turn : Turn} → Turns may_take from turn to → Acts may_take WholeTurn from to
  turn-acts {turn} t = record { more = t.more; is_stint = λ ms made. (turn, t.turns ms made); adds = t.adds }

  pub step-acts : Moves may_take from to → Acts may_take OneStep from to
  step-acts m = record {
    more = m.move ∷ [];
    is_stint = λ ms made. (m.move, refl, m.may ms made);
    adds = record { timed = λ ms made timed. (m.timed ms made, timed); made = λ ms made. m.made ms made };
  }

  pub rest-acts : {turn : Turn} → Rests may_take from turn to → Acts may_take RestOfTurn from to
  rest-acts {turn} r = record { more = r.more; is_stint = λ ms made. (turn, r.ends ms made); adds = r.adds }

-- who is passed over has no turn under way
pub passed-ready : (stint : Stint) (phase : Phase) → IsPassedOver stint phase → is_ready phase ≡ true
passed-ready WholeTurn phase over = ap is_ready over
passed-ready OneStep phase over = ap is_ready over
passed-ready RestOfTurn phase ready = ready

-- a whole turn ends with no turn under way
pub whole-ends : (stint : Stint) → stint ≡ WholeTurn → EndsTurns stint
whole-ends stint whole one = absurd (let both : WholeTurn ≡ OneStep = sym whole ∙ one in cc)

-- ---- by the model

plays-stint : (d : Shape) (load : Workload) (stint : Stint) (run : Run) (w : ℕ) (more : List Move) → IsStint stint (desk_at d load w) more (run.team w)
    → PlaysStint d load stint run w (and_then run w more)
plays-stint d load WholeTurn run w more is = record { more = more; turn = is.0; turns = is.1; next_is = refl }
plays-stint d load OneStep run w more is = record { move = is.0; may = is.2; next_is = ap (and_then run w) is.1 }
plays-stint d load RestOfTurn run w more is = record { more = more; turn = is.0; turns = is.1; next_is = refl }

module _ (table : TableStory Plan) {w : ℕ} {x : Worker} (run : Run) (made : HasMade (stands_in table w x) (run.team w)) where
  passed-in : (stint : Stint) → IsPassedOver stint x.phase → PassesOver table.shape (load_of table.subject) stint run w
  passed-in WholeTurn over = over-in table made over
  passed-in OneStep over = over-in table made over
  passed-in RestOfTurn ready = ended-in table made ∙ ready

  passed-of : (stint : Stint) → PassesOver table.shape (load_of table.subject) stint run w → IsPassedOver stint x.phase
  passed-of WholeTurn over = over-of table made over
  passed-of OneStep over = over-of table made over
  passed-of RestOfTurn ended = sym (ended-in table made) ∙ ended

-- one worker plays, or is passed over
module _ (d : Shape) (load : Workload) (Plays : Run → ℕ → Run → Type 0) (Passes : Run → ℕ → Type 0) where
  one-plays : (w : ℕ) (run next : Run) → (Passes run w → ⊥) → Plays run w next → PlayInOrder d load Plays Passes (w ∷ []) run next
  one-plays w run next not p = plays w [] run next next not p (none next)

  one-passes : (w : ℕ) (run : Run) → Passes run w → PlayInOrder d load Plays Passes (w ∷ []) run run
  one-passes w run p = passes w [] run run p (none run)

-- ---- what a stint leads to

-- nothing happens, and that is a play
pub stands-still : {may_take : ℕ → ℕ → ℕ → Type 0} {at : Scene} (play : Play)
    → ((run : Run) → HasPlayed may_take at run → play at.table.shape (load_of at.table.subject) run run) → Leads may_take play at at
stands-still play is = record { shape = refl; subject = refl; leads = λ run played. record { next = run; plays = is run played; played = played } }

pub stint-passes : {may_take : ℕ → ℕ → ℕ → Type 0} {table : TableStory Plan} {team : List Worker} (stint : Stint) (w : ℕ) (x : Worker)
    → slice_get team w ≡ Some x → IsPassedOver stint x.phase → Leads may_take (stints_by stint (w ∷ [])) (scene table team) (scene table team)
stint-passes {table = table} stint w x at passed =
    stands-still (stints_by stint (w ∷ [])) (λ run played. one-passes _ _ _ _ w run (passed-in table run (played.made w x at) stint passed))

module _ {may_take : ℕ → ℕ → ℕ → Type 0} {old new : TableStory Plan} {w : ℕ} (s : Since old new w) (team : List Worker) (x y : Worker)
    (low : w < old.shape.workers) (count : length team ≡ old.shape.workers) (at : slice_get team w ≡ Some x) where
  pub stint-leads : (stint : Stint) → (IsPassedOver stint x.phase → ⊥) → Acts may_take stint (stands_in old w x) (stands_in new w y)
      → Leads may_take (stints_by stint (w ∷ [])) (scene old team) (scene new (slice_set team w y))
  stint-leads stint not a = record {
    shape = s.shape;
    subject = s.subject;
    leads = λ run played. record {
      next = and_then run w a.more;
      plays = one-plays _ _ _ _ w run (and_then run w a.more) (λ passed. not (passed-of old run (played.made w x at) stint passed))
          (plays-stint old.shape (load_of old.subject) stint run w a.more (a.is_stint (run.team w) (played.made w x at)));
      played = plays-on s team x y low count at a.more a.adds run played;
    };
  }
