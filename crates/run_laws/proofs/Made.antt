-- The moves by which each call of a history was made.
use Rattle.std.proofs.Common.{◌≡◌, ℕ, ◌<◌, List, [], ◌∷◌, refl, sym, ap, ◌∙◌, subst}
use mathlib.Core.Logic.{dite}
use native.Mathlib.Decide.{ℕ_discrete}
use Rattle.slot_history.specs.declared.shape.Shape.{Shape}
use Rattle.slot_history.specs.declared.act.Act.{Act}
use Rattle.slot_history.specs.declared.act.Entry.{Entry}
use Rattle.slot_history.specs.Histories.{IsLegal, own_calls}
use Rattle.slot_history.proofs.Own.{own-mine, own-other}
use Rattle.slot_station.specs.Desks.{Desk}
use Rattle.turn_model.specs.Workloads.{Workload}
use Rattle.turn_model.specs.Moves.{Move, Made, Exchanged, entries}
use Rattle.turn_model.specs.Points.{point_by}
use Rattle.turn_model.specs.Driven.{MayCall, AreDriven}
use Rattle.turn_model.specs.Runs.{Run, desk_at}
use Rattle.run_laws.specs.Ends.{IsPlayed}

-- after these moves the worker makes this call
pub record IsMade (D : Desk Workload) (a : Act) (h : List Entry) : Type 0 where
  pub moves : List Move
  pub driven : AreDriven D moves
  pub mine : own_calls D.worker h ≡ entries D.worker moves
  pub may : MayCall D moves (point_by D moves) a

-- each call of a history was made after some moves of its worker
abbrev pub AreMade : Shape → Workload → List Entry → Type 0
AreMade d load [] = Unit {0}
AreMade d load (e ∷ es) = IsMade (desk_at d load e.worker) e.act es × AreMade d load es

-- the own calls of a worker in a history are those of moves that it makes
abbrev HasMoves : Shape → Workload → List Entry → ℕ → Type 0
HasMoves d load h w = (ms : List Move) × AreDriven (desk_at d load w) ms × (own_calls w h ≡ entries w ms)

-- the newest entry, and those before it
abbrev pub first_of : Entry → List Entry → Entry
first_of e [] = e
first_of e (x ∷ xs) = x

abbrev pub rest_of : List Entry → List Entry
rest_of [] = []
rest_of (x ∷ xs) = xs

-- the moves before the newest call
newest : (D : Desk Workload) (e : Entry) (h : List Entry) (ms : List Move) → AreDriven D ms → e ∷ own_calls D.worker h ≡ entries D.worker ms
    → IsMade D e.act h
newest D e h [] driven is = absurd (cc)
newest D e h (Made a t ∷ ms) driven is = record {
  moves = ms;
  driven = driven.1;
  mine = ap rest_of is;
  may = subst (MayCall D ms (point_by D ms)) (sym (ap (λ l. (first_of e l).act) is)) driven.0;
}
newest D e h (Exchanged ∷ ms) driven is = newest D e h ms driven.1 is

module _ (d : Shape) (load : Workload) where
  made-first : (e : Entry) (es : List Entry) → e.worker < d.workers → ((w : ℕ) → w < d.workers → HasMoves d load (e ∷ es) w)
      → IsMade (desk_at d load e.worker) e.act es
  made-first e es low have = let m = have e.worker low in
      newest (desk_at d load e.worker) e es m.0 m.1 (sym (own-mine e es e.worker refl) ∙ m.2)

  have-rest : (e : Entry) (es : List Entry) → e.worker < d.workers → ((w : ℕ) → w < d.workers → HasMoves d load (e ∷ es) w)
      → (w : ℕ) → w < d.workers → HasMoves d load es w
  have-rest e es low have w w_low = dite (ℕ_discrete w e.worker)
      (λ same. let m = made-first e es low have in subst (HasMoves d load es) (sym same) (m.moves, m.driven, m.mine))
      (λ other. let m = have w w_low in (m.0, m.1, sym (own-other e es w other) ∙ m.2))

  are-made : (h : List Entry) → IsLegal d h → ((w : ℕ) → w < d.workers → HasMoves d load h w) → AreMade d load h
  are-made [] legal have = tt
  are-made (e ∷ es) legal have = (made-first e es legal.0 have, are-made es legal.2 (have-rest e es legal.0 have))

  pub played-made : (run : Run) → IsPlayed d load run → AreMade d load run.history
  played-made run played = are-made run.history played.legal (λ w low. (run.team w, played.driven w low, played.mine w low))
