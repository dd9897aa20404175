-- A count over a history is the sum of the counts over the moves of its workers.
use Rattle.std.proofs.Common.{◌≡◌, ◌≢◌, ℕ, ◌+◌, cond, eqb, List, [], ◌∷◌, refl, sym, ap, ap₂, ◌∙◌, eq-eqb, ne_eqb, arith}
use mathlib.Core.Logic.{dite}
use native.Mathlib.Decide.{ℕ_discrete}
use Rattle.slot_history.specs.declared.shape.Shape.{Shape}
use Rattle.slot_history.specs.declared.act.Act.{Act}
use Rattle.slot_history.specs.declared.act.Entry.{Entry}
use Rattle.slot_history.specs.declared.place.Place.{Place}
use Rattle.slot_history.specs.Sets.{sum_below}
use Rattle.slot_history.specs.Histories.{IsLegal, own_calls, place_of}
use Rattle.slot_history.proofs.Sets.{sum-zero}
use Rattle.slot_history.proofs.Own.{own-mine, own-other}
use Rattle.slot_station.specs.Desks.{Desk}
use Rattle.turn_model.specs.Workloads.{Workload}
use Rattle.turn_model.specs.Moves.{Move, Made, Exchanged, entries}
use Rattle.turn_model.specs.Learned.{place_by}
use Rattle.turn_model.specs.Runs.{Run, desk_at}
use Rattle.turn_model.proofs.OwnMoves.{moves-tell}
use Rattle.run_laws.specs.Ends.{IsPlayed}
use Rattle.run_laws.proofs.Least.{sum-equal, sum-turns}
use Rattle.run_laws.proofs.Made.{first_of, rest_of}

-- c is what a call counts for, at the place where its worker is
module _ (c : Act → Place → ℕ) where
  abbrev pub total : Shape → List Entry → ℕ
  total d [] = 0
  total d (e ∷ es) = c e.act (place_of d es e.worker) + total d es

  abbrev pub by_moves : Desk Workload → List Move → ℕ
  by_moves D [] = 0
  by_moves D (Made a t ∷ ms) = c a (place_by D ms) + by_moves D ms
  by_moves D (Exchanged ∷ ms) = by_moves D ms

  -- of one worker
  abbrev own : Shape → ℕ → List Entry → ℕ
  own d w [] = 0
  own d w (e ∷ es) = cond (eqb w e.worker) (c e.act (place_of d es w)) 0 + own d w es

  own-mine-is : (d : Shape) (w : ℕ) (e : Entry) (es : List Entry) → w ≡ e.worker → own d w (e ∷ es) ≡ c e.act (place_of d es w) + own d w es
  own-mine-is d w e es same = ap (λ b. cond b (c e.act (place_of d es w)) 0 + own d w es) (eq-eqb w e.worker same)

  own-other-is : (d : Shape) (w : ℕ) (e : Entry) (es : List Entry) → w ≢ e.worker → own d w (e ∷ es) ≡ own d w es
  own-other-is d w e es other = ap (λ b. cond b (c e.act (place_of d es w)) 0 + own d w es) (ne_eqb w e.worker other)
      ∙ (let r : 0 + own d w es ≡ own d w es = omega arith in r)

  module _ (D : Desk Workload) where
    newest-is : (e : Entry) (es : List Entry) → ((ms : List Move) → own_calls D.worker es ≡ entries D.worker ms → own D.shape D.worker es ≡ by_moves D ms)
        → (ms : List Move) → e ∷ own_calls D.worker es ≡ entries D.worker ms
        → c e.act (place_of D.shape es D.worker) + own D.shape D.worker es ≡ by_moves D ms
    newest-is e es before [] is = absurd (cc)
    newest-is e es before (Made a t ∷ ms) is =
        let mine : own_calls D.worker es ≡ entries D.worker ms = ap rest_of is in
        ap₂ (λ x y. x + y) (ap₂ c (ap (λ l. (first_of e l).act) is) (moves-tell D es ms mine).place) (before ms mine)
    newest-is e es before (Exchanged ∷ ms) is = newest-is e es before ms is

    own-moves : (h : List Entry) (ms : List Move) → own_calls D.worker h ≡ entries D.worker ms → own D.shape D.worker h ≡ by_moves D ms
    own-moves [] [] mine = refl
    own-moves [] (Made a t ∷ ms) mine = absurd (cc)
    own-moves [] (Exchanged ∷ ms) mine = own-moves [] ms mine
    own-moves (e ∷ es) ms mine = dite (ℕ_discrete D.worker e.worker)
        (λ same. own-mine-is D.shape D.worker e es same ∙ newest-is e es (own-moves es) ms (sym (own-mine e es D.worker same) ∙ mine))
        (λ other. own-other-is D.shape D.worker e es other ∙ own-moves es ms (sym (own-other e es D.worker other) ∙ mine))

  total-own : (d : Shape) (h : List Entry) → IsLegal d h → total d h ≡ sum_below d.workers (λ w. own d w h)
  total-own d [] legal = sym (sum-zero d.workers)
  total-own d (e ∷ es) legal =
      let k : ℕ = e.worker in
      let f : ℕ → ℕ = λ w. own d w es in
      let g : ℕ → ℕ = λ w. own d w (e ∷ es) in
      let turns : sum_below d.workers g + f k ≡ sum_below d.workers f + g k = sum-turns d.workers k f g legal.0
      (λ w other. own-other-is d w e es other) in
      let here : g k ≡ c e.act (place_of d es k) + f k = own-mine-is d k e es refl in
      let before : total d es ≡ sum_below d.workers f = total-own d es legal.2 in
      omega (arith, turns, here, before)

  pub total-moves : (d : Shape) (load : Workload) (run : Run) → IsPlayed d load run
      → total d run.history ≡ sum_below d.workers (λ w. by_moves (desk_at d load w) (run.team w))
  total-moves d load run played = total-own d run.history played.legal
      ∙ sum-equal d.workers (λ w. by_moves (desk_at d load w) (run.team w)) (λ w. own d w run.history)
      (λ w low. own-moves (desk_at d load w) run.history (run.team w) (played.mine w low))
