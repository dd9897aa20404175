-- Turns of an order, one after another: they lower the number of a run.
use Rattle.std.proofs.Common.{◌≡◌, ◌⊎◌, ℕ, ◌+◌, ◌<◌, ◌≤◌, zero, suc, List, [], ◌∷◌, ◌++◌, refl, sym, ap, ◌∙◌, subst, arith, inl, inr, append_assoc}
use native.Mathlib.Decide.{ℕ_discrete}
use Rattle.std.specs.List.{range_with_len}
use Rattle.slot_history.specs.declared.shape.Shape.{Shape}
use Rattle.slot_history.specs.declared.act.Entry.{Entry}
use Rattle.slot_history.specs.Histories.{IsLegal}
use Rattle.slot_history.specs.Notices.{IsQuiet}
use Rattle.slot_history.specs.Steps.{state_after}
use Rattle.turn_model.specs.Workloads.{Workload}
use Rattle.turn_model.specs.Moves.{entries}
use Rattle.turn_model.specs.Runs.{Run}
use Rattle.turn_model.specs.Orders.{PlayTurns, PlaysTurn, IsOver, none, passes, plays}
use Rattle.turn_model.specs.Measure.{as_one, left_in, not_over}
use Rattle.run_laws.specs.Ends.{IsWork, IsPlayed, Playing, PlaysAlone}
use Rattle.run_laws.proofs.EndsWell.{turns-end-well, turns-fall-as-one}

abbrev pub IsIn : ℕ → List ℕ → Type 0
IsIn w [] = ⊥
IsIn w (v ∷ vs) = (w ≡ v) ⊎ IsIn w vs

in-range-step : (n a w : ℕ) → Dec (w ≡ a) → ((w ≡ a → ⊥) → IsIn w (range_with_len (a + 1) n)) → IsIn w (range_with_len a (suc n))
in-range-step n a w (yes e) more = inl e
in-range-step n a w (no ne) more = inr (more ne)

pub in-range : (n a w : ℕ) → a ≤ w → w < a + n → IsIn w (range_with_len a n)
in-range zero a w least most = absurd (omega arith)
in-range (suc n) a w least most = in-range-step n a w (ℕ_discrete w a) (λ ne. in-range n (a + 1) w (omega arith) (omega arith))

pub range-below : (n a w : ℕ) → IsIn w (range_with_len a n) → w < a + n
range-below zero a w i = absurd i
range-below (suc n) a w (inl e) = omega arith
range-below (suc n) a w (inr i) = let h = range-below n (a + 1) w i in omega arith

legal-before : (d : Shape) (more h : List Entry) → IsLegal d (more ++ h) → IsLegal d h
legal-before d [] h legal = legal
legal-before d (e ∷ more) h legal = legal-before d more h legal.2

less-most : (a b c : ℕ) → a ≤ b → b < c → a < c
less-most a b c p q = omega arith

most-most : (a b c : ℕ) → a ≤ b → b < c → a ≤ c
most-most a b c p q = omega arith

same-most : (a : ℕ) → a ≤ a
same-most a = omega arith

module _ (d : Shape) (load : Workload) where
  -- what whole turns lower
  abbrev pub number : Run → ℕ
  number run = as_one (left_in d load (state_after d run.history) (not_over d load run))

  -- all workers are free
  pub record IsFree (run : Run) : Type 0 where
    pub played : IsPlayed d load run
    pub quiet : IsQuiet d (state_after d run.history)

  history-on : (order : List ℕ) (run end : Run) → PlayTurns d load order run end → (more : List Entry) × (end.history ≡ more ++ run.history)
  history-on order run end (none r) = ([], refl)
  history-on order run end (passes w rest r e p more) = history-on rest r e more
  history-on order run end (plays w rest r next e not p more) =
      let later = history-on rest next e more in (
        later.0 ++ entries w p.more,
        later.1 ∙ ap (λ (x : Run). later.0 ++ x.history) p.next_is ∙ sym (append_assoc later.0 (entries w p.more) r.history),
      )

  legal-then : (order : List ℕ) (run end : Run) → PlayTurns d load order run end → IsLegal d end.history → IsLegal d run.history
  legal-then order run end p legal = let more = history-on order run end p in legal-before d more.0 run.history (subst (IsLegal d) more.1 legal)

  -- from one run to another the number does not rise, and falls if one of these workers was not over
  pub record Falls (order : List ℕ) (run end : Run) : Type 0 where
    pub free : IsFree end
    pub most : number end ≤ number run
    pub less : (w : ℕ) → IsIn w order → (IsOver d load run w → ⊥) → number end < number run

  module _ (work : IsWork d load) where
    one-falls : (run : Run) (w : ℕ) (next : Run) (p : PlaysTurn d load run w next) → w < d.workers
        → (IsOver d load run w → ⊥) → IsFree run → IsLegal d next.history → IsFree next × (number next < number run)
    one-falls run w next p below not free legal =
        let playing : Playing = record { worker = w; moves = p.more; turn = p.turn } in
        let alone : PlaysAlone d load run playing = record {
          worker = below;
          before = free.played;
          quiet = free.quiet;
          turns = p.turns;
          legal = subst (λ (x : Run). IsLegal d x.history) p.next_is legal;
        } in
        let well = turns-end-well d load run playing work alone in (
          subst IsFree (sym p.next_is) (record { played = well.0; quiet = well.1.quiet }),
          subst (λ (x : Run). number x < number run) (sym p.next_is) (turns-fall-as-one d load run playing work alone not),
        )

    pub turns-fall : (order : List ℕ) (run end : Run) → PlayTurns d load order run end → ((w : ℕ) → IsIn w order → w < d.workers)
        → IsFree run → IsLegal d end.history → Falls order run end
    turns-fall order run end (none r) below free legal = record { free = free; most = same-most (number r); less = λ w i not. absurd i }
    turns-fall order run end (passes w rest r e p more) below free legal =
        let later = turns-fall rest r e more (λ v i. below v (inr i)) free legal in record {
          free = later.free;
          most = later.most;
          less = λ v i not. elim i [ inl same ↦ absurd (not (subst (IsOver d load r) (sym same) p)) | inr j ↦ later.less v j not ];
        }
    turns-fall order run end (plays w rest r next e not p more) below free legal =
        let first = one-falls r w next p (below w (inl refl)) not free (legal-then rest next e more legal) in
        let later = turns-fall rest next e more (λ v i. below v (inr i)) first.0 legal in record {
          free = later.free;
          most = most-most (number e) (number next) (number r) later.most first.1;
          less = λ v i n. less-most (number e) (number next) (number r) later.most first.1;
        }
