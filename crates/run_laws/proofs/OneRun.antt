-- Two runs by the same order are one run, if a meter takes one time for each range and no query is given up.
use Rattle.std.proofs.Common.{◌≡◌, ℕ, zero, suc, ◌+◌, ◌<◌, ◌≤◌, ◌⊎◌, inl, inr, ⊎_elim, Bool, true, false, cond, eqb, List, [], ◌∷◌, ◌++◌}
use Rattle.std.proofs.Common.{refl, sym, ap, ◌∙◌, subst, eq-eqb, arith}
use Rattle.std.specs.Prelude.{All}
use Rattle.std.specs.List.{range_with_len}
use Rattle.slot_history.specs.declared.shape.Shape.{Shape}
use Rattle.slot_history.specs.Histories.{IsLegal}
use Rattle.slot_history.proofs.Beginnings.{legal-early}
use Rattle.turn_model.specs.declared.turn.Turn.{Turn}
use Rattle.turn_model.specs.Workloads.{Workload}
use Rattle.turn_model.specs.Moves.{Move, entries}
use Rattle.turn_model.specs.Points.{has_ended}
use Rattle.turn_model.specs.Driven.{EndsTurn}
use Rattle.turn_model.specs.Runs.{Run, nothing_done, and_then, desk_at}
use Rattle.turn_model.specs.Orders.{PlaysTurn, PlaysMove, PlaysOn, PlayInOrder, none, passes, plays, PlayTurns, PlayRounds, over, round}
use Rattle.turn_model.specs.Orders.{IsOver, AllOver, point_in, IsByTurns, IsByMoves}
use Rattle.run_laws.specs.Agreeing.{Input, ServesAll, RunsByTurnsAgree, RunsByMovesAgree}
use Rattle.run_laws.proofs.NextMoves.{ArePlain, plain-before, are-next, one-end}

-- the numbers of a list are below n
abbrev AreLow : ℕ → List ℕ → Type 0
AreLow n [] = Unit {0}
AreLow n (w ∷ ws) = (w < n) × AreLow n ws

are-low : (n : ℕ) (ws : List ℕ) → All (λ w. w < n) ws → AreLow n ws
are-low n [] all = tt
are-low n (w ∷ ws) all = (all zero 0 (omega arith), are-low n ws (λ i d low. all (suc i) d (omega (arith, low))))

range-low : (n from k : ℕ) → from + k ≤ n → AreLow n (range_with_len from k)
range-low n from zero low = tt
range-low n from (suc k) low = (omega (arith, low), range-low n (from + 1) k (omega (arith, low)))

module _ (d : Shape) (load : Workload) (time : ℕ → ℕ → ℕ) where
  abbrev Plain : ℕ → List Move → Type 0
  Plain w = ArePlain time (desk_at d load w)

  -- a legal run of moves that the workers make, in which no query is given up
  record IsPlainSoFar (run : Run) : Type 0 where
    legal : IsLegal d run.history
    each : (w : ℕ) → w < d.workers → Plain w (run.team w)

  -- ---- a run and what follows it

  -- these moves more of w make this run
  record GoesTo (run : Run) (w : ℕ) (next : Run) : Type 0 where
    more : List Move
    next_is : next ≡ and_then run w more

  plain-early : (run next : Run) (w : ℕ) → GoesTo run w next → IsPlainSoFar next → IsPlainSoFar run
  plain-early run next w goes plain = let all = subst IsPlainSoFar goes.next_is plain in record {
    legal = legal-early d (entries w goes.more) run.history all.legal;
    each = λ v low. by_team v (eqb v w) (all.each v low);
  }
    where
      by_team : (v : ℕ) (b : Bool) → Plain v (cond b (goes.more ++ run.team v) (run.team v)) → Plain v (run.team v)
      by_team v true p = plain-before time (desk_at d load v) goes.more (run.team v) p
      by_team v false p = p

  own-moves : (run : Run) (w : ℕ) (more : List Move) → (and_then run w more).team w ≡ more ++ run.team w
  own-moves run w more = ap (λ b. cond b (more ++ run.team w) (run.team w)) (eq-eqb w w refl)

  -- the moves of w in the run that they make
  plain-moves : (run next : Run) (w : ℕ) (more : List Move) → w < d.workers → next ≡ and_then run w more → IsPlainSoFar next
      → Plain w (more ++ run.team w) × IsLegal d (entries w more ++ run.history)
  plain-moves run next w more low is plain = let all = subst IsPlainSoFar is plain in
      (subst (Plain w) (own-moves run w more) (all.each w low), all.legal)

  -- ---- one worker plays

  abbrev OneNext : (Run → ℕ → Run → Type 0) → Type 0
  OneNext Plays = (run next other : Run) (w : ℕ) → w < d.workers → Plays run w next → Plays run w other → IsPlainSoFar next → IsPlainSoFar other → next ≡ other

  same-next : (run next other : Run) (w : ℕ) (more these : List Move) → next ≡ and_then run w more → other ≡ and_then run w these → more ≡ these → next ≡ other
  same-next run next other w more these is also e = is ∙ ap (and_then run w) e ∙ sym also

  one-ending : (run next other : Run) (w : ℕ) (more these : List Move) (turn last : Turn) → w < d.workers
      → EndsTurn (desk_at d load w) more (run.team w) turn → EndsTurn (desk_at d load w) these (run.team w) last
      → next ≡ and_then run w more → other ≡ and_then run w these → IsPlainSoFar next → IsPlainSoFar other → next ≡ other
  one-ending run next other w more these turn last low e f is also p q =
      let one = plain-moves run next w more low is p in
      let two = plain-moves run other w these low also q in
      same-next run next other w more these is also
      (one-end time (desk_at d load w) run.history (run.team w) more these turn last e f one.0 two.0 one.1 two.1)

  one-turn : OneNext (PlaysTurn d load)
  one-turn run next other w low p q plain more =
      one-ending run next other w p.more q.more p.turn q.turn low p.turns.turns q.turns.turns p.next_is q.next_is plain more

  one-rest : OneNext (PlaysOn d load)
  one-rest run next other w low p q plain more = one-ending run next other w p.more q.more p.turn q.turn low p.turns q.turns p.next_is q.next_is plain more

  one-move : OneNext (PlaysMove d load)
  one-move run next other w low p q plain more =
      let one = plain-moves run next w (p.move ∷ []) low p.next_is plain in
      let two = plain-moves run other w (q.move ∷ []) low q.next_is more in
      same-next run next other w (p.move ∷ []) (q.move ∷ []) p.next_is q.next_is
      (are-next time (desk_at d load w) run.history (run.team w) (p.move ∷ []) one.0 one.1
      ∙ sym (are-next time (desk_at d load w) run.history (run.team w) (q.move ∷ []) two.0 two.1))

  -- ---- workers play in order

  module _ (Plays : Run → ℕ → Run → Type 0) (Passes : Run → ℕ → Type 0) where
    -- how workers that play in order begin
    abbrev BeginsOrder : List ℕ → Run → Run → Type 0
    BeginsOrder [] run end = run ≡ end
    BeginsOrder (w ∷ order) run end = (Passes run w × PlayInOrder d load Plays Passes order run end)
        ⊎ ((next : Run) × (Passes run w → ⊥) × Plays run w next × PlayInOrder d load Plays Passes order next end)

    begins-order : (order : List ℕ) (run end : Run) → PlayInOrder d load Plays Passes order run end → BeginsOrder order run end
    begins-order order run end (none r) = refl
    begins-order order run end (passes w rest r e p more) = inl (p, more)
    begins-order order run end (plays w rest r next e not p more) = inr (next, not, p, more)

    module _ (goes : (run next : Run) (w : ℕ) → Plays run w next → GoesTo run w next) where
      order-early : (order : List ℕ) (run end : Run) → PlayInOrder d load Plays Passes order run end → IsPlainSoFar end → IsPlainSoFar run
      order-early order run end (none r) plain = plain
      order-early order run end (passes w rest r e p more) plain = order-early rest r e more plain
      order-early order run end (plays w rest r next e not p more) plain = plain-early r next w (goes r next w p) (order-early rest next e more plain)

      module _ (one : OneNext Plays) where
        abbrev OneEnd : List ℕ → Type 0
        OneEnd order = (run end other : Run) → PlayInOrder d load Plays Passes order run end → PlayInOrder d load Plays Passes order run other
            → IsPlainSoFar end → IsPlainSoFar other → end ≡ other

        both-begin : (w : ℕ) (order : List ℕ) (run end other : Run) → OneEnd order → w < d.workers → IsPlainSoFar end → IsPlainSoFar other
            → BeginsOrder (w ∷ order) run end → BeginsOrder (w ∷ order) run other → end ≡ other
        both-begin w order run end other rest low p q (inl a) (inl b) = rest run end other a.1 b.1 p q
        both-begin w order run end other rest low p q (inl a) (inr b) = absurd (b.1 a.0)
        both-begin w order run end other rest low p q (inr a) (inl b) = absurd (a.1 b.0)
        both-begin w order run end other rest low p q (inr a) (inr b) =
            let same : a.0 ≡ b.0 = one run a.0 b.0 w low a.2 b.2 (order-early order a.0 end a.3 p) (order-early order b.0 other b.3 q) in
            rest b.0 end other (subst (λ r. PlayInOrder d load Plays Passes order r end) same a.3) b.3 p q

        one-end-of : (order : List ℕ) → AreLow d.workers order → OneEnd order
        one-end-of [] low run end other a b p q = sym (begins-order [] run end a) ∙ begins-order [] run other b
        one-end-of (w ∷ order) low run end other a b p q =
            both-begin w order run end other (one-end-of order low.1) low.0 p q (begins-order (w ∷ order) run end a) (begins-order (w ∷ order) run other b)

  -- ---- turns, moves and rounds

  turn-goes : (run next : Run) (w : ℕ) → PlaysTurn d load run w next → GoesTo run w next
  turn-goes run next w p = record { more = p.more; next_is = p.next_is }

  move-goes : (run next : Run) (w : ℕ) → PlaysMove d load run w next → GoesTo run w next
  move-goes run next w p = record { more = p.move ∷ []; next_is = p.next_is }

  rest-goes : (run next : Run) (w : ℕ) → PlaysOn d load run w next → GoesTo run w next
  rest-goes run next w p = record { more = p.more; next_is = p.next_is }

  abbrev has_ended_in : Run → ℕ → Type 0
  has_ended_in run w = has_ended (point_in d load run w) ≡ true

  abbrev everyone : List ℕ
  everyone = range_with_len 0 d.workers

  all-low : AreLow d.workers everyone
  all-low = range-low d.workers 0 d.workers (omega arith)

  rounds-early : (run end : Run) → PlayRounds d load run end → IsPlainSoFar end → IsPlainSoFar run
  rounds-early run end (over r all) plain = plain
  rounds-early run end (round r next e not turns rest) plain =
      order-early (PlaysTurn d load) (IsOver d load) turn-goes everyone r next turns (rounds-early next e rest plain)

  -- how rounds begin
  abbrev BeginsRounds : Run → Run → Type 0
  BeginsRounds run end = (AllOver d load run × (run ≡ end))
      ⊎ ((next : Run) × (AllOver d load run → ⊥) × PlayTurns d load everyone run next × PlayRounds d load next end)

  begins-rounds : (run end : Run) → PlayRounds d load run end → BeginsRounds run end
  begins-rounds run end (over r all) = inl (all, refl)
  begins-rounds run end (round r next e not turns rest) = inr (next, not, turns, rest)

  one-round-end : (run end other : Run) → PlayRounds d load run end → PlayRounds d load run other → IsPlainSoFar end → IsPlainSoFar other → end ≡ other
  one-round-end run end other (over r all) b p q = ⊎_elim (λ two. two.1) (λ two. absurd (two.1 all)) (begins-rounds r other b)
  one-round-end run end other (round r next e not turns rest) b p q = ⊎_elim (λ two. absurd (not two.0))
      (λ two. let same : next ≡ two.0 = one-end-of (PlaysTurn d load) (IsOver d load) turn-goes one-turn everyone all-low r next two.0 turns two.2
      (rounds-early next e rest p) (rounds-early two.0 other two.3 q) in
      one-round-end next e other rest (subst (λ s. PlayRounds d load s other) (sym same) two.3) p q)
      (begins-rounds r other b)

  then-rounds : (middle between end other : Run) → middle ≡ between → PlayRounds d load middle end → PlayRounds d load between other
      → IsPlainSoFar end → IsPlainSoFar other → end ≡ other
  then-rounds middle between end other same a b p q = one-round-end between end other (subst (λ s. PlayRounds d load s end) same a) b p q

  one-by-turns : (order : List ℕ) (one other : Run) → AreLow d.workers order → IsPlainSoFar one → IsPlainSoFar other
      → IsByTurns d load order one → IsByTurns d load order other → one ≡ other
  one-by-turns order one other low p q a b =
      then-rounds a.middle b.middle one other
      (one-end-of (PlaysTurn d load) (IsOver d load) turn-goes one-turn order low nothing_done a.middle b.middle a.turns b.turns
      (rounds-early a.middle one a.rounds p) (rounds-early b.middle other b.rounds q))
      a.rounds b.rounds p q

  one-by-moves : (order : List ℕ) (one other : Run) → AreLow d.workers order → IsPlainSoFar one → IsPlainSoFar other
      → IsByMoves d load order one → IsByMoves d load order other → one ≡ other
  one-by-moves order one other low p q a b =
      let second : IsPlainSoFar a.second = rounds-early a.second one a.rounds p in
      let beside : IsPlainSoFar b.second = rounds-early b.second other b.rounds q in
      let first : a.first ≡ b.first = one-end-of (PlaysMove d load) (IsOver d load) move-goes one-move order low nothing_done a.first b.first a.moves b.moves
      (order-early (PlaysOn d load) has_ended_in rest-goes everyone a.first a.second a.ended second)
      (order-early (PlaysOn d load) has_ended_in rest-goes everyone b.first b.second b.ended beside) in
      then-rounds a.second b.second one other
      (one-end-of (PlaysOn d load) has_ended_in rest-goes one-rest everyone all-low b.first a.second b.second
      (subst (λ s. PlayInOrder d load (PlaysOn d load) has_ended_in everyone s a.second) first a.ended) b.ended second beside)
      a.rounds b.rounds p q

plain-so-far : (input : Input) (run : Run) → ServesAll input run → IsPlainSoFar input.shape input.load input.time run
plain-so-far input run plain = record {
  legal = plain.complete.driven.legal;
  each = λ w low. let by = plain.complete.driven.each w low in record { driven = by.driven; timed = by.timed; none = plain.none w low };
}

pub runs-by-turns-agree : RunsByTurnsAgree
runs-by-turns-agree input one other workers p q a b =
    one-by-turns input.shape input.load input.time input.order one other (are-low input.shape.workers input.order workers)
    (plain-so-far input one p) (plain-so-far input other q) a b

pub runs-by-moves-agree : RunsByMovesAgree
runs-by-moves-agree input one other workers p q a b =
    one-by-moves input.shape input.load input.time input.order one other (are-low input.shape.workers input.order workers)
    (plain-so-far input one p) (plain-so-far input other q) a b
