-- Runs by an order are made of moves that workers make.
use Rattle.std.proofs.Common.{◌≡◌, ℕ, Bool, true, false, cond, eqb, List, [], ◌∷◌, ◌++◌, refl, sym, subst, eqb-true}
use Rattle.slot_history.specs.declared.shape.Shape.{Shape}
use Rattle.slot_station.specs.Desks.{Desk}
use Rattle.turn_model.specs.declared.turn.Turn.{Turn}
use Rattle.turn_model.specs.Workloads.{Workload}
use Rattle.turn_model.specs.Moves.{Move}
use Rattle.turn_model.specs.Driven.{AreDriven, GoesOn, EndsTurn}
use Rattle.turn_model.specs.Runs.{Run, and_then, desk_at}
use Rattle.turn_model.specs.Orders.{PlaysTurn, PlaysMove, PlaysOn, PlayInOrder, none, passes, plays, PlayRounds, over, round}
use Rattle.run_laws.specs.OrdersDrive.{AllDriven, TurnsDrive, MovesDrive}

pub goes-driven : (D : Desk Workload) (more ms : List Move) → GoesOn D more ms → AreDriven D ms → AreDriven D (more ++ ms)
goes-driven D [] ms goes driven = driven
goes-driven D (m ∷ more) ms goes driven = (goes.0, goes-driven D more ms goes.2 driven)

pub ends-driven : (D : Desk Workload) (more ms : List Move) (turn : Turn) → EndsTurn D more ms turn → AreDriven D ms → AreDriven D (more ++ ms)
ends-driven D more ms turn e driven = subst (λ l. AreDriven D (l ++ ms)) (sym e.all) (e.may, goes-driven D e.before ms e.way driven)

module _ (d : Shape) (load : Workload) where
  one-of : (run : Run) (w v : ℕ) (more : List Move) (b : Bool) → eqb v w ≡ b → AllDriven d load run → AreDriven (desk_at d load w) (more ++ run.team w)
      → AreDriven (desk_at d load v) (cond b (more ++ run.team v) (run.team v))
  one-of run w v more true at all driven = subst (λ u. AreDriven (desk_at d load u) (more ++ run.team u)) (sym (eqb-true v w at)) driven
  one-of run w v more false at all driven = all v

  then-driven : (run next : Run) (w : ℕ) (more : List Move) → next ≡ and_then run w more → AllDriven d load run
      → AreDriven (desk_at d load w) (more ++ run.team w) → AllDriven d load next
  then-driven run next w more is all driven = subst (AllDriven d load) (sym is) (λ v. one-of run w v more (eqb v w) refl all driven)

  turn-drives : (run next : Run) (w : ℕ) → AllDriven d load run → PlaysTurn d load run w next → AllDriven d load next
  turn-drives run next w all p = then-driven run next w p.more p.next_is all (ends-driven (desk_at d load w) p.more (run.team w) p.turn p.turns.turns (all w))

  move-drives : (run next : Run) (w : ℕ) → AllDriven d load run → PlaysMove d load run w next → AllDriven d load next
  move-drives run next w all p = then-driven run next w (p.move ∷ []) p.next_is all (p.may, all w)

  rest-drives : (run next : Run) (w : ℕ) → AllDriven d load run → PlaysOn d load run w next → AllDriven d load next
  rest-drives run next w all p = then-driven run next w p.more p.next_is all (ends-driven (desk_at d load w) p.more (run.team w) p.turn p.turns (all w))

  order-drives : (Plays : Run → ℕ → Run → Type 0) (Passes : Run → ℕ → Type 0)
      → ((run next : Run) (w : ℕ) → AllDriven d load run → Plays run w next → AllDriven d load next)
      → (order : List ℕ) (run end : Run) → PlayInOrder d load Plays Passes order run end → AllDriven d load run → AllDriven d load end
  order-drives Plays Passes step order run end (none r) all = all
  order-drives Plays Passes step order run end (passes w rest r e p more) all = order-drives Plays Passes step rest r e more all
  order-drives Plays Passes step order run end (plays w rest r next e not p more) all = order-drives Plays Passes step rest next e more (step r next w all p)

  rounds-drive : (run end : Run) → PlayRounds d load run end → AllDriven d load run → AllDriven d load end
  rounds-drive run end (over r all-over) all = all
  rounds-drive run end (round r next e not turns rest) all = rounds-drive next e rest (order-drives _ _ turn-drives _ r next turns all)

pub turns-drive : TurnsDrive
turns-drive d load order run by =
    rounds-drive d load by.middle run by.rounds (order-drives d load _ _ (turn-drives d load) order _ by.middle by.turns (λ w. tt))

pub moves-drive : MovesDrive
moves-drive d load order run by =
    rounds-drive d load by.second run by.rounds
    (order-drives d load _ _ (rest-drives d load) _ by.first by.second by.ended
    (order-drives d load _ _ (move-drives d load) order _ by.first by.moves (λ w. tt)))
