-- A worker follows each station that shows the same, whatever its origin.
use Rattle.std.proofs.Common.{ℕ, List, Option, Some, None}
use Rattle.plan_ast.specs.declared.answers.Answer.{Answer}
use Rattle.slot_station.specs.Desks.{Seen}
use Rattle.slot_station.specs.declared.token.Holder.{Holder}
use Rattle.slot_station.specs.declared.token.Coordinator.{Coordinator}
use Rattle.bench_cell.specs.declared.plan.Plan.{Plan}
use Rattle.bench_cell.specs.declared.bench.Bench.{Bench}
use Rattle.worker_machine.specs.declared.kept.Core.{Core}
use Rattle.worker_machine.specs.declared.phase.Phase.{Phase}
use Rattle.worker_machine.specs.declared.phase.Phase.TheVariants.{Ready, Return, Change, Count}
use Rattle.worker_machine.specs.declared.phase.Phase.TheVariants.{Arrive, Scan, Admit, Put, Size}
use Rattle.worker_machine.specs.declared.phase.Phase.TheVariants.{Install, Tell, Give, FreeIt, Enter}
use Rattle.worker_machine.specs.declared.phase.Phase.TheVariants.{Look, Early, Take, Claim, Shut}
use Rattle.worker_machine.specs.declared.phase.Phase.TheVariants.{Back, Leave, Ask, Sweep, Pay}
use Rattle.worker_machine.specs.declared.phase.Phase.TheVariants.{Fetch, Note}
use Rattle.worker_machine.specs.Hands.{InHand, HoldsAs, IsMade, CoordinatorFits}
use Rattle.worker_machine.specs.Following.{FollowsAt}

module _ {O P : Type 0} (seen : Seen O Plan) (origin : P) where
  abbrev pub elsewhere : Seen P Plan
  elsewhere = record { origin = origin; desk = seen.desk; trail = seen.trail; notes = seen.notes }

  holds : {h : Holder} {n : ℕ} {t : Option ℕ} → HoldsAs seen h n t → HoldsAs elsewhere h n t
  holds h = record { worker = h.worker; place = h.place }

  fits : (c : Option Coordinator) → CoordinatorFits seen c → CoordinatorFits elsewhere c
  fits None h = h
  fits (Some c) h = h

  made : (benches : List Bench) (h : Holder) (a : Option Answer) → IsMade seen benches h a → IsMade elsewhere benches h a
  made benches h None m = record { again = m.again; task = m.task; low = m.low; count = m.count; fresh = m.fresh }
  made benches h (Some a) m = m

  in_hand : (benches : List Bench) (phase : Phase) → InHand seen benches phase → InHand elsewhere benches phase
  in_hand benches (Ready e) h = h
  in_hand benches (Return part) h = h
  in_hand benches (Change part) h = h
  in_hand benches Count h = h
  in_hand benches Arrive h = h
  in_hand benches (Scan s) h = h
  in_hand benches (Admit x) h = (holds h.0, h.1, h.2, h.3, h.4)
  in_hand benches (Put x v) h = record {
    noted = h.noted;
    holds = holds h.holds;
    may = h.may;
    low = h.low;
    done = h.done;
    rest = h.rest;
    count = h.count;
    fresh = h.fresh;
  }
  in_hand benches (Size x) h = (h.0, holds h.1, h.2, h.3)
  in_hand benches (Install x) h = (h.0, holds h.1, h.2, h.3)
  in_hand benches (Tell x) h = h
  in_hand benches (Give x) h = (holds h.0, h.1, h.2)
  in_hand benches (FreeIt x) h = (h.0, h.1, holds h.2, h.3, h.4)
  in_hand benches (Enter s) h = h
  in_hand benches (Look s) h = h
  in_hand benches Early h = h
  in_hand benches (Take s id) h = h
  in_hand benches (Claim s id b) h = h
  in_hand benches (Shut x b) h = h
  in_hand benches (Back c b) h = (h.0, h.1, fits c h.2, h.3)
  in_hand benches (Leave c) h = (h.0, h.1, fits c h.2)
  in_hand benches (Ask c) h = h
  in_hand benches (Sweep c) h = h
  in_hand benches (Pay x) h = h
  in_hand benches (Fetch x v) h = record {
    known = record { legal = h.known.legal; totals = h.known.totals };
    holds = holds h.holds;
    again = h.again;
    task = h.task;
    low = h.low;
    done = h.done;
    rest = h.rest;
    count = h.count;
    fit = h.fit;
  }
  in_hand benches (Note x a) h = (holds h.0, h.1, h.2, made benches x a h.3)

  pub follows-elsewhere : (core : Core) (phase : Phase) → FollowsAt core seen phase → FollowsAt core elsewhere phase
  follows-elsewhere core phase f = record { desk = f.desk; fits = f.fits; hand = in_hand core.benches.items phase f.hand }
