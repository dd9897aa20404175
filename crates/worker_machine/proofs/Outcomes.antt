-- What is in hand after a part of a step.
use Rattle.std.proofs.Common.{◌≡◌, ℕ, ◌+◌, ◌<◌, true, List, Option, Some, None, sym, ◌∙◌, subst, arith}
use Rattle.std.specs.Arc.{arc_value}
use Rattle.plan_ast.specs.declared.answers.Answer.{Answer}
use Rattle.slot_history.specs.declared.place.Place.TheVariants.{Free}
use Rattle.slot_station.specs.declared.note.Note.TheVariants.{Empty}
use Rattle.slot_station.specs.declared.token.Coordinator.{Coordinator}
use Rattle.slot_station.specs.declared.token.Holder.{Holder}
use Rattle.slot_station.specs.Cells.{HasNoted}
use Rattle.slot_station.specs.Desks.{Seen, own_place, Owns, caller_of}
use Rattle.slot_station.specs.Tokens.{IsCoordinator}
use Rattle.bench_cell.specs.declared.plan.Plan.{Plan}
use Rattle.bench_cell.specs.declared.bench.Bench.{Bench}
use Rattle.worker_machine.specs.declared.kept.Core.{Core}
use Rattle.worker_machine.specs.declared.phase.Phase.{Phase}
use Rattle.worker_machine.specs.declared.phase.Phase.TheVariants.{Ready, Enter, Ask, Sweep, Give, Note}
use Rattle.worker_machine.specs.Desks.{HasDesk}
use Rattle.worker_machine.specs.Plans.{IsTask}
use Rattle.worker_machine.specs.Outcomes.{IsAsked, IsFinishing, IsPicked, MadeOf}
use Rattle.worker_machine.specs.Hands.{EndsQuery, HoldsAs, InHand, IsMade, IsTaskHeld}
use Rattle.worker_machine.proofs.Desks.{plan-of}
use Rattle.worker_machine.proofs.Finishing.{next-made}

pub picked-hand : {O : Type 0} (seen : Seen O Plan) (bs : List Bench) (slots : ℕ) (p : Phase) → IsPicked slots p → own_place seen ≡ Free
    → slots ≡ seen.desk.shape.slots → InHand seen bs p
picked-hand seen bs slots (Ready e) ok free is = free
picked-hand seen bs slots (Enter s) ok free is = (free, subst (λ n. s < n) is ok)
picked-hand seen bs slots p ok free is = absurd (ok)

pub asked-hand : {O : Type 0} (seen : Seen O Plan) (bs : List Bench) (c : Coordinator) (p : Phase) → IsAsked c p → Owns IsCoordinator seen c
    → IsTask seen.desk.subject c.id
    → c.asked < seen.desk.shape.workers → InHand seen bs p
asked-hand seen bs c (Ask d) ok owns task low =
    let all = owns.workers in
    let differs = ok.1 in (
      subst (Owns IsCoordinator seen) (sym ok.0) owns,
      subst (λ (x : Coordinator). x.asked + 1 < seen.desk.shape.workers) (sym ok.0) (omega (arith, all, differs, low)),
      subst (λ (x : Coordinator). IsTask seen.desk.subject x.id) (sym ok.0) task,
    )
asked-hand seen bs c (Sweep d) ok owns task low =
    let all = owns.workers in
    let last = ok.1 in (
      subst (Owns IsCoordinator seen) (sym ok.0) owns,
      subst (λ (x : Coordinator). x.asked + 1 ≡ seen.desk.shape.workers) (sym ok.0) (last ∙ all),
      subst (λ (x : Coordinator). IsTask seen.desk.subject x.id) (sym ok.0) task,
    )
asked-hand seen bs c p ok owns task low = absurd (ok)

made-hand : {O : Type 0} (seen : Seen O Plan) (core : Core) (h : Holder) (answer : Option Answer) → MadeOf core h answer
    → HasDesk core seen.desk → h.again ≡ true
    → IsTaskHeld (arc_value core.plan) h → IsMade seen core.benches.items h answer
made-hand seen core h None made has again held = next-made seen core h has again held made
made-hand seen core h (Some answer) made has again held = subst (λ plan. EndsQuery plan h answer) (plan-of core has) made

pub finishing-hand : {O : Type 0} (seen : Seen O Plan) (core : Core) (h : Holder) (p : Phase) → IsFinishing core h p → HasDesk core seen.desk
    → IsTaskHeld (arc_value core.plan) h
    → h.again ≡ true → HoldsAs seen h 0 None → HasNoted Empty (caller_of seen) → InHand seen core.benches.items p
finishing-hand seen core h (Give k) ok has held again holds empty = (
  subst (λ x. HoldsAs seen x 0 None) (sym ok) holds,
  subst (λ x. IsTaskHeld seen.desk.subject x) (sym ok) (subst (λ plan. IsTaskHeld plan h) (plan-of core has) held),
  empty,
)
finishing-hand seen core h (Note k answer) ok has held again holds empty = (
  subst (λ x. HoldsAs seen x 0 None) (sym ok.0) holds,
  subst (λ x. IsTaskHeld seen.desk.subject x) (sym ok.0) (subst (λ plan. IsTaskHeld plan h) (plan-of core has) held),
  empty,
  subst (λ x. IsMade seen core.benches.items x answer) (sym ok.0) (made-hand seen core h answer ok.1 has again held),
)
finishing-hand seen core h p ok has held again holds empty = absurd (ok)
