-- The numbers of an answer in a legal history are small.
use Rattle.std.proofs.Common.{ℕ, ◌*◌, ◌<◌, ◌≤◌, List, ◌∷◌, refl, arith}
use Rattle.slot_history.specs.declared.shape.Shape.{Shape}
use Rattle.slot_history.specs.declared.shape.TheConstants.{STAGES, MOST_TOTAL}
use Rattle.slot_history.specs.declared.act.Act.{Act}
use Rattle.slot_history.specs.declared.act.Act.TheVariants.{LookOpen, ClaimRange, LeaveOwe}
use Rattle.slot_history.specs.declared.act.Act.TheVariants.{SweepOthers, AdmitLost, Arrivals}
use Rattle.slot_history.specs.declared.act.Act.TheVariants.{Finished}
use Rattle.slot_history.specs.declared.act.Entry.{Entry}
use Rattle.slot_history.specs.States.{SlotState, Open, Shut, task_of}
use Rattle.slot_history.specs.Steps.{state_after}
use Rattle.slot_history.specs.States as states
use Rattle.slot_history.specs.Histories.{IsLegal, entry}
use Rattle.slot_history.specs.Bounds.{IsShape, IsSlotSound}
use Rattle.slot_history.proofs.Sets.{count-most}
use Rattle.slot_history.proofs.Numbers.{named-low}
use Rattle.slot_words.specs.Numbers.{IsSmall}
use Rattle.slot_words.proofs.Fit.{fit-of}

total-low : (x : SlotState) → IsSlotSound x → (task_of x).total ≤ MOST_TOTAL
total-low (Open t) sound = sound
total-low (Shut t e) sound = sound
total-low _ sound = omega arith

pub small : (d : Shape) (h : List Entry) (w : ℕ) (a : Act) → IsShape d → IsLegal d (entry w a ∷ h) → IsSmall a
small d h w (LookOpen id) shape legal =
    let l : id < STAGES * d.queries = named-low d w (LookOpen id) h id legal refl in let q = shape.queries in omega arith
small d h w (LeaveOwe id) shape legal =
    let l : id < STAGES * d.queries = named-low d w (LeaveOwe id) h id legal refl in let q = shape.queries in omega arith
small d h w (ClaimRange n from to) shape (low, ok, legal) =
    let f = fit-of d h shape legal in
    let x : SlotState = (state_after d h).slots ok.0 in
    let t = total-low x (f.sound ok.0) in
    let less = ok.6 in let ends = ok.7 in (omega arith, omega arith)
small d h w (SweepOthers n) shape (low, ok, legal) =
    let some = count-most d.workers (states.owes ((state_after d h).slots ok.0)) in
    let is = ok.7 in let most = shape.workers.1 in omega arith
small d h w (AdmitLost q now) shape (low, ok, legal) =
    let f = fit-of d h shape legal in let is = ok.5 in let most = f.within.admitted in let queries = shape.queries in omega arith
small d h w (Arrivals n) shape (low, ok, legal) =
    let f = fit-of d h shape legal in let most = f.within.admitted in let queries = shape.queries in omega arith
small d h w (Finished n) shape (low, ok, legal) = let f = fit-of d h shape legal in let most = f.finished in omega arith
small d h w _ shape legal = tt
