-- What a worker knows of a call of its own, by the clause of every call.
use Rattle.std.proofs.Common.{◌≡◌, sym, ap, ◌∙◌}
use mathlib.Core.Bool.{true≢false}
use Rattle.slot_history.specs.declared.place.Place.TheVariants.{Leading}
use Rattle.slot_history.specs.declared.act.Act.TheVariants.{LeaveOwe}
use Rattle.slot_history.specs.States.{ObjectState, slot_of, owes}
use Rattle.slot_history.specs.Steps.{state_after}
use Rattle.slot_history.specs.Allowed.{IsAllowed}
use Rattle.slot_history.specs.Laws.{CoordinatorLeaves}
use Rattle.slot_history.proofs.Own.{calls-go-on}
use Rattle.slot_history.proofs.Table.{table}
use Rattle.slot_history.proofs.Places.{coordinator-owes-nothing}

pub coordinator-leaves : CoordinatorLeaves
coordinator-leaves d w s id jd old new called was =
    let k = (calls-go-on d w (LeaveOwe jd) old new called).allowed in
    let S : ObjectState = state_after d k.0 in
    let here : S.places w ≡ Leading s id = k.5 ∙ was in
    let fine : IsAllowed d S w (LeaveOwe jd) = k.4 in
    true≢false (sym fine.1 ∙ ap (λ p. owes (S.slots (slot_of p)) w) here ∙ coordinator-owes-nothing d S (table d k.0 k.2) s id w k.3 here)
