-- What a part of a step ends in, whatever the station.
use Rattle.std.specs.Prelude.{◌≡◌, ◌≢◌, ℕ, ◌+◌, ◌<◌, Option, Some, None}
use Rattle.std.specs.Arc.{arc_value}
use Rattle.plan_ast.specs.declared.answers.Answer.{Answer}
use Rattle.slot_station.specs.declared.token.Coordinator.{Coordinator}
use Rattle.slot_station.specs.declared.token.Holder.{Holder}
use Rattle.worker_machine.specs.declared.kept.Core.{Core}
use Rattle.worker_machine.specs.declared.phase.Phase.{Phase}
use Rattle.worker_machine.specs.declared.phase.Phase.TheVariants.{Ready, Enter, Ask, Sweep, Give}
use Rattle.worker_machine.specs.declared.phase.Phase.TheVariants.{Note as Noting}
use Rattle.worker_machine.specs.Desks.{AreNextMade}
use Rattle.worker_machine.specs.Hands.{EndsQuery, finalised_by}

-- a slot was chosen, or the turn has ended
abbrev pub IsPicked : ℕ → Phase → Type 0
IsPicked slots (Ready e) = Unit {0}
IsPicked slots (Enter s) = s < slots
IsPicked slots _ = ⊥

-- the coordinator asks on, or has asked all others
abbrev pub IsAsked : Coordinator → Phase → Type 0
IsAsked c (Ask d) = (d ≡ c) × (c.asked + 1 ≢ c.workers)
IsAsked c (Sweep d) = (d ≡ c) × (c.asked + 1 ≡ c.workers)
IsAsked c _ = ⊥

-- without an answer the benches of the next task set are in hand, and with one the query has ended
abbrev pub MadeOf : Core → Holder → Option Answer → Type 0
MadeOf core h None = AreNextMade core (finalised_by h)
MadeOf core h (Some answer) = EndsQuery (arc_value core.plan) h answer

-- the holder gives the query up, or notes its task set as done
abbrev pub IsFinishing : Core → Holder → Phase → Type 0
IsFinishing core h (Give k) = k ≡ h
IsFinishing core h (Noting k answer) = (k ≡ h) × MadeOf core h answer
IsFinishing core h _ = ⊥
