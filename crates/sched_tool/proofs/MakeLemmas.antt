-- `make` reads nothing, whatever faults there were before.
use Rattle.std.proofs.Common.{ℕ, List, Result, Ok, Err, IfOk, IfErr}
use Rattle.sched_tool.specs.Behaviours.{Behaviour}
use Rattle.sched_tool.specs.Commands.{Gives, GivesUp}
use Rattle.sched_tool.specs.declared.program.output.Output.{Output}
use Rattle.sched_tool.specs.declared.program.refusal.Refusal.{Refusal}

pub Gives-quiet : (does : Behaviour) (failed : List (List ℕ)) (r : Result Output Refusal) → IfOk r (λ output. (any : List (List ℕ)) → Gives does any any output)
    → IfOk r (Gives does failed failed)
Gives-quiet does failed (Ok output) gives = gives failed
Gives-quiet does failed (Err refusal) gives = tt

pub GivesUp-quiet : (does : Behaviour) (failed : List (List ℕ)) (r : Result Output Refusal)
    → IfErr r (λ refusal. (any : List (List ℕ)) → GivesUp does any any refusal) → IfErr r (GivesUp does failed failed)
GivesUp-quiet does failed (Ok output) up = tt
GivesUp-quiet does failed (Err refusal) up = up failed
