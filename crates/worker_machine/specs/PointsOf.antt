-- The point of a turn at which a phase is.
use Rattle.std.specs.Prelude.{ℕ, cond}
use Rattle.turn_model.specs.Points as point
use Rattle.turn_model.specs.Points.{Point}
use Rattle.worker_machine.specs.declared.phase.Phase.{Phase}
use Rattle.worker_machine.specs.declared.phase.Phase.TheVariants.{Ready, Return, Change, Count}
use Rattle.worker_machine.specs.declared.phase.Phase.TheVariants.{Arrive, Scan, Admit, Put, Size}
use Rattle.worker_machine.specs.declared.phase.Phase.TheVariants.{Install, Tell, Give, FreeIt}
use Rattle.worker_machine.specs.declared.phase.Phase.TheVariants.{Look, Early, Take, Claim, Shut}
use Rattle.worker_machine.specs.declared.phase.Phase.TheVariants.{Back, Leave, Ask, Sweep, Pay}
use Rattle.worker_machine.specs.declared.phase.Phase.TheVariants.{Enter, Fetch, Note}

-- of one of so many workers
abbrev pub point_of : ℕ → Phase → Point
point_of workers (Ready turn) = point.Ready turn
point_of workers (Return part) = point.Return part
point_of workers (Change part) = point.Change part
point_of workers Count = point.Count
point_of workers Arrive = point.Arrive
point_of workers (Scan s) = point.Scan s
point_of workers (Admit holder) = point.Admit
point_of workers (Put holder v) = point.Fill v
point_of workers (Size holder) = point.Fill workers
point_of workers (Install holder) = point.Opens
point_of workers (Tell announcer) = point.Tells
point_of workers (Give holder) = cond holder.again (point.Fetch workers) (point.Fill 0)
point_of workers (FreeIt holder) = point.FreeIt
point_of workers (Enter s) = point.Enters s
point_of workers (Look s) = point.Look
point_of workers Early = point.Early
point_of workers (Take s id) = point.Take
point_of workers (Claim s id bench) = point.Claim
point_of workers (Shut spent bench) = point.Shut
point_of workers (Back coordinator bench) = point.Back
point_of workers (Leave coordinator) = point.Leave
point_of workers (Ask coordinator) = point.Ask
point_of workers (Sweep coordinator) = point.Sweep
point_of workers (Pay debt) = point.Pay
point_of workers (Fetch holder v) = point.Fetch v
point_of workers (Note holder answer) = point.Fetch workers
