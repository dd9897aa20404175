use Rattle.sched_tool.proofs.BehaviourLemmas.{one_verdict, one_verdict_by_threads}
use Rattle.sched_tool.proofs.program.laws.one_verdict.Goals as goal

pub returns : goal.returns
returns g c = record { on_one_thread = one_verdict g.M.Meter.may_take; by_threads = one_verdict_by_threads g.M.Meter.may_take }
