use Rattle.std.proofs.Common.{◌<◌, [], arith}
use Rattle.std.proofs.lemmas.List.Elements.{All-nil}
use Rattle.std.specs.Arc.{arc_value}
use Rattle.pool_run.specs.Runs.{turns}
use Rattle.sched_tool.proofs.RunLemmas.{may_run, reports-of}
use Rattle.sched_tool.proofs.program.summary.run_rounds.Goals as goal

pub run_turns-requires : goal.run_turns-requires
run_turns-requires g c =
    may_run (arc_value c.args.plan) 8 128 (turns []) (omega arith, omega arith) (omega arith, omega arith) (All-nil (λ n. n < 8), omega arith) c.requires

pub returns : goal.returns
returns g c = reports-of (arc_value c.args.plan) 8 128 (turns []) c.in_ok-run_turns.ensures.reports
