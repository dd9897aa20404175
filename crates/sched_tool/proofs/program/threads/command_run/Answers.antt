use Rattle.sched_tool.specs.Behaviours.{Behaviour}
use Rattle.sched_tool.specs.Commands.{behaviour_run}
use Rattle.sched_tool.specs.Outsides.{possible}
use Rattle.sched_tool.specs.Requests.{asked}
use Rattle.sched_tool.specs.Writing.{SinkState}
use Rattle.sched_tool.proofs.CommandLemmas.{Ends, Ends-from}
use Rattle.sched_tool.proofs.PromiseLemmas.{run_ends_rightly}
use Rattle.sched_tool.proofs.program.threads.command_run.Goals as goal

pub returns-clause-ends : goal.returns-clause-ends
returns-clause-ends g c =
    let content = g.F.Files.content c.args.files.now in
    let times = g.M.Meter.may_take in
    let ran = c.run_asked-ended.new.ran in
    let may : Behaviour = behaviour_run (possible content times) ran c.args.words.now in
    let before = g.F.Files.failed c.args.files.now in
    let after = g.F.Files.failed c.run_asked-ended.new.files in
    let old : SinkState = record { written = g.S.Sink.written c.args.out.now; faults = g.S.Sink.faults c.args.out.now } in
    let new : SinkState = record { written = g.S.Sink.written c.tell.new.out; faults = g.S.Sink.faults c.tell.new.out } in
    let result = c.tell.result in
    let ended : Ends may before after old new result = Ends-from may before after old new result c.run_asked-ended.result
    c.run_asked-ended.ensures.ok c.run_asked-ended.ensures.err c.tell.ensures.answered c.tell.ensures.refused in
    run_ends_rightly before after old new result content times ran (asked c.args.words.now) ended
