use Rattle.sched_tool.specs.Behaviours.{Behaviour}
use Rattle.sched_tool.specs.Commands.{behaviour_asked}
use Rattle.sched_tool.specs.Requests.{asked}
use Rattle.sched_tool.specs.Outsides.{possible}
use Rattle.sched_tool.specs.Writing.{SinkState}
use Rattle.sched_tool.proofs.CommandLemmas.{Ends, Ends-from}
use Rattle.sched_tool.proofs.PromiseLemmas.{ends_rightly}
use Rattle.sched_tool.proofs.program.command.command.Goals as goal

pub returns : goal.returns
returns g c =
    let content = g.F.Files.content c.args.files.now in
    let times = g.M.Meter.may_take in
    let may : Behaviour = behaviour_asked (possible content times) c.args.words.now in
    let before = g.F.Files.failed c.args.files.now in
    let after = g.F.Files.failed c.run_command-ended.new.files in
    let old : SinkState = record { written = g.S.Sink.written c.args.out.now; faults = g.S.Sink.faults c.args.out.now } in
    let new : SinkState = record { written = g.S.Sink.written c.tell.new.out; faults = g.S.Sink.faults c.tell.new.out } in
    let result = c.tell.result in
    let ended : Ends may before after old new result = Ends-from may before after old new result c.run_command-ended.result
    c.run_command-ended.ensures.ok c.run_command-ended.ensures.err c.tell.ensures.answered c.tell.ensures.refused in
    record {
      ends = ends_rightly before after old new result content times (asked c.args.words.now) ended;
      kept = c.run_command-ended.ensures.kept;
    }
