use Rattle.std.proofs.Common.{◌≡◌, subst}
use Rattle.sched_tool.specs.Writing.{IsWritten, SinkState}
use Rattle.sched_tool.specs.ErrorLines.{error_bytes}
use Rattle.sched_tool.specs.declared.program.refusal.Refusal.TheVariants.{OutOfMemory}
use Rattle.sched_tool.proofs.program.command.end_without_memory.Goals as goal

pub returns : goal.returns
returns g c =
    let old : SinkState = record { written = g.S.Sink.written c.args.out.now; faults = g.S.Sink.faults c.args.out.now } in
    let new : SinkState = record { written = g.S.Sink.written c.write_text.new.out; faults = g.S.Sink.faults c.write_text.new.out } in
    let line : c.as_bytes.result.now ≡ error_bytes OutOfMemory = c.as_bytes.ensures.value in
    subst (λ bytes. IsWritten old new bytes 7 c.write_text.result) line c.write_text.ensures
