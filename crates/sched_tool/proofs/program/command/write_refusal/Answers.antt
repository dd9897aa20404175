use Rattle.std.proofs.Common.{◌≡◌, inl, inr, refl, subst, ◌∙◌}
use Rattle.sched_tool.specs.Writing.{IsWritten, SinkState}
use Rattle.sched_tool.specs.ErrorLines.{error_bytes}
use Rattle.sched_tool.specs.declared.program.refusal.Refusal.TheVariants.{OutOfMemory}
use Rattle.sched_tool.proofs.program.command.write_refusal.Goals as goal

pub returns-in-Ok : goal.returns-in-Ok
returns-in-Ok g c =
    let old : SinkState = record { written = g.S.Sink.written c.args.out.now; faults = g.S.Sink.faults c.args.out.now } in
    let new : SinkState = record { written = g.S.Sink.written c.write_text.new.out; faults = g.S.Sink.faults c.write_text.new.out } in
    let line : c.as_bytes.result.now ≡ error_bytes c.args.refusal.now = c.as_bytes.ensures.value ∙ c.in-Ok.ensures.ok in
    let with_line = subst (λ bytes. IsWritten old new bytes c.status_of.result c.write_text.result) line c.write_text.ensures in
    record {
      told = c.args.refusal.now;
      is = inl refl;
      written = subst (λ status. IsWritten old new
          (error_bytes c.args.refusal.now) status c.write_text.result) c.status_of.ensures with_line;
    }

pub returns-in-Err : goal.returns-in-Err
returns-in-Err g c = record { told = OutOfMemory; is = inr refl; written = c.end_without_memory.ensures }
