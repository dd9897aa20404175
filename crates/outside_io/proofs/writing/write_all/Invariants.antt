use Rattle.std.proofs.Common.{◌≡◌, ◌-◌, ◌≤◌, length, take, drop}
use Rattle.std.specs.Io.KnownBytes.{Appends}
use Rattle.outside_io.proofs.writing.write_all.Given as goal

abbrev pub invariant-loop-rest : goal.invariant-loop-rest
invariant-loop-rest g l = record {
  rest_is : l.rest ≡ drop (length l.bytes - length l.rest) l.bytes;
  within : length l.rest ≤ length l.bytes;
  written : Appends (g.S.Sink.written l.fn.sink) (g.S.Sink.written l.sink) (take (length l.bytes - length l.rest) l.bytes);
  no_fault : g.S.Sink.faults l.sink ≡ g.S.Sink.faults l.fn.sink;
}

abbrev pub decreases-loop-rest : goal.decreases-loop-rest
decreases-loop-rest g l = length l.rest
