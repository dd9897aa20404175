use Rattle.csv_tables.specs.Reading.{IsUnmarked}
use Rattle.csv_tables.proofs.plain.plain_end.Given as goal

abbrev pub invariant-loop-place : goal.invariant-loop-place
invariant-loop-place l = IsUnmarked l.bytes l.fn.start l.place
