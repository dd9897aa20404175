use Rattle.std.proofs.Common.{◌≡◌, length, map}
use Rattle.std.specs.String.{string_bytes}
use Rattle.sched_tool.specs.Grammar.{given_by, nothing}
use Rattle.sched_tool.specs.Lines.{seen}
use Rattle.sched_tool.proofs.program.line.read_line.Given as goal

abbrev pub invariant-loop-word : goal.invariant-loop-word
invariant-loop-word l = given_by (seen l.line) (map string_bytes l.rest) ≡ given_by nothing (map string_bytes l.fn.words)

abbrev pub decreases-loop-word : goal.decreases-loop-word
decreases-loop-word l = length l.rest
