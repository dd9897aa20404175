use Rattle.std.proofs.Common.{◌≡◌, drop, map}
use Rattle.std.specs.String.{string_bytes}
use Rattle.sched_tool.specs.Grammar.{with_words}
use Rattle.sched_tool.specs.Lines.{seen}
use Rattle.sched_tool.proofs.program.line.with_words.Given as goal

abbrev pub invariant-loop-word : goal.invariant-loop-word
invariant-loop-word l = with_words (seen l.line) (map string_bytes (drop l.word-index l.words)) ≡ with_words (seen l.fn.line) (map string_bytes l.words)
