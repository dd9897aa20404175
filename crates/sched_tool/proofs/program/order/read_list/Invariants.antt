use Rattle.std.proofs.Common.{◌≡◌, ◌++◌, ◌+◌, ◌<◌, length}
use Rattle.std.specs.Option.{option_map}
use denote.Text.{Utf8}
use denote.Shadow.{shadow}
use Rattle.sched_tool.specs.Words.{fields_of, numbers_of}
use Rattle.sched_tool.proofs.program.order.read_list.Given as goal

-- the numbers so far, and then those of the rest, are those of the whole text
abbrev pub invariant-loop-field : goal.invariant-loop-field
invariant-loop-field l = shadow (Utf8 l.rest)
    × (length l.list.items < 4096)
    × (length l.list.items + length (fields_of l.rest) ≡ length (fields_of l.fn.text))
    × (option_map (λ more. l.list.items ++ more) (numbers_of l.greatest (fields_of l.rest)) ≡ numbers_of l.greatest (fields_of l.fn.text))

abbrev pub decreases-loop-field : goal.decreases-loop-field
decreases-loop-field l = length l.rest
