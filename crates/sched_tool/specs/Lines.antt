-- A line of options and words as the grammar sees it: the bytes of its texts.
use Rattle.std.specs.Prelude.{ℕ, List, Option}
use Rattle.std.specs.Borrow.{Bor}
use Rattle.std.specs.Option.{option_map}
use Rattle.sched_tool.specs.Grammar.{Given}
use Rattle.sched_tool.specs.declared.program.line.Line.{Line}

-- the text that is given, if one is
abbrev pub text_of : Option (Bor (List ℕ)) → Option (List ℕ)
text_of = option_map (λ text. text.now)

-- what the words gave, as texts
abbrev pub seen : Line → Given
seen line = record {
  workers = text_of line.workers;
  slots = text_of line.slots;
  order = text_of line.order;
  first = text_of line.first;
  second = text_of line.second;
}
