use Rattle.std.proofs.Common.{◌≡◌, ◌++◌, map, take, flat_map, string_bytes}
use Rattle.report_text.specs.AnswersText.{line, group_line}
use Rattle.report_text.proofs.answers.write_groups.Given as goal

abbrev pub invariant-loop-group : goal.invariant-loop-group
invariant-loop-group l = string_bytes l.text ≡ string_bytes l.initial.text ++ flat_map line (map group_line (take l.group-index l.groups))
