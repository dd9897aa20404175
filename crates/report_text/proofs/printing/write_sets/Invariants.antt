use Rattle.std.proofs.Common.{◌≡◌, ◌++◌, take, flat_map, string_bytes}
use Rattle.report_text.specs.ReportText.{set_bytes}
use Rattle.report_text.proofs.printing.write_sets.Given as goal

abbrev pub invariant-loop-set : goal.invariant-loop-set
invariant-loop-set l = string_bytes l.text ≡ string_bytes l.initial.text ++ flat_map set_bytes (take l.set-index l.sets)
