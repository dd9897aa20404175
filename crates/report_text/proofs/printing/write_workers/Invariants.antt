use Rattle.std.proofs.Common.{◌≡◌, ◌++◌, take, flat_map, string_bytes}
use Rattle.report_text.specs.ReportText.{worker_bytes}
use Rattle.report_text.proofs.printing.write_workers.Given as goal

abbrev pub invariant-loop-gap : goal.invariant-loop-gap
invariant-loop-gap l = string_bytes l.text ≡ string_bytes l.initial.text ++ flat_map (worker_bytes l.shares) (take l.gap-index l.gaps)
