use Rattle.std.proofs.Common.{◌≡◌, ◌≤◌, ◌*◌, ◌-◌, ◌^◌, length, take}
use Rattle.std.specs.Prelude.{sum_by}
use Rattle.report_text.specs.declared.report.Record.{Record}
use Rattle.sched_tool.proofs.program.summary.ranges_of.Given as goal

abbrev pub invariant-loop-kept : goal.invariant-loop-kept
invariant-loop-kept l = record {
  sum : l.ranges ≡ sum_by (λ (kept : Record). length kept.claims) (take l.kept-index l.records);
  low : l.ranges ≤ l.kept-index * (2 ^ 64 - 1);
}
