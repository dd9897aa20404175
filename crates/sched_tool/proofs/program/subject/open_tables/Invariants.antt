use Rattle.std.proofs.Common.{◌≡◌, ℕ, List, ◌++◌}
use Rattle.std.specs.Vec.Iter.{into_iter_items}
use Rattle.sched_tool.specs.Outsides.{may_hold}
use Rattle.sched_tool.specs.Subjects.{HoldTables}
use Rattle.sched_tool.proofs.program.subject.open_tables.Given as goal

abbrev pub invariant-loop-entry : goal.invariant-loop-entry
invariant-loop-entry g l = record {
  kept : (any : List ℕ) → g.F.Files.content l.files any ≡ g.F.Files.content l.fn.files any;
  no_fault : g.F.Files.failed l.files ≡ g.F.Files.failed l.fn.files;
  split : l.fn.entries ≡ l.yielded ++ into_iter_items l.entry-iterator;
  tables : HoldTables (may_hold (g.F.Files.content l.fn.files)) l.yielded l.tables.items;
}
