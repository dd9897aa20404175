use Rattle.std.proofs.Common.{◌≡◌}
use Rattle.std.specs.Arc.{arc_value}
use Rattle.pipe_ops.specs.Inputs.{AreInputs, checked_in, tables_in}
use Rattle.pipe_ops.proofs.stage_tests.staged.Given as goal

abbrev pub invariant-loop-stage : goal.invariant-loop-stage
invariant-loop-stage l = record {
  are : AreInputs l.inputs;
  at : l.inputs.stage ≡ l.stage;
  tables : tables_in l.inputs ≡ (arc_value l.tables).items;
  checked : checked_in l.inputs ≡ arc_value l.checked;
}
