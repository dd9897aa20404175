use Rattle.std.proofs.Common.{◌≡◌}
use Rattle.csv_tables.specs.Writing.{table_text}
use Rattle.load_gen.specs.Draws.{state_after}
use Rattle.load_gen.specs.Tables.{table_u}
use Rattle.load_gen.proofs.texts.write_u.Given as goal

abbrev pub invariant-loop-row : goal.invariant-loop-row
invariant-loop-row l = record {
  text : l.text.items ≡ table_text (table_u l.fn.draws l.row);
  draws : l.draws ≡ state_after l.fn.draws l.row;
}
