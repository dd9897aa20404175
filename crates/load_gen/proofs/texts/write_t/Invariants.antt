use Rattle.std.proofs.Common.{◌≡◌, ◌*◌}
use Rattle.csv_tables.specs.Writing.{table_text}
use Rattle.load_gen.specs.Draws.{state_after}
use Rattle.load_gen.specs.Tables.{table_t}
use Rattle.load_gen.proofs.texts.write_t.Given as goal

abbrev pub invariant-loop : goal.invariant-loop
invariant-loop l = record {
  text : l.text.items ≡ table_text (table_t l.fn.draws l.counter);
  draws : l.draws ≡ state_after l.fn.draws (3 * l.counter);
}
