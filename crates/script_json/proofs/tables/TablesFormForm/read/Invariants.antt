use Rattle.std.proofs.Common.{◌≡◌, [], length, drop}
use Rattle.serde_json.specs.View.{items_view}
use Rattle.script_json.specs.Forms.{each}
use Rattle.script_json.specs.Format.{table_entry}
use Rattle.script_json.proofs.tables.TablesFormForm.read.Given as goal

abbrev pub invariant-loop-index : goal.invariant-loop-index
invariant-loop-index l =
    record {
      count : length l.tables.items ≡ l.index;
      rest : each table_entry [] (items_view l.items) ≡ each table_entry l.tables.items
          (items_view (drop l.index l.items));
    }
