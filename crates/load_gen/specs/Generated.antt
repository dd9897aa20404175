-- The large input of a number, and the texts of its parts.
use Rattle.std.specs.Prelude.{ℕ, List, [], ◌∷◌, codes}
use Rattle.col_table.specs.NamedRows.{NamedRows}
use Rattle.csv_tables.specs.Loading.{LoadsTable}
use Rattle.csv_tables.specs.Writing.{table_text}
use Rattle.plan_ast.specs.declared.queries.NamedTable.{NamedTable}
use Rattle.script_json.specs.Canonical.{script_text}
use Rattle.script_json.specs.Scripts.{ReadsScript}
use Rattle.script_json.specs.declared.script.Script as scripts
use Rattle.script_json.specs.declared.script.TableEntry.{TableEntry}
use Rattle.load_gen.specs.Draws.{first_state, state_after}
use Rattle.load_gen.specs.Queries.{queries_from}
use Rattle.load_gen.specs.Tables.{table_t, table_u}
use Rattle.load_gen.specs.declared.generated.Generated.{Generated}
use Rattle.load_gen.specs.declared.parts.Part.{Part}
use Rattle.load_gen.specs.declared.parts.Part.TheVariants.{Script, TableT, TableU}

abbrev pub entry_of : List ℕ → List ℕ → TableEntry
entry_of name file = record { name = name; file = file }

abbrev pub named : List ℕ → List ℕ → NamedRows → NamedTable
named name file table = record { name = name; file = file; table = table }

-- a script over the two tables, whose queries are drawn after a state
abbrev pub script_from : ℕ → scripts.Script
script_from state = record {
  tables = entry_of (codes "t") (codes "t.csv") ∷ entry_of (codes "u") (codes "u.csv") ∷ [];
  queries = queries_from state;
}

-- the two tables under their names
abbrev pub named_tables : NamedRows → NamedRows → List NamedTable
named_tables t u =
    named (codes "t") (codes "t.csv") t ∷ named (codes "u") (codes "u.csv") u ∷ []

-- the tables that are drawn after a state, `t` before `u`
abbrev pub tables_from : ℕ → List NamedTable
tables_from state =
    named_tables (table_t state 200000) (table_u (state_after state 600000) 1000)

-- the table `t` comes first, then the table `u`, and then the queries
abbrev pub t_of : ℕ → NamedRows
t_of number = table_t (first_state number) 200000

abbrev pub u_of : ℕ → NamedRows
u_of number = table_u (state_after (first_state number) 600000) 1000

abbrev pub script_of : ℕ → scripts.Script
script_of number = script_from (state_after (first_state number) 601000)

abbrev pub generated : ℕ → Generated
generated number = record {
  script = script_of number;
  tables = named_tables (t_of number) (u_of number);
}

-- the text of a table loads as that table
abbrev pub LoadsBack : NamedTable → Type 0
LoadsBack made = LoadsTable (table_text made.table) made.table

-- the text of a part
abbrev pub part_text : ℕ → Part → List ℕ
part_text number Script = script_text (script_of number)
part_text number TableT = table_text (t_of number)
part_text number TableU = table_text (u_of number)

-- bytes are read as that part
abbrev pub ReadsBack : ℕ → Part → List ℕ → Type 0
ReadsBack number Script bytes = ReadsScript bytes (script_of number)
ReadsBack number TableT bytes = LoadsTable bytes (t_of number)
ReadsBack number TableU bytes = LoadsTable bytes (u_of number)
