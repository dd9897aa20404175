-- Scripts and tables in files: which subject a script is, and which files are read.
use Rattle.std.specs.Prelude.{◌≡◌, ◌≤◌, ◌<◌, ◌⊎◌, ℕ, List, [], ◌∷◌, ◌++◌, length, All, map}
use Rattle.std.specs.Prelude.{None}
use Rattle.csv_tables.specs.Loading.{LoadsTable}
use Rattle.plan_ast.specs.Checks.{query_of}
use Rattle.plan_ast.specs.Names.{refusal_of}
use Rattle.plan_ast.specs.Subject.{Subject}
use Rattle.plan_ast.specs.declared.queries.NamedTable.{NamedTable}
use Rattle.plan_ast.specs.declared.queries.Query.{Query}
use Rattle.sched_tool.specs.Outsides.{Contents}
use Rattle.script_json.specs.Scripts.{ReadsScript}
use Rattle.script_json.specs.declared.script.Script.{Script}
use Rattle.script_json.specs.declared.script.TableEntry.{TableEntry}
use Rattle.sched_tool.specs.declared.program.subject.Opened.{Opened}

-- a file holds bytes of this kind, and no more than a file may have
pub record Holds (holds : Contents) (file : List ℕ) (IsKind : List ℕ → Type 0) : Type 0 where
  pub bytes : List ℕ
  pub held : holds file bytes
  pub short : length bytes ≤ 67_108_864
  pub kind : IsKind bytes

-- a file holds more bytes than a file may have
pub record HoldsTooMuch (holds : Contents) (file : List ℕ) : Type 0 where
  pub bytes : List ℕ
  pub held : holds file bytes
  pub long : 67_108_864 < length bytes

-- the file holds this script
abbrev pub HoldsScript : Contents → List ℕ → Script → Type 0
HoldsScript holds file script = Holds holds file (λ bytes. ReadsScript bytes script)

-- the file of a script's entry holds this table
pub record HoldsTable (holds : Contents) (entry : TableEntry) (table : NamedTable) : Type 0 where
  pub held : Holds holds entry.file (λ bytes. LoadsTable bytes table.table)
  pub name : table.name ≡ entry.name
  pub file : table.file ≡ entry.file

-- the files of a script's entries hold these tables
abbrev pub HoldTables : Contents → List TableEntry → List NamedTable → Type 0
HoldTables holds [] [] = Unit {0}
HoldTables holds [] (table ∷ tables) = ⊥
HoldTables holds (entry ∷ entries) [] = ⊥
HoldTables holds (entry ∷ entries) (table ∷ tables) =
    HoldsTable holds entry table × HoldTables holds entries tables

-- the file holds a script, and the files of its entries hold tables: this is the subject
pub record HoldsSubject (holds : Contents) (file : List ℕ) (subject : Subject) : Type 0 where
  pub script : Script
  pub held : HoldsScript holds file script
  pub tables : HoldTables holds script.tables subject.tables
  pub queries : subject.queries ≡ script.queries

-- a query can be answered over tables: each name in it is there
abbrev pub IsAnswerable : List NamedTable → Query → Type 0
IsAnswerable tables query = refusal_of tables query ≡ None

abbrev pub AllAnswerable : List NamedTable → List Query → Type 0
AllAnswerable tables queries = All (IsAnswerable tables) queries

-- the script, its tables and its queries are accepted: this is the subject
pub record IsAccepted (holds : Contents) (file : List ℕ) (subject : Subject) : Type 0 where
  pub held : HoldsSubject holds file subject
  pub answerable : AllAnswerable subject.tables subject.queries

-- the subject of what was opened
abbrev pub subject_in : Opened → Subject
subject_in opened = record {
  tables = opened.tables.items;
  queries = map query_of opened.queries.items;
}

-- the table of this entry is the next to be read: those of the entries before it were read
pub record IsNext (holds : Contents) (entries : List TableEntry) (entry : TableEntry)
    : Type 0 where
  pub before : List TableEntry
  pub after : List TableEntry
  pub is : entries ≡ before ++ entry ∷ after
  pub loaded : List NamedTable
  pub tables : HoldTables holds before loaded

-- the table of this entry of the script in a file is the next to be read
pub record IsNextTable (holds : Contents) (file : List ℕ) (entry : TableEntry) : Type 0 where
  pub script : Script
  pub held : HoldsScript holds file script
  pub next : IsNext holds script.tables entry

-- a file is read: it is that of the script, or that of the table that is the next to be read
abbrev pub IsRead : Contents → List ℕ → List ℕ → Type 0
IsRead holds script file =
    (file ≡ script)
    ⊎ ((entry : TableEntry) × IsNextTable holds script entry × (file ≡ entry.file))
