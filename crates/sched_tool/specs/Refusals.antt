-- Why a script, its tables and its queries are refused.
use Rattle.std.specs.Prelude.{◌≡◌, ◌≢◌, ◌⊎◌, ℕ, List, take, Some, slice_get}
use Rattle.csv_tables.specs.Refusals.{RefusesTable}
use Rattle.csv_tables.specs.declared.refusal.TableRefusal.TheVariants as table
use Rattle.plan_ast.specs.Names.{refusal_of}
use Rattle.plan_ast.specs.Subject.{Subject}
use Rattle.plan_ast.specs.declared.queries.Query.{Query}
use Rattle.plan_ast.specs.declared.refusals.PlanRefusal.{PlanRefusal}
use Rattle.plan_ast.specs.declared.refusals.PlanRefusal.TheVariants as plan
use Rattle.sched_tool.specs.Outsides.{Contents}
use Rattle.script_json.specs.Scripts.{RefusesScript}
use Rattle.sched_tool.specs.Subjects.{AllAnswerable, Holds, HoldsSubject, HoldsTooMuch, IsNext}
use Rattle.sched_tool.specs.Subjects.{IsNextTable, IsRead}
use Rattle.script_json.specs.declared.refusal.ScriptRefusal.TheVariants as script
use Rattle.script_json.specs.declared.script.TableEntry.{TableEntry}
use Rattle.sched_tool.specs.declared.program.refusal.ScriptFault.{ScriptFault}
use Rattle.sched_tool.specs.declared.program.refusal.ScriptFault.TheVariants as script_fault
use Rattle.sched_tool.specs.declared.program.refusal.TableFault.{TableFault}
use Rattle.sched_tool.specs.declared.program.refusal.TableFault.TheVariants as table_fault
use Rattle.sched_tool.specs.declared.program.refusal.Refusal.{Refusal}
use Rattle.sched_tool.specs.declared.program.refusal.Refusal.TheVariants.{Usage, CannotRead, Script}
use Rattle.sched_tool.specs.declared.program.refusal.Refusal.TheVariants.{Table, OutOfMemory}

-- the first query that can't be answered has this number, and this is why
pub record IsFirstRefused (subject : Subject) (number : ℕ) (refusal : PlanRefusal) : Type 0 where
  pub query : Query
  pub is : slice_get subject.queries number ≡ Some query
  pub refused : refusal_of subject.tables query ≡ Some refusal
  pub first : AllAnswerable subject.tables (take number subject.queries)

-- why the script in a file is refused; that memory ran out is no cause
abbrev pub IsScriptRefused : Contents → List ℕ → ScriptFault → Type 0
IsScriptRefused holds file script_fault.TooLong = HoldsTooMuch holds file
IsScriptRefused holds file (script_fault.Unread refusal) =
    (refusal ≢ script.OutOfMemory) × Holds holds file (λ bytes. RefusesScript bytes refusal)
IsScriptRefused holds file (script_fault.Query number refusal) =
    (subject : Subject) × HoldsSubject holds file subject × IsFirstRefused subject number refusal

-- why the table in a file is refused; that memory ran out is no cause
abbrev pub IsTableRefused : Contents → List ℕ → TableFault → Type 0
IsTableRefused holds file table_fault.TooLong = HoldsTooMuch holds file
IsTableRefused holds file (table_fault.Unread refusal) =
    (refusal ≢ table.OutOfMemory) × Holds holds file (λ bytes. RefusesTable bytes refusal)

-- why `check` of the script in a file is refused
abbrev pub IsCheckRefused : Contents → List ℕ → Refusal → Type 0
IsCheckRefused holds file Usage = ⊥
IsCheckRefused holds file (CannotRead name) = IsRead holds file name
IsCheckRefused holds file (Script fault) = IsScriptRefused holds file fault
IsCheckRefused holds file (Table name fault) = IsTableRefused holds name fault
    × ((entry : TableEntry) × IsNextTable holds file entry × (name ≡ entry.file))
IsCheckRefused holds file OutOfMemory = Unit {0}

-- ---- parts of `check`

-- why the table of an entry is refused
abbrev pub IsEntryRefused : Contents → TableEntry → Refusal → Type 0
IsEntryRefused holds entry (CannotRead name) = name ≡ entry.file
IsEntryRefused holds entry (Table name fault) =
    IsTableRefused holds name fault × (name ≡ entry.file)
IsEntryRefused holds entry OutOfMemory = Unit {0}
IsEntryRefused holds entry refusal = ⊥

-- why the tables of a script are refused: the next to be read is, or memory ran out
abbrev pub AreTablesRefused : Contents → List TableEntry → Refusal → Type 0
AreTablesRefused holds entries refusal = (refusal ≡ OutOfMemory)
    ⊎ ((entry : TableEntry) × IsNext holds entries entry × IsEntryRefused holds entry refusal)

-- the refusal of `check` that a refused query brings
abbrev pub query_refusal : ℕ → PlanRefusal → Refusal
query_refusal number plan.OutOfMemory = OutOfMemory
query_refusal number refusal = Script (script_fault.Query number refusal)

-- why the queries of a subject are refused: the first that is, or memory ran out
abbrev pub AreQueriesRefused : Subject → Refusal → Type 0
AreQueriesRefused subject refusal = (refusal ≡ OutOfMemory)
    ⊎ ((number : ℕ) × (cause : PlanRefusal) × (refusal ≡ Script (script_fault.Query number cause))
    × IsFirstRefused subject number cause)
