-- The lines that say why there is no answer.
use Rattle.std.specs.Prelude.{ℕ, List, ◌++◌, codes, decimal}
use Rattle.csv_tables.specs.RefusalText.{refusal_text as table_refusal_text}
use Rattle.plan_ast.specs.RefusalText.{plan_refusal_text}
use Rattle.report_text.specs.AnswersText.{line}
use Rattle.script_json.specs.Paths.{refusal_text as script_refusal_text}
use Rattle.sched_tool.specs.declared.program.refusal.ScriptFault.{ScriptFault}
use Rattle.sched_tool.specs.declared.program.refusal.ScriptFault.TheVariants as script_fault
use Rattle.sched_tool.specs.declared.program.refusal.TableFault.{TableFault}
use Rattle.sched_tool.specs.declared.program.refusal.TableFault.TheVariants as table_fault
use Rattle.sched_tool.specs.declared.program.refusal.Refusal.{Refusal}
use Rattle.sched_tool.specs.declared.program.refusal.Refusal.TheVariants.{Usage, CannotRead, Script}
use Rattle.sched_tool.specs.declared.program.refusal.Refusal.TheVariants.{Table, OutOfMemory}

abbrev pub script_fault_text : ScriptFault → List ℕ
script_fault_text script_fault.TooLong = codes "too long"
script_fault_text (script_fault.Unread refusal) = script_refusal_text refusal
script_fault_text (script_fault.Query number refusal) =
    codes "query " ++ (decimal number ++ (codes ": " ++ plan_refusal_text refusal))

abbrev pub table_fault_text : TableFault → List ℕ
table_fault_text table_fault.TooLong = codes "too long"
table_fault_text (table_fault.Unread refusal) = table_refusal_text refusal

abbrev pub error_text : Refusal → List ℕ
error_text Usage = codes "error: usage"
error_text (CannotRead file) = codes "error: cannot read " ++ file
error_text (Script fault) = codes "error: script: " ++ script_fault_text fault
error_text (Table file fault) =
    codes "error: table " ++ (file ++ (codes ": " ++ table_fault_text fault))
error_text OutOfMemory = codes "error: out of memory"

-- the line that is written for a refusal
abbrev pub error_bytes : Refusal → List ℕ
error_bytes refusal = line (error_text refusal)
