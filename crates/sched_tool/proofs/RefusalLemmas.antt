-- Why `check` is refused, from why a part of it is.
use Rattle.std.proofs.Common.{◌≡◌, ℕ, List, inl, inr, subst, sym}
use Rattle.plan_ast.specs.Subject.{Subject}
use Rattle.sched_tool.specs.Outsides.{Contents}
use Rattle.sched_tool.specs.ReadFaults.{FaultsAt}
use Rattle.sched_tool.specs.Refusals.{AreQueriesRefused, AreTablesRefused, IsCheckRefused, IsEntryRefused}
use Rattle.sched_tool.specs.Subjects.{AllAnswerable, HoldsScript, HoldsSubject, IsNext}
use Rattle.sched_tool.proofs.UniqueLemmas.{found_not_refused}
use Rattle.script_json.specs.declared.script.Script.{Script}
use Rattle.script_json.specs.declared.script.TableEntry.{TableEntry}
use Rattle.sched_tool.specs.declared.program.refusal.Refusal.{Refusal}
use Rattle.sched_tool.specs.declared.program.refusal.Refusal.TheVariants as refusal

entry_refused : (holds : Contents) (file : List ℕ) (script : Script) (entry : TableEntry) (r : Refusal) → HoldsScript holds file script
    → IsNext holds script.tables entry → IsEntryRefused holds entry r → IsCheckRefused holds file r
entry_refused holds file script entry refusal.Usage held next h = h
entry_refused holds file script entry (refusal.CannotRead name) held next h = inr (entry, record { script = script; held = held; next = next }, h)
entry_refused holds file script entry (refusal.Script fault) held next h = elim h [ ]
entry_refused holds file script entry (refusal.Table name fault) held next h = (h.0, (entry, record { script = script; held = held; next = next }, h.1))
entry_refused holds file script entry refusal.OutOfMemory held next h = tt

pub tables_refused : (holds : Contents) (file : List ℕ) (script : Script) (r : Refusal) → HoldsScript holds file script
    → AreTablesRefused holds script.tables r → IsCheckRefused holds file r
tables_refused holds file script r held (inl is) = subst (IsCheckRefused holds file) (sym is) tt
tables_refused holds file script r held (inr h) = entry_refused holds file script h.0 r held h.1 h.2

pub queries_refused : (holds : Contents) (file : List ℕ) (subject : Subject) (r : Refusal) → HoldsSubject holds file subject → AreQueriesRefused subject r
    → IsCheckRefused holds file r
queries_refused holds file subject r held (inl is) = subst (IsCheckRefused holds file) (sym is) tt
queries_refused holds file subject r held (inr h) = subst (IsCheckRefused holds file) (sym h.2) (subject, held, h.3)

-- queries are refused where no read met a fault
pub FaultsAt-queries : (subject : Subject) (r : Refusal) (old new : List (List ℕ)) → AreQueriesRefused subject r → new ≡ old → FaultsAt r old new
FaultsAt-queries subject r old new (inl is) quiet = subst (λ s. FaultsAt s old new) (sym is) quiet
FaultsAt-queries subject r old new (inr h) quiet = subst (λ s. FaultsAt s old new) (sym h.2) quiet

-- queries that can all be answered are refused only for want of memory
pub only_memory : (subject : Subject) (r : Refusal) → AllAnswerable subject.tables subject.queries → AreQueriesRefused subject r → r ≡ refusal.OutOfMemory
only_memory subject r all (inl is) = is
only_memory subject r all (inr h) = absurd (found_not_refused subject h.0 h.1 all h.3)
