-- What is accepted isn't refused, and a refusal is the only one, where files hold the same.
use Rattle.std.proofs.Common.{◌≡◌, ◌<◌, ℕ, List, [], ◌∷◌, ◌++◌, length, take, get_or, slice_get, None, Some, inl, inr, ap, arith, refl, subst, sym, ◌∙◌}
use Rattle.std.proofs.lemmas.Bool.{cases_lt}
use Rattle.std.proofs.lemmas.List.{get_or-take, length-take-le}
use Rattle.std.proofs.lemmas.Option.{get_or_from_slice_get, slice_get_within}
use Rattle.csv_tables.proofs.Loading.{one_table}
use Rattle.csv_tables.specs.Loading.{LoadsTable, records_of}
use Rattle.csv_tables.specs.Refusals.{RefusesTable}
use Rattle.plan_ast.specs.Names.{refusal_of}
use Rattle.plan_ast.specs.Subject.{Subject}
use Rattle.plan_ast.specs.declared.queries.NamedTable.{NamedTable}
use Rattle.sched_tool.proofs.OutsideLemmas.{SameFiles, SameFiles-swap}
use Rattle.sched_tool.proofs.ReadersLemmas.{loaded_not_refused, one_script, one_script_refusal, one_table_refusal, read_not_refused}
use Rattle.sched_tool.specs.Outsides.{Contents}
use Rattle.sched_tool.specs.Refusals.{IsCheckRefused, IsFirstRefused, IsScriptRefused, IsTableRefused}
use Rattle.script_json.specs.Scripts.{ReadsScript, RefusesScript}
use Rattle.sched_tool.specs.Subjects.{AllAnswerable, Holds, HoldsScript, HoldsSubject, HoldsTable, HoldsTooMuch, HoldTables, IsAccepted, IsAnswerable}
use Rattle.sched_tool.specs.Writing.{IsFinding}
use Rattle.script_json.specs.declared.script.Script.{Script}
use Rattle.script_json.specs.declared.script.TableEntry.{TableEntry}
use Rattle.sched_tool.specs.declared.program.refusal.Refusal.{Refusal}
use Rattle.sched_tool.specs.declared.program.refusal.Refusal.TheVariants.{Usage, CannotRead, Script as ScriptRefused, Table, OutOfMemory}
use Rattle.plan_ast.specs.declared.queries.Query.{Query}
use Rattle.plan_ast.specs.declared.refusals.PlanRefusal.{PlanRefusal}
use Rattle.sched_tool.specs.declared.program.refusal.ScriptFault.{ScriptFault}
use Rattle.sched_tool.specs.declared.program.refusal.ScriptFault.TheVariants as script_fault
use Rattle.sched_tool.specs.declared.program.refusal.TableFault.{TableFault}
use Rattle.sched_tool.specs.declared.program.refusal.TableFault.TheVariants as table_fault

-- an accepted subject has no query that is refused
answerable_not_refused : (tables : List NamedTable) (query : Query) (refusal : PlanRefusal) → IsAnswerable tables query
    → refusal_of tables query ≡ Some refusal → ⊥
answerable_not_refused tables query refusal can why = let e : None ≡ Some refusal = sym can ∙ why in absurd cc

pub found_not_refused : (subject : Subject) (number : ℕ) (refusal : PlanRefusal) → AllAnswerable subject.tables subject.queries
    → IsFirstRefused subject number refusal → ⊥
found_not_refused subject number refusal all first =
    let within = slice_get_within subject.queries number first.query first.is in
    let at : get_or subject.queries number first.query ≡ first.query = get_or_from_slice_get subject.queries number first.query first.query first.is in
    answerable_not_refused subject.tables first.query refusal (subst (IsAnswerable subject.tables) at (all number first.query within)) first.refused

-- a query can't be answered for one reason
same_query_refusal : (tables : List NamedTable) (query : Query) (f g : PlanRefusal) → refusal_of tables query ≡ Some f → refusal_of tables query ≡ Some g
    → f ≡ g
same_query_refusal tables query f g x y = let e : Some f ≡ Some g = sym x ∙ y in cc

-- no query before the first that is refused is refused
not_before : (subject : Subject) (n m : ℕ) (f g : PlanRefusal) → n < m → IsFirstRefused subject n f → IsFirstRefused subject m g → ⊥
not_before subject n m f g before x y =
    let within = slice_get_within subject.queries m y.query y.is in
    let count : length (take m subject.queries) ≡ m = length-take-le m subject.queries (omega arith) in
    let at : get_or subject.queries n x.query ≡ x.query = get_or_from_slice_get subject.queries n x.query x.query x.is in
    let taken : get_or (take m subject.queries) n x.query ≡ get_or subject.queries n x.query = get_or-take m subject.queries n x.query before in
    let answerable = subst (IsAnswerable subject.tables) (taken ∙ at) (y.first n x.query (omega arith)) in
    answerable_not_refused subject.tables x.query f answerable x.refused

one_place : (subject : Subject) (n m : ℕ) (f g : PlanRefusal) → n ≡ m → IsFirstRefused subject n f → IsFirstRefused subject m g
    → script_fault.Query n f ≡ script_fault.Query m g
one_place subject n m f g same x y =
    let here : slice_get subject.queries m ≡ Some x.query = subst (λ k. slice_get subject.queries k ≡ Some x.query) same x.is in
    let both : Some x.query ≡ Some y.query = sym here ∙ y.is in
    let query : x.query ≡ y.query = cc in
    let fault = same_query_refusal subject.tables y.query f g (subst (λ q. refusal_of subject.tables q ≡ Some f) query x.refused) y.refused in
    λ i. script_fault.Query (same i) (fault i)

-- one query is the first that is refused, for one reason
one_first : (subject : Subject) (n m : ℕ) (f g : PlanRefusal) → IsFirstRefused subject n f → IsFirstRefused subject m g
    → script_fault.Query n f ≡ script_fault.Query m g
one_first subject n m f g x y =
    elim (cases_lt n m) [
      | inl before ↦ absurd (not_before subject n m f g before x y)
      | inr within ↦ elim (cases_lt m n) [
        | inl before ↦ absurd (not_before subject m n g f before y x)
        | inr other ↦ one_place subject n m f g (omega arith) x y
      ]
    ]

module _ (a b : Contents) (agree : SameFiles a b) where
  -- what a file holds is of both kinds
  same_bytes : (file : List ℕ) (P Q : List ℕ → Type 0) → Holds a file P → Holds b file Q → (bytes : List ℕ) × P bytes × Q bytes
  same_bytes file P Q x y = (y.bytes, subst P (agree file x.bytes y.bytes x.held y.held) x.kind, y.kind)

  not_too_much : (file : List ℕ) (P : List ℕ → Type 0) → Holds a file P → HoldsTooMuch b file → ⊥
  not_too_much file P x y = let same = ap length (agree file x.bytes y.bytes x.held y.held) in omega (arith, same, x.short, y.long)

  too_much_not : (file : List ℕ) (P : List ℕ → Type 0) → HoldsTooMuch a file → Holds b file P → ⊥
  too_much_not file P x y = let same = ap length (agree file x.bytes y.bytes x.held y.held) in omega (arith, same, x.long, y.short)

  script_is : (file : List ℕ) (s t : Script) → HoldsScript a file s → HoldsScript b file t → s ≡ t
  script_is file s t x y =
      let both = same_bytes file (λ bytes. ReadsScript bytes s) (λ bytes. ReadsScript bytes t) x y in
      one_script both.0 s t both.1 both.2

  table_is : (entry : TableEntry) (s t : NamedTable) → HoldsTable a entry s → HoldsTable b entry t → s ≡ t
  table_is entry s t x y =
      let both = same_bytes entry.file (λ bytes. LoadsTable bytes s.table) (λ bytes. LoadsTable bytes t.table) x.held y.held in
      let rows = one_table (records_of both.0) s.table t.table both.1 both.2 in
      λ i. record { name = (x.name ∙ sym y.name) i; file = (x.file ∙ sym y.file) i; table = rows i }

  tables_are : (entries : List TableEntry) (ss ts : List NamedTable) → HoldTables a entries ss → HoldTables b entries ts → ss ≡ ts
  tables_are [] [] [] x y = refl
  tables_are [] (t ∷ ts) us x y = elim x [ ]
  tables_are [] [] (t ∷ ts) x y = elim y [ ]
  tables_are (e ∷ es) [] us x y = elim x [ ]
  tables_are (e ∷ es) (s ∷ ss) [] x y = elim y [ ]
  tables_are (e ∷ es) (s ∷ ss) (t ∷ ts) x y = λ i. table_is e s t x.0 y.0 i ∷ tables_are es ss ts x.1 y.1 i

  pub subject_is : (file : List ℕ) (s t : Subject) → HoldsSubject a file s → HoldsSubject b file t → s ≡ t
  subject_is file s t x y =
      let script = script_is file x.script y.script x.held y.held in
      let tables = tables_are y.script.tables s.tables t.tables (subst (λ v. HoldTables a v.tables s.tables) script x.tables) y.tables in
      λ i. record { tables = tables i; queries = (x.queries ∙ ap (λ v. v.queries) script ∙ sym y.queries) i }

  -- a table is held for each entry
  table_held : (before : List TableEntry) (entry : TableEntry) (after : List TableEntry) (tables : List NamedTable)
      → HoldTables a (before ++ entry ∷ after) tables → (table : NamedTable) × HoldsTable a entry table
  table_held [] entry after [] x = elim x [ ]
  table_held [] entry after (t ∷ ts) x = (t, x.0)
  table_held (e ∷ es) entry after [] x = elim x [ ]
  table_held (e ∷ es) entry after (t ∷ ts) x = table_held es entry after ts x.1

  not_table : (entry : TableEntry) (table : NamedTable) (fault : TableFault) → HoldsTable a entry table → IsTableRefused b entry.file fault → ⊥
  not_table entry table table_fault.TooLong x y = not_too_much entry.file (λ bytes. LoadsTable bytes table.table) x.held y
  not_table entry table (table_fault.Unread r) x y =
      let both = same_bytes entry.file (λ bytes. LoadsTable bytes table.table) (λ bytes. RefusesTable bytes r) x.held y.1 in
      loaded_not_refused both.0 table.table r both.1 y.0 both.2

  -- no table of a subject is refused
  subject_not_table : (file : List ℕ) (subject : Subject) (name : List ℕ) (fault : TableFault) → HoldsSubject a file subject
      → IsCheckRefused b file (Table name fault) → ⊥
  subject_not_table file subject name fault x y =
      let entry = y.1.0 in
      let next = y.1.1 in
      let script = script_is file x.script next.script x.held next.held in
      let entries = ap (λ s. s.tables) script ∙ next.next.is in
      let held = table_held next.next.before entry next.next.after subject.tables (subst (λ es. HoldTables a es subject.tables) entries x.tables) in
      not_table entry held.0 fault held.1 (subst (λ n. IsTableRefused b n fault) y.1.2 y.0)

  -- a script that is read isn't refused before its queries are
  script_not_unread : (file : List ℕ) (script : Script) (fault : ScriptFault) → HoldsScript a file script → IsScriptRefused b file fault
      → (subject : Subject) × HoldsSubject b file subject × ((number : ℕ) × (r : PlanRefusal) × (fault ≡ script_fault.Query number r)
      × IsFirstRefused subject number r)
  script_not_unread file script script_fault.TooLong x y = absurd (not_too_much file (λ bytes. ReadsScript bytes script) x y)
  script_not_unread file script (script_fault.Unread r) x y =
      let both = same_bytes file (λ bytes. ReadsScript bytes script) (λ bytes. RefusesScript bytes r) x y.1 in
      absurd (read_not_refused both.0 script r both.1 y.0 both.2)
  script_not_unread file script (script_fault.Query number r) x y = (y.0, y.1, (number, r, refl, y.2))

  -- what is accepted isn't refused by what the files hold
  pub accepted_not_refused : (file : List ℕ) (subject : Subject) (r : Refusal) → IsAccepted a file subject → IsFinding r → IsCheckRefused b file r → ⊥
  accepted_not_refused file subject Usage x finding y = y
  accepted_not_refused file subject (CannotRead name) x finding y = finding
  accepted_not_refused file subject (ScriptRefused fault) x finding y =
      let query = script_not_unread file x.held.script fault x.held.held y in
      let same = subject_is file subject query.0 x.held query.1 in
      found_not_refused query.0 query.2.0 query.2.1 (subst (λ s. AllAnswerable s.tables s.queries) same x.answerable) query.2.3
  accepted_not_refused file subject (Table name fault) x finding y = subject_not_table file subject name fault x.held y
  accepted_not_refused file subject OutOfMemory x finding y = finding

  -- a script is refused for one reason
  same_script_fault : (file : List ℕ) (f g : ScriptFault) → IsScriptRefused a file f → IsScriptRefused b file g → f ≡ g
  same_script_fault file script_fault.TooLong script_fault.TooLong x y = refl
  same_script_fault file script_fault.TooLong (script_fault.Unread s) x y = absurd (too_much_not file (λ bytes. RefusesScript bytes s) x y.1)
  same_script_fault file script_fault.TooLong (script_fault.Query m g) x y = absurd (too_much_not file (λ bytes. ReadsScript bytes y.1.script) x y.1.held)
  same_script_fault file (script_fault.Unread r) script_fault.TooLong x y = absurd (not_too_much file (λ bytes. RefusesScript bytes r) x.1 y)
  same_script_fault file (script_fault.Unread r) (script_fault.Unread s) x y =
      let both = same_bytes file (λ bytes. RefusesScript bytes r) (λ bytes. RefusesScript bytes s) x.1 y.1 in
      ap (λ v. script_fault.Unread v) (one_script_refusal both.0 r s x.0 y.0 both.1 both.2)
  same_script_fault file (script_fault.Unread r) (script_fault.Query m g) x y =
      let both = same_bytes file (λ bytes. RefusesScript bytes r) (λ bytes. ReadsScript bytes y.1.script) x.1 y.1.held in
      absurd (read_not_refused both.0 y.1.script r both.2 x.0 both.1)
  same_script_fault file (script_fault.Query n f) script_fault.TooLong x y = absurd (not_too_much file (λ bytes. ReadsScript bytes x.1.script) x.1.held y)
  same_script_fault file (script_fault.Query n f) (script_fault.Unread s) x y =
      let both = same_bytes file (λ bytes. ReadsScript bytes x.1.script) (λ bytes. RefusesScript bytes s) x.1.held y.1 in
      absurd (read_not_refused both.0 x.1.script s both.1 y.0 both.2)
  same_script_fault file (script_fault.Query n f) (script_fault.Query m g) x y =
      let same = subject_is file x.0 y.0 x.1 y.1 in
      one_first y.0 n m f g (subst (λ s. IsFirstRefused s n f) same x.2) y.2

  -- a table is refused for one reason
  same_table_fault : (file : List ℕ) (f g : TableFault) → IsTableRefused a file f → IsTableRefused b file g → f ≡ g
  same_table_fault file table_fault.TooLong table_fault.TooLong x y = refl
  same_table_fault file table_fault.TooLong (table_fault.Unread s) x y = absurd (too_much_not file (λ bytes. RefusesTable bytes s) x y.1)
  same_table_fault file (table_fault.Unread r) table_fault.TooLong x y = absurd (not_too_much file (λ bytes. RefusesTable bytes r) x.1 y)
  same_table_fault file (table_fault.Unread r) (table_fault.Unread s) x y =
      let both = same_bytes file (λ bytes. RefusesTable bytes r) (λ bytes. RefusesTable bytes s) x.1 y.1 in
      ap (λ v. table_fault.Unread v) (one_table_refusal both.0 r s x.0 y.0 both.1 both.2)

same_head : (e f : TableEntry) (es fs : List TableEntry) → e ∷ es ≡ f ∷ fs → e ≡ f
same_head e f es fs is = cc

same_tail : (e f : TableEntry) (es fs : List TableEntry) → e ∷ es ≡ f ∷ fs → es ≡ fs
same_tail e f es fs is = cc

-- the tables of two entries are refused, each after those before it were read: it is one entry
same_entry : (a b : Contents) → SameFiles a b → (u v : List TableEntry) (e f : TableEntry) (after rest : List TableEntry) (ss ts : List NamedTable)
    (p q : TableFault) → u ++ e ∷ after ≡ v ++ f ∷ rest → HoldTables a u ss → HoldTables b v ts → IsTableRefused a e.file p → IsTableRefused b f.file q → e ≡ f
same_entry a b agree [] [] e f after rest ss ts p q is x y one other = same_head e f after rest is
same_entry a b agree [] (g ∷ v) e f after rest ss [] p q is x y one other = elim y [ ]
same_entry a b agree [] (g ∷ v) e f after rest ss (t ∷ ts) p q is x y one other =
    let held = subst (λ k. HoldsTable b k t) (sym (same_head e g after (v ++ f ∷ rest) is)) y.0 in
    absurd (not_table b a (SameFiles-swap a b agree) e t p held one)
same_entry a b agree (g ∷ u) v e f after rest [] ts p q is x y one other = elim x [ ]
same_entry a b agree (g ∷ u) [] e f after rest (s ∷ ss) ts p q is x y one other =
    let held = subst (λ k. HoldsTable a k s) (same_head g f (u ++ e ∷ after) rest is) x.0 in
    absurd (not_table a b agree f s q held other)
same_entry a b agree (g ∷ u) (h ∷ v) e f after rest (s ∷ ss) [] p q is x y one other = elim y [ ]
same_entry a b agree (g ∷ u) (h ∷ v) e f after rest (s ∷ ss) (t ∷ ts) p q is x y one other =
    same_entry a b agree u v e f after rest ss ts p q (same_tail g h (u ++ e ∷ after) (v ++ f ∷ rest) is) x.1 y.1 one other

-- one table of a script is refused, for one reason
same_table : (a b : Contents) → SameFiles a b → (file name other : List ℕ) (p q : TableFault) → IsCheckRefused a file (Table name p)
    → IsCheckRefused b file (Table other q) → ◌≡◌ {A = Refusal} (Table name p) (Table other q)
same_table a b agree file name other p q x y =
    let e = x.1.0 in
    let f = y.1.0 in
    let script = script_is a b agree file x.1.1.script y.1.1.script x.1.1.held y.1.1.held in
    let one = subst (λ n. IsTableRefused a n p) x.1.2 x.0 in
    let next = subst (λ n. IsTableRefused b n q) y.1.2 y.0 in
    let entries = sym x.1.1.next.is ∙ ap (λ s. s.tables) script ∙ y.1.1.next.is in
    let same = same_entry a b agree x.1.1.next.before y.1.1.next.before e f x.1.1.next.after y.1.1.next.after x.1.1.next.loaded y.1.1.next.loaded p q
    entries x.1.1.next.tables y.1.1.next.tables one next in
    let named : name ≡ other = x.1.2 ∙ ap (λ k. k.file) same ∙ sym y.1.2 in
    let fault = same_table_fault a b agree other p q (subst (λ n. IsTableRefused a n p) named x.0) y.0 in
    λ i. Table (named i) (fault i)

-- a table isn't refused if its script is
table_not_script : (a b : Contents) → SameFiles a b → (file name : List ℕ) (fault : TableFault) (cause : ScriptFault) → IsCheckRefused a file (Table name fault)
    → IsScriptRefused b file cause → ⊥
table_not_script a b agree file name fault cause x y =
    let query = script_not_unread a b agree file x.1.1.script cause x.1.1.held y in
    subject_not_table b a (SameFiles-swap a b agree) file query.0 name fault query.1 x

-- `check` is refused for one reason
pub same_refusal : (a b : Contents) → SameFiles a b → (file : List ℕ) (r s : Refusal) → IsFinding r → IsFinding s → IsCheckRefused a file r
    → IsCheckRefused b file s → r ≡ s
same_refusal a b agree file Usage s x y h k = elim h [ ]
same_refusal a b agree file (CannotRead name) s x y h k = elim x [ ]
same_refusal a b agree file OutOfMemory s x y h k = elim x [ ]
same_refusal a b agree file (ScriptRefused fault) Usage x y h k = elim k [ ]
same_refusal a b agree file (ScriptRefused fault) (CannotRead name) x y h k = elim y [ ]
same_refusal a b agree file (ScriptRefused fault) (ScriptRefused other) x y h k = ap (λ v. ScriptRefused v) (same_script_fault a b agree file fault other h k)
same_refusal a b agree file (ScriptRefused fault) (Table name other) x y h k =
    absurd (table_not_script b a (SameFiles-swap a b agree) file name other fault k h)
same_refusal a b agree file (ScriptRefused fault) OutOfMemory x y h k = elim y [ ]
same_refusal a b agree file (Table name fault) Usage x y h k = elim k [ ]
same_refusal a b agree file (Table name fault) (CannotRead other) x y h k = elim y [ ]
same_refusal a b agree file (Table name fault) (ScriptRefused other) x y h k = absurd (table_not_script a b agree file name fault other h k)
same_refusal a b agree file (Table name fault) (Table other cause) x y h k = same_table a b agree file name other fault cause h k
same_refusal a b agree file (Table name fault) OutOfMemory x y h k = elim y [ ]
