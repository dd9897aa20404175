-- What files hold.
use Rattle.std.proofs.Common.{◌≡◌, ℕ, zero, suc, ◌<◌, List, [], ◌∷◌, ◌++◌, length, Option, Some, None, IfSome, refl, arith}
use Rattle.plan_ast.specs.declared.queries.NamedTable.{NamedTable}
use Rattle.sched_tool.specs.Outsides.{Contents, may_hold}
use Rattle.sched_tool.specs.Subjects.{HoldsTable, HoldsTooMuch, HoldTables}
use Rattle.script_json.specs.declared.script.TableEntry.{TableEntry}

-- contents that are the same at every name are the same
pub same_content : (a b : List ℕ → Option (List ℕ)) → ((any : List ℕ) → a any ≡ b any) → a ≡ b
same_content a b same = λ i. λ any. same any i

-- there are bytes of every length
some_longer : (n : ℕ) → (bytes : List ℕ) × (n < length bytes)
some_longer zero = (0 ∷ [], omega arith)
some_longer (suc n) = let rest : (bytes : List ℕ) × (n < length bytes) = some_longer n in (0 ∷ rest.0, omega arith)

-- bytes that a file may hold, if what is known of it is too long
longer_bytes : (content : Option (List ℕ)) (limit : ℕ) → IfSome content (λ file. limit < length file)
    → (bytes : List ℕ) × IfSome content (λ file. bytes ≡ file) × (limit < length bytes)
longer_bytes None limit h = let longer = some_longer limit in (longer.0, tt, longer.1)
longer_bytes (Some file) limit h = (file, refl, h)

pub holds_too_much : (content : List ℕ → Option (List ℕ)) (file : List ℕ) → IfSome (content file) (λ bytes. 67_108_864 < length bytes)
    → HoldsTooMuch (may_hold content) file
holds_too_much content file long = let bytes = longer_bytes (content file) 67_108_864 long in record { bytes = bytes.0; held = bytes.1; long = bytes.2 }

-- one more table
pub HoldTables-push : (holds : Contents) (entries : List TableEntry) (entry : TableEntry) (tables : List NamedTable) (table : NamedTable)
    → HoldTables holds entries tables → HoldsTable holds entry table → HoldTables holds (entries ++ entry ∷ []) (tables ++ table ∷ [])
HoldTables-push holds [] entry [] table all one = (one, tt)
HoldTables-push holds [] entry (t ∷ ts) table all one = elim all [ ]
HoldTables-push holds (e ∷ es) entry [] table all one = elim all [ ]
HoldTables-push holds (e ∷ es) entry (t ∷ ts) table all one = (all.0, HoldTables-push holds es entry ts table all.1 one)
