-- What the readers say of bytes, they say in one way.
use Rattle.std.proofs.Common.{◌≡◌, ◌≢◌, ℕ, List, Result, Ok, Err, inl, inr, sym, ◌∙◌}
use Rattle.col_table.specs.NamedRows.{NamedRows}
use Rattle.csv_tables.proofs.Verdicts.{not_both, one_refusal}
use Rattle.csv_tables.specs.Loading.{LoadsTable, records_of}
use Rattle.csv_tables.specs.Refusals.{RefusesTable}
use Rattle.csv_tables.specs.declared.refusal.TableRefusal.{TableRefusal}
use Rattle.csv_tables.specs.declared.refusal.TableRefusal.TheVariants as table_refusal
use Rattle.script_json.proofs.VerdictLemmas.{HasOneVerdict-any}
use Rattle.script_json.specs.Scripts.{ReadsScript, RefusesScript}
use Rattle.script_json.specs.Verdicts.{IsVerdict}
use Rattle.script_json.specs.declared.refusal.ScriptRefusal.{ScriptRefusal}
use Rattle.script_json.specs.declared.refusal.ScriptRefusal.TheVariants as script_refusal
use Rattle.script_json.specs.declared.script.Script.{Script}

-- ---- scripts

same_ok : (a b : Script) → ◌≡◌ {A = Result Script ScriptRefusal} (Ok a) (Ok b) → a ≡ b
same_ok a b e = cc

same_err : (r s : ScriptRefusal) → ◌≡◌ {A = Result Script ScriptRefusal} (Err r) (Err s) → r ≡ s
same_err r s e = cc

ok_is_no_err : (a : Script) (r : ScriptRefusal) → ◌≡◌ {A = Result Script ScriptRefusal} (Ok a) (Err r) → ⊥
ok_is_no_err a r e = cc

-- bytes have one verdict as a script
same_verdict : (bytes : List ℕ) (v w : Result Script ScriptRefusal) → IsVerdict bytes v → IsVerdict bytes w → v ≡ w
same_verdict bytes v w x y =
    let one = HasOneVerdict-any bytes in
    one.only v x ∙ sym (one.only w y)

-- bytes are one script at most
pub one_script : (bytes : List ℕ) (a b : Script) → ReadsScript bytes a → ReadsScript bytes b → a ≡ b
one_script bytes a b x y = same_ok a b (same_verdict bytes (Ok a) (Ok b) x y)

-- they have one refusal at most
pub one_script_refusal : (bytes : List ℕ) (r s : ScriptRefusal) → r ≢ script_refusal.OutOfMemory → s ≢ script_refusal.OutOfMemory → RefusesScript bytes r
    → RefusesScript bytes s → r ≡ s
one_script_refusal bytes r s cause other x y = same_err r s (same_verdict bytes (Err r) (Err s) (x, cause) (y, other))

-- and none if they are a script
pub read_not_refused : (bytes : List ℕ) (a : Script) (r : ScriptRefusal) → ReadsScript bytes a → r ≢ script_refusal.OutOfMemory → RefusesScript bytes r → ⊥
read_not_refused bytes a r x cause y = ok_is_no_err a r (same_verdict bytes (Ok a) (Err r) x (y, cause))

-- ---- tables

-- bytes have one refusal as a table at most
pub one_table_refusal : (bytes : List ℕ) (r s : TableRefusal) → r ≢ table_refusal.OutOfMemory → s ≢ table_refusal.OutOfMemory → RefusesTable bytes r
    → RefusesTable bytes s → r ≡ s
one_table_refusal bytes r s cause other (inl memory) y = absurd (cause memory)
one_table_refusal bytes r s cause other (inr x) (inl memory) = absurd (other memory)
one_table_refusal bytes r s cause other (inr x) (inr y) = one_refusal (records_of bytes) r s x y

-- and none if they are a table
pub loaded_not_refused : (bytes : List ℕ) (table : NamedRows) (r : TableRefusal) → LoadsTable bytes table → r ≢ table_refusal.OutOfMemory → RefusesTable bytes r
    → ⊥
loaded_not_refused bytes table r loads cause (inl memory) = cause memory
loaded_not_refused bytes table r loads cause (inr x) = not_both (records_of bytes) table r loads x
