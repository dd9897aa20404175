-- What a read of bytes says of them.
use Rattle.std.proofs.Common.{◌≡◌, ◌≢◌, ℕ, List, All, IfOk, IfErr, Ok, Err, sym, ap, ◌∙◌, subst}
use Rattle.std.specs.Prelude.{◌⊎◌}
use Rattle.std.proofs.Common.{inl, inr}
use Rattle.serde_json.specs.Data.{Data}
use Rattle.plan_ast.specs.Bounds.{IsInBounds}
use Rattle.script_json.specs.Forms.{Gives, Reading}
use Rattle.script_json.specs.Format.{script}
use Rattle.script_json.specs.Scripts.{IsJson, ReadsScript, RefusesJson, RefusesScript}
use Rattle.script_json.specs.WellFormed.{IsScript}
use Rattle.script_json.specs.declared.refusal.ScriptRefusal.{ScriptRefusal}
use Rattle.script_json.specs.declared.refusal.ScriptRefusal.TheVariants.{NotJson, VersionUnknown, UnknownKey, WrongShape, WrongNumber, TooMany, BadText}
use Rattle.script_json.specs.declared.refusal.ScriptRefusal.TheVariants.{TwiceNamed, AfterTooLarge, OutOfMemory}
use Rattle.script_json.specs.declared.script.Script.{Script}
use Rattle.script_json.proofs.FormatMakes.{script-makes}
use Rattle.script_json.proofs.Makes.{Makes}

-- a refusal other than out of memory is of the JSON value
RefusesJson-said : (bytes : List ℕ) (value : Data) (refusal : ScriptRefusal) → refusal ≢ OutOfMemory → IsJson bytes value
    → (refusal ≡ OutOfMemory) ⊎ (script value ≡ Err refusal) → RefusesJson bytes refusal
RefusesJson-said bytes value refusal known json (inl memory) = absurd (known memory)
RefusesJson-said bytes value refusal known json (inr said) = record { value = value; json = json; says = said }

-- a refusal of a JSON value is one of its bytes
pub RefusesScript-said : (bytes : List ℕ) (value : Data) (refusal : ScriptRefusal) → IsJson bytes value
    → (refusal ≡ OutOfMemory) ⊎ (script value ≡ Err refusal) → RefusesScript bytes refusal
RefusesScript-said bytes value NotJson json (inl e) = absurd cc
RefusesScript-said bytes value NotJson json (inr said) = absurd (subst (λ r. Makes IsScript r) said (script-makes value))
RefusesScript-said bytes value OutOfMemory json h = tt
RefusesScript-said bytes value VersionUnknown json h = RefusesJson-said bytes value _ (λ memory. cc) json h
RefusesScript-said bytes value (UnknownKey path) json h = RefusesJson-said bytes value _ (λ memory. cc) json h
RefusesScript-said bytes value (WrongShape path) json h = RefusesJson-said bytes value _ (λ memory. cc) json h
RefusesScript-said bytes value (WrongNumber path) json h = RefusesJson-said bytes value _ (λ memory. cc) json h
RefusesScript-said bytes value (TooMany path) json h = RefusesJson-said bytes value _ (λ memory. cc) json h
RefusesScript-said bytes value (BadText path) json h = RefusesJson-said bytes value _ (λ memory. cc) json h
RefusesScript-said bytes value (TwiceNamed path) json h = RefusesJson-said bytes value _ (λ memory. cc) json h
RefusesScript-said bytes value (AfterTooLarge query) json h = RefusesJson-said bytes value _ (λ memory. cc) json h

pub refused-IsJson : (bytes : List ℕ) (value : Data) (result : Reading Script)
    → IsJson bytes value → Gives (script value) result → IfErr result (RefusesScript bytes)
refused-IsJson bytes value (Ok read) json gives = tt
refused-IsJson bytes value (Err refusal) json gives = RefusesScript-said bytes value refusal json gives

pub IsScript-read : (value : Data) (result : Reading Script) → Gives (script value) result → IfOk result IsScript
IsScript-read value (Ok read) gives = subst (λ r. Makes IsScript r) gives (script-makes value)
IsScript-read value (Err refusal) gives = tt

pub in_bounds-read : (value : Data) (result : Reading Script) → Gives (script value) result → IfOk result (λ s. All IsInBounds s.queries)
in_bounds-read value (Ok read) gives = let well = subst (λ r. Makes IsScript r) gives (script-makes value) in λ k d within. (well.queries k d within).bounds
in_bounds-read value (Err refusal) gives = tt

-- bytes have one value at most
pub same_value : (bytes : List ℕ) (a b : Data) → IsJson bytes a → IsJson bytes b → a ≡ b
same_value bytes a b x y = let e = sym x.reads ∙ y.reads in cc

-- bytes are one script at most
pub ReadsScript-unique : (bytes : List ℕ) (a b : Script) → ReadsScript bytes a → ReadsScript bytes b → a ≡ b
ReadsScript-unique bytes a b x y =
    let value = same_value bytes x.value y.value x.json y.json in
    let e = sym x.says ∙ ap script value ∙ y.says in cc
