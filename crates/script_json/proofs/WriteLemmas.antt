-- What the bytes of a script that was written say.
use Rattle.std.proofs.Common.{◌≡◌, ℕ, ◌≤◌, List, false, IfOk, Result, Ok, Err, Some, IsUtf8, refl, sym, ap, ◌∙◌, subst}
use Rattle.serde_json.specs.Data.{Data, depth}
use Rattle.serde_json.specs.Read.{read}
use Rattle.serde_json.specs.Written.{compact_text, has_float}
use Rattle.col_table.specs.Mark.{without_mark}
use Rattle.script_json.specs.Canonical.{script_text}
use Rattle.script_json.specs.Format.{script_value}
use Rattle.script_json.specs.Scripts.{ReadsScript}
use Rattle.script_json.specs.WellFormed.{IsScript}
use Rattle.script_json.specs.declared.script.Script.{Script}
use Rattle.script_json.proofs.Outlines.{script-depth, script-float}
use Rattle.script_json.proofs.RoundTrip.{script-back}

text_of-value : (s : Script) (value : Data) (bytes : List ℕ) → value ≡ script_value s → (has_float value ≡ false → bytes ≡ compact_text value) → bytes
    ≡ script_text s
text_of-value s value bytes is text = text (ap has_float is ∙ script-float s) ∙ ap compact_text is

-- a canonical text begins with a brace, and with no mark
unmarked : (s : Script) → without_mark (script_text s) ≡ script_text s
unmarked s = refl

ReadsScript-value : (s : Script) (value : Data) (bytes : List ℕ) → IsScript s → value ≡ script_value s
    → (has_float value ≡ false → bytes ≡ compact_text value) → IsUtf8 bytes → (depth value ≤ 127 → read bytes ≡ Some value) → ReadsScript bytes s
ReadsScript-value s value bytes well is text utf8 reads =
    let written : bytes ≡ script_text s = text_of-value s value bytes is text in
    let same : without_mark bytes ≡ bytes = ap without_mark written ∙ unmarked s ∙ sym written in
    let shallow : depth value ≤ 127 = subst (λ v. depth v ≤ 127) (sym is) (script-depth s) in
    record {
      value = script_value s;
      json = record { utf8 = subst IsUtf8 (sym same) utf8; reads = ap read same ∙ reads shallow ∙ ap Some is };
      says = script-back s well;
    }

pub text-written : {B E : Type 0} (items : B → List ℕ) (s : Script) (value : Data) (result : Result B E) → value ≡ script_value s
    → IfOk result (λ b. has_float value ≡ false → items b ≡ compact_text value) → IfOk result (λ b. items b ≡ script_text s)
text-written items s value (Ok b) is text = text_of-value s value (items b) is text
text-written items s value (Err e) is text = tt

pub ReadsScript-written : {B E : Type 0} (items : B → List ℕ) (s : Script) (value : Data) (result : Result B E) → IsScript s → value ≡ script_value s
    → IfOk result (λ b. has_float value ≡ false → items b ≡ compact_text value) → IfOk result (λ b. IsUtf8 (items b))
    → IfOk result (λ b. depth value ≤ 127 → read (items b) ≡ Some value) → IfOk result (λ b. ReadsScript (items b) s)
ReadsScript-written items s value (Ok b) well is text utf8 reads = ReadsScript-value s value (items b) well is text utf8 reads
ReadsScript-written items s value (Err e) well is text utf8 reads = tt
