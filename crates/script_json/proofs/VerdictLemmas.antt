-- Bytes have exactly one verdict.
use Rattle.std.proofs.Common.{◌≡◌, ◌≢◌, ℕ, List, Option, Some, None, Ok, Err, refl, sym, ap, ◌∙◌, subst, inl, inr}
use Rattle.std.proofs.lemmas.Bool.{cases_Bool, false≢true}
use Rattle.std.proofs.lemmas.Str.{IsUtf8-from_is_utf8, is_utf8-from_IsUtf8}
use Rattle.std.specs.Prelude.{◌⊎◌, IsUtf8}
use Rattle.std.specs.Str.{is_utf8}
use Rattle.serde_json.specs.Data.{Data}
use Rattle.serde_json.specs.Read.{read}
use Rattle.col_table.specs.Mark.{without_mark}
use Rattle.col_table.specs.Verdicts.{HasOneVerdict}
use Rattle.script_json.specs.Forms.{Reading}
use Rattle.script_json.specs.Format.{script}
use Rattle.script_json.specs.Scripts.{IsJson, ReadsScript, RefusesJson, RefusesScript}
use Rattle.script_json.specs.Verdicts.{IsVerdict}
use Rattle.script_json.specs.WellFormed.{IsScript}
use Rattle.script_json.specs.declared.refusal.ScriptRefusal.{ScriptRefusal}
use Rattle.script_json.specs.declared.refusal.ScriptRefusal.TheVariants.{NotJson, VersionUnknown, UnknownKey, WrongShape, WrongNumber, TooMany, BadText}
use Rattle.script_json.specs.declared.refusal.ScriptRefusal.TheVariants.{TwiceNamed, AfterTooLarge, OutOfMemory}
use Rattle.script_json.specs.declared.script.Script.{Script}
use Rattle.script_json.proofs.FormatMakes.{script-makes}
use Rattle.script_json.proofs.Makes.{IsOfValue, Makes}
use Rattle.script_json.proofs.ReadLemmas.{ReadsScript-unique, RefusesScript-said, same_value}

-- how a refusal comes of bytes
Refused : List ℕ → ScriptRefusal → Type 0
Refused bytes refusal = (refusal ≡ OutOfMemory) ⊎ ((refusal ≡ NotJson) × ((value : Data) → IsJson bytes value → ⊥)) ⊎ RefusesJson bytes refusal

Refused-from : (bytes : List ℕ) (refusal : ScriptRefusal) → RefusesScript bytes refusal → Refused bytes refusal
unfolding Refused
Refused-from bytes NotJson h = inr (inl (refl, h))
Refused-from bytes OutOfMemory h = inl refl
Refused-from bytes VersionUnknown h = inr (inr h)
Refused-from bytes (UnknownKey path) h = inr (inr h)
Refused-from bytes (WrongShape path) h = inr (inr h)
Refused-from bytes (WrongNumber path) h = inr (inr h)
Refused-from bytes (TooMany path) h = inr (inr h)
Refused-from bytes (BadText path) h = inr (inr h)
Refused-from bytes (TwiceNamed path) h = inr (inr h)
Refused-from bytes (AfterTooLarge query) h = inr (inr h)

one_refusal : (bytes : List ℕ) (a b : ScriptRefusal) → a ≢ OutOfMemory → b ≢ OutOfMemory
    → Refused bytes a → Refused bytes b → ◌≡◌ {A = Reading Script} (Err a) (Err b)
unfolding Refused
one_refusal bytes a b known told (inl x) y = absurd (known x)
one_refusal bytes a b known told (inr x) (inl y) = absurd (told y)
one_refusal bytes a b known told (inr (inl x)) (inr (inl y)) = ap Err (x.0 ∙ sym y.0)
one_refusal bytes a b known told (inr (inl x)) (inr (inr y)) = absurd (x.1 y.value y.json)
one_refusal bytes a b known told (inr (inr x)) (inr (inl y)) = absurd (y.1 x.value x.json)
one_refusal bytes a b known told (inr (inr x)) (inr (inr y)) = sym x.says ∙ ap script (same_value bytes x.value y.value x.json y.json) ∙ y.says

never_both : (bytes : List ℕ) (s : Script) (refusal : ScriptRefusal) → refusal ≢ OutOfMemory → ReadsScript bytes s → Refused bytes refusal → ⊥
unfolding Refused
never_both bytes s refusal known x (inl y) = known y
never_both bytes s refusal known x (inr (inl y)) = y.1 x.value x.json
never_both bytes s refusal known x (inr (inr y)) =
    let e : ◌≡◌ {A = Reading Script} (Ok s) (Err refusal) = sym x.says ∙ ap script (same_value bytes x.value y.value x.json y.json) ∙ y.says in
    cc

same_verdict : (bytes : List ℕ) (a b : Reading Script) → IsVerdict bytes a → IsVerdict bytes b → a ≡ b
same_verdict bytes (Ok a) (Ok b) x y = ap Ok (ReadsScript-unique bytes a b x y)
same_verdict bytes (Ok a) (Err f) x y = absurd (never_both bytes a f y.1 x (Refused-from bytes f y.0))
same_verdict bytes (Err e) (Ok b) x y = absurd (never_both bytes b e x.1 y (Refused-from bytes e x.0))
same_verdict bytes (Err e) (Err f) x y = one_refusal bytes e f x.1 y.1 (Refused-from bytes e x.0) (Refused-from bytes f y.0)

-- bytes are the JSON of a value, or of none
abbrev IsJsonOrNot : List ℕ → Type 0
IsJsonOrNot bytes = ((value : Data) × IsJson bytes value) ⊎ ((value : Data) → ¬ IsJson bytes value)

read_or_not : (bytes : List ℕ) (found : Option Data) → IsUtf8 (without_mark bytes) → read (without_mark bytes) ≡ found → IsJsonOrNot bytes
read_or_not bytes None utf8 reads = inr (λ value json. let e = sym reads ∙ json.reads in cc)
read_or_not bytes (Some value) utf8 reads = inl (value, record { utf8 = utf8; reads = reads })

json_or_not : (bytes : List ℕ) → IsJsonOrNot bytes
json_or_not bytes =
    elim (cases_Bool (is_utf8 (without_mark bytes))) [
      | inl text ↦ read_or_not bytes (read (without_mark bytes)) (IsUtf8-from_is_utf8 (without_mark bytes) text) refl
      | inr other ↦ inr (λ value json. false≢true (sym other ∙ is_utf8-from_IsUtf8 (without_mark bytes) json.utf8))
    ]

-- what the format says of the value of bytes is their verdict
verdict_said : (bytes : List ℕ) (value : Data) (said : Reading Script) → IsJson bytes value → script value ≡ said → Makes IsScript said → IsVerdict bytes said
verdict_said bytes value (Ok s) json says makes = record { value = value; json = json; says = says }
verdict_said bytes value (Err refusal) json says makes =
    (RefusesScript-said bytes value refusal json (inr says), λ memory. subst IsOfValue memory makes)

HasOneVerdict-of : (bytes : List ℕ) (verdict : Reading Script) → IsVerdict bytes verdict → HasOneVerdict (IsVerdict bytes)
HasOneVerdict-of bytes verdict is = record {
  verdict = verdict;
  is = is;
  only = λ other x. same_verdict bytes other verdict x is;
}

pub HasOneVerdict-any : (bytes : List ℕ) → HasOneVerdict (IsVerdict bytes)
HasOneVerdict-any bytes =
    elim (json_or_not bytes) [
      | inl (value, json) ↦ HasOneVerdict-of bytes (script value) (verdict_said bytes value (script value) json refl (script-makes value))
      | inr none ↦ HasOneVerdict-of bytes (Err NotJson) (none, λ memory. cc)
    ]
