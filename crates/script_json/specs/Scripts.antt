-- Which bytes are a script, and which refusal the others get.
use Rattle.std.specs.Prelude.{ℕ, ◌≡◌, List, Some, Ok, Err, IsUtf8, ⊤}
use Rattle.serde_json.specs.Data.{Data}
use Rattle.serde_json.specs.Read.{read}
use Rattle.col_table.specs.Mark.{without_mark}
use Rattle.script_json.specs.Format as format
use Rattle.script_json.specs.declared.refusal.ScriptRefusal.{ScriptRefusal}
use Rattle.script_json.specs.declared.refusal.ScriptRefusal.TheVariants.{NotJson, VersionUnknown}
use Rattle.script_json.specs.declared.refusal.ScriptRefusal.TheVariants.{UnknownKey, WrongShape}
use Rattle.script_json.specs.declared.refusal.ScriptRefusal.TheVariants.{WrongNumber, TooMany}
use Rattle.script_json.specs.declared.refusal.ScriptRefusal.TheVariants.{BadText, TwiceNamed}
use Rattle.script_json.specs.declared.refusal.ScriptRefusal.TheVariants.{AfterTooLarge, OutOfMemory}
use Rattle.script_json.specs.declared.script.Script.{Script}

-- bytes are JSON of this value
pub record IsJson (bytes : List ℕ) (value : Data) : Type 0 where
  pub utf8 : IsUtf8 (without_mark bytes)
  pub reads : read (without_mark bytes) ≡ Some value

-- bytes are a script
pub record ReadsScript (bytes : List ℕ) (script : Script) : Type 0 where
  pub value : Data
  pub json : IsJson bytes value
  pub says : format.script value ≡ Ok script

-- bytes are JSON, and this is the first refusal in it
pub record RefusesJson (bytes : List ℕ) (refusal : ScriptRefusal) : Type 0 where
  pub value : Data
  pub json : IsJson bytes value
  pub says : format.script value ≡ Err refusal

-- the cause of each refusal of bytes; memory may run out at any bytes
abbrev pub RefusesScript : List ℕ → ScriptRefusal → Type 0
RefusesScript bytes NotJson = (value : Data) → ¬ IsJson bytes value
RefusesScript bytes OutOfMemory = ⊤
RefusesScript bytes VersionUnknown = RefusesJson bytes VersionUnknown
RefusesScript bytes (UnknownKey path) = RefusesJson bytes (UnknownKey path)
RefusesScript bytes (WrongShape path) = RefusesJson bytes (WrongShape path)
RefusesScript bytes (WrongNumber path) = RefusesJson bytes (WrongNumber path)
RefusesScript bytes (TooMany path) = RefusesJson bytes (TooMany path)
RefusesScript bytes (BadText path) = RefusesJson bytes (BadText path)
RefusesScript bytes (TwiceNamed path) = RefusesJson bytes (TwiceNamed path)
RefusesScript bytes (AfterTooLarge query) = RefusesJson bytes (AfterTooLarge query)
