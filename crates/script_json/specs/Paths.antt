-- Where a refusal stands in a script, and its text.
use Rattle.std.specs.Prelude.{ℕ, List, [], ◌∷◌, ◌++◌, codes, decimal}
use Rattle.script_json.specs.declared.refusal.PathStep.{PathStep}
use Rattle.script_json.specs.declared.refusal.PathStep.TheVariants.{Key, At}
use Rattle.script_json.specs.declared.refusal.Path.{Path}
use Rattle.script_json.specs.declared.refusal.ScriptRefusal.{ScriptRefusal}
use Rattle.script_json.specs.declared.refusal.ScriptRefusal.TheVariants.{NotJson, VersionUnknown}
use Rattle.script_json.specs.declared.refusal.ScriptRefusal.TheVariants.{UnknownKey, WrongShape}
use Rattle.script_json.specs.declared.refusal.ScriptRefusal.TheVariants.{WrongNumber, TooMany}
use Rattle.script_json.specs.declared.refusal.ScriptRefusal.TheVariants.{BadText, TwiceNamed}
use Rattle.script_json.specs.declared.refusal.ScriptRefusal.TheVariants.{AfterTooLarge, OutOfMemory}

-- the path of the value itself
abbrev pub here : Path
here = record { steps = [] }

-- the path, seen from one step above
abbrev pub lengthened : PathStep → Path → Path
lengthened step path = record { steps = step ∷ path.steps }

-- the refusal, seen from one step above
abbrev pub within : PathStep → ScriptRefusal → ScriptRefusal
within step NotJson = NotJson
within step VersionUnknown = VersionUnknown
within step (UnknownKey path) = UnknownKey (lengthened step path)
within step (WrongShape path) = WrongShape (lengthened step path)
within step (WrongNumber path) = WrongNumber (lengthened step path)
within step (TooMany path) = TooMany (lengthened step path)
within step (BadText path) = BadText (lengthened step path)
within step (TwiceNamed path) = TwiceNamed (lengthened step path)
within step (AfterTooLarge query) = AfterTooLarge query
within step OutOfMemory = OutOfMemory

-- `.key` or `[n]`
abbrev pub step_text : PathStep → List ℕ
step_text (Key key) = codes "." ++ key
step_text (At index) = codes "[" ++ (decimal index ++ codes "]")

abbrev pub steps_text : List PathStep → List ℕ
steps_text [] = []
steps_text (step ∷ steps) = step_text step ++ steps_text steps

-- `$`, and then each step
abbrev pub path_text : Path → List ℕ
path_text path = codes "$" ++ steps_text path.steps

abbrev pub refusal_text : ScriptRefusal → List ℕ
refusal_text NotJson = codes "not json"
refusal_text VersionUnknown = codes "version unknown"
refusal_text (UnknownKey path) = codes "unknown key in " ++ path_text path
refusal_text (WrongShape path) = codes "wrong shape " ++ path_text path
refusal_text (WrongNumber path) = codes "wrong number " ++ path_text path
refusal_text (TooMany path) = codes "too many " ++ path_text path
refusal_text (BadText path) = codes "bad text " ++ path_text path
refusal_text (TwiceNamed path) = codes "named twice " ++ path_text path
refusal_text (AfterTooLarge query) = codes "query " ++ (decimal query ++ codes ": after too large")
refusal_text OutOfMemory = codes "out of memory"
