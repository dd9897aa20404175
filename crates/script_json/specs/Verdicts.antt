-- What bytes are: a script, or a first refusal.
use Rattle.std.specs.Prelude.{ℕ, ◌≢◌, List, Ok, Err}
use Rattle.script_json.specs.Forms.{Reading}
use Rattle.script_json.specs.Scripts.{ReadsScript, RefusesScript}
use Rattle.script_json.specs.declared.refusal.ScriptRefusal.TheVariants.{OutOfMemory}
use Rattle.script_json.specs.declared.script.Script.{Script}

-- bytes are this script, or this is their first refusal; out of memory says nothing about bytes
abbrev pub IsVerdict : List ℕ → Reading Script → Type 0
IsVerdict bytes (Ok script) = ReadsScript bytes script
IsVerdict bytes (Err refusal) = RefusesScript bytes refusal × (refusal ≢ OutOfMemory)
