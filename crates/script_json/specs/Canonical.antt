-- The canonical form of a script: the bytes of the JSON value that is written for it. It has every
-- key of a query, a join and a filter. The keys of an object are in the order of their bytes.
use Rattle.std.specs.Prelude.{ℕ, List}
use Rattle.serde_json.specs.Written.{compact_text}
use Rattle.script_json.specs.Format.{script_value}
use Rattle.script_json.specs.declared.script.Script.{Script}

-- the bytes of a script: its JSON with no space and no line end
abbrev pub script_text : Script → List ℕ
script_text script = compact_text (script_value script)
