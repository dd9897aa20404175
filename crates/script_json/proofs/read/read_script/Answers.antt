use Rattle.serde_json.specs.View.{view}
use Rattle.script_json.proofs.ReadLemmas.{IsScript-read, in_bounds-read, refused-IsJson}
use Rattle.script_json.proofs.read.read_script.Goals as goal

pub returns-clause-refused : goal.returns-clause-refused
returns-clause-refused c = refused-IsJson c.args.bytes.now (view c.in_ok-value.value) c.read.result c.in_ok-value.ensures.json c.read.ensures

pub returns-clause-well_formed : goal.returns-clause-well_formed
returns-clause-well_formed c = IsScript-read (view c.in_ok-value.value) c.read.result c.read.ensures

pub returns-clause-in_bounds : goal.returns-clause-in_bounds
returns-clause-in_bounds c = in_bounds-read (view c.in_ok-value.value) c.read.result c.read.ensures
