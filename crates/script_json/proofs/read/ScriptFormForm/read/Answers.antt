use Rattle.serde_json.specs.View.{view}
use Rattle.script_json.proofs.FormatMakes.{members-queries}
use Rattle.script_json.proofs.read.ScriptFormForm.read.Goals as goal

pub early_query-requires-clause-in_bounds : goal.early_query-requires-clause-in_bounds
early_query-requires-clause-in_bounds c =
    let queries = members-queries (view c.args.value.now) c.in_ok-script.script c.in_ok-script.ensures in
    rw c.as_slice.ensures queries.0

pub early_query-requires-clause-few : goal.early_query-requires-clause-few
early_query-requires-clause-few c =
    let queries = members-queries (view c.args.value.now) c.in_ok-script.script c.in_ok-script.ensures in
    rw c.as_slice.ensures queries.1
