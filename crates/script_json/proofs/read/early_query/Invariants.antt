use Rattle.std.proofs.Common.{◌≡◌, ◌≤◌, ◌*◌, drop}
use Rattle.script_json.specs.Format.{first_early}
use Rattle.script_json.proofs.read.early_query.Given as goal

abbrev pub invariant-loop-index : goal.invariant-loop-index
invariant-loop-index l =
    record { small : l.before ≤ 4 * l.index; rest : first_early 0 0 l.queries ≡ first_early l.index l.before (drop l.index l.queries) }
