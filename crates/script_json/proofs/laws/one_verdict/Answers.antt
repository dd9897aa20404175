use Rattle.script_json.proofs.VerdictLemmas.{HasOneVerdict-any}
use Rattle.script_json.proofs.laws.one_verdict.Goals as goal

pub returns : goal.returns
returns c = HasOneVerdict-any
