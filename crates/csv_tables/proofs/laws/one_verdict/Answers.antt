use Rattle.csv_tables.proofs.Verdicts.{one_verdict}
use Rattle.csv_tables.proofs.laws.one_verdict.Goals as goal

pub returns : goal.returns
returns c = one_verdict
