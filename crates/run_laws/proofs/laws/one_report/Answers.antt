use Rattle.run_laws.proofs.OneReport.{one-report}
use Rattle.run_laws.proofs.laws.one_report.Goals as goal

pub returns : goal.returns
returns c = one-report
