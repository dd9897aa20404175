use Rattle.run_laws.proofs.Account.{is-accounted}
use Rattle.run_laws.proofs.laws.accounted.Goals as goal

pub returns : goal.returns
returns c = is-accounted
