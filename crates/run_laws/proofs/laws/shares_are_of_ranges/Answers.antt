use Rattle.run_laws.proofs.SharesTell.{shares-are-of-ranges}
use Rattle.run_laws.proofs.Amounts.{counts-are-small}
use Rattle.run_laws.proofs.SharesMerge.{shares-are-merged}
use Rattle.run_laws.proofs.laws.shares_are_of_ranges.Goals as goal

pub returns : goal.returns
returns c = record { one = shares-are-of-ranges; small = counts-are-small; all = shares-are-merged }
