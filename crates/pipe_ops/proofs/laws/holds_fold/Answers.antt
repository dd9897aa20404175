use Rattle.pipe_ops.proofs.HoldsLemmas.{holds_fold-stages}
use Rattle.pipe_ops.proofs.laws.holds_fold.Goals as goal

pub returns : goal.returns
returns c = holds_fold-stages
