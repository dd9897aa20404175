use Rattle.turn_model.proofs.OwnMoves.{moves-tell}
use Rattle.turn_model.proofs.laws.moves_tell.Goals as goal

pub returns : goal.returns
returns c = moves-tell
