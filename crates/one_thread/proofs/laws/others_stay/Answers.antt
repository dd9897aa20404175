use Rattle.one_thread.proofs.Others.{others-stay}
use Rattle.one_thread.proofs.laws.others_stay.Goals as goal

pub returns : goal.returns
returns g c = others-stay
