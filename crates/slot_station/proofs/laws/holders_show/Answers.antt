use Rattle.slot_station.specs.Desks.{own_place}
use Rattle.slot_station.proofs.TokensKept.{token-of}
use Rattle.slot_station.proofs.laws.holders_show.Goals as goal

pub returns : goal.returns
returns g c seen token ours = token-of seen.desk.shape seen.desk.worker (own_place seen) token ours
