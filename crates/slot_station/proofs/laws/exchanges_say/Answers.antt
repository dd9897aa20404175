use Rattle.slot_station.proofs.ExchangesSeen.{exchanges-say}
use Rattle.slot_station.proofs.laws.exchanges_say.Goals as goal

pub returns : goal.returns
returns g c = exchanges-say g.B.Fits.fits g.S.Station.Origin
