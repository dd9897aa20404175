use Rattle.slot_station.proofs.ExchangesSeen.{exchanges-go-on}
use Rattle.slot_station.proofs.laws.exchanges_go_on.Goals as goal

pub returns : goal.returns
returns g c = exchanges-go-on g.B.Fits.fits g.S.Station.Origin
