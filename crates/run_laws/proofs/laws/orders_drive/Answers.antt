use Rattle.run_laws.proofs.OrdersDrive.{turns-drive, moves-drive}
use Rattle.run_laws.proofs.laws.orders_drive.Goals as goal

pub returns : goal.returns
returns c = record { turns = turns-drive; moves = moves-drive }
