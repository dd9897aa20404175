use Rattle.run_laws.proofs.Rooms.{room-is-left}
use Rattle.run_laws.proofs.Reported.{merged-is-report}
use Rattle.run_laws.proofs.laws.merged_is_report.Goals as goal

pub returns : goal.returns
returns c = record { room = room-is-left; report = merged-is-report }
