use Rattle.turn_model.proofs.LetIn.{looks-fit, one-slot-lets-in}
use Rattle.turn_model.proofs.PointsSay.{claims-are-let-in}
use Rattle.turn_model.proofs.laws.one_slot_is_enough.Goals as goal

pub returns : goal.returns
returns c = record { looks = looks-fit; claims = claims-are-let-in; one = one-slot-lets-in }
