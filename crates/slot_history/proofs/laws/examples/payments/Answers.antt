use Rattle.std.proofs.Common.{refl}
use Rattle.slot_history.proofs.laws.examples.payments.Goals as goal

pub returns : goal.returns
returns c = record { before_sweep = refl; both_before_sweep = refl; stray_last = refl }
