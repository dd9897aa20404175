use Rattle.outside_io.proofs.FaultsLemmas.{NameFailed-append}
use Rattle.outside_io.proofs.faults.note_fault.Goals as goal

pub returns-in-Ok-clause-fault : goal.returns-in-Ok-clause-fault
returns-in-Ok-clause-fault c = λ _. NameFailed-append _ _ _ c.in-Ok.ensures.ok
