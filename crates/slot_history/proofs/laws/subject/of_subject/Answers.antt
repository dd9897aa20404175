use Rattle.slot_history.proofs.laws.subject.of_subject.Goals as goal
use Rattle.slot_history.proofs.Subject.{subject-shows, subject-goes-on, subject-begins}

pub returns : goal.returns
returns c = record { shows = subject-shows; goes_on = subject-goes-on; begins = subject-begins }
