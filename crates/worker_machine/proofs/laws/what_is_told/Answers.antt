use Rattle.worker_machine.proofs.laws.what_is_told.Goals as goal

pub returns : goal.returns
returns c = λ at ms made room. record { of_work = made.told.tells room; shares = made.shares.are }
