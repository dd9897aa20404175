use Rattle.pool_run.proofs.threads.seated.until_over.Given as goal

abbrev pub ghosts-turns : goal.ghosts-turns
ghosts-turns g a = record { name = a.blank.name; parts = a.blank.parts }
