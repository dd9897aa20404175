use Rattle.station_rows.proofs.threads.visits_alone.Given as goal

abbrev pub ghosts-visits : goal.ghosts-visits
ghosts-visits g a = record { name = a.blank.name; parts = a.blank.parts }
