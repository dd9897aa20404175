use Rattle.station_rows.proofs.rows.rows_are_played_on_states.Given as goal

abbrev pub ghosts-play : goal.ghosts-play
ghosts-play g a = record { name = a.blank.name; parts = a.blank.parts }
