use Rattle.station_rows.proofs.rows.rows_are_played_on_the_board.Given as goal

abbrev pub ghosts-play : goal.ghosts-play
ghosts-play g a = record { name = a.blank.name; parts = a.blank.parts }
