use Rattle.station_rows.proofs.threads.four_threads_share_a_task_set.Given as goal

abbrev pub ghosts-share : goal.ghosts-share
ghosts-share g a = record { name = a.blank.name; parts = a.blank.parts }
