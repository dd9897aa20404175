-- Worked examples of what is rare: workers that meet in a task set, and queries that are given up.
use Rattle.std.specs.Prelude.{cond, eqb, ltb, [], ◌∷◌, ◌++◌, Some, None}
use Rattle.slot_history.specs.declared.act.Act.TheVariants.{Enter, LookVacant, ClaimUsed, ShutLost}
use Rattle.slot_history.specs.declared.act.Act.TheVariants.{LeaveLeft, LeaveOwe, PayLast, PayDone}
use Rattle.slot_history.specs.declared.act.Act.TheVariants.{MarkMarked, MarkMissed, SweepLast}
use Rattle.slot_history.specs.declared.act.Act.TheVariants.{SweepOthers, ReserveGot, ReserveTaken}
use Rattle.slot_history.specs.declared.act.Act.TheVariants.{AdmitLost, NoteDone, Release}
use Rattle.turn_model.specs.Workloads.{Workload}
use Rattle.turn_model.specs.Moves.{Made, Exchanged}
use Rattle.turn_model.specs.Runs.{desk_at}
use Rattle.turn_model.specs.ExampleTurns.{Example, object_of, plain_load, begins, admits, opens}
use Rattle.turn_model.specs.ExampleTurns.{enters, works, shuts, notes}

-- one query over 8 rows
abbrev counting : Workload
counting = plain_load (λ q. cond (ltb q 1) 1 0) (λ id. cond (eqb id 0) (Some 8) None)

-- Of two workers, worker 0 shuts the task set while worker 1 is inside. It marks worker 1, and its
-- sweep finds a debt. Its next turn is idle: the task set is not done, and no slot is active.
abbrev pub marks : Example
marks = record {
  desk = desk_at (object_of 2 1 1) counting 0;
  moves =
      begins 0 0 1 1 ++
      begins 0 0 0 1 ++
      Made (SweepOthers 1) 0 ∷ Made MarkMarked 0 ∷ shuts 32 ++ enters 0 0 ++ begins 0 0 0 1 ++
      works 16 0 8 800 ++ enters 0 0 ++ begins 0 1 0 1 ++
      opens 2 0 8 ++ admits 0 0 ++ begins 0 0 0 0;
  times = 800 ∷ [];
  largest = 83886;
  widest = 0;
  priority = 10000;
}

-- Worker 1 was marked: it owes when it leaves, pays last, and so finishes the task set.
abbrev pub pays : Example
pays = record {
  desk = desk_at (object_of 2 1 1) counting 1;
  moves =
      begins 0 0 1 1 ++
      Made Release 0 ∷ notes 2 ++ Made PayLast 0 ∷ Made (LeaveOwe 0) 0 ∷ Exchanged ∷
      Made ShutLost 0 ∷ Made (ClaimUsed 16) 0 ∷ Exchanged ∷ enters 0 0 ++ begins 0 1 0 1;
  times = [];
  largest = 0;
  widest = 0;
  priority = 10000;
}

-- Worker 2 of three pays before worker 1 does. First it was too late to admit the query: worker 0
-- had reserved slot 0 for it, and worker 2 held slot 1 in vain.
abbrev pub pays_early : Example
pays_early = record {
  desk = desk_at (object_of 3 2 1) counting 2;
  moves =
      begins 0 0 1 1 ++
      Made PayDone 0 ∷ Made (LeaveOwe 0) 0 ∷ Exchanged ∷ Made ShutLost 0 ∷
      Made (ClaimUsed 16) 0 ∷ Exchanged ∷ enters 0 0 ++ begins 0 1 0 1 ++
      Made Release 0 ∷ Made (AdmitLost 0 1) 0 ∷ Made (ReserveGot 1) 0 ∷ Made (ReserveTaken 0 1) 0 ∷
      begins 0 0 0 0;
  times = [];
  largest = 0;
  widest = 0;
  priority = 10000;
}

-- two queries over 64 rows
abbrev in_turn : Workload
in_turn = plain_load (λ q. cond (ltb q 2) 1 0)
    (λ id. cond (eqb id 0) (Some 64) (cond (eqb id 8) (Some 64) None))

-- There is one slot. Worker 1 of two worked on query 0. It finds query 1 in the slot before it
-- knows of it, and leaves early. When it learns of query 1 by a notice, that query is done.
abbrev pub stranger : Example
stranger = record {
  desk = desk_at (object_of 2 1 2) in_turn 1;
  moves =
      begins 0 0 2 2 ++
      Made LeaveLeft 0 ∷ Made LookVacant 0 ∷ Made (Enter 0) 0 ∷ begins 0 1 2 2 ++
      Made LeaveLeft 0 ∷ enters 0 8 ++ Made (ReserveTaken 0 6) 0 ∷ begins 0 0 0 1 ++
      works 16 0 16 1600 ++ enters 0 0 ++ Made (ReserveTaken 0 6) 0 ∷ begins 0 1 0 1;
  times = 1600 ∷ [];
  largest = 167772;
  widest = 0;
  priority = 10000;
}

-- one query of two stages
abbrev staged : Workload
staged = plain_load (λ q. cond (ltb q 1) 2 0)
    (λ id. cond (eqb id 0) (Some 8) (cond (eqb id 1) (Some 16) None))

-- the query is given up when it was admitted
abbrev pub gives_up : Example
gives_up = record {
  desk = desk_at (object_of 1 1 1) staged 0;
  moves =
      begins 0 0 2 1 ++
      Made Release 0 ∷ Made (NoteDone 2) 0 ∷ admits 0 0 ++ begins 0 0 0 0;
  times = [];
  largest = 0;
  widest = 0;
  priority = 10000;
}

-- it is given up after its first stage, by the one worker of two that finished it
abbrev pub gives_up_late : Example
gives_up_late = record {
  desk = desk_at (object_of 2 1 1) staged 0;
  moves =
      begins 0 0 2 1 ++
      Made Release 0 ∷ Made (NoteDone 2) 0 ∷ Exchanged ∷ Exchanged ∷ Made SweepLast 0 ∷
      Made MarkMissed 0 ∷ shuts 32 ++ enters 0 0 ++ begins 0 0 0 1 ++
      works 16 0 8 800 ++ enters 0 0 ++ begins 0 1 0 1 ++
      opens 2 0 8 ++ admits 0 0 ++ begins 0 0 0 0;
  times = 800 ∷ [];
  largest = 83886;
  widest = 0;
  priority = 10000;
}
