-- Worked examples: moves that the definitions allow, and what they give. The newest turn stands
-- first, and each turn ends with its `begins`.
use Rattle.std.specs.Prelude.{cond, eqb, ltb, [], ◌∷◌, ◌++◌, Some, None}
use Rattle.slot_history.specs.declared.act.Act.TheVariants.{Enter, LookVacant, LeaveLeft}
use Rattle.slot_history.specs.declared.act.Act.TheVariants.{MarkMissed, SweepLast, ReserveTaken}
use Rattle.slot_history.specs.declared.act.Act.TheVariants.{Release}
use Rattle.turn_model.specs.Workloads.{Workload}
use Rattle.turn_model.specs.Moves.{Made}
use Rattle.turn_model.specs.Runs.{desk_at}
use Rattle.turn_model.specs.ExampleTurns.{Example, object_of, plain_load, begins, admits, opens}
use Rattle.turn_model.specs.ExampleTurns.{enters, works, shuts, notes}

-- one query that groups three rows
abbrev grouping : Workload
grouping = plain_load (λ q. cond (ltb q 1) 2 0)
    (λ id. cond (eqb id 0) (Some 3) (cond (eqb id 1) (Some 16) None))

-- one worker does it all
abbrev pub one_worker : Example
one_worker = record {
  desk = desk_at (object_of 1 1 1) grouping 0;
  moves =
      begins 0 0 2 1 ++
      Made Release 0 ∷ notes 1 ++ Made SweepLast 0 ∷ shuts 32 ++ enters 0 1 ++ begins 0 0 1 1 ++
      works 16 0 16 1600 ++ enters 0 1 ++ begins 1 0 1 1 ++
      opens 1 1 16 ++ notes 1 ++ Made SweepLast 0 ∷ shuts 32 ++ enters 0 0 ++ begins 0 0 0 1 ++
      works 16 0 3 300 ++ enters 0 0 ++ begins 0 1 0 1 ++
      opens 1 0 3 ++ admits 0 0 ++ begins 0 0 0 0;
  times = 300 ∷ 1600 ∷ [];
  largest = 167772;
  widest = 0;
  priority = 10000;
}

-- two workers, by the order 1, 0, 1
abbrev pub first_of_two : Example
first_of_two = record {
  desk = desk_at (object_of 2 1 1) grouping 0;
  moves =
      begins 0 0 2 1 ++
      Made LeaveLeft 0 ∷ Made LookVacant 0 ∷ Made (Enter 0) 0 ∷ begins 0 0 2 1 ++
      works 16 0 16 1600 ++ enters 0 1 ++ begins 1 0 1 1 ++
      works 16 0 3 300 ++ enters 0 0 ++ begins 0 1 0 1;
  times = 300 ∷ 1600 ∷ [];
  largest = 167772;
  widest = 0;
  priority = 10000;
}

abbrev pub second_of_two : Example
second_of_two = record {
  desk = desk_at (object_of 2 1 1) grouping 1;
  moves =
      begins 0 0 2 1 ++
      Made Release 0 ∷ notes 2 ++ Made SweepLast 0 ∷ Made MarkMissed 0 ∷ shuts 16 ++ enters 0 1 ++
      begins 1 0 1 1 ++
      opens 2 1 16 ++ notes 2 ++ Made SweepLast 0 ∷ Made MarkMissed 0 ∷ shuts 16 ++ enters 0 0 ++
      begins 0 1 0 1 ++
      opens 2 0 3 ++ admits 0 0 ++ begins 0 0 0 0;
  times = [];
  largest = 0;
  widest = 0;
  priority = 10000;
}

-- no query, one worker
abbrev pub no_query : Example
no_query = record {
  desk = desk_at (object_of 1 1 0) (plain_load (λ q. 0) (λ id. None)) 0;
  moves =
      begins 0 0 0 0;
  times = [];
  largest = 0;
  widest = 0;
  priority = 10000;
}

-- a query that groups no rows, one worker
abbrev grouping_none : Workload
grouping_none = plain_load (λ q. cond (ltb q 1) 2 0)
    (λ id. cond (eqb id 0) (Some 0) (cond (eqb id 1) (Some 16) None))

abbrev pub no_rows : Example
no_rows = record {
  desk = desk_at (object_of 1 1 1) grouping_none 0;
  moves =
      begins 0 0 2 1 ++
      Made Release 0 ∷ notes 1 ++ Made SweepLast 0 ∷ shuts 32 ++ enters 0 1 ++ begins 0 0 1 1 ++
      works 16 0 16 1600 ++ enters 0 1 ++ begins 1 0 1 1 ++
      opens 1 1 16 ++ notes 1 ++ Made SweepLast 0 ∷ shuts 16 ++ enters 0 0 ++ begins 0 1 0 1 ++
      opens 1 0 0 ++ admits 0 0 ++ begins 0 0 0 0;
  times = 1600 ∷ [];
  largest = 167772;
  widest = 0;
  priority = 10000;
}

-- two queries of weights 10 and 5, one worker
abbrev two_load : Workload
two_load = record (plain_load (λ q. cond (ltb q 2) 1 0)
    (λ id. cond (eqb id 0) (Some 3) (cond (eqb id 8) (Some 3) None))) {
      weight = λ q. cond (eqb q 0) 10 5;
    }

abbrev pub two_queries : Example
two_queries = record {
  desk = desk_at (object_of 1 2 2) two_load 0;
  moves =
      begins 0 0 2 2 ++
      Made Release 0 ∷ notes 1 ++ Made SweepLast 0 ∷ shuts 32 ++ enters 1 8 ++ begins 0 0 1 2 ++
      Made Release 0 ∷ notes 1 ++ Made SweepLast 0 ∷ shuts 32 ++ enters 0 0 ++ begins 0 0 0 2 ++
      works 16 0 3 300 ++ enters 1 8 ++ begins 0 0 0 2 ++
      works 16 0 3 300 ++ enters 0 0 ++ begins 0 2 0 2 ++
      opens 1 8 3 ++ admits 1 1 ++ Made (ReserveTaken 0 6) 0 ∷ begins 0 1 0 1 ++ opens 1 0 3 ++
      admits 0 0 ++ begins 0 0 0 0;
  times = 300 ∷ 300 ∷ [];
  largest = 62914;
  widest = 31457;
  priority = 10000;
}

-- three queries and one slot, one worker
abbrev three_load : Workload
three_load = plain_load (λ q. cond (ltb q 3) 1 0) (λ id.
    cond (eqb id 0) (Some 3) (cond (eqb id 8) (Some 3) (cond (eqb id 16) (Some 3) None)))

abbrev pub three_queries : Example
three_queries = record {
  desk = desk_at (object_of 1 1 3) three_load 0;
  moves =
      begins 0 0 3 3 ++
      Made Release 0 ∷ notes 1 ++ Made SweepLast 0 ∷ shuts 32 ++ enters 0 16 ++ begins 0 0 2 3 ++
      works 16 0 3 300 ++ enters 0 16 ++ begins 0 1 2 3 ++
      opens 1 16 3 ++ admits 2 0 ++ begins 0 0 2 2 ++
      Made Release 0 ∷ notes 1 ++ Made SweepLast 0 ∷ shuts 32 ++ enters 0 8 ++
      Made (ReserveTaken 0 38) 0 ∷ begins 0 0 1 2 ++ works 16 0 3 300 ++ enters 0 8 ++
      Made (ReserveTaken 0 38) 0 ∷ begins 0 1 1 2 ++ opens 1 8 3 ++ admits 1 0 ++ begins 0 0 1 1 ++
      Made Release 0 ∷ notes 1 ++ Made SweepLast 0 ∷ shuts 32 ++ enters 0 0 ++
      Made (ReserveTaken 0 6) 0 ∷ begins 0 0 0 1 ++ works 16 0 3 300 ++ enters 0 0 ++
      Made (ReserveTaken 0 6) 0 ∷ begins 0 1 0 1 ++ opens 1 0 3 ++ admits 0 0 ++ begins 0 0 0 0;
  times = 300 ∷ 300 ∷ 300 ∷ [];
  largest = 31457;
  widest = 0;
  priority = 10000;
}

-- one query over 200,000 rows, one worker: how sizes grow, settle and share the rest
abbrev long_load : Workload
long_load = plain_load (λ q. cond (ltb q 1) 1 0) (λ id. cond (eqb id 0) (Some 200000) None)

abbrev pub many_rows : Example
many_rows = record {
  desk = desk_at (object_of 1 1 1) long_load 0;
  moves =
      begins 0 0 1 1 ++
      Made Release 0 ∷ notes 1 ++ Made SweepLast 0 ∷ shuts 2500 ++ enters 0 0 ++ begins 0 0 0 1 ++
      works 7248 192752 200000 724800 ++ enters 0 0 ++ begins 0 0 0 1 ++
      works 20000 172752 192752 2000000 ++ enters 0 0 ++ begins 0 0 0 1 ++
      works 20000 152752 172752 2000000 ++ enters 0 0 ++ begins 0 0 0 1 ++
      works 20000 132752 152752 2000000 ++ enters 0 0 ++ begins 0 0 0 1 ++
      works 20000 112752 132752 2000000 ++ enters 0 0 ++ begins 0 0 0 1 ++
      works 20000 92752 112752 2000000 ++ enters 0 0 ++ begins 0 0 0 1 ++
      works 20000 72752 92752 2000000 ++ enters 0 0 ++ begins 0 0 0 1 ++
      works 20000 52752 72752 2000000 ++ enters 0 0 ++ begins 0 0 0 1 ++
      works 20000 32752 52752 2000000 ++ enters 0 0 ++ begins 0 0 0 1 ++
      works 16384 16368 32752 1638400 ++ enters 0 0 ++ begins 0 0 0 1 ++
      works 8192 8176 16368 819200 ++ enters 0 0 ++ begins 0 0 0 1 ++
      works 4096 4080 8176 409600 ++ enters 0 0 ++ begins 0 0 0 1 ++
      works 2048 2032 4080 204800 ++ enters 0 0 ++ begins 0 0 0 1 ++
      works 1024 1008 2032 102400 ++ enters 0 0 ++ begins 0 0 0 1 ++
      works 512 496 1008 51200 ++ enters 0 0 ++ begins 0 0 0 1 ++
      works 256 240 496 25600 ++ enters 0 0 ++ begins 0 0 0 1 ++
      works 128 112 240 12800 ++ enters 0 0 ++ begins 0 0 0 1 ++
      works 64 48 112 6400 ++ enters 0 0 ++ begins 0 0 0 1 ++
      works 32 16 48 3200 ++ enters 0 0 ++ begins 0 0 0 1 ++
      works 16 0 16 1600 ++ enters 0 0 ++ begins 0 1 0 1 ++
      opens 1 0 200000 ++ admits 0 0 ++ begins 0 0 0 0;
  times =
      1600 ∷ 3200 ∷ 6400 ∷ 12800 ∷ 25600 ∷ 51200 ∷ 102400 ∷ 204800 ∷ 409600 ∷ 819200 ∷ 1638400 ∷
      2000000 ∷ 2000000 ∷ 2000000 ∷ 2000000 ∷ 2000000 ∷ 2000000 ∷ 2000000 ∷ 2000000 ∷ 724800 ∷ [];
  largest = 233016888;
  widest = 0;
  priority = 7290;
}
