use Rattle.std.proofs.Common.{ap}
use Rattle.worker_machine.specs.Left.{is_ready}
use Rattle.pool_run.proofs.Points.{under-way}
use Rattle.pool_run.proofs.Stints.{turn-acts, step-acts, rest-acts}
use Rattle.pool_run.proofs.seats.play.Goals as goal

pub one_turn-turn-requires-clause-ready : goal.one_turn-turn-requires-clause-ready
one_turn-turn-requires-clause-ready g c = c.requires.between c.in-WholeTurn.is

pub returns-in-WholeTurn-clause-between : goal.returns-in-WholeTurn-clause-between
returns-in-WholeTurn-clause-between g c = λ ends. ap is_ready c.one_turn-turn.ensures.ends

pub returns-in-WholeTurn-clause-acts : goal.returns-in-WholeTurn-clause-acts
returns-in-WholeTurn-clause-acts g c = rw c.in-WholeTurn.is (turn-acts c.one_turn-turn.ensures.turns)

pub returns-in-OneStep-clause-between : goal.returns-in-OneStep-clause-between
returns-in-OneStep-clause-between g c = λ ends. absurd (ends c.in-OneStep.is)

pub returns-in-OneStep-clause-acts : goal.returns-in-OneStep-clause-acts
returns-in-OneStep-clause-acts g c = rw c.in-OneStep.is (step-acts c.one_step-stepped.ensures.moves)

pub rest_of_turn-turn-requires-clause-under_way : goal.rest_of_turn-turn-requires-clause-under_way
rest_of_turn-turn-requires-clause-under_way g c =
    under-way (is_ready c.args.worker.now.phase) (λ ready. c.requires.plays (rw c.in-RestOfTurn.is ready))

pub returns-in-RestOfTurn-clause-between : goal.returns-in-RestOfTurn-clause-between
returns-in-RestOfTurn-clause-between g c = λ ends. ap is_ready c.rest_of_turn-turn.ensures.ends

pub returns-in-RestOfTurn-clause-acts : goal.returns-in-RestOfTurn-clause-acts
returns-in-RestOfTurn-clause-acts g c = rw c.in-RestOfTurn.is (rest-acts c.rest_of_turn-turn.ensures.rests)
