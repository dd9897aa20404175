use Rattle.pool_run.proofs.Crews.{under-way}
use Rattle.pool_run.proofs.threads.seated.until_over.Goals as goal

pub turns-requires-clause-fit : goal.turns-requires-clause-fit
turns-requires-clause-fit g c = under-way g.M.Meter.may_take c.new-seat.ensures.board c.new-seat.ensures.pass c.requires.fresh
