use Rattle.pipe_ops.proofs.SharesLemmas.{holds_alone, room_of_none}
use Rattle.pipe_ops.proofs.stage_tests.held_of.Goals as goal

pub run_range-requires-clause-room : goal.run_range-requires-clause-room
run_range-requires-clause-room c = room_of_none c.args.inputs.now c.args.from c.args.to c.in_ok-acc.acc c.in_ok-acc.ensures
