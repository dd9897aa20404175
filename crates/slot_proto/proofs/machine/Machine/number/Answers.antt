use Rattle.std.proofs.Common.{◌<◌, ◌^◌, rules}
use Rattle.slot_proto.proofs.machine.Machine.number.Goals as goal

pub found-requires : goal.found-requires
found-requires c = (c.requires.0, c.requires.1)

pub overflow_cast-result : goal.overflow_cast-result
overflow_cast-result c =
    let low : c.found.result < 2 ^ 32 = c.requires.2 c.found.result (c.found.ensures.small c.requires.0 c.requires.1) in search rules
