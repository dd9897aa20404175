use Rattle.slot_proto.proofs.Machines.{opens}
use Rattle.slot_proto.proofs.machine.MachineSlotObject.make.Goals as goal

pub invariant_of-result : goal.invariant_of-result
invariant_of-result c =
    opens c.args.shape c.in_ok-words.words.items c.in_ok-places.places.items c.in_ok-log.log c.requires c.in_ok-words.ensures
    (c.in_ok-places.ensures.items_if_clones_equal (λ y e. e)) c.in_ok-log.ensures
