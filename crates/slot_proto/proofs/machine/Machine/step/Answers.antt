use Rattle.slot_proto.proofs.Machines.{word-there, read-counted, kept, called}
use Rattle.slot_proto.proofs.machine.Machine.step.Goals as goal

pub index_mut-requires : goal.index_mut-requires
index_mut-requires c =
    let (k, step) = c.requires in
    word-there c.self.inside c.self.invariant c.args.self.now c.self.view_is c.args.worker k c.args.address step.call c.index.result c.index.ensures

pub place_after-requires : goal.place_after-requires
place_after-requires c =
    let (k, step) = c.requires in
    let q = c.index_mut-place.result.now in
    read-counted c.self.inside c.self.invariant c.args.self.now c.self.view_is c.args.worker step.call.may.below q c.index_mut-place.ensures.value

pub invariant_of-self : goal.invariant_of-self
invariant_of-self c =
    let (k, step) = c.requires in
    let q = c.index_mut-place.result.now in
    kept c.self.inside c.self.invariant c.args.self.now c.self.view_is c.args.worker k c.args.address c.args.new c.args.act.now step c.index.result
    c.index.ensures q c.place_after.result c.index_mut-place.ensures.value c.place_after.ensures c.push.new.self c.push.ensures

pub returns : goal.returns
returns c =
    let (k, step) = c.requires in
    called c.self.inside c.self.invariant c.args.self.now c.self.view_is c.args.worker k c.args.address c.args.new c.args.act.now step c.push.new.self
    c.push.ensures
