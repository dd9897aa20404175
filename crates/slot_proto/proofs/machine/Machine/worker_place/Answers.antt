use Rattle.slot_proto.proofs.Machines.{read-within, read-counted}
use Rattle.slot_proto.proofs.machine.Machine.worker_place.Goals as goal

pub returns-clause-within : goal.returns-clause-within
returns-clause-within c =
    read-within c.self.inside c.self.invariant c.args.self.now c.self.view_is c.args.worker c.requires c.index.result.now c.index.ensures

pub returns-clause-counted : goal.returns-clause-counted
returns-clause-counted c =
    read-counted c.self.inside c.self.invariant c.args.self.now c.self.view_is c.args.worker c.requires c.index.result.now c.index.ensures
