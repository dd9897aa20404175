use Rattle.slot_proto.proofs.Machines.{word-there, word-read, answer-small}
use Rattle.slot_proto.proofs.machine.Machine.found.Goals as goal

pub index-requires-2 : goal.index-requires-2
index-requires-2 c =
    let (k, on) = c.requires in
    word-there c.self.inside c.self.invariant c.args.self.now c.self.view_is c.args.worker k c.args.address on c.index.result c.index.ensures

pub returns-clause-word : goal.returns-clause-word
returns-clause-word c =
    let (k, on) = c.requires in
    word-read c.self.inside c.self.invariant c.args.self.now c.self.view_is c.args.worker k c.args.address on c.index.result c.index.ensures
    c.index-2.result.now c.index-2.ensures

pub returns-clause-small : goal.returns-clause-small
returns-clause-small c k on =
    let o = c.self.inside in
    let word = word-read o c.self.invariant c.args.self.now c.self.view_is c.args.worker k c.args.address on c.index.result c.index.ensures
    c.index-2.result.now c.index-2.ensures in
    answer-small o c.self.invariant c.args.self.now c.self.view_is c.args.worker k c.args.address on c.index-2.result.now word
