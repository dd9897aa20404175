use Rattle.std.proofs.Common.{IfOk, sym, subst}
use Rattle.std.specs.Arc.{arc_value}
use Rattle.bench_cell.specs.Benches.{AreInputsOf}
use Rattle.worker_machine.specs.Benches.{HasResult}
use Rattle.worker_machine.proofs.Finishing.{next-benches}
use Rattle.worker_machine.proofs.kept.Core.make_next.Goals as goal

pub returns-in-Ok-next_inputs-clause-made : goal.returns-in-Ok-next_inputs-clause-made
returns-in-Ok-next_inputs-clause-made c made =
    let plan = arc_value c.args.self.now.plan in
    let has = subst (λ copy. IfOk copy (λ inputs. HasResult plan c.args.id c.args.whole (arc_value inputs))) c.in-Ok.is c.requires.inputs in
    let of = subst (AreInputsOf plan c.args.id) (sym c.deref.ensures) has.of_set in
    let next = c.in-Ok-next_inputs.ensures in
    next-benches c.args.self.now c.make_all.new.self c.args.id (arc_value c.in-Ok-next_inputs.inputs) c.make_all.ensures.same
    (next.low plan c.args.id of) next.inputs (next.next plan c.args.id of) (c.make_all.ensures.count made)
    (c.make_all.ensures.fresh plan (next.next plan c.args.id of) made)
