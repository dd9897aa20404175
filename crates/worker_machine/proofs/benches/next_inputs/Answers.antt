use Rattle.std.proofs.Common.{◌+◌, sym, subst}
use Rattle.pipe_ops.specs.Inputs.{AreInputs}
use Rattle.bench_cell.specs.Benches.{AreInputsOf}
use Rattle.worker_machine.proofs.InputsLemmas.{low-stage, next-inputs}
use Rattle.worker_machine.proofs.benches.next_inputs.Goals as goal

pub returns-clause-inputs : goal.returns-clause-inputs
returns-clause-inputs c = subst AreInputs (sym c.in_ok-new.ensures.ok) c.in_ok-inputs.ensures.inputs

pub returns-clause-low : goal.returns-clause-low
returns-clause-low c =
    λ plan id ok. low-stage plan id c.args.before.now c.in_ok-inputs.inputs ok c.in_ok-inputs.ensures.next c.in_ok-inputs.ensures.inputs

pub returns-clause-next : goal.returns-clause-next
returns-clause-next c =
    λ plan id ok.
    let next = c.in_ok-inputs.ensures.next in
    let low = low-stage plan id c.args.before.now c.in_ok-inputs.inputs ok next c.in_ok-inputs.ensures.inputs in
    subst (AreInputsOf plan (id + 1)) (sym c.in_ok-new.ensures.ok) (next-inputs plan id c.args.before.now c.in_ok-inputs.inputs ok next low)
