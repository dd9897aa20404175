use Rattle.std.proofs.Common.{◌≡◌, ◌*◌, ◌/◌, ◌%◌, slice_get, Some, sym, ap, ◌∙◌, subst, arith, option_map}
use Rattle.std.specs.Arc.{arc_value}
use Rattle.std.proofs.lemmas.Option.{slice_get-map}
use Rattle.slot_history.specs.declared.shape.TheConstants.{STAGES}
use Rattle.pipe_ops.specs.Inputs.{AreInputs}
use Rattle.bench_cell.specs.Plans.{checked_of}
use Rattle.bench_cell.specs.Benches.{AreInputsOf}
use Rattle.worker_machine.proofs.benches.first_inputs.Goals as goal

pub returns-clause-first : goal.returns-clause-first
returns-clause-first c =
    let i = c.in_ok-inputs.inputs in
    let arc = c.in_ok-new.ensures.ok in
    let low : (STAGES * c.args.q) / STAGES ≡ c.args.q = omega arith in
    let zero : (STAGES * c.args.q) % STAGES ≡ 0 = omega arith in
    subst (AreInputsOf c.args.plan.now (STAGES * c.args.q)) (sym arc) (record {
      tables = c.in_ok-inputs.ensures.tables ∙ ap (λ (v : _). v.items) c.in_ok-tables.ensures;
      query = ap (slice_get (checked_of c.args.plan.now)) low ∙ slice_get-map arc_value c.args.plan.now.queries.items c.args.q ∙ ap
          (option_map arc_value) c.query.ensures.query
          ∙ ap Some (sym (c.in_ok-inputs.ensures.checked ∙ c.in_ok-checked.ensures));
      stage = c.in_ok-inputs.ensures.first ∙ sym zero;
    })

pub returns-clause-inputs : goal.returns-clause-inputs
returns-clause-inputs c = subst AreInputs (sym c.in_ok-new.ensures.ok) c.in_ok-inputs.ensures.inputs
