use Rattle.std.proofs.Common.{◌≡◌, ◌<◌, length, slice_get, Some, refl, sym, ap, ◌∙◌, arith}
use native.Mathlib.Decide.{ℕ_discrete}
use Rattle.std.proofs.lemmas.Bool.{false≢true}
use Rattle.std.proofs.lemmas.Option.{slice_get_read, slice_get_within}
use Rattle.worker_machine.specs.declared.state.Worker.{Worker}
use Rattle.pool_run.proofs.Teams.{some-same}
use Rattle.pool_run.proofs.pool.all_over.Goals as goal

pub returns-then-not-is_over-clause-going : goal.returns-then-not-is_over-clause-going
returns-then-not-is_over-clause-going c = λ _.
    let low : c.loop-worker.worker-index < length c.args.team.now = omega arith in
    record {
      worker = c.loop-worker.worker-index;
      item = c.worker-item.result;
      here = slice_get_read c.args.team.now (length c.args.team.now) c.loop-worker.worker-index c.worker-item.result refl low c.worker-item.is;
      not_over = λ over. false≢true (c.if-not-is_over.ensures.1 over);
    }

pub loop-worker-preserved : goal.loop-worker-preserved
loop-worker-preserved c = λ k w below here.
    let i = c.loop-worker.worker-index in
    let low : i < length c.args.team.now = omega arith in
    let at : slice_get c.args.team.now i ≡ Some c.worker-item.result =
    slice_get_read c.args.team.now (length c.args.team.now) i c.worker-item.result refl low c.worker-item.is in
    elim (ℕ_discrete k i) [
      | yes e ↦ (let same : c.worker-item.result ≡ w = some-same c.worker-item.result w (sym at ∙ ap (slice_get c.args.team.now) (sym e) ∙ here) in
          ap (λ (y : Worker). y.phase) (sym same) ∙ c.if-not-is_over.ensures.0 refl)
      | no ne ↦ c.loop-worker.invariant k w (omega arith) here
    ]

pub returns-clause-over : goal.returns-clause-over
returns-clause-over c = λ _ w x here.
    let low : w < length c.args.team.now = slice_get_within c.args.team.now w x here in
    c.loop-worker.invariant w x (omega arith) here
