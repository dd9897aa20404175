use Rattle.std.proofs.Common.{◌≡◌, ◌++◌, ◌∷◌, [], length, slice_get, sym, ap, ◌∙◌, subst, append_assoc, arith}
use Rattle.std.specs.Vec.Iter.{into_iter_items}
use Rattle.std.proofs.lemmas.List.{append-nil, nil_from_length}
use Rattle.pool_run.specs.Collected.{IsToldBy}
use Rattle.pool_run.proofs.Teams.{slice_get-seam}
use Rattle.pool_run.proofs.report.collect.Goals as goal

pub loop-worker-init : goal.loop-worker-init
loop-worker-init c = record { split = sym c.into_iter-worker-iterator.ensures.into_iter_gives.0; told = c.requires.parts }

pub add-requires : goal.add-requires
add-requires c =
    let rest = into_iter_items c.next.new.self in
    let step : into_iter_items c.loop-worker.worker-iterator ≡ c.in-Some.worker ∷ rest = c.in-Some.ensures.steps.0 in
    let split : c.args.team.items ≡ c.loop-worker.yielded ++ c.in-Some.worker ∷ rest =
    c.loop-worker.invariant.split ∙ ap (λ v. c.loop-worker.yielded ++ v) step in
    c.requires.none (length c.loop-worker.yielded) c.in-Some.worker
    (ap (λ l. slice_get l (length c.loop-worker.yielded)) split ∙ slice_get-seam c.loop-worker.yielded c.in-Some.worker rest)

pub loop-worker-preserved : goal.loop-worker-preserved
loop-worker-preserved c =
    let rest = into_iter_items c.next.new.self in
    let step : into_iter_items c.loop-worker.worker-iterator ≡ c.in-Some.worker ∷ rest = c.in-Some.ensures.steps.0 in
    record {
      split = c.loop-worker.invariant.split ∙ ap (λ v. c.loop-worker.yielded ++ v) step ∙ sym (append_assoc c.loop-worker.yielded (c.in-Some.worker ∷ []) rest);
      told = c.in_ok-add.ensures c.loop-worker.yielded c.loop-worker.invariant.told;
    }

pub returns : goal.returns
returns c =
    let left = into_iter_items c.loop-worker.worker-iterator in
    let none : left ≡ [] = nil_from_length left (omega (arith, c.in-None.ensures.steps.0, c.loop-worker.worker-iterator.rest.ok.0)) in
    let all : c.args.team.items ≡ c.loop-worker.yielded = c.loop-worker.invariant.split ∙ ap (λ v. c.loop-worker.yielded ++ v) none
    ∙ append-nil c.loop-worker.yielded in
    subst (λ team. IsToldBy team c.told.result.report c.told.result.times.items) (sym all) (c.told.ensures c.loop-worker.yielded c.loop-worker.invariant.told)
