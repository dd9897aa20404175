use Rattle.std.proofs.Common.{◌≡◌, ◌++◌, ◌∷◌, ◌+◌, [], length, slice_get, sym, ap, ◌∙◌, subst, append_assoc}
use Rattle.std.specs.Vec.Iter.{into_iter_items}
use Rattle.std.proofs.lemmas.List.{length-append}
use Rattle.board_rule.proofs.Joins.{get-mid}
use Rattle.board_rule.specs.Lives.{IsUnused}
use Rattle.pool_run.specs.Seated.{AreSeated, IsFresh}
use Rattle.pool_run.proofs.Crews.{seated-more}
use Rattle.pool_run.proofs.threads.crew.Crew.new.Goals as goal

pub worker_of-requires-clause-pass : goal.worker_of-requires-clause-pass
worker_of-requires-clause-pass c =
    let rest = into_iter_items c.next.new.self in
    let pass = c.in-Some.pass in
    let done = c.loop-pass.yielded in
    let step : into_iter_items c.loop-pass.pass-iterator ≡ pass ∷ rest = c.in-Some.ensures.steps.0 in
    let split : c.args.unused.items ≡ done ++ pass ∷ rest = c.loop-pass.invariant.split ∙ ap (λ v. done ++ v) step in
    let unused = c.requires.unused (length done) pass (ap (λ l. slice_get l (length done)) split ∙ get-mid done pass rest) in
    subst (λ w. IsUnused c.args.board.now w pass) (sym unused.worker) unused

pub loop-pass-preserved : goal.loop-pass-preserved
loop-pass-preserved c =
    let rest = into_iter_items c.next.new.self in
    let pass = c.in-Some.pass in
    let done = c.loop-pass.yielded in
    let was = c.loop-pass.invariant in
    let step : into_iter_items c.loop-pass.pass-iterator ≡ pass ∷ rest = c.in-Some.ensures.steps.0 in
    let split : c.args.unused.items ≡ done ++ pass ∷ rest = was.split ∙ ap (λ v. done ++ v) step in
    let unused = c.requires.unused (length done) pass (ap (λ l. slice_get l (length done)) split ∙ get-mid done pass rest) in
    let e = c.in_ok-worker in
    let team = c.in_ok-push.ensures.items in
    let passes = c.in_ok-push-2.ensures.items in
    record {
      split = split ∙ sym (append_assoc done (pass ∷ []) rest);
      count = ap length team ∙ length-append c.loop-pass.team.items (e.worker ∷ []) ∙ ap (λ n. n + 1) was.count ∙ sym (length-append done (pass ∷ []));
      seated = subst (λ l. AreSeated (IsFresh c.args.board.now) l c.push-in-loop-pass.new.self.items) (sym team)
          (subst (AreSeated (IsFresh c.args.board.now) (c.loop-pass.team.items ++ e.worker ∷ [])) (sym passes)
          (seated-more (IsFresh c.args.board.now) e.worker e.pass was.seated (e.ensures.pass ∙ unused.worker ∙ sym was.count) e.ensures.fresh));
    }
