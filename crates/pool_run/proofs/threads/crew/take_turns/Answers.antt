use Rattle.std.proofs.Common.{◌≡◌, ◌+◌, ◌<◌, length, Some, ap, refl, sym, ◌∙◌, subst, arith}
use Rattle.std.proofs.lemmas.Option.{get_or_from_slice_get, slice_get-get_or, slice_get_read, slice_get_within}
use Rattle.pool_run.specs.Seated.{IsOver, SitsDownAt}
use Rattle.pool_run.proofs.threads.crew.take_turns.Goals as goal

pub for_each_mut-requires-clause-accepts : goal.for_each_mut-requires-clause-accepts
for_each_mut-requires-clause-accepts g c κs within i p low at =
    let all = c.args.all.now in
    ((c.requires.seated i p.now (slice_get_read all (length all) i p.now refl low at)).1, c.requires.subject, c.requires.queries)

pub returns : goal.returns
returns g c =
    let old = c.args.all.now in
    let new = c.for_each_mut.new.s in
    let count : length new ≡ length old = c.for_each_mut.auto.s in
    record {
      seated = λ k sits here.
          let low : k < length new = slice_get_within new k sits here in
          let less : k < length old = omega (arith, low, count) in
          let change = (c.for_each_mut.ensures k sits less).1 in
          let was = c.requires.seated k change.argument.now (slice_get-get_or old k sits less ∙ ap Some (sym change.argument_is)) in
          let left = change.left ∙ get_or_from_slice_get new k sits sits here in
          let number : change.after_call.now.pass.worker + k + 1 ≡ length new =
          ap (λ n. n + k + 1) change.call.1 ∙ was.0 ∙ sym count in
          subst (SitsDownAt (IsOver g.M.Meter.may_take c.args.board.now) (length new) k) left (number, change.call.0);
      count = count;
    }
