use Rattle.std.proofs.Common.{◌≡◌, ◌∙◌, ◌+◌, All, None, ap, length, refl, sym, subst}
use Rattle.std.proofs.lemmas.List.{length_push}
use Rattle.std.proofs.lemmas.List.Elements.{All-push}
use Rattle.one_thread.proofs.table.empty_cells.Goals as goal

pub loop-preserved : goal.loop-preserved
loop-preserved g c =
    let old = c.loop.cells.items in
    let is = c.in_ok-push.ensures.items in
    record {
      count = ap length is ∙ length_push old None ∙ ap (λ n. n + 1) c.loop.invariant.count;
      none = subst (All (λ x. x ≡ None)) (sym is) (All-push (λ x. x ≡ None) old None c.loop.invariant.none refl);
    }
