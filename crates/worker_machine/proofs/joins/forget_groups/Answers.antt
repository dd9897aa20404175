use Rattle.std.proofs.Common.{◌≡◌, ℕ, ◌+◌, ◌*◌, ◌<◌, List, length, refl, sym, ap, ◌∙◌, subst, slice_set, arith}
use Rattle.std.proofs.lemmas.Option.{slice_get_read}
use Rattle.worker_machine.specs.declared.kept.Known.{Known}
use Rattle.worker_machine.specs.Joins.{AreForgotten}
use Rattle.worker_machine.specs.Sized.{AreSized}
use Rattle.worker_machine.proofs.Sizes.{forget-one}
use Rattle.worker_machine.proofs.TakenNotices.{gone_below, forgot-none, forgot-all, forgot-skip, forgot-one}
use Rattle.worker_machine.proofs.joins.forget_groups.Goals.{then-bits-k-eq1, else-bits-k-eq1}
use Rattle.worker_machine.proofs.joins.forget_groups.Goals as goal

pub loop-k-init : goal.loop-k-init
loop-k-init c = record { same = refl; sized = λ p all. all; groups = forgot-none c.args.part c.args.bits c.args.known.now.items }

pub loop-k-preserved : goal.loop-k-preserved
loop-k-preserved c =
    elim c.if-bits-k-eq1.branch [
      | then-bits-k-eq1 w ↦
          let items : List Known = c.loop-k.known.items in
          let i : ℕ = c.args.part * 64 + c.loop-k.k in
          let inv = c.loop-k.invariant in
          let low : i < length items = subst (λ n. i < n) (sym inv.same) (c.requires.names c.loop-k.k w.if-bits-k-eq1.true) in
          let got = slice_get_read items (length items) i w.index_mut.result.now refl low w.index_mut.ensures.value in
          let r = forget-one items i w.index_mut.result.now (length c.args.known.now.items) low got inv.same in
          let is = ap (λ (v : _). v.items) w.known-is ∙ ap (slice_set items i) w.forget.ensures in
          record {
            same = ap length is ∙ r.0;
            sized = λ p all. subst (AreSized p) (sym is) (r.1 p (inv.sized p all));
            groups = subst (AreForgotten (gone_below (c.loop-k.k + 1) c.args.part c.args.bits) c.args.known.now.items) (sym is)
                (forgot-one c.loop-k.k c.args.part c.args.bits c.args.known.now.items items inv.groups w.index_mut.result.now w.if-bits-k-eq1.true
                (omega arith) low got);
          }
      | else-bits-k-eq1 w ↦
          let inv = c.loop-k.invariant in
          let is = ap (λ (v : _). v.items) w.known-is in
          record {
            same = ap length is ∙ inv.same;
            sized = λ p all. subst (AreSized p) (sym is) (inv.sized p all);
            groups = subst (AreForgotten (gone_below (c.loop-k.k + 1) c.args.part c.args.bits) c.args.known.now.items) (sym is)
                (forgot-skip c.loop-k.k c.args.part c.args.bits c.args.known.now.items c.loop-k.known.items inv.groups w.if-bits-k-eq1.false);
          }
    ]

pub returns-clause-groups : goal.returns-clause-groups
returns-clause-groups c =
    let end : c.loop-k.k ≡ 64 = omega arith in
    forgot-all c.args.part c.args.bits c.args.known.now.items c.loop-k.known.items
    (subst (λ n. AreForgotten (gone_below n c.args.part c.args.bits) c.args.known.now.items c.loop-k.known.items) end c.loop-k.invariant.groups)
