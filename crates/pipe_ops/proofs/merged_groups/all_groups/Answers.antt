use Rattle.std.proofs.Common.{◌≡◌, ◌<◌, ◌++◌, ◌∷◌, [], flat_map, length, take, sym, ap, ◌∙◌, subst, append-nil, inl, inr, arith}
use Rattle.std.proofs.lemmas.Bool.{cases_lt}
use Rattle.std.proofs.lemmas.List.{get_or_default, take_more}
use Rattle.std.proofs.lemmas.List.Concat.{flat_map-append}
use Rattle.pipe_ops.specs.Merging.{HasDistinctGroups, held_groups}
use Rattle.pipe_ops.specs.declared.acc.Acc.{Acc}
use Rattle.pipe_ops.proofs.merged_groups.all_groups.Goals as goal

pub loop-acc-preserved : goal.loop-acc-preserved
loop-acc-preserved c =
    let i = c.loop-acc.acc-index in
    let accs = c.args.accs.now in
    let held : Acc = c.acc-item.result in
    let short : i < length accs = c.loop-acc-test.true in
    let groups = held_groups c.args.width in
    record {
      groups =
          c.in_ok-add_groups.ensures.groups ∙ ap (λ l. l ++ groups held) c.loop-acc.invariant.groups
          ∙ sym (ap (flat_map groups) (take_more accs i held short ∙ ap (λ (a : Acc). take i accs ++ a ∷ []) (sym c.acc-item.is))
          ∙ flat_map-append groups (take i accs) (held ∷ []) ∙ ap (λ l. flat_map groups (take i accs) ++ l) (append-nil (groups held)));
      distinct = λ k d within. elim (cases_lt k i) [
        | inl earlier ↦ c.loop-acc.invariant.distinct k d earlier
        | inr later ↦
            let here : k ≡ i = omega arith in
            rw here (subst HasDistinctGroups (c.acc-item.is ∙ get_or_default accs i held d short) c.in_ok-add_groups.ensures.distinct)
      ];
    }
