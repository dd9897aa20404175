use Rattle.std.proofs.Common.{◌≡◌, ◌++◌, All, List, [], ◌∷◌, ap, subst, sym, ◌∙◌}
use Rattle.std.proofs.lemmas.List.Elements.{All-cons, All-nil}
use Rattle.bench_cell.specs.Benches.{IsBench}
use Rattle.bench_cell.specs.declared.bench.Bench.{Bench}
use Rattle.bench_cell.proofs.tests.gathered.Goals as goal

pub gather-gathered-requires-clause-each : goal.gather-gathered-requires-clause-each
gather-gathered-requires-clause-each c =
    let one : Bench = c.args.one in
    let other : Bench = c.args.other in
    let both : c.push-2.new.self.items ≡ one ∷ other ∷ [] =
    c.in_ok-push-2.ensures.items ∙ ap (λ (l : List Bench). l ++ other ∷ [])
    (c.in_ok-push.ensures.items ∙ ap (λ (l : List Bench). l ++ one ∷ []) c.in_ok-benches.ensures.items) in
    subst (All IsBench) (sym both)
    (All-cons IsBench one (other ∷ []) c.requires.one (All-cons IsBench other [] c.requires.other (All-nil IsBench)))
