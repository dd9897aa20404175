use Rattle.std.proofs.Common.{◌≡◌, IfSome, Some, subst, List, [], ◌∷◌, ◌++◌, ℕ, ap, cond, sym, refl, ◌∙◌, inr, option_map}
use Rattle.std.proofs.lemmas.Option.{none-some}
use Rattle.std.specs.Arc.{arc_value}
use Rattle.plan_ast.specs.Folds.{AreDisjoint, Tuples, range_of, union}
use Rattle.pipe_ops.specs.Inputs.{IsAccOf}
use Rattle.pipe_ops.specs.declared.acc.Acc.{Acc}
use Rattle.pipe_ops.specs.declared.inputs.Inputs.{Inputs}
use Rattle.bench_cell.specs.Benches.{acc_in, bench_tuples, ranges_in}
use Rattle.bench_cell.proofs.BenchLemmas.{fits_more, holds_more, if_held, none_held}
use Rattle.bench_cell.proofs.bench.Bench.work.Goals as goal

abbrev More : Inputs → ℕ → ℕ → Acc → Acc → Type 0
More inputs from to acc more = (done : Tuples) → AreDisjoint done (range_of from to) →
    IsAccOf inputs done acc → IsAccOf inputs (union done (range_of from to)) more

took : (c : goal.Joined-self-taken) → IfSome (option_map (λ held. held.value) c.taken.result)
    (More (arc_value c.args.self.now.inputs) c.args.from c.args.to c.in-Some.acc.value)
took c =
    let from = c.args.from in
    let to = c.args.to in
    if_held (λ held. held.value) (More (arc_value c.args.self.now.inputs) from to c.in-Some.acc.value) c.taken.result
    (subst (λ (i : Inputs). IfSome c.taken.result (λ held. More i from to c.in-Some.acc.value held.value)) c.deref.ensures c.taken.ensures)

pub returns-then-is_ok-clause-worked : goal.returns-then-is_ok-clause-worked
returns-then-is_ok-clause-worked c =
    let old = c.args.self.now in
    let is : old.acc ≡ Some c.in-Some.acc = sym c.in-Some.ensures.value in
    let more : List (ℕ × ℕ) = ranges_in old ++ (c.args.from, c.args.to) ∷ [] in
    let noted : c.push-noted.new.self.items ≡ more =
    c.push-noted.ensures.items ∙ ap (λ b. cond b more (ranges_in old)) (sym c.is_ok.ensures.value ∙ c.if-is_ok.true) in
    record {
      worker = refl;
      id = refl;
      inputs = refl;
      bench_is = record {
        inputs = c.requires.bench.inputs;
        holds = holds_more (arc_value old.inputs) (ranges_in old) c.push-noted.new.self.items c.args.from c.args.to (acc_in old) c.in-Some.acc.value
            (option_map (λ held. held.value) c.taken.result) c.requires.bench.holds (ap (option_map (λ held. held.value)) is)
            (none_held (λ held. held.value) (AreDisjoint (bench_tuples old) (range_of c.args.from c.args.to)) old.acc c.requires.apart) noted (took c);
      };
      stays = λ short. absurd (none-some c.in-Some.acc (sym short ∙ is));
      noted = inr noted;
    }

pub returns-then-is_ok-clause-fits : goal.returns-then-is_ok-clause-fits
returns-then-is_ok-clause-fits c = fits_more c.args.from c.args.to c.args.self.now _ (returns-then-is_ok-clause-worked c)
