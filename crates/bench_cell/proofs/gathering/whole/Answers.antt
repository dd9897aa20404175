use Rattle.std.proofs.Common.{◌≡◌, List, subst, get_or}
use Rattle.std.specs.Arc.{arc_value}
use Rattle.plan_ast.specs.Folds.{Tuples}
use Rattle.pipe_ops.specs.StageResults.{Cover, IsWholeResult, Share}
use Rattle.pipe_ops.specs.declared.inputs.Inputs.{Inputs}
use Rattle.bench_cell.specs.Gathering.{AreAccsOf, AreClaimsOf}
use Rattle.bench_cell.specs.declared.bench.Bench.{Bench}
use Rattle.bench_cell.proofs.GatheringLemmas.{all_whole, merged_result}
use Rattle.bench_cell.proofs.gathering.whole.Goals as goal

pub returns-clause-whole : goal.returns-clause-whole
returns-clause-whole c =
    let benches : List Bench = c.args.benches.now.items in
    let accs = c.in_ok-accs.accs.items in
    let same : AreAccsOf benches accs = c.in_ok-accs.ensures.accs in
    let inputs : Inputs = arc_value c.in_ok-inputs.inputs in
    let first : (other : Bench) → inputs ≡ arc_value (get_or benches 0 other).inputs =
    subst (λ (l : List Bench). (other : Bench) → inputs ≡ arc_value (get_or l 0 other).inputs) c.as_slice-2.ensures.value c.in_ok-inputs.ensures.first in
    let merges : (sets : List Tuples) → Share inputs sets accs → Cover inputs sets → IsWholeResult inputs c.in_ok-result.result =
    subst (λ (i : Inputs). (sets : List Tuples) → Share i sets accs → Cover i sets → IsWholeResult i c.in_ok-result.result) c.deref-2.ensures
    c.in_ok-result.ensures in
    record {
      none_short = all_whole benches accs same;
      claims_are = subst (λ (l : List Bench). AreClaimsOf l c.in_ok-claims.claims.items) c.as_slice.ensures.value c.in_ok-claims.ensures;
      result_is = merged_result benches accs inputs c.in_ok-result.result first c.requires.some c.in_ok-inputs.ensures.inputs same merges;
    }
