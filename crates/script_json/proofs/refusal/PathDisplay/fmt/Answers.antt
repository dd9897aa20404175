use Rattle.std.proofs.Common.{◌++◌, codes, take, rules, ap}
use Rattle.std.proofs.lemmas.Grind.{put_two}
use Rattle.script_json.specs.Paths.{step_text, steps_text}
use Rattle.script_json.proofs.PathLemmas.{steps_text-take}
use Rattle.script_json.proofs.refusal.PathDisplay.fmt.Goals as goal

pub loop-step-preserved : goal.loop-step-preserved
loop-step-preserved g c = λ plain.
    let i = c.loop-step.step-index in
    let steps = c.as_slice-step-items.result.now in
    put_two g.W.Write.write_str_gives c.args.f.now c.loop-step.f c.write-in-loop-step.new.self
    (codes "$" ++ steps_text (take i steps)) (step_text c.step-item.result) _
    (c.loop-step.invariant plain) (search rules)
    (ap (λ t. codes "$" ++ t) (steps_text-take steps i c.step-item.result c.loop-step-test.true c.step-item.is))
