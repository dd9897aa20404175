use Rattle.std.proofs.Common.{◌+◌, ap, ◌∙◌}
use Rattle.pipe_ops.proofs.stage_tests.staged.Goals as goal
use Rattle.pipe_ops.proofs.stage_tests.staged.Goals.{in-Side+in_ok-inputs-in-Side, in-Parts+in_ok-inputs-in-Parts}

pub loop-stage-preserved : goal.loop-stage-preserved
loop-stage-preserved c =
    let before = c.loop-stage.invariant in
    elim c.match-branch-5.branch [
      | in-Side+in_ok-inputs-in-Side w ↦
          let next = w.in_ok-inputs-in-Side.ensures.next in
          rw w.inputs-is (record {
            are = w.in_ok-inputs-in-Side.ensures.inputs;
            at = next.stage ∙ ap (λ n. n + 1) before.at;
            tables = next.tables ∙ before.tables;
            checked = next.checked ∙ before.checked;
          })
      | in-Parts+in_ok-inputs-in-Parts w ↦
          let next = w.in_ok-inputs-in-Parts.ensures.next in
          rw w.inputs-is (record {
            are = w.in_ok-inputs-in-Parts.ensures.inputs;
            at = next.stage ∙ ap (λ n. n + 1) before.at;
            tables = next.tables ∙ before.tables;
            checked = next.checked ∙ before.checked;
          })
    ]
