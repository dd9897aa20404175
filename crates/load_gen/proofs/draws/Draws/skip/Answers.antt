use Rattle.std.proofs.Common.{◌∙◌, ap, sym}
use Rattle.load_gen.specs.Draws.{next_state}
use Rattle.load_gen.proofs.DrawsLemmas.{state_after-more, state_after-zero}
use Rattle.load_gen.proofs.draws.Draws.skip.Goals as goal

pub loop-init : goal.loop-init
loop-init c = sym (state_after-zero c.args.self.now)

pub loop-preserved : goal.loop-preserved
loop-preserved c =
    c.step.ensures ∙ ap next_state c.loop.invariant ∙ sym (state_after-more c.args.self.now c.loop.counter)
