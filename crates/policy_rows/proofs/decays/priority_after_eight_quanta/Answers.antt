use Rattle.std.proofs.Common.{ap, refl, ◌∙◌}
use Rattle.prio_decay.specs.Priority.{unspent, after_spending, priority_after, priority_of}
use Rattle.policy_rows.proofs.decays.priority_after_eight_quanta.Goals as goal

pub returns : goal.returns
unfolding priority_after
returns c =
    c.priority.ensures.value ∙ ap priority_of (c.spend.ensures ∙ ap (λ d. after_spending d 16000000)
    (c.new-decay.ensures ∙ ap unspent c.of_weight.ensures.params)) ∙ refl
