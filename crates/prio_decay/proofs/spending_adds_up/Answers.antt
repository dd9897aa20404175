use Rattle.std.proofs.Common.{◌≡◌, ◌+◌, ◌/◌, ◌∙◌, refl, sym, subst, sum, fold, zero-add, arith}
use Rattle.prio_decay.specs.Priority.{IsUsable, unspent, after_spending, priority_after}
use Rattle.prio_decay.proofs.Decays.{priority_of-spent, HasSpent-fold, params-fold}
use Rattle.prio_decay.proofs.spending_adds_up.Goals as goal

pub returns : goal.returns
returns c = λ p times u.
    let same = params-fold times (unspent p) in
    let spent = HasSpent-fold times (unspent p) 0 (omega arith) in
    let last : priority_after (fold after_spending (unspent p) times).params ((0 + sum times) / 2000000) ≡ priority_after p (sum times / 2000000) = rw
    (same, zero-add) refl in
    priority_of-spent _ _ (subst IsUsable (sym same) u) spent ∙ last
