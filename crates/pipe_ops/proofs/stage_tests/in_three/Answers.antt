use Rattle.std.proofs.Common.{◌≤◌, arith}
use Rattle.std.proofs.lemmas.Result.{IfOk-weaker}
use Rattle.pipe_ops.proofs.SharesLemmas.{cover_thirds, share_thirds, thirds}
use Rattle.pipe_ops.proofs.stage_tests.in_three.Goals as goal

pub returns : goal.returns
returns c =
    let inputs = c.args.inputs.now in
    let cut = c.min-cut.result in
    let again = c.min-again.result in
    let total = c.args.total in
    let order : cut ≤ again = grind (arith, c.min-cut.ensures) in
    IfOk-weaker c.merge.result _ _ (λ whole all. all (thirds cut again total)
    (share_thirds inputs cut again total c.in_ok-first.first c.in_ok-second.second c.in_ok-third.third c.in_ok-accs.accs.items order
    c.in_ok-first.ensures c.in_ok-second.ensures c.in_ok-third.ensures c.in_ok-accs.ensures.items)
    (cover_thirds inputs cut again total c.requires.total)) c.merge.ensures
