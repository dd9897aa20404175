use Rattle.std.proofs.Common.{◌≡◌, ◌∷◌, Ok, rules, refl, subst}
use Rattle.std.specs.Prelude.{IfOk}
use Rattle.board_rule.specs.Passes.{IsPassOf}
use Rattle.station_rows.proofs.Passes.{keep-more}
use Rattle.station_rows.proofs.threads.gather.Goals as goal

pub loop-one-preserved : goal.loop-one-preserved
loop-one-preserved c =
    let b = c.args.board.now in
    let one = c.in-Some.one in
    let pass = c.in_ok-pass.pass in
    let left = c.loop-one.one-iterator.rest.items in
    let rest = c.next.new.self.rest.items in
    let next : left ≡ one ∷ rest = search rules in
    let was : one ≡ Ok (pass, c.in_ok-pass.claimed) = search rules in
    let kept = c.loop-one.invariant in
    let both = keep-more b (λ x. IfOk x (λ r. IsPassOf b r.0)) one left rest pass _ _ next c.in_ok-push.ensures.items
    (λ h. subst (λ x. IfOk x (λ r. IsPassOf b r.0)) was h) kept.1 kept.2 in
    (refl, both.0, both.1)
