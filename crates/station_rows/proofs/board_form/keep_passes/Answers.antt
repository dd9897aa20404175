use Rattle.std.proofs.Common.{◌≡◌, ◌∷◌, rules, refl}
use Rattle.board_rule.specs.Passes.{IsPassOf}
use Rattle.station_rows.proofs.Passes.{keep-more}
use Rattle.station_rows.proofs.board_form.keep_passes.Goals as goal

pub loop-pass-preserved : goal.loop-pass-preserved
loop-pass-preserved c =
    let b = c.args.board.now in
    let pass = c.in-Some.pass in
    let left = c.loop-pass.pass-iterator.rest.items in
    let rest = c.next.new.self.rest.items in
    let next : left ≡ pass ∷ rest = search rules in
    let kept = c.loop-pass.invariant in
    let both = keep-more b (IsPassOf b) pass left rest pass _ _ next c.in_ok-push.ensures.items (λ h. h) kept.1 kept.2 in
    (refl, both.0, both.1)
