use Rattle.std.proofs.Common.{◌≡◌, ◌+◌, length, rules, refl, sym, subst}
use Rattle.board_rule.specs.Lives.{IsFreePass}
use Rattle.board_rule.specs.Passes.{board_shape}
use Rattle.station_rows.proofs.Passes.{FreeFrom, free-more, free-all}
use Rattle.station_rows.proofs.board_form.free_passes.Goals as goal

pub loop-worker-preserved : goal.loop-worker-preserved
loop-worker-preserved g c =
    let b = c.args.board.now in
    let pass = c.take_pass-pass in
    let old = c.loop-worker.passes.items in
    let kept = c.loop-worker.invariant in
    let done : IsFreePass b pass.result = record { of_board = pass.ensures.pass; place = search rules } in
    let own : pass.result.worker ≡ 0 + length old = search rules in
    let more : length c.push.new.self.items ≡ c.loop-worker.worker + 1 = search rules in (
      refl,
      refl,
      pass.ensures.left,
      more,
      subst (FreeFrom b 0) (sym c.in_ok-push.ensures.items) (free-more b 0 old pass.result kept.4 own done),
    )

pub returns : goal.returns
returns g c =
    let b = c.args.board.now in
    let full : length c.loop-worker.passes.items ≡ (board_shape b).workers = search rules in
    free-all b c.loop-worker.passes.items full c.loop-worker.invariant.4
