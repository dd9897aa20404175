use Rattle.std.proofs.Common.{◌≡◌, ℕ, suc, ◌+◌, ◌-◌, ◌<◌, refl, subst, sym, length, arith}
use Rattle.board_rule.specs.Lives.{IsUndealt}
use Rattle.board_rule.specs.Passes.{board_shape}
use Rattle.board_rule.proofs.Deals.{deal-step, deal-rest, deal-own, deal-more}
use Rattle.board_rule.proofs.life.deal.Goals as goal

pub split_seat-others-requires : goal.split_seat-others-requires
split_seat-others-requires g c =
    let k : ℕ = c.loop-worker.worker in
    let w : ℕ = c.args.board.now.shape.workers in
    let n : w - k ≡ suc (w - (k + 1)) = omega arith in
    deal-step c.args.board.now k (w - (k + 1)) (w - k) c.loop-worker.seat n c.loop-worker.invariant.seat g.B.Fits.total g.B.Fits.fits

pub loop-worker-preserved : goal.loop-worker-preserved
loop-worker-preserved g c =
    let k : ℕ = c.loop-worker.worker in
    let b = c.args.board.now in
    let w : ℕ = b.shape.workers in
    let n : w - k ≡ suc (w - (k + 1)) = omega arith in
    let i = c.loop-worker.invariant in
    let x = c.split_seat-others.ensures in
    let low : k < w = omega arith in
    let below : k < (board_shape b).workers = subst (λ d. k < d.workers) (sym b.shape_is) low in
    let own = deal-own b k (w - (k + 1)) (w - k) c.loop-worker.seat n i.seat c.split_seat-others.new.seat x.0 x.2 below in
    let left = deal-rest b k (w - (k + 1)) (w - k) c.loop-worker.seat n i.seat c.split_seat-others.result x.3 x.4 in
    let one : suc k ≡ k + 1 = omega arith in
    let long : length c.loop-worker.passes.items ≡ k = omega (arith, c.loop-worker.passes.ok.0, i.count) in record {
      seat = subst (λ j. IsUndealt b j (w - (k + 1)) c.split_seat-others.result) one left;
      count = (let a = c.push_reserved.ensures.len in let e = c.in_ok-reserve.ensures.len in let o = i.count in omega arith);
      dealt = deal-more b k c.loop-worker.passes.items c.reserve.new.self.items c.push_reserved.new.self.items _ c.push_reserved.ensures.items
          c.in_ok-reserve.ensures.items i.dealt long (record { of_board = own.0; worker = refl; place = refl; trail = own.1 });
    }
