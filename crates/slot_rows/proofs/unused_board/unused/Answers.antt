use Rattle.std.proofs.Common.{◌≡◌, length, ap, arith}
use Rattle.board_rule.specs.Passes.{board_shape}
use Rattle.board_rule.proofs.Deals.{fresh-all, fresh-done}
use Rattle.slot_rows.proofs.unused_board.unused.Goals as goal

pub finish-requires-clause-all : goal.finish-requires-clause-all
finish-requires-clause-all c =
    let b = c.in_ok-board.board in
    let ps = c.in_ok-board.passes in
    let made = c.in_ok-board.ensures.passes in
    let shape = ap (λ d. d.workers) c.in_ok-board.ensures.shape in
    let long : length ps.items ≡ (board_shape b).workers = omega (arith, ps.ok.0, made.0, shape) in
    fresh-all b ps.items long made.1

pub finish-requires-clause-done : goal.finish-requires-clause-done
finish-requires-clause-done c = fresh-done c.in_ok-board.board c.in_ok-board.passes.items c.in_ok-board.ensures.passes.1
