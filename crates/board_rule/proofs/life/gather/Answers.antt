use Rattle.std.proofs.Common.{[], ◌∷◌}
use Rattle.board_rule.proofs.Joins.{shift, done-mid, join-step, gathered-first, gathered-more}
use Rattle.board_rule.proofs.life.gather.Goals as goal

pub loop-pass-init : goal.loop-pass-init
loop-pass-init g c =
    let b = c.args.board.now in
    let d = done-mid b c.args.passes.items c.pop.new.self.items [] c.in-Some.first c.requires.done c.in-Some.ensures.items in
    (c.in-Some.first ∷ [], c.in-Some.ensures.items, gathered-first b c.in-Some.first d)

pub join_seat-requires : goal.join_seat-requires
join_seat-requires g c =
    let b = c.args.board.now in
    let i = c.loop-pass.invariant in
    let p = c.in-Some-pop.pass in
    let e = shift c.args.passes.items c.loop-pass.passes.items c.pop-in-loop-pass.new.self.items i.0 p i.1 c.in-Some-pop.ensures.items in
    let d = done-mid b c.args.passes.items c.pop-in-loop-pass.new.self.items i.0 p c.requires.done e in
    join-step b g.B.Fits.total g.B.Fits.fits c.loop-pass.seat p i.2.table i.2.some_number d

pub loop-pass-preserved : goal.loop-pass-preserved
loop-pass-preserved g c =
    let b = c.args.board.now in
    let i = c.loop-pass.invariant in
    let p = c.in-Some-pop.pass in
    let x = c.join_seat.ensures in
    let e = shift c.args.passes.items c.loop-pass.passes.items c.pop-in-loop-pass.new.self.items i.0 p i.1 c.in-Some-pop.ensures.items in
    let d = done-mid b c.args.passes.items c.pop-in-loop-pass.new.self.items i.0 p c.requires.done e in
    (p ∷ i.0, e, gathered-more b c.loop-pass.seat c.join_seat.new.seat p i.0 i.2 d x.0 x.2)
