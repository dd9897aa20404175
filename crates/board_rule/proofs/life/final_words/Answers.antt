use Rattle.std.proofs.Common.{◌≡◌, length, arith}
use Rattle.std.specs.Slots.{slots_items, slots_counts}
use Rattle.board_rule.proofs.Copies.{copied-more, same-lists}
use Rattle.board_rule.proofs.life.final_words.Goals as goal

pub loop-i-preserved : goal.loop-i-preserved
loop-i-preserved g c =
    let i = c.loop-i.invariant in
    let row = c.args.closed.now.words in
    let more = copied-more c.loop-i.words.items (slots_items row) c.loop-i.i _ c.word.result i.0 c.loop-i-test.true c.word.ensures i.2 in
    (more.0, i.1, more.1)

pub returns : goal.returns
returns g c =
    let i = c.loop-i.invariant in
    let row = c.args.closed.now.words in
    let counts = (slots_counts row).0 in
    let end = c.loop-i-test.false in
    let long : length c.loop-i.words.items ≡ length (slots_items row) = omega (arith, i.0, i.1, counts) in
    same-lists c.loop-i.words.items (slots_items row) long (λ k low. i.2 k (omega (arith, i.0)))
