use Rattle.std.proofs.Common.{◌≡◌, ◌++◌, Some, ap, arith, length, map, reverse, ◌∙◌}
use Rattle.bench_cell.specs.Benches.{acc_in}
use Rattle.bench_cell.proofs.GatheringLemmas.{taken_all, taken_more, taken_none, turned_length}
use Rattle.bench_cell.proofs.accs.taken_accs.Goals as goal

pub loop-init : goal.loop-init
loop-init c =
    let benches = c.args.benches.now.items in
    let rest = c.reverse.new.self.items in
    record {
      room = c.reverse.ensures.capacity;
      rest = turned_length benches rest c.reverse.ensures.items;
      taken = taken_none benches c.in_ok-accs.accs.items rest c.in_ok-accs.ensures.items c.reverse.ensures.items;
    }

pub loop-preserved : goal.loop-preserved
loop-preserved c =
    let rest = c.last_acc.new.benches.items in
    record {
      room = c.in_ok-acc.ensures.room ∙ c.loop.invariant.room;
      rest = omega (arith, c.in_ok-acc.ensures.fewer, c.loop.invariant.rest);
      taken = ap (λ l. map Some l ++ reverse (map acc_in rest)) c.in_ok-push.ensures.items
          ∙ taken_more c.loop.accs.items c.in_ok-acc.acc (map acc_in c.loop.benches.items) (map acc_in rest) (map acc_in c.args.benches.now.items)
          c.in_ok-acc.ensures.acc c.loop.invariant.taken;
    }

pub returns-clause-accs : goal.returns-clause-accs
returns-clause-accs c =
    let none : length c.loop.benches.items ≡ 0 = omega (arith, c.loop.invariant.rest, c.args.benches.now.ok.0, c.len-count.ensures) in
    taken_all c.loop.accs.items c.loop.benches.items (map acc_in c.args.benches.now.items) none c.loop.invariant.taken
