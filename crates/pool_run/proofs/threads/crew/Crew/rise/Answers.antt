use Rattle.std.proofs.Common.{◌+◌, ◌∷◌, [], length, ap, ◌∙◌, arith}
use Rattle.std.proofs.lemmas.List.{length-append}
use Rattle.std.specs.Prelude.{vec_len}
use Rattle.pool_run.specs.Seated.{IsOver}
use Rattle.pool_run.proofs.Crews.{rise-one}
use Rattle.pool_run.proofs.threads.crew.Crew.rise.Goals as goal

pub loop-preserved : goal.loop-preserved
loop-preserved g c =
    let was = c.loop.invariant in
    let last = c.take_last-worker in
    let sits = last.result in
    let team = c.push_reserved.ensures in
    let passes = c.push_reserved-in-loop.ensures in
    let meters = c.push_reserved-in-loop-2.ensures in
    let count = was.left in
    let moved = was.moved in
    let one = rise-one (IsOver g.M.Meter.may_take c.args.board.now) {M = g.row.M.Denot} (vec_len c.args.all.now) sits c.loop.self.team.items c.loop.self.passes.items
    last.new.self.items c.push_reserved.new.self.items c.push_reserved-in-loop.new.self.items c.loop.all.items last.ensures.items team.items passes.items
    (omega (arith, count, moved)) was.seated was.down in
    let shorter = ap length last.ensures.items ∙ length-append last.new.self.items (sits ∷ []) in
    record {
      moved = ap length team.items ∙ length-append c.loop.self.team.items (sits.worker ∷ []) ∙ ap (λ n. n + 1) was.moved;
      left = omega (arith, count, shorter);
      seated = one.0;
      down = one.1;
      team_room = team.capacity ∙ was.team_room;
      pass_room = passes.capacity ∙ was.pass_room;
      meters = (let had = was.meters in let more = meters.len in omega (arith, had, more));
      meter_room = meters.capacity ∙ was.meter_room;
    }
