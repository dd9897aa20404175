use Rattle.std.proofs.Common.{◌+◌, ◌∷◌, [], length, ap, ◌∙◌, arith}
use Rattle.std.proofs.lemmas.List.{length-append}
use Rattle.std.specs.Prelude.{vec_len}
use Rattle.pool_run.specs.Seated.{IsFresh}
use Rattle.pool_run.specs.declared.threads.seated.Seated.{Seated}
use Rattle.pool_run.proofs.Crews.{sit-one}
use Rattle.pool_run.proofs.threads.crew.Crew.sit.Goals as goal

pub loop-preserved : goal.loop-preserved
loop-preserved g c =
    let was = c.loop.invariant in
    let worker = c.take_last-worker in
    let pass = c.take_last-pass in
    let meter = c.take_last-meter in
    let all = c.push_reserved.ensures in
    let sits : Seated g.row.M.Denot = record { worker = worker.result; pass = pass.result; meter = meter.result } in
    let count = was.left in
    let moved = was.moved in
    let one = sit-one (IsFresh c.args.board.now) {M = g.row.M.Denot} (vec_len c.args.self.now.team) sits worker.new.self.items pass.new.self.items
    c.loop.all.items c.loop.self.team.items c.loop.self.passes.items c.push_reserved.new.self.items worker.ensures.items pass.ensures.items all.items
    (omega (arith, count, moved)) was.seated was.down in
    let shorter = ap length worker.ensures.items ∙ length-append worker.new.self.items (worker.result ∷ []) in
    record {
      moved = ap length all.items ∙ length-append c.loop.all.items (sits ∷ []) ∙ ap (λ n. n + 1) was.moved;
      left = omega (arith, count, shorter);
      seated = one.0;
      down = one.1;
      team_room = worker.ensures.capacity ∙ was.team_room;
      pass_room = pass.ensures.capacity ∙ was.pass_room;
      room = all.capacity ∙ was.room;
      meters = (let had = was.meters in let fewer = meter.ensures.len in omega (arith, had, fewer));
      meter_room = meter.ensures.capacity ∙ was.meter_room;
    }
