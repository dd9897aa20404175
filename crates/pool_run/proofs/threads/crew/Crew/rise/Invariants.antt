use Rattle.std.proofs.Common.{◌≡◌, ◌+◌, length}
use Rattle.std.specs.Prelude.{vec_len}
use Rattle.std.specs.Vec.{vec_capacity}
use Rattle.pool_run.specs.Seated.{AreSeated, AreSeatedDown, IsOver}
use Rattle.pool_run.proofs.threads.crew.Crew.rise.Given as goal

abbrev pub invariant-loop : goal.invariant-loop
invariant-loop g l = record {
  moved : length l.self.team.items ≡ l.counter;
  left : length l.all.items + l.counter ≡ vec_len l.initial.all;
  seated : AreSeated (IsOver g.M.Meter.may_take l.fn.board) l.self.team.items l.self.passes.items;
  down : AreSeatedDown (IsOver g.M.Meter.may_take l.fn.board) (vec_len l.initial.all) l.all.items;
  team_room : vec_capacity l.self.team ≡ vec_capacity l.initial.self.team;
  pass_room : vec_capacity l.self.passes ≡ vec_capacity l.initial.self.passes;
  meters : vec_len l.meters ≡ vec_len l.initial.meters + l.counter;
  meter_room : vec_capacity l.meters ≡ vec_capacity l.initial.meters;
}
