use Rattle.std.proofs.Common.{◌≡◌, ◌+◌, length}
use Rattle.std.specs.Prelude.{vec_len}
use Rattle.std.specs.Vec.{vec_capacity}
use Rattle.pool_run.specs.Seated.{AreSeated, AreSeatedDown, IsFresh}
use Rattle.pool_run.proofs.threads.crew.Crew.sit.Given as goal

abbrev pub invariant-loop : goal.invariant-loop
invariant-loop g l = record {
  moved : length l.all.items ≡ l.counter;
  left : length l.self.team.items + l.counter ≡ vec_len l.initial.self.team;
  seated : AreSeated (IsFresh l.fn.board) l.self.team.items l.self.passes.items;
  down : AreSeatedDown (IsFresh l.fn.board) (vec_len l.initial.self.team) l.all.items;
  team_room : vec_capacity l.self.team ≡ vec_capacity l.initial.self.team;
  pass_room : vec_capacity l.self.passes ≡ vec_capacity l.initial.self.passes;
  room : vec_capacity l.all ≡ vec_capacity l.initial.all;
  meters : vec_len l.meters + l.counter ≡ vec_len l.initial.meters;
  meter_room : vec_capacity l.meters ≡ vec_capacity l.initial.meters;
}
