use Rattle.std.proofs.Common.{◌≡◌, ◌++◌, length}
use Rattle.std.specs.Vec.Iter.{into_iter_items}
use Rattle.pool_run.specs.Seated.{AreSeated, IsFresh}
use Rattle.pool_run.proofs.threads.crew.Crew.new.Given as goal

abbrev pub invariant-loop-pass : goal.invariant-loop-pass
invariant-loop-pass l = record {
  split : l.fn.unused.items ≡ l.yielded ++ into_iter_items l.pass-iterator;
  count : length l.team.items ≡ length l.yielded;
  seated : AreSeated (IsFresh l.fn.board) l.team.items l.passes.items;
}
