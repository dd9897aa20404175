use Rattle.std.proofs.Common.{arith, length-drop}
use Rattle.std.proofs.lemmas.List.{take_rest}
use Rattle.outside_io.proofs.PiecesLemmas.{Appends-next, drop-next}
use Rattle.outside_io.proofs.writing.write_all.Goals as goal

pub loop-rest-preserved : goal.loop-rest-preserved
loop-rest-preserved g c = rw (take_rest c.loop-rest.rest.now c.in_ok-count.count) record {
  rest_is = drop-next _ _ _ c.loop-rest.invariant.rest_is c.in_ok-count.ensures.within c.loop-rest.invariant.within;
  within = omega (arith, length-drop c.in_ok-count.count c.loop-rest.rest.now);
  written = Appends-next _ _ _ _ _ _ c.loop-rest.invariant.rest_is c.in_ok-count.ensures.within
      c.loop-rest.invariant.within c.loop-rest.invariant.written c.in_ok-count.ensures.appended;
  no_fault = omega (arith, c.in_ok-count.ensures.ok);
}
