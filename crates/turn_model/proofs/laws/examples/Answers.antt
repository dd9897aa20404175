use Rattle.std.proofs.Common.{refl}
use Rattle.stride_set.specs.Slots.{greatest, choice_from}
use Rattle.prio_decay.specs.Priority.{priority_after}
use Rattle.turn_model.specs.Learned.{joins}
use Rattle.turn_model.specs.Examples.{one_worker, first_of_two, second_of_two, two_queries, no_rows, no_query, three_queries, many_rows}
use Rattle.turn_model.proofs.Deciding.{plays}
use Rattle.turn_model.proofs.laws.examples.Goals as goal

pub returns : goal.returns
unfolding joins greatest choice_from priority_after
returns c = record {
  one = plays one_worker refl refl refl refl refl refl;
  pair_first = plays first_of_two refl refl refl refl refl refl;
  pair_second = plays second_of_two refl refl refl refl refl refl;
  two = plays two_queries refl refl refl refl refl refl;
  empty = plays no_rows refl refl refl refl refl refl;
  none = plays no_query refl refl refl refl refl refl;
  three = plays three_queries refl refl refl refl refl refl;
  long = plays many_rows refl refl refl refl refl refl;
}
