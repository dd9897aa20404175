use Rattle.std.proofs.Common.{refl}
use Rattle.stride_set.specs.Slots.{greatest, choice_from}
use Rattle.prio_decay.specs.Priority.{priority_after}
use Rattle.turn_model.specs.Learned.{joins}
use Rattle.turn_model.specs.RareExamples.{marks, pays, pays_early, stranger, gives_up, gives_up_late}
use Rattle.turn_model.proofs.Deciding.{plays}
use Rattle.turn_model.proofs.laws.rare_examples.Goals as goal

pub returns : goal.returns
unfolding joins greatest choice_from priority_after
returns c = record {
  marks = plays marks refl refl refl refl refl refl;
  pays = plays pays refl refl refl refl refl refl;
  pays_early = plays pays_early refl refl refl refl refl refl;
  stranger = plays stranger refl refl refl refl refl refl;
  gives_up = plays gives_up refl refl refl refl refl refl;
  gives_up_late = plays gives_up_late refl refl refl refl refl refl;
}
