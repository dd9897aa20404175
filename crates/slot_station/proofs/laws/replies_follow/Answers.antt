use Rattle.slot_station.proofs.Follows.{place-after, names-task_set, sees-task_set, range-cut}
use Rattle.slot_station.proofs.Follows.{range-past, owes-task_set, coordinator-left, returns-named}
use Rattle.slot_station.proofs.Follows.{changes-named}
use Rattle.slot_station.proofs.laws.replies_follow.Goals as goal

pub returns : goal.returns
returns g c = record {
  place = λ a old new m. place-after m;
  named = λ a old new m. names-task_set m;
  sees = λ l old new m. sees-task_set l m;
  cut = λ n r old new m. range-cut n r m;
  past = λ n r old new m. range-past n r m;
  owes = λ l old new m. owes-task_set l m;
  coordinator = λ l old new m. coordinator-left l m;
  returns = λ part bits old new m. returns-named m;
  changes = λ part bits old new m. changes-named m;
}
