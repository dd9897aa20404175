-- What a worker told early still holds of a later history.
use Rattle.std.proofs.Common.{◌≡◌, ℕ, ◌<◌, cond, List, [], ◌∷◌, sym, ap, ◌∙◌, arith}
use Rattle.std.specs.Prelude.{map, reverse}
use Rattle.slot_history.specs.declared.act.Entry.{Entry}
use Rattle.slot_history.specs.Histories.{IsLegal, Begins}
use Rattle.slot_station.specs.Desks.{Desk}
use Rattle.slot_history.specs.Histories.{lasts_of}
use Rattle.slot_history.proofs.TaskSetsKept.{task-sets-stay}
use Rattle.slot_history.proofs.Finishers.{finisher-stays}
use Rattle.turn_model.specs.Workloads.{Workload}
use Rattle.turn_model.specs.Reports.{id_of_record, as_claim}
use Rattle.turn_model.specs.Endings.{Beside, Work, IsRecordAt, RecordsStay, work_by}
use Rattle.turn_model.specs.Tellings.{Telling, IsOfWork, ToldStays}

pub record-stays : RecordsStay
record-stays d load h early kept legal begins is =
    let id : ℕ = id_of_record kept in
    let keeps = task-sets-stay d h early legal begins in
    let some : 0 < lasts_of d id early = let one : lasts_of d id early ≡ 1 = is.last in omega (arith, one) in
    record {
      stage = is.stage;
      last = keeps.last id some;
      slot = keeps.slot id kept.slot is.slot;
      total = keeps.total id kept.total is.total;
      of_load = is.of_load;
      finisher = finisher-stays d h early id kept.finisher legal begins is.finisher;
      claims = is.claims ∙ ap (λ l. cond kept.short [] (reverse (map as_claim l))) (sym (keeps.claims id some));
    }

pub beside-map : {A B : Type 0} (P Q : A → B → Type 0) (xs : List A) (ys : List B) → ((x : A) (y : B) → P x y → Q x y) → Beside P xs ys → Beside Q xs ys
beside-map P Q [] [] f all = tt
beside-map P Q (x ∷ xs) (y ∷ ys) f all = (f x y all.0, beside-map P Q xs ys f all.1)
beside-map P Q [] (y ∷ ys) f all = absurd (all)
beside-map P Q (x ∷ xs) [] f all = absurd (all)

-- so do the replies and the records of what was done
pub of-work-stays : (D : Desk Workload) (h early : List Entry) (work : Work) (telling : Telling) → IsLegal D.shape h → Begins h early
    → IsOfWork D early work telling → IsOfWork D h work telling
of-work-stays D h early work telling legal begins is = record {
  replies = is.replies;
  records = beside-map (IsRecordAt D early) (IsRecordAt D h) (reverse telling.records) work.gathered
      (λ kept id r. (r.0, record-stays D.shape D.subject h early kept legal begins r.1)) is.records;
  short = is.short;
}

pub told-stays : ToldStays
told-stays D h early ms telling legal begins told = record {
  of_work = of-work-stays D h early (work_by D ms) telling legal begins told.of_work;
  shares = told.shares;
}
