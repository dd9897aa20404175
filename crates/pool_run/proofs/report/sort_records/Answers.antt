use Rattle.std.proofs.Common.{rules}
use Rattle.std.specs.Ordering.{is_lt, nat_cmp}
use Rattle.std.proofs.lemmas.Cmp.{nat_cmp_total}
use Rattle.std.proofs.lemmas.List.Sorted.{answers_always, ranks_by}
use Rattle.report_text.specs.declared.report.Record.{Record}
use Rattle.turn_model.specs.Reports.{id_of_record}
use Rattle.pool_run.proofs.report.sort_records.Goals as goal

pub returns-clause-sorted : goal.returns-clause-sorted
returns-clause-sorted c =
    let rank = ranks_by nat_cmp_total id_of_record in
    let comes_before = λ (x y : Record). is_lt (nat_cmp (id_of_record x) (id_of_record y)) in
    c.sort_unstable_by.ensures.sorted comes_before rank (answers_always _ _ _ (λ f a r q k. search rules))
