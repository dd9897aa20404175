use Rattle.std.proofs.Common.{rules}
use Rattle.std.specs.Ordering.{is_lt, nat_cmp}
use Rattle.std.proofs.lemmas.Cmp.{nat_cmp_total}
use Rattle.std.proofs.lemmas.List.Sorted.{answers_always, ranks_by}
use Rattle.report_text.specs.declared.report.ClaimOf.{ClaimOf}
use Rattle.bench_cell.proofs.claims.sort_claims.Goals as goal

pub returns-clause-sorted : goal.returns-clause-sorted
returns-clause-sorted c =
    let rank = ranks_by nat_cmp_total (λ (claim : ClaimOf). claim.from) in
    c.sort_unstable_by.ensures.sorted (λ (x y : ClaimOf). is_lt (nat_cmp x.from y.from)) rank (answers_always _ _ _ (λ f a r q k. search rules))
