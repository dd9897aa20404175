use Rattle.std.proofs.Common.{rules}
use Rattle.std.specs.Ordering.{is_lt, nat_cmp}
use Rattle.std.proofs.lemmas.Cmp.{nat_cmp_total}
use Rattle.std.proofs.lemmas.List.Sorted.{answers_always, ranks_by}
use Rattle.report_text.specs.declared.replies.QueryReply.{QueryReply}
use Rattle.pool_run.proofs.report.sort_replies.Goals as goal

pub returns-clause-sorted : goal.returns-clause-sorted
returns-clause-sorted c =
    let rank = ranks_by nat_cmp_total (λ (reply : QueryReply). reply.query) in
    c.sort_unstable_by.ensures.sorted (λ (x y : QueryReply). is_lt (nat_cmp x.query y.query)) rank (answers_always _ _ _ (λ f a r q k. search rules))
