use Rattle.std.proofs.Common.{Some}
use Rattle.sched_tool.proofs.WordLemmas.{order_within}
use Rattle.sched_tool.proofs.program.order.read_order.Goals as goal

pub returns-clause-below : goal.returns-clause-below
returns-clause-below c = (order_within c.args.workers (Some c.in-Some.text.now) c.in_ok-list.list.items c.requires c.in_ok-list.ensures.ok).0

pub returns-clause-few : goal.returns-clause-few
returns-clause-few c = (order_within c.args.workers (Some c.in-Some.text.now) c.in_ok-list.list.items c.requires c.in_ok-list.ensures.ok).1
