use Rattle.slot_history.proofs.laws.slots.query_seen.Goals as goal
use Rattle.slot_history.proofs.Looks.{one-slot-seen, same-query-seen}

pub returns : goal.returns
returns c = record { one = one-slot-seen; same = same-query-seen }
