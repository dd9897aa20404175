use Rattle.slot_history.proofs.Notices.{noticed}
use Rattle.slot_history.proofs.laws.notices.no_notice_is_lost.Goals as goal

pub returns : goal.returns
returns c d h legal s v s_low low = noticed d h legal s v low
