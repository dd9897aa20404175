use Rattle.slot_history.proofs.Notices.{noticed}
use Rattle.board_rule.proofs.laws.no_notice_is_lost.Goals as goal

pub returns : goal.returns
returns g c about known table ok s v in_s low = noticed about.shape known.trail ok.words_are.legal s v low
