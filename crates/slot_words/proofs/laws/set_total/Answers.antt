use Rattle.slot_history.specs.Calls.{SettingTotal}
use Rattle.slot_words.proofs.Law.{law}
use Rattle.slot_words.proofs.laws.set_total.Goals as goal

pub returns : goal.returns
returns c t = law (SettingTotal t)
