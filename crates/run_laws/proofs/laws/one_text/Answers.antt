use Rattle.run_laws.proofs.OneText.{answered-serves-all, one-text-by-turns, one-text-by-moves}
use Rattle.run_laws.proofs.laws.one_text.Goals as goal

pub returns : goal.returns
returns c = record { answered = answered-serves-all; turns = one-text-by-turns; moves = one-text-by-moves }
