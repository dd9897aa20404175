use Rattle.board_rule.specs.Rule.{terms_of}
use Rattle.board_rule.proofs.Outs.{out-with-one}
use Rattle.board_rule.proofs.laws.one_has_it_out.Goals as goal

pub returns : goal.returns
returns g c about known table ok s u in_s in_u away = out-with-one (terms_of g.B.Fits.total g.B.Fits.fits about) known table ok s u in_s in_u away
