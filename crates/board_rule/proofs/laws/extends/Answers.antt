use Rattle.board_rule.specs.Rule.{terms_of}
use Rattle.board_rule.proofs.Extends.{extended}
use Rattle.board_rule.proofs.laws.extends.Goals as goal

pub returns : goal.returns
returns g c about known table step ok at may =
    extended (terms_of g.B.Fits.total g.B.Fits.fits about) known table ok step.seat step.view at step.call may
