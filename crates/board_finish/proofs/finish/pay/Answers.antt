use Rattle.slot_station.specs.Tokens.{PayGives}
use Rattle.board_rule.specs.Passes.{board_shape}
use Rattle.board_rule.proofs.Callers.{brings}
use Rattle.board_finish.proofs.finish.pay.Goals as goal

pub returns-clause-holder : goal.returns-clause-holder
returns-clause-holder g c =
    brings c.make_step-found.ensures.stepped c.pay_read-pay.ensures.act PayGives c.pay_read-pay.result
    (c.pay_read-pay.ensures.gives (board_shape c.args.board.now))
