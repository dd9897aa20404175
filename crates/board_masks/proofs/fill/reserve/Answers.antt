use Rattle.slot_station.specs.Tokens.{ReserveGives}
use Rattle.board_rule.specs.Passes.{board_shape}
use Rattle.board_rule.proofs.Callers.{brings}
use Rattle.board_masks.proofs.fill.reserve.Goals as goal

pub returns-clause-holder : goal.returns-clause-holder
returns-clause-holder g c =
    brings c.make_step-found.ensures.stepped c.reserve_read-reserve.ensures.act ReserveGives c.reserve_read-reserve.result
    (c.reserve_read-reserve.ensures.gives (board_shape c.args.board.now) c.make_step-found.new.pass.place)
