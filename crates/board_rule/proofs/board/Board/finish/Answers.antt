use Rattle.board_rule.proofs.Joins.{finished}
use Rattle.board_rule.proofs.board.Board.finish.Goals as goal

pub returns : goal.returns
returns g c =
    let v = c.close_with-closed.ensures.values in
    finished c.args.self g.B.Fits.total g.B.Fits.fits c.args.passes.items c.gather-seat.result _ _ _ c.requires.all c.gather-seat.ensures v.2
    c.final_words-words.ensures c.keep-history.ensures
