use Rattle.std.proofs.Common.{refl, ◌∙◌}
use Rattle.board_rule.proofs.Exchanges.{some-words, take-step, says, give-step, knows, pass-after, put-after}
use Rattle.board_rule.proofs.exchange.exchange_cell.Goals as goal

pub take_cell-requires-clause-words : goal.take_cell-requires-clause-words
take_cell-requires-clause-words g c =
    some-words g.B.Fits.total g.B.Fits.fits c.args.board.now c.args.pass.now c.requires.pass c.args.cell c.requires.has

pub take_cell-requires-clause-step : goal.take_cell-requires-clause-step
take_cell-requires-clause-step g c =
    take-step g.B.Fits.total g.B.Fits.fits c.args.board.now c.args.pass.now c.requires.pass c.args.cell c.requires.has

pub load-requires : goal.load-requires
load-requires g c =
    let b = c.args.board.now in
    let p = c.args.pass.now in
    let x = c.exchange-old.ensures in (
      x.0 ∙ c.take_cell.ensures.same.0 ∙ c.requires.pass.0,
      some-words g.B.Fits.total g.B.Fits.fits b p c.requires.pass c.args.cell c.requires.has,
      give-step g.B.Fits.total g.B.Fits.fits b p c.requires.pass c.args.cell c.requires.has c.take_cell.new.seat.me c.take_cell.ensures.takes
          c.exchange-old.new.seat.me c.cell_index-at.result c.exchange-old.result c.args.new x.2 x.3 c.exchange-old.new.seat.id c.requires.fits,
    )

pub returns-clause-pass : goal.returns-clause-pass
returns-clause-pass g c =
    let x = c.exchange-old.ensures in
    pass-after g.B.Fits.total g.B.Fits.fits c.args.board.now c.args.pass.now c.requires.pass c.args.cell c.requires.has c.take_cell.new.seat.me
    c.take_cell.ensures.takes c.exchange-old.new.seat.me c.cell_index-at.result c.exchange-old.result c.args.new x.2 x.3 c.load.new.seat.me c.load.ensures.2
    c.load.new.seat refl (c.load.ensures.0 ∙ x.0 ∙ c.take_cell.ensures.same.0)

pub returns-clause-says : goal.returns-clause-says
returns-clause-says g c =
    says g.B.Fits.total g.B.Fits.fits c.args.board.now c.args.pass.now c.requires.pass c.args.cell c.requires.has c.take_cell.new.seat.me
    c.take_cell.ensures.takes c.cell_index-at.result c.exchange-old.result c.exchange-old.ensures.2

pub returns-clause-put : goal.returns-clause-put
returns-clause-put g c =
    let x = c.exchange-old.ensures in
    put-after g.B.Fits.total g.B.Fits.fits c.args.board.now c.args.pass.now c.requires.pass c.args.cell c.requires.has c.take_cell.new.seat.me
    c.take_cell.ensures.takes c.exchange-old.new.seat.me c.cell_index-at.result c.exchange-old.result c.args.new x.2 x.3 c.load.new.seat.me c.load.ensures.2
    c.load.new.seat refl

pub returns-clause-exchanged : goal.returns-clause-exchanged
returns-clause-exchanged g c =
    let x = c.exchange-old.ensures in record {
      worker = refl;
      place = refl;
      view = knows g.B.Fits.total g.B.Fits.fits c.args.board.now c.args.pass.now c.requires.pass c.args.cell c.requires.has c.take_cell.new.seat.me
          c.take_cell.ensures.takes c.exchange-old.new.seat.me c.cell_index-at.result c.exchange-old.result c.args.new x.2 x.3 c.load.new.seat.me
          c.load.ensures.2 c.load.new.seat refl;
    }
