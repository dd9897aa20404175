use Rattle.std.proofs.Common.{inr, subst}
use Rattle.slot_station.specs.Desks.{Exchanges}
use Rattle.slot_station.proofs.ExchangesSeen.{exchanges-say}
use Rattle.board_rule.specs.Passes.{HasExchanged, seen_of}
use Rattle.board_finish.proofs.finish.cell.Goals as goal

pub exchange_cell-requires-clause-has : goal.exchange_cell-requires-clause-has
exchange_cell-requires-clause-has g c = inr (_, _, c.requires.holder.place, c.requires.worker)

pub exchange_cell-requires-clause-fits : goal.exchange_cell-requires-clause-fits
exchange_cell-requires-clause-fits g c =
    ((exchanges-say g.B.Fits.fits _).held (seen_of c.args.board.now c.args.pass.now) _ _ c.requires.holder.place c.args.worker c.args.new).1 c.requires.fits

pub returns-clause-says : goal.returns-clause-says
returns-clause-says g c =
    ((exchanges-say g.B.Fits.fits _).held (seen_of c.args.board.now c.args.pass.now) _ _ c.requires.holder.place c.args.worker c.exchange_cell.result).0
    c.exchange_cell.ensures.says

pub returns-clause-put : goal.returns-clause-put
returns-clause-put g c =
    let x = seen_of c.args.board.now c.args.pass.now in (
      c.exchange_cell.ensures.pass,
      subst (λ n. Exchanges c.args.worker n x (seen_of c.args.board.now c.exchange_cell.new.pass))
          ((exchanges-say g.B.Fits.fits _).held x _ _ c.requires.holder.place c.args.worker c.args.new).2 c.exchange_cell.ensures.put,
    )

pub returns-clause-exchanged : goal.returns-clause-exchanged
returns-clause-exchanged g c =
    let x = seen_of c.args.board.now c.args.pass.now in
    subst (λ n. HasExchanged c.args.worker n c.args.pass.now c.exchange_cell.new.pass)
    ((exchanges-say g.B.Fits.fits _).held x _ _ c.requires.holder.place c.args.worker c.args.new).2 c.exchange_cell.ensures.exchanged
