use Rattle.board_rule.proofs.exchange.exchange_cell.Given as goal

abbrev pub ghosts-take_cell : goal.ghosts-take_cell
ghosts-take_cell g a = record { cell = a.cell }
