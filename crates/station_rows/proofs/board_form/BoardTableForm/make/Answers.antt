use Rattle.station_rows.proofs.Passes.{all-of}
use Rattle.station_rows.proofs.board_form.BoardTableForm.make.Goals as goal

pub keep_passes-requires : goal.keep_passes-requires
keep_passes-requires c = all-of c.in_ok-board.board c.in_ok-board.passes.items c.in_ok-board.ensures.passes.1
