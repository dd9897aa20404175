use Rattle.std.proofs.Common.{sym, subst}
use Rattle.slot_station.specs.Cells.{CellsAllow}
use Rattle.slot_station.proofs.laws.replies_allowed.Goals as goal

pub returns : goal.returns
returns c totals caller call a same = (
  λ asks. subst (CellsAllow totals caller) (sym same) asks,
  λ asks. subst (CellsAllow totals caller) same asks,
)
