use Rattle.std.proofs.Common.{◌<◌, ◌∙◌, All, arith, length, subst, sym, take}
use Rattle.std.proofs.lemmas.List.{take_all, take_more_set}
use Rattle.std.proofs.lemmas.List.Elements.{All-push}
use Rattle.col_table.specs.Columns.{HasRoom}
use Rattle.col_table.proofs.Stored.{values_of-set}
use Rattle.col_table.proofs.table.make_room.Goals as goal

pub returns-in_err-reserve-clause-same : goal.returns-in_err-reserve-clause-same
returns-in_err-reserve-clause-same c =
    values_of-set c.loop-column.columns c.loop-column.column-index c.column-item.result c.reserve.new.self (omega arith) c.reserve.ensures.items ∙
    c.loop-column.invariant.0

pub loop-column-preserved : goal.loop-column-preserved
loop-column-preserved c =
    let inside : c.loop-column.column-index < length c.loop-column.columns = omega arith in (
      values_of-set c.loop-column.columns c.loop-column.column-index c.column-item.result c.reserve.new.self inside c.reserve.ensures.items ∙
          c.loop-column.invariant.0,
      subst (All HasRoom) (sym (take_more_set c.loop-column.columns c.loop-column.column-index c.reserve.new.self inside))
          (All-push HasRoom (take c.loop-column.column-index c.loop-column.columns) c.reserve.new.self c.loop-column.invariant.1
          (omega (arith, c.in_ok-reserve.ensures.ok))),
    )

pub returns-clause-room : goal.returns-clause-room
returns-clause-room c = subst (All HasRoom) (take_all c.loop-column.column-index c.loop-column.columns (omega arith)) c.loop-column.invariant.1
