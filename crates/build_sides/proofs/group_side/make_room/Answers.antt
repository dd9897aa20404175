use Rattle.std.proofs.Common.{ap, ◌∙◌, arith}
use Rattle.std.proofs.Math.Seq.{map-set_same}
use Rattle.std.proofs.lemmas.List.{length-set}
use Rattle.std.proofs.lemmas.List.Elements.{AllWithin-more_set}
use Rattle.build_sides.specs.Columns.{HasRoom, totals_of}
use Rattle.build_sides.proofs.group_side.make_room.Goals as goal

pub returns-in_err-reserve-clause-same : goal.returns-in_err-reserve-clause-same
returns-in_err-reserve-clause-same c =
    map-set_same totals_of c.loop-place.columns.items c.loop-place.place c.reserve.new.self c.index_mut.result.now
    (c.reserve.ensures.same ∙ ap totals_of c.index_mut.ensures.value)
    ∙ c.loop-place.invariant.same

pub loop-place-preserved : goal.loop-place-preserved
loop-place-preserved c = record {
  count = length-set c.loop-place.columns.items c.loop-place.place c.reserve.new.self ∙ c.loop-place.invariant.count;
  same = map-set_same totals_of c.loop-place.columns.items c.loop-place.place c.reserve.new.self c.index_mut.result.now
      (c.reserve.ensures.same ∙ ap totals_of c.index_mut.ensures.value) ∙ c.loop-place.invariant.same;
  room = AllWithin-more_set c.loop-place.columns.items c.loop-place.place c.reserve.new.self (omega arith) HasRoom c.loop-place.invariant.room
      c.in_ok-reserve.ensures.room;
}
