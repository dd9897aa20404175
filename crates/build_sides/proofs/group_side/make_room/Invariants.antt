use Rattle.std.proofs.Common.{◌≡◌, length, map}
use Rattle.std.specs.List.{AllWithin}
use Rattle.build_sides.specs.Columns.{HasRoom, totals_of}
use Rattle.build_sides.proofs.group_side.make_room.Given as goal

abbrev pub invariant-loop-place : goal.invariant-loop-place
invariant-loop-place l = record {
  count : length l.columns.items ≡ length l.fn.columns.items;
  same : map totals_of l.columns.items ≡ map totals_of l.fn.columns.items;
  room : AllWithin HasRoom l.columns.items 0 l.place;
}
