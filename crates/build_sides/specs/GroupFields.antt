-- The fields of a group side.
use Rattle.std.specs.Prelude.{map}
use Rattle.build_sides.specs.Columns.{totals_of}
use Rattle.build_sides.specs.GroupTotals.{GroupTotals}
use Rattle.build_sides.specs.GroupSides.{AreGroups}
use Rattle.build_sides.specs.PartChains.{AreParts}
use Rattle.build_sides.specs.declared.group_side.GroupSide.TheInside.{Inside}

abbrev pub group_totals_of : Inside → GroupTotals
group_totals_of a = record { keys = a.keys; columns = map totals_of a.columns.items }

pub record IsGroupSide (a : Inside) : Type 0 where
  pub groups : AreGroups (group_totals_of a)
  pub parts : AreParts a.parts a.keys
