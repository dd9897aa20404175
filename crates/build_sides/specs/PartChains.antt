-- The keys of a group side in chains by part.
use Rattle.std.specs.Prelude.{◌≡◌, List, length}
use Rattle.build_sides.specs.GroupSides.{key_part}
use Rattle.build_sides.specs.LinkedChains.{AreIn}
use Rattle.build_sides.specs.declared.links.Links.{Links}
use Rattle.build_sides.specs.declared.key_table.Key.{Key}

pub record AreParts (parts : Links) (keys : List Key) : Type 0 where
  pub count : length parts.heads.items ≡ 16
  pub chained : AreIn key_part parts keys
