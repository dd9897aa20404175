use Rattle.std.proofs.Common.{map, ap, ◌∙◌}
use Rattle.build_sides.specs.Columns.{totals_of}
use Rattle.build_sides.specs.GroupSides.{key_part}
use Rattle.build_sides.specs.GroupTotals.{Totals}
use Rattle.build_sides.proofs.Places.{groups_none, map-func_none}
use Rattle.build_sides.proofs.group_side.GroupSide.new.Goals as goal

pub invariant_of-result : goal.invariant_of-result
invariant_of-result c = record {
  groups = groups_none c.new.result (map totals_of c.in_ok-columns.columns.items) c.as_slice.result.now c.new.ensures c.in_ok-columns.ensures;
  parts = record {
    count = c.in_ok-none.ensures.places;
    chained = rw c.new.ensures (c.in_ok-none.ensures.chained key_part);
  };
}

pub returns-clause-funcs : goal.returns-clause-funcs
returns-clause-funcs c =
    ap (map (λ (x : Totals). x.func)) c.in_ok-columns.ensures ∙ map-func_none c.as_slice.result.now ∙ c.as_slice.ensures.value
