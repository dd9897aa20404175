use Rattle.std.proofs.Common.{sym, ◌∙◌, arith}
use Rattle.build_sides.specs.GroupSides.{key_part}
use Rattle.build_sides.proofs.group_side.new_number.Goals as goal

pub returns-clause-parts : goal.returns-clause-parts
returns-clause-parts c =
    let next = c.in_ok-number.ensures.next in
    record {
      count = c.link.ensures.places ∙ c.requires.parts.count;
      chained = rw (c.in_ok-number.ensures.ok.added (omega arith)).1
          (c.link.ensures.chained key_part c.args.keys.now c.args.key (sym c.part_of.ensures.value) (rw c.reserve.ensures.items c.requires.parts.chained));
    }
