use Rattle.std.proofs.Common.{◌≡◌, ap, arith, length, subst}
use Rattle.std.proofs.lemmas.List.Elements.{All-map}
use Rattle.col_table.specs.NamedRows.{IsHeading}
use Rattle.col_table.proofs.table.Table.new.Goals as goal

pub invariant_of-result : goal.invariant_of-result
invariant_of-result c = record {
  heading = subst IsHeading c.as_slice.ensures.value c.in_ok-check_heading.ensures.ok;
  columns = omega (arith, c.in-Ok.ensures.0);
  heights = All-map (λ values. length values ≡ 0) (λ column. column.items) c.in-Ok.columns.items (λ k d h. ap length (c.in-Ok.ensures.1 k d h));
  few = omega arith;
}
