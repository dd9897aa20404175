use Rattle.std.proofs.Common.{◌≡◌, length, subst}
use Rattle.std.proofs.lemmas.List.Elements.{All-map}
use Rattle.col_table.specs.NamedRows.{IsHeading}
use Rattle.col_table.proofs.table.Table.from_columns.Goals as goal

pub invariant_of-result : goal.invariant_of-result
invariant_of-result c = record {
  heading = subst IsHeading c.as_slice.ensures.value c.in_ok-check_heading.ensures.ok;
  columns = c.requires.width;
  heights = All-map (λ values. length values ≡ c.args.rows) (λ column. column.items) c.args.columns.items c.requires.heights;
  few = c.requires.few;
}
