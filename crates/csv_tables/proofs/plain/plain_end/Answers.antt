use Rattle.std.proofs.Common.{sym}
use Rattle.csv_tables.proofs.Fields.{plain_more, plain_none}
use Rattle.csv_tables.proofs.plain.plain_end.Goals as goal

pub loop-place-init : goal.loop-place-init
loop-place-init c = plain_none c.args.bytes.now c.args.start c.requires

pub loop-place-preserved : goal.loop-place-preserved
loop-place-preserved c = plain_more c.args.bytes.now c.args.start c.loop-place.place c.loop-place.invariant c.loop-place-test.true (sym c.if-is_mark.ensures)
