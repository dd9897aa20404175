use Rattle.load_gen.proofs.LoadsLemmas.{heading-accepted}
use Rattle.load_gen.proofs.tables.table_of.Goals as goal

pub unwrap-requires : goal.unwrap-requires
unwrap-requires c = heading-accepted c.args.names.items c.from_columns.result c.requires.heading c.from_columns.ensures.refused
