use Rattle.run_laws.proofs.Tuples.{tiles-hold-each}
use Rattle.run_laws.proofs.laws.tiles_hold_each.Goals as goal

pub returns : goal.returns
returns c = tiles-hold-each
