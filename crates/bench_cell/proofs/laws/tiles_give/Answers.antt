use Rattle.bench_cell.proofs.GivingLemmas as lemma
use Rattle.bench_cell.proofs.laws.tiles_give.Goals as goal

pub returns : goal.returns
returns c = lemma.tiles_give
