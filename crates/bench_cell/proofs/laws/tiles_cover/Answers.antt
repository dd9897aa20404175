use Rattle.bench_cell.proofs.TilingLemmas as lemma
use Rattle.bench_cell.proofs.laws.tiles_cover.Goals as goal

pub returns : goal.returns
returns c = lemma.tiles_cover
