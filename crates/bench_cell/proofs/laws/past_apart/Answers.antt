use Rattle.bench_cell.proofs.ApartLemmas as lemma
use Rattle.bench_cell.proofs.laws.past_apart.Goals as goal

pub returns : goal.returns
returns c = lemma.past_apart
