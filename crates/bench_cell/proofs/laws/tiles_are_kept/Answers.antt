use Rattle.bench_cell.proofs.JournalLemmas as lemma
use Rattle.bench_cell.proofs.laws.tiles_are_kept.Goals as goal

pub returns : goal.returns
returns c = lemma.tiles_kept
