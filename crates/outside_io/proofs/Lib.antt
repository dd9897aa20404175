mod FaultsLemmas
mod FilesInMemoryLemmas
mod PiecesLemmas
