use Rattle.std.proofs.Common.{◌≡◌, ℕ, ◌+◌, ◌-◌, ◌<◌, List, IfSome, vec_len}
use Rattle.std.specs.Io.{StartsWith}
use Rattle.outside_io.proofs.reading.read_whole.Given as goal

abbrev pub invariant-loop-files : goal.invariant-loop-files
invariant-loop-files g l = record {
  kept : (any : List ℕ) → g.F.Files.content l.files any ≡ g.F.Files.content l.fn.files any;
  no_fault : g.F.Files.failed l.files ≡ g.F.Files.failed l.fn.files;
  first : IfSome (g.F.Files.content l.fn.files l.fn.name) (λ file. StartsWith file l.taken.items);
  room : 0 < vec_len l.piece;
}

abbrev pub decreases-loop-files : goal.decreases-loop-files
decreases-loop-files g l = l.limit + 1 - vec_len l.taken
