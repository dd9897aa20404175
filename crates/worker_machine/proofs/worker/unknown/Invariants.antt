use Rattle.std.proofs.Common.{◌≡◌, ℕ, length, slice_get, Some}
use Rattle.worker_machine.specs.Keeps.{IsUnknown}
use Rattle.worker_machine.specs.declared.kept.Known.{Known}
use Rattle.worker_machine.proofs.worker.unknown.Given as goal

abbrev pub invariant-loop : goal.invariant-loop
invariant-loop l = (length l.known.items ≡ l.counter) × ((s : ℕ) (k : Known) → slice_get l.known.items s ≡ Some k → IsUnknown k)
