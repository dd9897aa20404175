-- The list of the faults that reads met.
use Rattle.std.proofs.Common.{◌≡◌, ℕ, cond, List, [], ◌∷◌, bytes_eq, inl, inr, refl, arith}
use Rattle.std.proofs.lemmas.List.Sums.{sum_by-append}
use Rattle.std.proofs.lemmas.Slice.Eq.{bytes_eq-Decides}
use Rattle.outside_io.specs.Faults.{CountedOne, CountRose, NameFailed, OnlyFailed}
use Rattle.sched_tool.specs.ReadFaults.{FaultsAt, OneFaultAtMost}
use Rattle.sched_tool.specs.declared.program.refusal.Refusal.{Refusal}
use Rattle.sched_tool.specs.declared.program.refusal.Refusal.TheVariants.{Usage, CannotRead, Script, Table, OutOfMemory}

-- the count of a name that is put behind the others rose
pub NameFailed-added : (old new : List (List ℕ)) (name : List ℕ) → OnlyFailed old new name → NameFailed old new name
NameFailed-added old new name is =
    let same = (bytes_eq-Decides name name).1 refl in
    grind (arith, is, same, sum_by-append (λ x. cond (bytes_eq name x) 1 0) old (name ∷ []))

-- a counter that went up by one rose
pub CountRose-one : (old new : ℕ) → CountedOne old new → CountRose old new
CountRose-one old new one = omega (arith, one)

-- a refusal goes with one fault at most, of the file that it names
pub OneFaultAtMost-at : (reads : List ℕ → Type 0) (old new : List (List ℕ)) (r : Refusal) → FaultsAt r old new
    → ((file : List ℕ) → r ≡ CannotRead file → reads file) → OneFaultAtMost reads old new
OneFaultAtMost-at reads old new Usage faults read = inl faults
OneFaultAtMost-at reads old new (CannotRead file) faults read = inr (file, read file refl, faults)
OneFaultAtMost-at reads old new (Script fault) faults read = inl faults
OneFaultAtMost-at reads old new (Table file fault) faults read = inl faults
OneFaultAtMost-at reads old new OutOfMemory faults read = inl faults
