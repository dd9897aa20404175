-- The faults that reads met. Lists of faults have the name of the file for each fault, in order.
use Rattle.std.specs.Prelude.{◌≡◌, ◌⊎◌, ℕ, List}
use Rattle.outside_io.specs.Faults.{CountRose, NameFailed, OnlyFailed}
use Rattle.sched_tool.specs.declared.program.refusal.Refusal.{Refusal}
use Rattle.sched_tool.specs.declared.program.refusal.Refusal.TheVariants.{CannotRead}

-- reads met a fault only if the refusal names a file, and then just one, of that file
abbrev pub FaultsAt : Refusal → List (List ℕ) → List (List ℕ) → Type 0
FaultsAt (CannotRead file) old new = OnlyFailed old new file
FaultsAt refusal old new = new ≡ old

-- reads met no fault, or one, of a file that is read
abbrev pub OneFaultAtMost : (List ℕ → Type 0) → List (List ℕ) → List (List ℕ) → Type 0
OneFaultAtMost reads old new =
    (new ≡ old) ⊎ ((file : List ℕ) × reads file × OnlyFailed old new file)

-- no count of faults rose: not of a file that is read, and not of the sink
pub record NoCountRose (reads : List ℕ → Type 0) (old new : List (List ℕ)) (old_sink new_sink : ℕ)
    : Type 0 where
  pub files : (file : List ℕ) → reads file → ¬ (NameFailed old new file)
  pub sink : ¬ (CountRose old_sink new_sink)
