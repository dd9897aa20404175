-- The count of faults of a name over a list that grows.
use Rattle.std.proofs.Common.{◌≡◌, ℕ, cond, List, [], ◌∷◌, ◌++◌, bytes_eq, refl, arith}
use Rattle.std.proofs.lemmas.List.Sums.{sum_by-append}
use Rattle.std.proofs.lemmas.Slice.Eq.{bytes_eq-Decides}
use Rattle.outside_io.specs.Faults.{NameFailed}

-- a name that is put behind the others has failed
pub NameFailed-append : (old new : List (List ℕ)) (name : List ℕ) → new ≡ old ++ name ∷ [] → NameFailed old new name
NameFailed-append old new name is =
    let same = (bytes_eq-Decides name name).1 refl in
    grind (arith, is, same, sum_by-append (λ x. cond (bytes_eq name x) 1 0) old (name ∷ []))
