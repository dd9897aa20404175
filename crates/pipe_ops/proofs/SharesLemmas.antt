-- Three accumulators that share the tuples of a stage, cut at two of them.
use Rattle.std.proofs.Common.{◌≡◌, ℕ, ◌<◌, ◌≤◌, List, [], ◌∷◌, ◌&&◌, ◌||◌, true, false, refl, sym, subst, inl, inr, arith}
use Rattle.std.proofs.lemmas.Bool.{cases_lt, le-leb, le-ltb, lt-leb, lt-ltb}
use Rattle.std.proofs.Math.Bool.{and-false}
use Rattle.std.proofs.Math.Dec.{leb, ltb}
use Rattle.plan_ast.specs.Folds.{Tuples, no_tuples, range_of, union}
use Rattle.pipe_ops.specs.Inputs.{IsAccOf, total_in}
use Rattle.pipe_ops.specs.StageResults.{Cover, Extends, HasRoomForRange, Share}
use Rattle.pipe_ops.specs.declared.acc.Acc.{Acc}
use Rattle.pipe_ops.specs.declared.inputs.Inputs.{Inputs}

-- an accumulator of no tuples has room for any range
pub room_of_none : (inputs : Inputs) (from to : ℕ) (acc : Acc) → IsAccOf inputs no_tuples acc → HasRoomForRange inputs from to acc
room_of_none inputs from to acc holds = record { done = no_tuples; apart = λ tuple. refl; holds = holds }

-- the tuples before two cuts, between them and after them
abbrev pub thirds : ℕ → ℕ → ℕ → List Tuples
thirds cut again total =
    union no_tuples (range_of 0 cut) ∷ union no_tuples (range_of cut again) ∷ union no_tuples (range_of again total) ∷ []

first_apart : (cut again total tuple : ℕ) → cut ≤ again
    → ((leb 0 tuple && ltb tuple cut) && ((leb cut tuple && ltb tuple again) || ((leb again tuple && ltb tuple total) || false))) ≡ false
first_apart cut again total tuple order =
    elim (cases_lt tuple cut) [
      | inl before ↦ grind (arith, lt-leb cut tuple before, lt-leb again tuple (omega (arith, before, order)))
      | inr after ↦ grind (arith, le-ltb tuple cut after)
    ]

second_apart : (cut again total tuple : ℕ) → ((leb cut tuple && ltb tuple again) && ((leb again tuple && ltb tuple total) || false)) ≡ false
second_apart cut again total tuple =
    elim (cases_lt tuple again) [
      | inl before ↦ grind (arith, lt-leb again tuple before)
      | inr after ↦ grind (arith, le-ltb tuple again after)
    ]

covered : (cut again total tuple : ℕ) → tuple < total
    → ((leb 0 tuple && ltb tuple cut) || ((leb cut tuple && ltb tuple again) || ((leb again tuple && ltb tuple total) || false))) ≡ true
covered cut again total tuple short =
    elim (cases_lt tuple cut) [
      | inl before ↦ grind (arith, lt-ltb tuple cut before)
      | inr after ↦ elim (cases_lt tuple again) [
        | inl below ↦ grind (arith, le-leb cut tuple after, lt-ltb tuple again below)
        | inr past ↦ grind (arith, le-leb again tuple past, lt-ltb tuple total short)
      ]
    ]

-- accumulators that hold them share the tuples
pub share_thirds : (inputs : Inputs) (cut again total : ℕ) (first second third : Acc) (accs : List Acc) → cut ≤ again
    → IsAccOf inputs (union no_tuples (range_of 0 cut)) first → IsAccOf inputs (union no_tuples (range_of cut again)) second
    → IsAccOf inputs (union no_tuples (range_of again total)) third → accs ≡ first ∷ second ∷ third ∷ [] → Share inputs (thirds cut again total) accs
share_thirds inputs cut again total first second third accs order one two three are =
    subst (Share inputs (thirds cut again total)) (sym are) (record {
      each = (one, (two, (three, tt)));
      apart = (
        (λ tuple. first_apart cut again total tuple order),
        (second_apart cut again total, ((λ tuple. and-false (range_of again total tuple)), tt)),
      );
    })

pub cover_thirds : (inputs : Inputs) (cut again total : ℕ) → total ≡ total_in inputs → Cover inputs (thirds cut again total)
cover_thirds inputs cut again total is = λ tuple short. covered cut again total tuple (omega (arith, short, is))

-- an accumulator of no tuples that took a range holds it alone
pub holds_alone : (inputs : Inputs) (from to : ℕ) (empty held : Acc) → IsAccOf inputs no_tuples empty → Extends inputs (range_of from to) empty held
    → IsAccOf inputs (union no_tuples (range_of from to)) held
holds_alone inputs from to empty held none extends = extends no_tuples (λ tuple. refl) none
