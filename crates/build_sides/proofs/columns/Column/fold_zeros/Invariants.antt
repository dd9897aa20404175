use Rattle.std.proofs.Common.{◌≡◌, pos}
use Rattle.build_sides.specs.Columns.{totals_of, with_values}
use Rattle.build_sides.proofs.columns.Column.fold_zeros.Given as goal

abbrev pub invariant-loop-number : goal.invariant-loop-number
invariant-loop-number l = record { is : totals_of l.self ≡ with_values (totals_of l.fn.self) l.numbers (λ _. pos 0) l.number-index }
