use Rattle.std.proofs.Common.{◌≡◌, [], map, take}
use Rattle.build_sides.specs.Columns.{totals_of}
use Rattle.build_sides.proofs.group_side.columns_of.Given as goal

abbrev pub invariant-loop-func : goal.invariant-loop-func
invariant-loop-func l = map totals_of l.columns.items ≡ map (λ f. record { func = f; values = [] }) (take l.func-index l.funcs)
