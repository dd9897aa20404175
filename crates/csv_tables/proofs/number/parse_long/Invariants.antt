use Rattle.std.proofs.Common.{◌≡◌, ◌-◌, ◌^◌, min, take}
use Rattle.std.specs.Str.Parse.{AllDigits, digits_value}
use Rattle.csv_tables.proofs.number.parse_long.Given as goal

abbrev pub invariant-loop-byte : goal.invariant-loop-byte
invariant-loop-byte l = AllDigits 10 (take l.byte-index l.digits) × (l.size ≡ min (digits_value 10 (take l.byte-index l.digits)) (2 ^ 64 - 1))
