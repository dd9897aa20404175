-- Which fields are numbers, and which numbers they are.
use Rattle.std.specs.Prelude.{ℕ, ℤ, pos, neg_ℤ, ◌≡◌, ◌-◌, ◌^◌, min, List, drop, if◌then◌else◌}
use Rattle.std.specs.Prelude.{FitsSigned, MatchOption, Option}
use Rattle.std.specs.Int.{w64}
use Rattle.std.specs.Str.Parse.{IsNumeral, digits_value, starts_with_minus}
use Rattle.csv_tables.specs.declared.number.FieldFault.{FieldFault}
use Rattle.csv_tables.specs.declared.number.FieldFault.TheVariants.{NotANumber, OutOfRange}

-- the digits of a field: what is left without a minus sign
abbrev pub digits_of : List ℕ → List ℕ
digits_of field = if starts_with_minus field then drop 1 field else field

-- a field is a number: an optional minus sign, and one decimal digit or more
abbrev pub IsNumber : List ℕ → Type 0
IsNumber field = IsNumeral 10 (digits_of field)

-- the number that a field writes
abbrev pub number_of : List ℕ → ℤ
number_of field =
    if starts_with_minus field then neg_ℤ (pos (digits_value 10 (digits_of field)))
    else pos (digits_value 10 (digits_of field))

-- a field is a number that an `i64` holds
abbrev pub IsValue : List ℕ → Type 0
IsValue field = IsNumber field × FitsSigned w64 (number_of field)

-- what is wrong with a field of a row
abbrev pub HasFault : List ℕ → FieldFault → Type 0
HasFault field NotANumber = ¬ (IsNumber field)
HasFault field OutOfRange = IsNumber field × ¬ (FitsSigned w64 (number_of field))

-- the number that digits write, cut off at the greatest of 64 bits, or none if they are no digits
abbrev pub IsSizeOf : List ℕ → Option ℕ → Type 0
IsSizeOf digits size =
    MatchOption size (¬ (IsNumeral 10 digits))
    (λ size. IsNumeral 10 digits × (size ≡ min (digits_value 10 digits) (2 ^ 64 - 1)))
