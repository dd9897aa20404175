-- Which bytes the test of a digit accepts.
use Rattle.std.proofs.Common.{◌≡◌, ℕ, ◌<◌, ◌≤◌, ◌^◌, List, length, take, true, false, arith}
use Rattle.std.proofs.Math.Nat.{pow-le-pow_right}
use Rattle.std.specs.Char.{is_ascii_digit}
use Rattle.std.specs.Int.{IsInRange}
use Rattle.std.specs.Str.Parse.{AllDigits, digits_value}
use Rattle.std.proofs.lemmas.Int.Digits.{digits_value-lt}
use Rattle.std.proofs.lemmas.List.{length-take}
use Rattle.std.proofs.lemmas.Bool.Decides.{nat_tests}

-- a byte that passes is one from 48 to 57
pub digit_range : (c : ℕ) → is_ascii_digit c ≡ true → IsInRange 48 57 c
digit_range c h = grind (arith, nat_tests)

-- and one that fails is not
pub not_digit_range : (c : ℕ) → is_ascii_digit c ≡ false → ¬ (IsInRange 48 57 c)
not_digit_range c h range = grind (arith, nat_tests)

-- fewer than 19 digits write a number below 10 ^ 18
pub short_value : (digits : List ℕ) (count : ℕ) → count ≤ 18 → AllDigits 10 (take count digits) → digits_value 10 (take count digits) < 10 ^ 18
short_value digits count few all =
    omega (
      arith,
      digits_value-lt 10 (take count digits) all,
      pow-le-pow_right {n = 10} (omega arith) {i = length (take count digits)} {j = 18}
          (omega (arith, length-take count digits)),
    )

-- 19 digits or fewer write a number that 64 bits hold
pub short_fits : (digits : List ℕ) → length digits ≤ 19 → AllDigits 10 digits → digits_value 10 digits < 2 ^ 64
short_fits digits few all =
    omega (arith, digits_value-lt 10 digits all, pow-le-pow_right {n = 10} (omega arith) {i = length digits} {j = 19} few)
