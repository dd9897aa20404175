-- Numbers among the words.
use Rattle.std.proofs.Common.{◌≡◌, ◌<◌, ◌≤◌, ◌-◌, ◌^◌, ◌∙◌, false, ℕ, suc, Bool, Option, true, List, [], ◌∷◌, ◌++◌, length, Some, None, ap, inl, inr, refl, sym, subst}
use Rattle.std.proofs.Common.{All, append_assoc, arith}
use Rattle.std.proofs.lemmas.List.Elements.{All-cons, All-nil}
use Rattle.std.proofs.lemmas.Bool.{and_parts, false_from_ne_true}
use Rattle.std.proofs.lemmas.Bool.Decides.{nat_tests}
use Rattle.std.proofs.lemmas.Str.{digit_value_digit}
use Rattle.std.proofs.lemmas.Str.Parse.{without_leading_plus_none}
use Rattle.std.specs.Char.{digit_value, is_ascii_digit}
use Rattle.std.specs.List.{after_first, before_first, list_all, position_or_len}
use Rattle.std.specs.Option.{option_and_then, option_map}
use Rattle.std.proofs.lemmas.List.Splits.{length-slice_split, slice_split_first, slice_split_none}
use Rattle.std.proofs.lemmas.List.Sums.{fails_before_first}
use Rattle.std.specs.Prelude.{◌==◌, ◌⊎◌, if◌then◌else◌, nat_le}
use Rattle.std.specs.Str.Parse.{AllDigits, digits_value, IsNumeral, without_leading_plus}
use Rattle.csv_tables.proofs.Digits.{digit_range}
use Rattle.sched_tool.specs.Requests.{IsOrder, IsUnread}
use Rattle.sched_tool.specs.Words.{fields_of, is_number_word, list_of, number_of, numbers_of, order_of}
use Rattle.sched_tool.specs.declared.program.refusal.Refusal.{Refusal}

digit_below : (c : ℕ) → is_ascii_digit c ≡ true → digit_value c < 10
digit_below c is = let range = digit_range c is in omega (arith, range, digit_value_digit c range)

all_digits : (word : List ℕ) → list_all is_ascii_digit word ≡ true → AllDigits 10 word
all_digits [] all = tt
all_digits (c ∷ cs) all =
    let each = and_parts (is_ascii_digit c) (list_all is_ascii_digit cs) all in
    (digit_below c each.0, all_digits cs each.1)

-- digits have no plus before them
no_plus : (word : List ℕ) → list_all is_ascii_digit word ≡ true → without_leading_plus word ≡ word
no_plus [] all = refl
no_plus (c ∷ cs) all =
    let range = digit_range c (and_parts (is_ascii_digit c) (list_all is_ascii_digit cs) all).0 in
    without_leading_plus_none (c ∷ cs) (λ plus. omega (arith, range, plus))

-- a word that is a number has a digit, and its number is at most the greatest
number_parts : (most least greatest : ℕ) (word : List ℕ) → is_number_word most least greatest word ≡ true
    → (0 < length word) × (digits_value 10 word ≤ greatest)
number_parts most least greatest word is = grind (arith, nat_tests)

-- digits that write no 32-bit number are no word for a number
pub not_number : (most least greatest : ℕ) (word : List ℕ) → greatest < 2 ^ 32 → list_all is_ascii_digit word ≡ true
    → ¬ (IsNumeral 10 (without_leading_plus word) × (digits_value 10 (without_leading_plus word) < 2 ^ 32)) → None ≡ number_of most least greatest word
not_number most least greatest word small all none =
    let same = no_plus word all in
    let other : ¬ (IsNumeral 10 word × (digits_value 10 word < 2 ^ 32)) =
    subst (λ w. ¬ (IsNumeral 10 w × (digits_value 10 w < 2 ^ 32))) same none in
    let is_not = false_from_ne_true (is_number_word most least greatest word) (λ is.
    let parts = number_parts most least greatest word is in
    other ((parts.0, all_digits word all), omega (arith, parts.1, small))) in
    sym (ap (λ test. if test then Some (digits_value 10 word) else None) is_not)

-- ---- lists of numbers

-- the first field, and the others
pub first_field : (text field more : List ℕ) → position_or_len (λ byte. byte == 44) text < length text → field ≡ before_first (λ byte. byte == 44) text
    → more ≡ after_first (λ byte. byte == 44) text → fields_of text ≡ field ∷ fields_of more
first_field text field more within is rest =
    slice_split_first (λ byte. byte == 44) text 0 within ∙ (λ i. sym is i ∷ fields_of (sym rest i))

pub some_field : (text : List ℕ) → 1 ≤ length (fields_of text)
some_field text = omega (arith, length-slice_split (λ byte. byte == 44) text)

-- a text without a comma is one field
pub one_field : (text : List ℕ) → position_or_len (λ byte. byte == 44) text ≡ length text → fields_of text ≡ text ∷ []
one_field text none =
    slice_split_none (λ byte. byte == 44) text
    (λ place any within. fails_before_first (λ byte. byte == 44) text place any (omega (arith, none, within)))

-- ---- the numbers of a list

-- the numbers so far, and then those of these fields
abbrev pub with_fields : ℕ → List ℕ → List (List ℕ) → Option (List ℕ)
with_fields greatest so_far fields = option_map (λ more. so_far ++ more) (numbers_of greatest fields)

-- a number more is read
pub number_read : (greatest : ℕ) (so_far field : List ℕ) (fields : List (List ℕ)) (number : ℕ) → number_of 9 0 greatest field ≡ Some number
    → with_fields greatest so_far (field ∷ fields) ≡ with_fields greatest (so_far ++ (number ∷ [])) fields
number_read greatest so_far field fields number is =
    let added = elim (numbers_of greatest fields) as (λ o. option_map (λ more. so_far ++ more) (option_map (λ numbers. number ∷ numbers) o)
    ≡ option_map (λ more. so_far ++ (number ∷ []) ++ more) o) [
      | None ↦ refl
      | Some numbers ↦ ap Some (sym (append_assoc so_far (number ∷ []) numbers))
    ] in
    rw is added

-- the last number is read
pub last_read : (greatest : ℕ) (so_far field : List ℕ) (number : ℕ) → number_of 9 0 greatest field ≡ Some number
    → with_fields greatest so_far (field ∷ []) ≡ Some (so_far ++ (number ∷ []))
last_read greatest so_far field number is = rw is refl

-- a field is no number
pub no_number : (greatest : ℕ) (so_far field : List ℕ) (fields : List (List ℕ)) → number_of 9 0 greatest field ≡ None
    → with_fields greatest so_far (field ∷ fields) ≡ None
no_number greatest so_far field fields none = rw none refl

-- a list with few fields is read
pub list_is : (greatest : ℕ) (text : List ℕ) → length (fields_of text) ≤ 4096 → list_of greatest text ≡ numbers_of greatest (fields_of text)
list_is greatest text few =
    let yes : nat_le (length (fields_of text)) 4096 ≡ true = grind (arith, nat_tests) in
    ap (λ test. if test then numbers_of greatest (fields_of text) else None) yes

pub list_too_long : (greatest : ℕ) (text : List ℕ) → 4096 < length (fields_of text) → list_of greatest text ≡ None
list_too_long greatest text many =
    let no : nat_le (length (fields_of text)) 4096 ≡ false = grind (arith, nat_tests) in
    ap (λ test. if test then numbers_of greatest (fields_of text) else None) no

-- a list with a field that is no number is not read
pub list_none : (greatest : ℕ) (text : List ℕ) → numbers_of greatest (fields_of text) ≡ None → list_of greatest text ≡ None
list_none greatest text none =
    elim (nat_le (length (fields_of text)) 4096) as (λ test. (if test then numbers_of greatest (fields_of text) else None) ≡ None) [
      | false ↦ refl
      | true ↦ none
    ]

-- a list that is read has few fields, and is that of their numbers
list_some : (greatest : ℕ) (text order : List ℕ) → list_of greatest text ≡ Some order
    → (length (fields_of text) ≤ 4096) × (numbers_of greatest (fields_of text) ≡ Some order)
list_some greatest text order some =
    elim (nat_le (length (fields_of text)) 4096) as (λ test. nat_le (length (fields_of text)) 4096 ≡ test
    → (if test then numbers_of greatest (fields_of text) else None) ≡ Some order
    → (length (fields_of text) ≤ 4096) × (numbers_of greatest (fields_of text) ≡ Some order)) [
      | false ↦ λ no none. absurd cc
      | true ↦ λ yes is. (grind (arith, nat_tests), is)
    ] refl some

-- the number of a word is within its bounds
number_within : (greatest : ℕ) (word : List ℕ) (number : ℕ) → number_of 9 0 greatest word ≡ Some number → number ≤ greatest
number_within greatest word number is =
    elim (is_number_word 9 0 greatest word) as (λ test. is_number_word 9 0 greatest word ≡ test
    → (if test then Some (digits_value 10 word) else None) ≡ Some number → number ≤ greatest) [
      | false ↦ λ no none. absurd cc
      | true ↦ λ yes some. let same : digits_value 10 word ≡ number = cc in omega (arith, same, (number_parts 9 0 greatest word yes).1)
    ] refl is

-- the numbers of fields: one of each, within the bounds
numbers_within : (greatest : ℕ) (fields : List (List ℕ)) (numbers : List ℕ) → numbers_of greatest fields ≡ Some numbers
    → All (λ number. number ≤ greatest) numbers × (length numbers ≡ length fields)
numbers_within greatest [] numbers is =
    let same : [] ≡ numbers = cc in
    subst (λ ns. All (λ number. number ≤ greatest) ns × (length ns ≡ 0)) same (All-nil (λ n. n ≤ greatest), refl)
numbers_within greatest (field ∷ fields) numbers is =
    elim (number_of 9 0 greatest field) as (λ o. number_of 9 0 greatest field ≡ o → option_and_then (λ number. option_map (λ ns. number ∷ ns)
    (numbers_of greatest fields)) o ≡ Some numbers → All (λ number. number ≤ greatest) numbers × (length numbers ≡ suc (length fields))) [
      | None ↦ λ no none. absurd cc
      | Some number ↦ λ one. elim (numbers_of greatest fields) as (λ o. numbers_of greatest fields ≡ o → option_map (λ ns. number ∷ ns) o ≡ Some numbers
          → All (λ n. n ≤ greatest) numbers × (length numbers ≡ suc (length fields))) [
            | None ↦ λ no none. absurd cc
            | Some others ↦ λ more some.
                let rest = numbers_within greatest fields others more in
                let same : number ∷ others ≡ numbers = cc in
                subst (λ ns. All (λ n. n ≤ greatest) ns × (length ns ≡ suc (length fields))) same
                (All-cons (λ n. n ≤ greatest) number others (number_within greatest field number one) rest.0, ap suc rest.1)
          ] refl
    ] refl is

-- an order has workers alone, and at most so many of them
pub order_within : (workers : ℕ) (text : Option (List ℕ)) (order : List ℕ) → 1 ≤ workers → order_of workers text ≡ Some order → IsOrder workers order
order_within workers None order some is =
    let same : [] ≡ order = cc in
    subst (IsOrder workers) same (All-nil (λ n. n < workers), omega arith)
order_within workers (Some text) order some is =
    let read = list_some (workers - 1) text order is in
    let within = numbers_within (workers - 1) (fields_of text) order read.1 in
    (λ k default short. omega (arith, within.0 k default short, some), omega (arith, within.1, read.0))

-- ---- words that are not read

-- what rests on words that are not read is not read
pub unread_then : {A B : Type 0} (a : Option A) (b : Option B) (refusal : Refusal) → (a ≡ None → b ≡ None) → IsUnread a refusal → IsUnread b refusal
unread_then a b refusal carry (inl none) = inl (none.0, carry none.1)
unread_then a b refusal carry (inr out) = inr out
