-- The words after the command: options with their values, and positional words.
use Rattle.std.specs.Prelude.{ℕ, Bool, false, not, ◌&&◌, ◌==◌, nat_lt, List, [], ◌∷◌, length}
use Rattle.std.specs.Prelude.{Option, Some, None, is_none, if◌then◌else◌, bytes_eq, codes}
use Rattle.std.specs.List.{after_first, before_first, list_any}
use Rattle.std.specs.Option.{option_and_then}
use Rattle.sched_tool.specs.declared.program.line.OptionName.{OptionName}
use Rattle.sched_tool.specs.declared.program.line.OptionName.TheVariants.{Workers, Slots, Order}

-- what words after the command give: the value of each option, and up to two positional words
pub record Given : Type 0 where
  pub workers : Option (List ℕ)
  pub slots : Option (List ℕ)
  pub order : Option (List ℕ)
  pub first : Option (List ℕ)
  pub second : Option (List ℕ)

-- no words give nothing
abbrev pub nothing : Given
nothing = record { workers = None; slots = None; order = None; first = None; second = None }

-- the option that a text spells
abbrev pub option_of : List ℕ → Option OptionName
option_of text =
    if bytes_eq text (codes "--workers") then Some Workers
    else if bytes_eq text (codes "--slots") then Some Slots
    else if bytes_eq text (codes "--order") then Some Order
    else None

-- a word begins with `-`
abbrev pub begins_with_dash : List ℕ → Bool
begins_with_dash [] = false
begins_with_dash (first ∷ rest) = first == 45

-- a word is an option, known or not: it begins with `-`, and is not `-` alone
abbrev pub is_option_word : List ℕ → Bool
is_option_word word = begins_with_dash word && nat_lt 1 (length word)

-- each option is given at most once
abbrev pub with_option : OptionName → List ℕ → Given → Option Given
with_option Workers value given =
    if is_none given.workers then Some (record given { workers = Some value }) else None
with_option Slots value given =
    if is_none given.slots then Some (record given { slots = Some value }) else None
with_option Order value given =
    if is_none given.order then Some (record given { order = Some value }) else None

-- no command has more than two positional words
abbrev pub with_word : List ℕ → Given → Option Given
with_word word given =
    if is_none given.first then Some (record given { first = Some word })
    else if is_none given.second then Some (record given { second = Some word })
    else None

-- words that are all positional
abbrev pub with_words : Given → List (List ℕ) → Option Given
with_words given [] = Some given
with_words given (word ∷ rest) =
    option_and_then (λ next. with_words next rest) (with_word word given)

-- an option with its value behind `=`
abbrev pub with_joined : List ℕ → Given → Option Given
with_joined word given =
    if list_any (λ byte. byte == 61) word
    then option_and_then
    (λ name. with_option name (after_first (λ byte. byte == 61) word) given)
    (option_of (before_first (λ byte. byte == 61) word))
    else None

-- words after the command add to what was given before them. `--` ends the options and is dropped.
-- An option's value stands behind `=` in its word, or is the next word, if that doesn't begin with
-- `-`. All other words are positional.
abbrev pub given_by : Given → List (List ℕ) → Option Given
given_by given [] = Some given
given_by given (word ∷ []) =
    if bytes_eq word (codes "--") then Some given
    else if not (is_option_word word) then with_word word given
    else if is_none (option_of word) then with_joined word given
    else None
given_by given (word ∷ value ∷ rest) =
    if bytes_eq word (codes "--") then with_words given (value ∷ rest)
    else if not (is_option_word word) then
    option_and_then (λ next. given_by next (value ∷ rest)) (with_word word given)
    else if is_none (option_of word) then
    option_and_then (λ next. given_by next (value ∷ rest)) (with_joined word given)
    else if begins_with_dash value then None
    else option_and_then (λ next. given_by next rest)
    (option_and_then (λ name. with_option name value given) (option_of word))
