-- How a word adds to what was given before it.
use Rattle.std.proofs.Common.{◌≡◌, ℕ, true, false, List, [], ◌∷◌, Some, None, ap, bytes_eq, codes, refl, sym, ◌∙◌}
use Rattle.sched_tool.specs.Grammar.{begins_with_dash, Given, given_by, is_option_word, option_of, with_joined, with_option, with_word}
use Rattle.sched_tool.specs.declared.program.line.OptionName.{OptionName}

-- a word that is no option is positional
pub after_word : (given next : Given) (word : List ℕ) (rest : List (List ℕ)) → bytes_eq word (codes "--") ≡ false → is_option_word word ≡ false
    → with_word word given ≡ Some next → given_by given (word ∷ rest) ≡ given_by next rest
after_word given next word [] ends is added = rw (ends, is, added) refl
after_word given next word (value ∷ rest) ends is added = rw (ends, is, added) refl

-- an option that is no option's name alone has its value in the same word
pub after_joined : (given next : Given) (word : List ℕ) (rest : List (List ℕ)) → bytes_eq word (codes "--") ≡ false → is_option_word word ≡ true
    → option_of word ≡ None → with_joined word given ≡ Some next → given_by given (word ∷ rest) ≡ given_by next rest
after_joined given next word [] ends is none added = rw (ends, is, none, added) refl
after_joined given next word (value ∷ rest) ends is none added = rw (ends, is, none, added) refl

-- an option's name alone has its value in the next word
pub after_option : (given next : Given) (word value : List ℕ) (rest : List (List ℕ)) (name : OptionName) → bytes_eq word (codes "--") ≡ false
    → is_option_word word ≡ true → option_of word ≡ Some name → begins_with_dash value ≡ false → with_option name value given ≡ Some next
    → given_by given (word ∷ value ∷ rest) ≡ given_by next rest
after_option given next word value rest name ends is named dash added = rw (ends, is, named, dash, added) refl

-- what a test says of a text, it says of what the text is
pub told : {A B : Type 0} (test : A → B) (text word : A) (answer is : B) → text ≡ word → answer ≡ test text → answer ≡ is → test word ≡ is
told test text word answer is same asked gives = ap test (sym same) ∙ sym asked ∙ gives
