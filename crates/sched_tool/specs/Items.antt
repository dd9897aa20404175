-- How the words after the command are written, item by item, and what the items give.
use Rattle.std.specs.Prelude.{◌≡◌, ◌⊎◌, ℕ, Bool, false, true, List, [], ◌∷◌, ◌++◌, Option, Some}
use Rattle.std.specs.Prelude.{None, codes, if◌then◌else◌}
use Rattle.sched_tool.specs.Grammar.{begins_with_dash, Given, given_by, is_option_word, nothing}
use Rattle.sched_tool.specs.Words.{meaning_of}
use Rattle.sched_tool.specs.declared.program.line.OptionName.{OptionName}
use Rattle.sched_tool.specs.declared.program.line.OptionName.TheVariants.{Workers, Slots, Order}

-- an option with its value, or a positional word
pub data Item : Type 0 where
  option : OptionName → List ℕ → Item
  word : List ℕ → Item

-- the items before `--`, and the words after it
pub record ItemLine : Type 0 where
  pub items : List Item
  pub after : List (List ℕ)

-- ---- how items are written

abbrev pub name_text : OptionName → List ℕ
name_text Workers = codes "--workers"
name_text Slots = codes "--slots"
name_text Order = codes "--order"

-- the words begin with this item, and these are the others. The value of an option is the next
-- word, if that doesn't begin with `-`, or stands behind `=` in the same word. A positional word is
-- no option word.
abbrev pub BeginWith : Item → List (List ℕ) → List (List ℕ) → Type 0
BeginWith (option name value) others words =
    ((words ≡ name_text name ∷ value ∷ others) × (begins_with_dash value ≡ false))
    ⊎ (words ≡ (name_text name ++ 61 ∷ value) ∷ others)
BeginWith (word text) others words =
    (words ≡ text ∷ others) × (is_option_word text ≡ false)

-- the words are these items, one after another, and then, behind `--`, words of any kind. `--` may
-- be left out if nothing is behind it.
abbrev pub AreItems : List Item → List (List ℕ) → List (List ℕ) → Type 0
AreItems [] after words =
    ((words ≡ []) × (after ≡ [])) ⊎ (words ≡ codes "--" ∷ after)
AreItems (item ∷ items) after words =
    (others : List (List ℕ)) × BeginWith item others words × AreItems items after others

-- the words write this line
abbrev pub Write : ItemLine → List (List ℕ) → Type 0
Write line words = AreItems line.items line.after words

-- ---- what items give

abbrev pub is_same : OptionName → OptionName → Bool
is_same Workers Workers = true
is_same Slots Slots = true
is_same Order Order = true
is_same one other = false

-- the values that are given for an option, in order
abbrev pub values_in : OptionName → List Item → List (List ℕ)
values_in name [] = []
values_in name (option other value ∷ items) =
    if is_same name other then value ∷ values_in name items else values_in name items
values_in name (word text ∷ items) = values_in name items

-- the positional words, in order
abbrev pub words_in : List Item → List (List ℕ)
words_in [] = []
words_in (option name value ∷ items) = words_in items
words_in (word text ∷ items) = text ∷ words_in items

abbrev pub values_of : OptionName → ItemLine → List (List ℕ)
values_of name line = values_in name line.items

-- words behind `--` are positional
abbrev pub words_of : ItemLine → List (List ℕ)
words_of line = words_in line.items ++ line.after

abbrev pub listed : Option (List ℕ) → List (List ℕ)
listed None = []
listed (Some text) = text ∷ []

-- a line gives each option at most once, and at most two positional words: these
pub record IsGiven (line : ItemLine) (given : Given) : Type 0 where
  pub workers : values_of Workers line ≡ listed given.workers
  pub slots : values_of Slots line ≡ listed given.slots
  pub order : values_of Order line ≡ listed given.order
  pub words : words_of line ≡ listed given.first ++ listed given.second
  -- a second word comes only after a first
  pub first : given.first ≡ None → given.second ≡ None

-- two lines give each option the same values, and have the same positional words in the same order
pub record GiveTheSame (one other : ItemLine) : Type 0 where
  pub options : (name : OptionName) → values_of name one ≡ values_of name other
  pub words : words_of one ≡ words_of other

-- ---- laws

-- words are read exactly if they write a line that gives each option at most once, and at most two
-- positional words; what is read is what that line gives
abbrev pub ReadsLines : Type 0
ReadsLines = (words : List (List ℕ)) (given : Given)
    → (given_by nothing words ≡ Some given
    → (line : ItemLine) × Write line words × IsGiven line given)
    × ((line : ItemLine) → Write line words → IsGiven line given
    → given_by nothing words ≡ Some given)

-- Behind a command, the place of an option among the other items before `--` is free, and its value
-- may stand behind `=` or be the next word: lines that give the same mean the same, also if they
-- are refused.
abbrev pub PlacesAreFree : Type 0
PlacesAreFree = (command : List ℕ) (one other : ItemLine) (words others : List (List ℕ))
    → Write one words → Write other others → GiveTheSame one other
    → meaning_of (command ∷ words) ≡ meaning_of (command ∷ others)
