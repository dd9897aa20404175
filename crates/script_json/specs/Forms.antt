-- The parts of the format's forms. A form says what each JSON value stands for, or its first
-- refusal, whose path begins at that value.
use Rattle.std.specs.Prelude.{ℕ, ◌≡◌, ◌⊎◌, List, [], ◌∷◌, ◌++◌, length, Bool, true, false, not}
use Rattle.std.specs.Prelude.{◌||◌, nat_lt, bytes_eq, Option, Some, None, Result, Ok, Err, ⊤}
use Rattle.std.specs.List.{list_any}
use Rattle.serde_json.specs.Data.{Data, Items, no_items, item, Members, no_members, member}
use Rattle.serde_json.specs.Events.{items_len}
use Rattle.serde_json.specs.Find.{get, as_array, as_object, as_number, as_str, as_u64}
use Rattle.script_json.specs.Paths.{here, within}
use Rattle.script_json.specs.declared.refusal.PathStep.{PathStep}
use Rattle.script_json.specs.declared.refusal.PathStep.TheVariants.{Key, At}
use Rattle.script_json.specs.declared.refusal.ScriptRefusal.{ScriptRefusal}
use Rattle.script_json.specs.declared.refusal.ScriptRefusal.TheVariants.{UnknownKey, WrongShape}
use Rattle.script_json.specs.declared.refusal.ScriptRefusal.TheVariants.{WrongNumber, TooMany}
use Rattle.script_json.specs.declared.refusal.ScriptRefusal.TheVariants.{BadText, TwiceNamed}
use Rattle.script_json.specs.declared.refusal.ScriptRefusal.TheVariants.{OutOfMemory}

-- what was read, or the first refusal
abbrev pub Reading : Type 0 → Type 0
Reading A = Result A ScriptRefusal

abbrev pub Form : Type 0 → Type 0
Form A = Data → Reading A

-- ---- one step after another

infixl 10 ◌>>=◌ ◌>>◌
abbrev pub ◌>>=◌ : {A B : Type 0} → Reading A → (A → Reading B) → Reading B
◌>>=◌ (Ok a) next = next a
◌>>=◌ (Err refusal) next = Err refusal

abbrev pub ◌>>◌ : {A B : Type 0} → Reading A → Reading B → Reading B
◌>>◌ (Ok a) next = next
◌>>◌ (Err refusal) next = Err refusal

-- the value, or this refusal if there is none
abbrev pub or_refuse : {A : Type 0} → ScriptRefusal → Option A → Reading A
or_refuse refusal None = Err refusal
or_refuse refusal (Some a) = Ok a

-- this refusal if the test holds
abbrev pub refuse_if : Bool → ScriptRefusal → Reading ⊤
refuse_if true refusal = Err refusal
refuse_if false refusal = Ok tt

-- the reading of a value one step below
abbrev pub under : {A : Type 0} → PathStep → Reading A → Reading A
under step (Ok a) = Ok a
under step (Err refusal) = Err (within step refusal)

-- ---- the refusals of a value itself

abbrev pub wrong_shape : ScriptRefusal
wrong_shape = WrongShape here

abbrev pub unknown_key : ScriptRefusal
unknown_key = UnknownKey here

abbrev pub wrong_number : ScriptRefusal
wrong_number = WrongNumber here

abbrev pub too_many : ScriptRefusal
too_many = TooMany here

abbrev pub bad_text : ScriptRefusal
bad_text = BadText here

abbrev pub twice_named : ScriptRefusal
twice_named = TwiceNamed here

-- ---- objects

abbrev pub is_listed : List (List ℕ) → List ℕ → Bool
is_listed keys key = list_any (λ listed. bytes_eq listed key) keys

abbrev pub has_other_key : List (List ℕ) → Members → Bool
has_other_key keys no_members = false
has_other_key keys (member key value rest) = not (is_listed keys key) || has_other_key keys rest

-- an object with no keys but these
abbrev pub object_of : List (List ℕ) → Form ⊤
object_of keys value = do
  members ← or_refuse wrong_shape (as_object value)
  refuse_if (has_other_key keys members) unknown_key

-- the value under a key that must be there
abbrev pub required : {A : Type 0} → List ℕ → Form A → Form A
required key form value = under (Key key) (or_refuse wrong_shape (get key value) >>= form)

abbrev pub read_or : {A : Type 0} → A → Form A → Option Data → Reading A
read_or default form None = Ok default
read_or default form (Some value) = form value

-- the value under a key, or the default if the key is not there
abbrev pub optional : {A : Type 0} → List ℕ → A → Form A → Form A
optional key default form value = under (Key key) (read_or default form (get key value))

-- ---- arrays

-- each item in order, whose form may depend on those before it
abbrev pub each : {A : Type 0} → (List A → Form A) → List A → Items → Reading (List A)
each form earlier no_items = Ok earlier
each form earlier (item value rest) =
    under (At (length earlier)) (form earlier value) >>= λ a. each form (earlier ++ a ∷ []) rest

-- the items of an array of `least` to `most`
abbrev pub items_of : ℕ → ℕ → Form Items
items_of least most value = do
  items ← or_refuse wrong_shape (as_array value)
  refuse_if (nat_lt most (items_len items)) too_many
  refuse_if (nat_lt (items_len items) least) wrong_shape
  Ok items

-- an array of `least` to `most` items of a form
abbrev pub array_of : {A : Type 0} → ℕ → ℕ → (List A → Form A) → Form (List A)
array_of least most form value = items_of least most value >>= each form []

-- ---- numbers and texts

-- a whole number from `least` to `most`
abbrev pub whole : ℕ → ℕ → Form ℕ
whole least most value = do
  written ← or_refuse wrong_shape (as_number value)
  n ← or_refuse wrong_number (as_u64 written)
  refuse_if (nat_lt n least || nat_lt most n) wrong_number
  Ok n

-- bytes that keep a rule
abbrev pub kept : (List ℕ → Bool) → List ℕ → Reading (List ℕ)
kept rule bytes = do
  refuse_if (not (rule bytes)) bad_text
  Ok bytes

-- a text that keeps a rule
abbrev pub text_of : (List ℕ → Bool) → Form (List ℕ)
text_of rule value = or_refuse wrong_shape (as_str value) >>= kept rule

-- a text that is a word with a meaning
abbrev pub word_of : {A : Type 0} → (List ℕ → Option A) → Form A
word_of meaning value = do
  bytes ← or_refuse wrong_shape (as_str value)
  or_refuse bad_text (meaning bytes)

-- ---- calls

-- the result of a call that reads: what the form says, or out of memory
abbrev pub Gives : {A : Type 0} → Reading A → Reading A → Type 0
Gives said (Ok a) = said ≡ Ok a
Gives said (Err refusal) = (refusal ≡ OutOfMemory) ⊎ (said ≡ Err refusal)

-- the same for a call whose result stands for what it read by `shown`
abbrev pub Shows : {A B : Type 0} → (B → A) → Reading A → Reading B → Type 0
Shows shown said (Ok b) = said ≡ Ok (shown b)
Shows shown said (Err refusal) = (refusal ≡ OutOfMemory) ⊎ (said ≡ Err refusal)
