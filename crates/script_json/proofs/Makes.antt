-- What a form makes of a value, if it reads it: one lemma for each piece that forms are made of.
use Rattle.std.proofs.Common.{◌≡◌, ℕ, suc, ◌+◌, ◌≤◌, List, [], ◌∷◌, ◌++◌, length, Bool, true, false, not, ◌||◌, nat_lt, Option, Some, None, Ok, Err, refl, sym}
use Rattle.std.proofs.Common.{◌∙◌, arith, length-append}
use Rattle.std.specs.Prelude.{⊤, IsTrue}
use Rattle.std.proofs.lemmas.Bool.Decides.{nat_tests}
use Rattle.serde_json.specs.Data.{Data, Items, no_items, item}
use Rattle.serde_json.specs.Events.{items_len}
use Rattle.serde_json.specs.Find.{as_array, as_number, as_object, as_str, as_u64, get}
use Rattle.script_json.specs.Forms.{Form, Reading, ◌>>=◌, ◌>>◌, array_of, bad_text, each, has_other_key, items_of, object_of, optional, or_refuse, read_or}
use Rattle.script_json.specs.Forms.{refuse_if, required, text_of, too_many, under, unknown_key, whole, word_of, wrong_number, wrong_shape}
use Rattle.script_json.specs.Paths.{within}
use Rattle.script_json.specs.declared.refusal.PathStep.{PathStep}
use Rattle.script_json.specs.declared.refusal.PathStep.TheVariants.{At, Key}
use Rattle.script_json.specs.declared.refusal.ScriptRefusal.{ScriptRefusal}
use Rattle.script_json.specs.declared.refusal.ScriptRefusal.TheVariants.{NotJson, VersionUnknown, UnknownKey, WrongShape, WrongNumber, TooMany, BadText}
use Rattle.script_json.specs.declared.refusal.ScriptRefusal.TheVariants.{TwiceNamed, AfterTooLarge, OutOfMemory}

-- a refusal of a value, and not of bytes
abbrev pub IsOfValue : ScriptRefusal → Type 0
IsOfValue NotJson = ⊥
IsOfValue VersionUnknown = ⊤
IsOfValue (UnknownKey path) = ⊤
IsOfValue (WrongShape path) = ⊤
IsOfValue (WrongNumber path) = ⊤
IsOfValue (TooMany path) = ⊤
IsOfValue (BadText path) = ⊤
IsOfValue (TwiceNamed path) = ⊤
IsOfValue (AfterTooLarge query) = ⊤
IsOfValue OutOfMemory = ⊥

-- what was read has P, and else the refusal is of a value
abbrev pub Makes : {A : Type 0} → (A → Type 0) → Reading A → Type 0
Makes P (Ok a) = P a
Makes P (Err refusal) = IsOfValue refusal

pub Makes-or_refuse : {A : Type 0} (refusal : ScriptRefusal) (found : Option A)
    → IsOfValue refusal → Makes (λ _. ⊤) (or_refuse refusal found)
Makes-or_refuse refusal None h = h
Makes-or_refuse refusal (Some a) h = tt

pub Makes-weaker : {A : Type 0} (P Q : A → Type 0) (reading : Reading A)
    → ((a : A) → P a → Q a) → Makes P reading → Makes Q reading
Makes-weaker P Q (Ok a) weaker h = weaker a h
Makes-weaker P Q (Err refusal) weaker h = h

pub Makes-then : {A B : Type 0} (P : A → Type 0) (Q : B → Type 0) (first : Reading A) (next : A → Reading B)
    → Makes P first → ((a : A) → P a → Makes Q (next a)) → Makes Q (first >>= next)
Makes-then P Q (Ok a) next h k = k a h
Makes-then P Q (Err refusal) next h k = h

-- what is found goes on, whatever it is
pub Makes-found : {A B : Type 0} (Q : B → Type 0) (refusal : ScriptRefusal) (found : Option A) (next : A → Reading B)
    → IsOfValue refusal → ((a : A) → Makes Q (next a)) → Makes Q (or_refuse refusal found >>= next)
Makes-found Q refusal found next h k =
    Makes-then (λ _. ⊤) Q (or_refuse refusal found) next (Makes-or_refuse refusal found h) (λ a _. k a)

pub Makes-after : {A B : Type 0} (Q : B → Type 0) (first : Reading A) (next : Reading B)
    → Makes (λ _. ⊤) first → Makes Q next → Makes Q (first >> next)
Makes-after Q (Ok a) next h k = k
Makes-after Q (Err refusal) next h k = h

pub Makes-refuse_if : (test : Bool) (refusal : ScriptRefusal) → IsOfValue refusal → Makes (λ _. ⊤) (refuse_if test refusal)
Makes-refuse_if true refusal h = h
Makes-refuse_if false refusal h = tt

pub Makes-unless : {B : Type 0} (Q : B → Type 0) (test : Bool) (refusal : ScriptRefusal) (next : Reading B)
    → IsOfValue refusal → (test ≡ false → Makes Q next) → Makes Q (refuse_if test refusal >> next)
Makes-unless Q true refusal next h k = h
Makes-unless Q false refusal next h k = k refl

IsOfValue-within : (step : PathStep) (refusal : ScriptRefusal) → IsOfValue refusal → IsOfValue (within step refusal)
IsOfValue-within step NotJson h = h
IsOfValue-within step VersionUnknown h = tt
IsOfValue-within step (UnknownKey path) h = tt
IsOfValue-within step (WrongShape path) h = tt
IsOfValue-within step (WrongNumber path) h = tt
IsOfValue-within step (TooMany path) h = tt
IsOfValue-within step (BadText path) h = tt
IsOfValue-within step (TwiceNamed path) h = tt
IsOfValue-within step (AfterTooLarge query) h = tt
IsOfValue-within step OutOfMemory h = h

pub Makes-under : {A : Type 0} (P : A → Type 0) (step : PathStep) (reading : Reading A)
    → Makes P reading → Makes P (under step reading)
Makes-under P step (Ok a) h = h
Makes-under P step (Err refusal) h = IsOfValue-within step refusal h

-- a value one step below goes on
pub Makes-under-then : {A B : Type 0} (P : A → Type 0) (Q : B → Type 0) (step : PathStep) (reading : Reading A) (next : A → Reading B)
    → Makes P reading → ((a : A) → P a → Makes Q (next a)) → Makes Q (under step reading >>= next)
Makes-under-then P Q step reading next h k = Makes-then P Q (under step reading) next (Makes-under P step reading h) k

-- an object with no other keys
pub Makes-object_of : {B : Type 0} (Q : B → Type 0) (keys : List (List ℕ)) (value : Data) (next : Reading B)
    → Makes Q next → Makes Q (object_of keys value >> next)
Makes-object_of Q keys value next h =
    let known = Makes-found (λ _. ⊤) wrong_shape (as_object value) _ tt (λ ms. Makes-refuse_if (has_other_key keys ms) unknown_key tt) in
    Makes-after Q (object_of keys value) next known h

-- a member that has to be there
pub Makes-required : {A : Type 0} (P : A → Type 0) (key : List ℕ) (form : Form A) (value : Data)
    → ((v : Data) → Makes P (form v)) → Makes P (required key form value)
Makes-required P key form value h = Makes-under P (Key key) _ (Makes-found P wrong_shape (get key value) form tt h)

-- such a member goes on
pub Makes-member : {A B : Type 0} (P : A → Type 0) (Q : B → Type 0) (key : List ℕ) (form : Form A) (value : Data) (next : A → Reading B)
    → ((v : Data) → Makes P (form v)) → ((a : A) → P a → Makes Q (next a)) → Makes Q (required key form value >>= next)
Makes-member P Q key form value next h k = Makes-then P Q (required key form value) next (Makes-required P key form value h) k

Makes-read_or : {A : Type 0} (P : A → Type 0) (default : A) (form : Form A) (found : Option Data)
    → P default → ((v : Data) → Makes P (form v)) → Makes P (read_or default form found)
Makes-read_or P default form None d h = d
Makes-read_or P default form (Some value) d h = h value

-- a member that may be there
pub Makes-optional : {A : Type 0} (P : A → Type 0) (key : List ℕ) (default : A) (form : Form A) (value : Data)
    → P default → ((v : Data) → Makes P (form v)) → Makes P (optional key default form value)
Makes-optional P key default form value d h = Makes-under P (Key key) _ (Makes-read_or P default form (get key value) d h)

-- such a member goes on
pub Makes-member_or : {A B : Type 0} (P : A → Type 0) (Q : B → Type 0) (key : List ℕ) (default : A) (form : Form A) (value : Data)
    (next : A → Reading B) → P default → ((v : Data) → Makes P (form v)) → ((a : A) → P a → Makes Q (next a))
    → Makes Q (optional key default form value >>= next)
Makes-member_or P Q key default form value next d h k =
    Makes-then P Q (optional key default form value) next (Makes-optional P key default form value d h) k

pub Makes-items_of : (least most : ℕ) (value : Data)
    → Makes (λ items. (least ≤ items_len items) × (items_len items ≤ most)) (items_of least most value)
Makes-items_of least most value =
    let P : Items → Type 0 = λ items. (least ≤ items_len items) × (items_len items ≤ most) in
    Makes-found P wrong_shape (as_array value) _ tt (λ items.
    Makes-unless P (nat_lt most (items_len items)) too_many _ tt (λ few.
    Makes-unless P (nat_lt (items_len items) least) wrong_shape _ tt (λ some.
    (grind (arith, nat_tests), grind (arith, nat_tests)))))

-- each item of an array keeps P of the items so far
pub Makes-each : {A : Type 0} (P : List A → Type 0) (form : List A → Form A)
    → ((earlier : List A) (v : Data) → P earlier → Makes (λ a. P (earlier ++ a ∷ [])) (form earlier v))
    → (earlier : List A) (items : Items) → P earlier
    → Makes (λ all. P all × (length all ≡ length earlier + items_len items)) (each form earlier items)
Makes-each P form step earlier no_items h = (h, omega arith)
Makes-each {A} P form step earlier (item v rest) h =
    let n : ℕ = length earlier + suc (items_len rest) in
    let Q : List A → Type 0 = λ all. P all × (length all ≡ n) in
    Makes-then (λ a. P (earlier ++ a ∷ [])) Q (under (At (length earlier)) (form earlier v)) _
    (Makes-under (λ a. P (earlier ++ a ∷ [])) (At (length earlier)) (form earlier v) (step earlier v h))
    (λ a so_far.
    Makes-weaker _ Q (each form (earlier ++ a ∷ []) rest)
    (λ all w. let longer = length-append earlier (a ∷ []) in (w.0, w.1 ∙ omega (arith, longer)))
    (Makes-each P form step (earlier ++ a ∷ []) rest so_far))

pub Makes-array_of : {A : Type 0} (P : List A → Type 0) (least most : ℕ) (form : List A → Form A) → P []
    → ((earlier : List A) (v : Data) → P earlier → Makes (λ a. P (earlier ++ a ∷ [])) (form earlier v))
    → (value : Data) → Makes (λ all. P all × (least ≤ length all) × (length all ≤ most)) (array_of least most form value)
Makes-array_of {A} P least most form none step value =
    let Q : List A → Type 0 = λ all. P all × (least ≤ length all) × (length all ≤ most) in
    let C : Items → Type 0 = λ items. (least ≤ items_len items) × (items_len items ≤ most) in
    Makes-then C Q (items_of least most value) _ (Makes-items_of least most value) (λ items counted.
    Makes-weaker _ Q (each form [] items) (λ all w. (w.0, omega (arith, counted, w.1), omega (arith, counted, w.1)))
    (Makes-each P form step [] items none))

pub Makes-whole : (least most : ℕ) (value : Data) → Makes (λ n. (least ≤ n) × (n ≤ most)) (whole least most value)
Makes-whole least most value =
    let P : ℕ → Type 0 = λ n. (least ≤ n) × (n ≤ most) in
    Makes-found P wrong_shape (as_number value) _ tt (λ written.
    Makes-found P wrong_number (as_u64 written) _ tt (λ n.
    Makes-unless P (nat_lt n least || nat_lt most n) wrong_number _ tt (λ within_range.
    (grind (arith, nat_tests), grind (arith, nat_tests)))))

pub true-from_not : (test : Bool) → not test ≡ false → IsTrue test
true-from_not true h = refl
true-from_not false h = sym h

pub Makes-text_of : (rule : List ℕ → Bool) (value : Data) → Makes (λ bytes. IsTrue (rule bytes)) (text_of rule value)
Makes-text_of rule value =
    let P : List ℕ → Type 0 = λ bytes. IsTrue (rule bytes) in
    Makes-found P wrong_shape (as_str value) _ tt (λ bytes.
    Makes-unless P (not (rule bytes)) bad_text _ tt (λ holds. true-from_not (rule bytes) holds))

pub Makes-word_of : {A : Type 0} (meaning : List ℕ → Option A) (value : Data) → Makes (λ _. ⊤) (word_of meaning value)
Makes-word_of meaning value =
    Makes-found (λ _. ⊤) wrong_shape (as_str value) _ tt (λ bytes. Makes-or_refuse bad_text (meaning bytes) tt)
