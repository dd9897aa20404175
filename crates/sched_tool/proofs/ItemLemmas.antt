-- What words give that are written item by item.
use Rattle.std.proofs.Common.{◌≡◌, ◌<◌, ◌≤◌, ℕ, true, false, List, [], ◌∷◌, ◌++◌, length, Option, Some, None, inl, inr, ap, arith, bytes_eq, codes, map}
use Rattle.std.proofs.Common.{refl, subst, sym, ◌∙◌}
use Rattle.std.specs.Prelude.{if◌then◌else◌, nat_lt, ◌==◌}
use Rattle.std.specs.List.{after_first, before_first, list_any, position_or_len}
use Rattle.std.specs.Option.{option_and_then, option_map}
use Rattle.std.proofs.lemmas.Bool.{cases_Bool, eqb-true}
use Rattle.std.proofs.lemmas.Bool.Decides.{nat_tests}
use Rattle.std.proofs.lemmas.List.Folds.{list_any_none}
use Rattle.std.proofs.lemmas.List.Sums.{fails_before_first, passes_at_first, split_at_first}
use Rattle.std.proofs.lemmas.Option.{option_and_then_some}
use Rattle.std.proofs.lemmas.Slice.Eq.{bytes_eq-Decides}
use Rattle.sched_tool.specs.Grammar.{begins_with_dash, Given, given_by, is_option_word, nothing, option_of, with_joined, with_option, with_word, with_words}
use Rattle.sched_tool.specs.Items.{AreItems, BeginWith, IsGiven, is_same, Item, ItemLine, listed, name_text, option, PlacesAreFree, ReadsLines}
use Rattle.sched_tool.specs.Items.{values_in, values_of, word, words_in, words_of, Write}
use Rattle.sched_tool.specs.Words.{meaning_in}
use Rattle.sched_tool.specs.declared.program.line.OptionName.{OptionName}
use Rattle.sched_tool.specs.declared.program.line.OptionName.TheVariants.{Workers, Slots, Order}

-- ---- steps

abbrev add : Item → Given → Option Given
add (option name value) given = with_option name value given
add (word text) given = with_word text given

-- items add to what was given before them
abbrev add_all : Given → List Item → Option Given
add_all given [] = Some given
add_all given (item ∷ items) = option_and_then (λ next. add_all next items) (add item given)

-- a step, and then one more
chain : (o : Option Given) (f g h : Given → Option Given) → ((next : Given) → f next ≡ option_and_then h (g next))
    → option_and_then f o ≡ option_and_then h (option_and_then g o)
chain None f g h each = refl
chain (Some next) f g h each = each next

-- steps that are the same
alike : (o : Option Given) (f g : Given → Option Given) → ((next : Given) → f next ≡ g next) → option_and_then f o ≡ option_and_then g o
alike None f g each = refl
alike (Some next) f g each = each next

and_then_some : (o : Option Given) → option_and_then (λ next. Some next) o ≡ o
and_then_some None = refl
and_then_some (Some given) = refl

no_step : {A B : Type 0} (o : Option A) (f : A → Option B) → ((x : A) → f x ≡ None) → option_and_then f o ≡ None
no_step None f none = refl
no_step (Some x) f none = none x

map_some : {A B P : Type 0} (f : A → B) (o : Option A) (y : B) → option_map f o ≡ Some y → ((x : A) → o ≡ Some x → f x ≡ y → P) → P
map_some f None y e k = absurd cc
map_some f (Some x) y e k = k x refl cc

-- ---- the words of one item

long_word : (a b : ℕ) (rest : List ℕ) → nat_lt 1 (length (a ∷ b ∷ rest)) ≡ true
long_word a b rest = grind (arith, nat_tests)

apart : (name : OptionName) (value : List ℕ) (rest : List (List ℕ)) (given : Given) → begins_with_dash value ≡ false
    → given_by given (name_text name ∷ value ∷ rest) ≡ option_and_then (λ next. given_by next rest) (with_option name value given)
apart Workers value rest given dash = rw dash refl
apart Slots value rest given dash = rw dash refl
apart Order value rest given dash = rw dash refl

apart_refused : (name : OptionName) (value : List ℕ) (rest : List (List ℕ)) (given : Given) → begins_with_dash value ≡ true
    → given_by given (name_text name ∷ value ∷ rest) ≡ None
apart_refused Workers value rest given dash = rw dash refl
apart_refused Slots value rest given dash = rw dash refl
apart_refused Order value rest given dash = rw dash refl

alone_refused : (name : OptionName) (given : Given) → given_by given (name_text name ∷ []) ≡ None
alone_refused Workers given = refl
alone_refused Slots given = refl
alone_refused Order given = refl

-- a word that is no option's name alone, and isn't `--`
one_word : (text : List ℕ) (rest : List (List ℕ)) (given : Given) → bytes_eq text (codes "--") ≡ false → is_option_word text ≡ true → option_of text ≡ None
    → given_by given (text ∷ rest) ≡ option_and_then (λ next. given_by next rest) (with_joined text given)
one_word text [] given ends is none = rw (ends, is, none) (sym (and_then_some (with_joined text given)))
one_word text (value ∷ rest) given ends is none = rw (ends, is, none) refl

is_joined : (name : OptionName) (value : List ℕ) (given : Given) → with_joined (name_text name ++ 61 ∷ value) given ≡ with_option name value given
is_joined Workers value given = refl
is_joined Slots value given = refl
is_joined Order value given = refl

joined_option : (name : OptionName) (value : List ℕ) → is_option_word (name_text name ++ 61 ∷ value) ≡ true
joined_option Workers value = long_word 45 45 (codes "workers" ++ 61 ∷ value)
joined_option Slots value = long_word 45 45 (codes "slots" ++ 61 ∷ value)
joined_option Order value = long_word 45 45 (codes "order" ++ 61 ∷ value)

not_end : (name : OptionName) (value : List ℕ) → bytes_eq (name_text name ++ 61 ∷ value) (codes "--") ≡ false
not_end Workers value = refl
not_end Slots value = refl
not_end Order value = refl

no_name : (name : OptionName) (value : List ℕ) → option_of (name_text name ++ 61 ∷ value) ≡ None
no_name Workers value = refl
no_name Slots value = refl
no_name Order value = refl

joined : (name : OptionName) (value : List ℕ) (rest : List (List ℕ)) (given : Given)
    → given_by given ((name_text name ++ 61 ∷ value) ∷ rest) ≡ option_and_then (λ next. given_by next rest) (with_option name value given)
joined name value rest given =
    one_word (name_text name ++ 61 ∷ value) rest given (not_end name value) (joined_option name value) (no_name name value)
    ∙ ap (option_and_then (λ next. given_by next rest)) (is_joined name value given)

plain_not_end : (text : List ℕ) → is_option_word text ≡ false → bytes_eq text (codes "--") ≡ false
plain_not_end text is =
    elim (cases_Bool (bytes_eq text (codes "--"))) [
      | inl holds ↦
          let same : text ≡ codes "--" = (bytes_eq-Decides text (codes "--")).0 holds in
          let both : true ≡ false = sym (ap is_option_word same) ∙ is in absurd cc
      | inr fails ↦ fails
    ]

plain : (text : List ℕ) (rest : List (List ℕ)) (given : Given) → is_option_word text ≡ false
    → given_by given (text ∷ rest) ≡ option_and_then (λ next. given_by next rest) (with_word text given)
plain text [] given is = let ends = plain_not_end text is in rw (ends, is) (sym (and_then_some (with_word text given)))
plain text (value ∷ rest) given is = let ends = plain_not_end text is in rw (ends, is) refl

ended : (after : List (List ℕ)) (given : Given) → given_by given (codes "--" ∷ after) ≡ with_words given after
ended [] given = refl
ended (value ∷ rest) given = refl

-- ---- the words of all items

begun : (item : Item) (others words : List (List ℕ)) (given : Given) → BeginWith item others words
    → given_by given words ≡ option_and_then (λ next. given_by next others) (add item given)
begun (option name value) others words given is =
    elim is [
      | inl both ↦ ap (given_by given) both.0 ∙ apart name value others given both.1
      | inr one ↦ ap (given_by given) one ∙ joined name value others given
    ]
begun (word text) others words given is = ap (given_by given) is.0 ∙ plain text others given is.1

read_items : (items : List Item) (after words : List (List ℕ)) (given : Given) → AreItems items after words
    → given_by given words ≡ option_and_then (λ next. with_words next after) (add_all given items)
read_items [] after words given is =
    elim is [
      | inl both ↦ ap (given_by given) both.0 ∙ sym (ap (with_words given) both.1)
      | inr ends ↦ ap (given_by given) ends ∙ ended after given
    ]
read_items (item ∷ items) after words given is =
    begun item is.0 words given is.1
    ∙ chain (add item given) (λ next. given_by next is.0) (λ next. add_all next items) (λ next. with_words next after)
    (λ next. read_items items after is.0 next is.2)

read_words : (after : List (List ℕ)) (given : Given) → with_words given after ≡ add_all given (map word after)
read_words [] given = refl
read_words (text ∷ after) given =
    alike (with_word text given) (λ next. with_words next after) (λ next. add_all next (map word after)) (λ next. read_words after next)

add_both : (items others : List Item) (given : Given) → option_and_then (λ next. add_all next others) (add_all given items) ≡ add_all given (items ++ others)
add_both [] others given = refl
add_both (item ∷ items) others given =
    sym (chain (add item given) (λ next. add_all next (items ++ others)) (λ next. add_all next items) (λ next. add_all next others)
    (λ next. sym (add_both items others next)))

read_line : (line : ItemLine) (words : List (List ℕ)) → Write line words → given_by nothing words ≡ add_all nothing (line.items ++ map word line.after)
read_line line words is =
    read_items line.items line.after words nothing is
    ∙ alike (add_all nothing line.items) (λ next. with_words next line.after) (λ next. add_all next (map word line.after)) (λ next. read_words line.after next)
    ∙ add_both line.items (map word line.after) nothing

-- ---- what items give, by their values and words alone

abbrev pack : Option (List ℕ) → Option (List ℕ) → Option (List ℕ) → Option (List ℕ) → Option (List ℕ) → Given
pack w s o f g = record { workers = w; slots = s; order = o; first = f; second = g }

-- at most one value
abbrev single : List (List ℕ) → Option (Option (List ℕ))
single [] = Some None
single (value ∷ []) = Some (Some value)
single (value ∷ other ∷ more) = None

-- at most two words
abbrev pair : List (List ℕ) → Option (Option (List ℕ) × Option (List ℕ))
pair [] = Some (None, None)
pair (text ∷ []) = Some (Some text, None)
pair (text ∷ other ∷ []) = Some (Some text, Some other)
pair (text ∷ other ∷ third ∷ more) = None

abbrev ordered : Option (List ℕ) → Option (List ℕ) → List (List ℕ) → List (List ℕ) → Option Given
ordered w s os texts = option_and_then (λ o. option_map (λ p. pack w s o p.0 p.1) (pair texts)) (single os)

abbrev slotted : Option (List ℕ) → List (List ℕ) → List (List ℕ) → List (List ℕ) → Option Given
slotted w ss os texts = option_and_then (λ s. ordered w s os texts) (single ss)

abbrev summary : List (List ℕ) → List (List ℕ) → List (List ℕ) → List (List ℕ) → Option Given
summary ws ss os texts = option_and_then (λ w. slotted w ss os texts) (single ws)

-- too many values of an option, or too many words, are refused
module _ (ws ss os texts : List (List ℕ)) where
  no_slots : single ss ≡ None → summary ws ss os texts ≡ None
  no_slots none = no_step (single ws) (λ w. slotted w ss os texts) (λ w. ap (option_and_then (λ s. ordered w s os texts)) none)

  no_order : single os ≡ None → summary ws ss os texts ≡ None
  no_order none = no_step (single ws) (λ w. slotted w ss os texts) (λ w. no_step (single ss) (λ s. ordered w s os texts)
      (λ s. ap (option_and_then (λ o. option_map (λ p. pack w s o p.0 p.1) (pair texts))) none))

  no_words : pair texts ≡ None → summary ws ss os texts ≡ None
  no_words none = no_step (single ws) (λ w. slotted w ss os texts) (λ w. no_step (single ss) (λ s. ordered w s os texts)
      (λ s. no_step (single os) (λ o. option_map (λ p. pack w s o p.0 p.1) (pair texts)) (λ o. ap (option_map (λ p. pack w s o p.0 p.1)) none)))

single_listed : (o : Option (List ℕ)) → single (listed o) ≡ Some o
single_listed None = refl
single_listed (Some text) = refl

pair_listed : (f g : Option (List ℕ)) → (f ≡ None → g ≡ None) → pair (listed f ++ listed g) ≡ Some (f, g)
pair_listed None None first = refl
pair_listed None (Some other) first = let e = first refl in absurd cc
pair_listed (Some text) None first = refl
pair_listed (Some text) (Some other) first = refl

packed : (w s o f g : Option (List ℕ)) → (f ≡ None → g ≡ None) → summary (listed w) (listed s) (listed o) (listed f ++ listed g) ≡ Some (pack w s o f g)
packed w s o f g first = λ i. option_and_then (λ a. option_and_then (λ b. option_and_then (λ c. option_map (λ p. pack a b c p.0 p.1) (pair_listed f g first i))
    (single_listed o i)) (single_listed s i)) (single_listed w i)

nil_after : (xs : List (List ℕ)) → xs ++ [] ≡ xs
nil_after [] = refl
nil_after (x ∷ xs) = ap (λ l. x ∷ l) (nil_after xs)

summary_of : (w s o f g : Option (List ℕ)) (items : List Item) → (f ≡ None → g ≡ None)
    → add_all (pack w s o f g) items
    ≡ summary (listed w ++ values_in Workers items) (listed s ++ values_in Slots items) (listed o ++ values_in Order items)
    ((listed f ++ listed g) ++ words_in items)
summary_of w s o f g [] first =
    sym (packed w s o f g first)
    ∙ (λ i. summary (sym (nil_after (listed w)) i) (sym (nil_after (listed s)) i) (sym (nil_after (listed o)) i) (sym (nil_after (listed f ++ listed g)) i))
summary_of None s o f g (option Workers value ∷ items) first = summary_of (Some value) s o f g items first
summary_of (Some w) s o f g (option Workers value ∷ items) first = refl
summary_of w None o f g (option Slots value ∷ items) first = summary_of w (Some value) o f g items first
summary_of w (Some s) o f g (option Slots value ∷ items) first =
    sym (no_slots (listed w ++ values_in Workers items) (s ∷ value ∷ values_in Slots items) (listed o ++ values_in Order items)
    ((listed f ++ listed g) ++ words_in items) refl)
summary_of w s None f g (option Order value ∷ items) first = summary_of w s (Some value) f g items first
summary_of w s (Some o) f g (option Order value ∷ items) first =
    sym (no_order (listed w ++ values_in Workers items) (listed s ++ values_in Slots items) (o ∷ value ∷ values_in Order items)
    ((listed f ++ listed g) ++ words_in items) refl)
summary_of w s o None None (word text ∷ items) first = summary_of w s o (Some text) None items (λ e. refl)
summary_of w s o None (Some g) (word text ∷ items) first = let e = first refl in absurd cc
summary_of w s o (Some f) None (word text ∷ items) first = summary_of w s o (Some f) (Some text) items (λ e. absurd cc)
summary_of w s o (Some f) (Some g) (word text ∷ items) first =
    sym (no_words (listed w ++ values_in Workers items) (listed s ++ values_in Slots items) (listed o ++ values_in Order items)
    (f ∷ g ∷ text ∷ words_in items) refl)

values_before : (name : OptionName) (items : List Item) (after : List (List ℕ)) → values_in name (items ++ map word after) ≡ values_in name items
values_before name [] [] = refl
values_before name [] (text ∷ after) = values_before name [] after
values_before name (option other value ∷ items) after =
    ap (λ values. if is_same name other then value ∷ values else values) (values_before name items after)
values_before name (word text ∷ items) after = values_before name items after

words_before : (items : List Item) (after : List (List ℕ)) → words_in (items ++ map word after) ≡ words_in items ++ after
words_before [] [] = refl
words_before [] (text ∷ after) = ap (λ texts. text ∷ texts) (words_before [] after)
words_before (option name value ∷ items) after = words_before items after
words_before (word text ∷ items) after = ap (λ texts. text ∷ texts) (words_before items after)

line_summary : (line : ItemLine) (words : List (List ℕ)) → Write line words
    → given_by nothing words ≡ summary (values_of Workers line) (values_of Slots line) (values_of Order line) (words_of line)
line_summary line words is =
    read_line line words is
    ∙ summary_of None None None None None (line.items ++ map word line.after) (λ e. refl)
    ∙ (λ i. summary (values_before Workers line.items line.after i) (values_before Slots line.items line.after i) (values_before Order line.items line.after i)
    (words_before line.items line.after i))

pub places_are_free : PlacesAreFree
places_are_free command one other words others is are same =
    let given : given_by nothing words ≡ given_by nothing others =
    line_summary one words is
    ∙ (λ i. summary (same.options Workers i) (same.options Slots i) (same.options Order i) (same.words i))
    ∙ sym (line_summary other others are) in
    ap (option_and_then (meaning_in command)) given

-- ---- from what was given back to the line

listed_from : (values : List (List ℕ)) (o : Option (List ℕ)) → single values ≡ Some o → values ≡ listed o
listed_from [] o e = let same : None ≡ o = cc in ap listed same
listed_from (value ∷ []) o e = let same : Some value ≡ o = cc in ap listed same
listed_from (value ∷ other ∷ more) o e = absurd cc

same_pair : (p q : Option (List ℕ) × Option (List ℕ)) → Some p ≡ Some q → p ≡ q
same_pair p q e = cc

abbrev IsPair : List (List ℕ) → Option (List ℕ) × Option (List ℕ) → Type 0
IsPair texts p = (texts ≡ listed p.0 ++ listed p.1) × (p.0 ≡ None → p.1 ≡ None)

pair_from : (texts : List (List ℕ)) (p : Option (List ℕ) × Option (List ℕ)) → pair texts ≡ Some p → IsPair texts p
pair_from [] p e = subst (IsPair []) (same_pair (None, None) p e) (refl, λ none. refl)
pair_from (text ∷ []) p e = subst (IsPair (text ∷ [])) (same_pair (Some text, None) p e) (refl, λ none. refl)
pair_from (text ∷ other ∷ []) p e = subst (IsPair (text ∷ other ∷ [])) (same_pair (Some text, Some other) p e) (refl, λ none. absurd cc)
pair_from (text ∷ other ∷ third ∷ more) p e = absurd cc

line_gives : (line : ItemLine) (given : Given)
    → summary (values_of Workers line) (values_of Slots line) (values_of Order line) (words_of line) ≡ Some given → IsGiven line given
line_gives line given e =
    let ss = values_of Slots line in
    let os = values_of Order line in
    let texts = words_of line in
    option_and_then_some (λ w. slotted w ss os texts) (single (values_of Workers line)) given e (λ w is_w after_w.
    option_and_then_some (λ s. ordered w s os texts) (single ss) given after_w (λ s is_s after_s.
    option_and_then_some (λ o. option_map (λ p. pack w s o p.0 p.1) (pair texts)) (single os) given after_s (λ o is_o after_o.
    map_some (λ p. pack w s o p.0 p.1) (pair texts) given after_o (λ p is_p same.
    let both = pair_from texts p is_p in
    record {
      workers = listed_from (values_of Workers line) w is_w ∙ ap (λ (g : Given). listed g.workers) same;
      slots = listed_from ss s is_s ∙ ap (λ (g : Given). listed g.slots) same;
      order = listed_from os o is_o ∙ ap (λ (g : Given). listed g.order) same;
      words = both.0 ∙ ap (λ (g : Given). listed g.first ++ listed g.second) same;
      first = subst (λ (g : Given). g.first ≡ None → g.second ≡ None) same both.1;
    }))))

given_line : (line : ItemLine) (given : Given) → IsGiven line given
    → summary (values_of Workers line) (values_of Slots line) (values_of Order line) (words_of line) ≡ Some given
given_line line given gives =
    (λ i. summary (gives.workers i) (gives.slots i) (gives.order i) (gives.words i))
    ∙ packed given.workers given.slots given.order given.first given.second gives.first

-- ---- each list of words that is read writes a line

named : (text : List ℕ) (one name : OptionName) → bytes_eq text (name_text one) ≡ true → option_of text ≡ Some one → option_of text ≡ Some name
    → text ≡ name_text name
named text one name holds is e =
    let both : Some one ≡ Some name = sym is ∙ e in
    let same : one ≡ name = cc in
    subst (λ n. text ≡ name_text n) same ((bytes_eq-Decides text (name_text one)).0 holds)

name_from : (text : List ℕ) (name : OptionName) → option_of text ≡ Some name → text ≡ name_text name
name_from text name e =
    elim (cases_Bool (bytes_eq text (codes "--workers"))) [
      | inl holds ↦ named text Workers name holds (let is : option_of text ≡ Some Workers = rw holds refl in is) e
      | inr not_workers ↦ elim (cases_Bool (bytes_eq text (codes "--slots"))) [
        | inl holds ↦ named text Slots name holds (let is : option_of text ≡ Some Slots = rw (not_workers, holds) refl in is) e
        | inr not_slots ↦ elim (cases_Bool (bytes_eq text (codes "--order"))) [
          | inl holds ↦ named text Order name holds (let is : option_of text ≡ Some Order = rw (not_workers, not_slots, holds) refl in is) e
          | inr not_order ↦
              let is : option_of text ≡ None = rw (not_workers, not_slots, not_order) refl in
              let both : None ≡ Some name = sym is ∙ e in absurd cc
        ]
      ]
    ]

has_equals : (text : List ℕ) → list_any (λ byte. byte == 61) text ≡ true → position_or_len (λ byte. byte == 61) text < length text
has_equals text any =
    let at = position_or_len (λ byte. byte == 61) text in
    elim (cases_Bool (nat_lt at (length text))) [
      | inl holds ↦ grind (arith, nat_tests)
      | inr fails ↦
          let most : length text ≤ at = grind (arith, nat_tests) in
          let none = list_any_none (λ byte. byte == 61) text (λ k d within. fails_before_first (λ byte. byte == 61) text k d (omega (arith, most, within))) in
          let both : true ≡ false = sym any ∙ none in absurd cc
    ]

cut : (text : List ℕ) → list_any (λ byte. byte == 61) text ≡ true
    → text ≡ before_first (λ byte. byte == 61) text ++ 61 ∷ after_first (λ byte. byte == 61) text
cut text any =
    let within = has_equals text any in
    let at = passes_at_first (λ byte. byte == 61) text 0 within in
    split_at_first (λ byte. byte == 61) text 0 within
    ∙ ap (λ byte. before_first (λ byte. byte == 61) text ++ byte ∷ after_first (λ byte. byte == 61) text) (eqb-true _ 61 at)

-- how a word is read
data Shape (text : List ℕ) : Type 0 where
  ends : text ≡ codes "--" → Shape text
  positional : is_option_word text ≡ false → Shape text
  name_alone : (name : OptionName) → text ≡ name_text name → Shape text
  with_value : (name : OptionName) (value : List ℕ) → text ≡ name_text name ++ 61 ∷ value → Shape text
  unknown : ((rest : List (List ℕ)) (given : Given) → given_by given (text ∷ rest) ≡ None) → Shape text

unread : (text : List ℕ) → bytes_eq text (codes "--") ≡ false → is_option_word text ≡ true → option_of text ≡ None
    → ((given : Given) → with_joined text given ≡ None) → (rest : List (List ℕ)) (given : Given) → given_by given (text ∷ rest) ≡ None
unread text not_ends is none refused rest given = one_word text rest given not_ends is none ∙ ap (option_and_then (λ next. given_by next rest)) (refused given)

shape_joined : (text : List ℕ) → bytes_eq text (codes "--") ≡ false → is_option_word text ≡ true → option_of text ≡ None → Shape text
shape_joined text not_ends is none =
    elim (cases_Bool (list_any (λ byte. byte == 61) text)) [
      | inl any ↦ elim (option_of (before_first (λ byte. byte == 61) text))
          as (λ o. option_of (before_first (λ byte. byte == 61) text) ≡ o → Shape text) [
            | None ↦ λ unnamed. unknown (unread text not_ends is none (λ given. rw (any, unnamed) refl))
            | Some name ↦ λ some. with_value name (after_first (λ byte. byte == 61) text)
                (cut text any ∙ ap (λ front. front ++ 61 ∷ after_first (λ byte. byte == 61) text) (name_from _ name some))
          ] refl
      | inr without ↦ unknown (unread text not_ends is none (λ given. rw without refl))
    ]

shape : (text : List ℕ) → Shape text
shape text =
    elim (cases_Bool (bytes_eq text (codes "--"))) [
      | inl holds ↦ ends ((bytes_eq-Decides text (codes "--")).0 holds)
      | inr not_ends ↦ elim (cases_Bool (is_option_word text)) [
        | inl is ↦ elim (option_of text) as (λ o. option_of text ≡ o → Shape text) [
          | None ↦ λ none. shape_joined text not_ends is none
          | Some name ↦ λ some. name_alone name (name_from text name some)
        ] refl
        | inr is ↦ positional is
      ]
    ]

abbrev IsLine : List (List ℕ) → Type 0
IsLine words = (line : ItemLine) × Write line words

-- an item before others
before : (item : Item) (others words : List (List ℕ)) → BeginWith item others words → IsLine others → IsLine words
before item others words is rest = (record { items = item ∷ rest.0.items; after = rest.0.after }, (others, is, rest.1))

-- nothing was refused
not_refused : {A : Type 0} (words : List (List ℕ)) (given result : Given) → given_by given words ≡ None → given_by given words ≡ Some result → A
not_refused words given result none some = let both : None ≡ Some result = sym none ∙ some in absurd cc

line_from : (words : List (List ℕ)) (given result : Given) → given_by given words ≡ Some result → IsLine words
line_from [] given result e = (record { items = []; after = [] }, inl (refl, refl))
line_from (text ∷ []) given result e =
    let end : IsLine [] = (record { items = []; after = [] }, inl (refl, refl)) in
    elim (shape text) [
      | ends is ↦ (record { items = []; after = [] }, inr (ap (λ t. t ∷ []) is))
      | positional is ↦ before (word text) [] (text ∷ []) (refl, is) end
      | name_alone name is ↦ not_refused (text ∷ []) given result (ap (λ t. given_by given (t ∷ [])) is ∙ alone_refused name given) e
      | with_value name value is ↦ before (option name value) [] (text ∷ []) (inr (ap (λ t. t ∷ []) is)) end
      | unknown refused ↦ not_refused (text ∷ []) given result (refused [] given) e
    ]
line_from (text ∷ value ∷ rest) given result e =
    elim (shape text) [
      | ends is ↦ (record { items = []; after = value ∷ rest }, inr (ap (λ t. t ∷ value ∷ rest) is))
      | positional is ↦ option_and_then_some (λ next. given_by next (value ∷ rest)) (with_word text given) result (sym (plain text (value ∷ rest) given is) ∙ e)
          (λ next some more. before (word text) (value ∷ rest) (text ∷ value ∷ rest) (refl, is) (line_from (value ∷ rest) next result more))
      | name_alone name is ↦ elim (cases_Bool (begins_with_dash value)) [
        | inl dash ↦ not_refused (text ∷ value ∷ rest) given result
            (ap (λ t. given_by given (t ∷ value ∷ rest)) is ∙ apart_refused name value rest given dash) e
        | inr dash ↦ option_and_then_some (λ next. given_by next rest) (with_option name value given) result
            (sym (ap (λ t. given_by given (t ∷ value ∷ rest)) is ∙ apart name value rest given dash) ∙ e)
            (λ next some more. before (option name value) rest (text ∷ value ∷ rest) (inl (ap (λ t. t ∷ value ∷ rest) is, dash))
            (line_from rest next result more))
      ]
      | with_value name val is ↦ option_and_then_some (λ next. given_by next (value ∷ rest)) (with_option name val given) result
          (sym (ap (λ t. given_by given (t ∷ value ∷ rest)) is ∙ joined name val (value ∷ rest) given) ∙ e)
          (λ next some more. before (option name val) (value ∷ rest) (text ∷ value ∷ rest) (inr (ap (λ t. t ∷ value ∷ rest) is))
          (line_from (value ∷ rest) next result more))
      | unknown refused ↦ not_refused (text ∷ value ∷ rest) given result (refused (value ∷ rest) given) e
    ]

pub reads_lines : ReadsLines
reads_lines words given = (
  λ e. let line = line_from words nothing given e in
      (line.0, line.1, line_gives line.0 given (sym (line_summary line.0 words line.1) ∙ e)),
  λ line is gives. line_summary line words is ∙ given_line line given gives,
)
