-- The records of a text, one after another.
use Rattle.std.proofs.Common.{◌≡◌, ◌⊎◌, ℕ, zero, suc, ◌+◌, ◌<◌, ◌≤◌, Bool, true, false, List, [], ◌∷◌, Option, Some, None, length, refl, ap, inl, inr}
use Rattle.std.proofs.Common.{arith, add-one, if◌then◌else◌, ◌==◌, drop, subst, sym, ◌∙◌}
use Rattle.std.proofs.lemmas.Bool.{cases_Bool, eqb-true}
use Rattle.std.proofs.lemmas.List.{length_push}
use Rattle.csv.specs.Machine.{Read, carriage_return, ends_at_end, ends_with, field_after, fields_after, in_field, is_end, line_feed, next_record}
use Rattle.csv.specs.Machine.{start_field, start_record, step}
use Rattle.csv.specs.Reading.{default_config, records_from, records_next}
use Rattle.csv.specs.declared.parser.Action.{Action}
use Rattle.csv.specs.declared.parser.Action.TheVariants as act
use Rattle.csv.specs.declared.parser.State.{State}
use Rattle.csv.specs.declared.parser.State.TheVariants as st
use Rattle.csv.specs.declared.parser.Terminator.TheVariants as term
use Rattle.csv_tables.specs.Reading.{HasRecordAt, IsRecordAt, records_at}

-- a step that ends a record leaves the machine between two records
abbrev Between : State × Action → Type 0
Between result = is_end result.1 ≡ true → ends_at_end result.0 ≡ false

between_if : (test : Bool) (x y : State × Action) → Between x → Between y → Between (if test then x else y)
between_if true x y f g = f
between_if false x y f g = g

between_end : (c : ℕ) (test : Bool) → Between ((if test then st.AfterCr else st.StartRecord), act.EndRecord)
between_end c true h = refl
between_end c false h = refl

between_in_field : (c : ℕ) → Between (in_field default_config c)
between_in_field c =
    between_if (c == 44) (st.StartField, act.EndField) _ (λ h. cc)
    (between_if (ends_with term.CRLF c) _ (st.InField, act.Copy) (between_end c (c == carriage_return)) (λ h. cc))

between_start_field : (c : ℕ) → Between (start_field default_config c)
between_start_field c = between_if (c == 34) (st.InQuoted, act.Skip) (in_field default_config c) (λ h. cc) (between_in_field c)

between_start_record : (c : ℕ) → Between (start_record default_config c)
between_start_record c = between_if (ends_with term.CRLF c) (st.StartRecord, act.Skip) (start_field default_config c) (λ h. cc) (between_start_field c)

between_step : (s : State) (c : ℕ) → Between (step default_config s c)
between_step st.StartRecord c = between_start_record c
between_step st.StartField c = between_start_field c
between_step st.InField c = between_in_field c
between_step st.InQuoted c = between_if (c == 34) (st.AfterQuote, act.Skip) (st.InQuoted, act.Copy) (λ h. cc) (λ h. cc)
between_step st.InEscape c = λ h. cc
between_step st.AfterQuote c = between_if (c == 34) (st.InQuoted, act.Copy) (in_field default_config c) (λ h. cc) (between_in_field c)
between_step st.InComment c = between_if (c == line_feed) (st.StartRecord, act.Skip) (st.InComment, act.Skip) (λ h. cc) (λ h. cc)
between_step st.AfterCr c = between_if (c == line_feed) (st.StartRecord, act.Skip) (start_record default_config c) (λ h. cc) (between_start_record c)

-- what a test that gives a record says
read_if : (test : Bool) (r p : Read) (more : Option Read) → (if test then Some r else more) ≡ Some p → ((test ≡ true) × (p ≡ r))
    ⊎ ((test ≡ false) × (more ≡ Some p))
read_if true r p more h = inl (refl, (cc))
read_if false r p more h = inr (refl, h)

-- the action that ends a record gives it a field more
pub ended_more : (action : Action) (fields : List (List ℕ)) (field : List ℕ) → is_end action ≡ true
    → length fields < length (fields_after action fields field)
ended_more act.EndRecord fields field h = omega (arith, length_push fields field)
ended_more act.Skip fields field h = cc
ended_more act.Copy fields field h = cc
ended_more act.EndField fields field h = cc

-- a record has a field at least
pub record-some : (s : State) (fields : List (List ℕ)) (field xs : List ℕ) (p : Read) → next_record default_config s fields field xs ≡ Some p → 0 < length p.0
unfolding next_record
record-some s fields field [] p h =
    elim (read_if (ends_at_end s) _ p None h) [
      | inl w ↦ rw w.1 (omega (arith, length_push fields field))
      | inr w ↦ absurd (cc)
    ]
record-some s fields field (c ∷ rest) p h =
    elim (read_if (is_end (step default_config s c).1) _ p _ h) [
      | inl w ↦ rw w.1 (omega (arith, ended_more (step default_config s c).1 fields field w.0))
      | inr w ↦ record-some (step default_config s c).0 (fields_after (step default_config s c).1 fields field)
          (field_after (step default_config s c).1 c field) rest p w.1
    ]

-- a record leaves no more bytes than there were, and the machine between two records
rest_between : (s : State) (fields : List (List ℕ)) (field xs : List ℕ) (p : Read) → next_record default_config s fields field xs ≡ Some p
    → (length p.2 ≤ length xs) × (ends_at_end p.1 ≡ false)
unfolding next_record
rest_between s fields field [] p h =
    elim (read_if (ends_at_end s) _ p None h) [
      | inl w ↦ rw w.1 (omega arith, refl)
      | inr w ↦ absurd (cc)
    ]
rest_between s fields field (c ∷ rest) p h =
    elim (read_if (is_end (step default_config s c).1) _ p _ h) [
      | inl w ↦ rw w.1 (omega arith, between_step s c w.0)
      | inr w ↦
          let more = rest_between (step default_config s c).0 (fields_after (step default_config s c).1 fields field)
          (field_after (step default_config s c).1 c field) rest p w.1 in
          (omega (arith, more.0), more.1)
    ]

-- a record that begins between two records takes a byte at least
rest_shorter : (s : State) (xs : List ℕ) (p : Read) → ends_at_end s ≡ false → next_record default_config s [] [] xs ≡ Some p → length p.2 < length xs
unfolding next_record
rest_shorter s [] p between h =
    elim (read_if (ends_at_end s) _ p None h) [
      | inl w ↦ absurd (cc)
      | inr w ↦ absurd (cc)
    ]
rest_shorter s (c ∷ rest) p between h =
    elim (read_if (is_end (step default_config s c).1) _ p _ h) [
      | inl w ↦ rw w.1 (omega arith)
      | inr w ↦ omega (
        arith,
        (rest_between (step default_config s c).0 (fields_after (step default_config s c).1 [] [])
            (field_after (step default_config s c).1 c []) rest p w.1).0,
      )
    ]

-- the records after a first one, at two counts
next_same : (n m : ℕ) (o : Option Read) → ((p : Read) → o ≡ Some p → records_from default_config n p.1 p.2 ≡ records_from default_config m p.1 p.2)
    → records_next (records_from default_config n) o ≡ records_next (records_from default_config m) o
next_same n m None h = refl
next_same n m (Some p) h = ap (λ records. p.0 ∷ records) (h p refl)

-- a count past the bytes gives all records
count_same : (n m : ℕ) (s : State) (xs : List ℕ) → ends_at_end s ≡ false → length xs < n → length xs < m → records_from default_config n s xs
    ≡ records_from default_config m s xs
unfolding records_from
count_same zero m s xs between hn hm = absurd (omega arith)
count_same (suc n) zero s xs between hn hm = absurd (omega arith)
count_same (suc n) (suc m) s xs between hn hm =
    next_same n m (next_record default_config s [] [] xs) (λ p h.
    let shorter = rest_shorter s xs p between h in
    count_same n m p.1 p.2 (rest_between s [] [] xs p h).1 (omega arith) (omega arith))

-- the records of some bytes, where a first one is read
pub records-more : (s : State) (xs : List ℕ) (p : Read) → ends_at_end s ≡ false → next_record default_config s [] [] xs ≡ Some p
    → records_from default_config (length xs + 1) s xs ≡ p.0 ∷ records_from default_config (length p.2 + 1) p.1 p.2
unfolding records_from
records-more s xs p between h =
    let shorter = rest_shorter s xs p between h in
    rw (add-one (length xs)) (rw h (ap (λ records. p.0 ∷ records)
    (count_same (length xs) (length p.2 + 1) p.1 p.2 (rest_between s [] [] xs p h).1 (omega arith) (omega arith))))

-- the records of some bytes, where none is read
pub records-none : (s : State) (xs : List ℕ) → next_record default_config s [] [] xs ≡ None → records_from default_config (length xs + 1) s xs ≡ []
unfolding records_from
records-none s xs h = rw (add-one (length xs)) (rw h refl)

-- after a record the machine is between two records
pub between-more : (s : State) (xs : List ℕ) (p : Read) → next_record default_config s [] [] xs ≡ Some p → ends_at_end p.1 ≡ false
between-more s xs p h = (rest_between s [] [] xs p h).1

-- after a carriage return a record begins as after a line feed
start_same : (s : State) (xs : List ℕ) → ends_at_end s ≡ false → next_record default_config s [] [] xs ≡ next_record default_config st.StartRecord [] [] xs
unfolding next_record
start_same st.StartRecord xs h = refl
start_same st.AfterCr [] h = refl
start_same st.AfterCr (c ∷ rest) h =
    elim (cases_Bool (c == 10)) [
      | inl feed ↦ subst (λ (c : ℕ). next_record default_config st.AfterCr [] [] (c ∷ rest) ≡ next_record default_config st.StartRecord [] [] (c ∷ rest))
          (sym (eqb-true c 10 feed)) refl
      | inr other ↦ rw other refl
    ]
start_same st.StartField xs h = cc
start_same st.InField xs h = cc
start_same st.InQuoted xs h = cc
start_same st.AfterQuote xs h = cc
start_same st.InEscape xs h = cc
start_same st.InComment xs h = cc

records_same : (n : ℕ) (s : State) (xs : List ℕ) → ends_at_end s ≡ false → records_from default_config n s xs ≡ records_from default_config n st.StartRecord xs
unfolding records_from
records_same zero s xs h = refl
records_same (suc n) s xs h = ap (records_next (records_from default_config n)) (start_same s xs h)

-- a text whose machine gives a record has it, and then those after it
pub record_at : (bytes : List ℕ) (at next : ℕ) (fields : List (List ℕ)) (after : State) → next ≤ length bytes
    → next_record default_config st.StartRecord [] [] (drop at bytes) ≡ Some (fields, after, drop next bytes)
    → IsRecordAt bytes at next fields
record_at bytes at next fields after within h = record {
  within = within;
  some = record-some st.StartRecord [] [] (drop at bytes) (fields, after, drop next bytes) h;
  records =
      records-more st.StartRecord (drop at bytes) (fields, after, drop next bytes) refl h
      ∙ ap (λ rest. fields ∷ rest) (records_same (length (drop next bytes) + 1) after (drop next bytes)
      (between-more st.StartRecord (drop at bytes) (fields, after, drop next bytes) h));
}

pub has_record_at : (bytes : List ℕ) (at : ℕ) (read : Read) → next_record default_config st.StartRecord [] [] (drop at bytes) ≡ Some read
    → HasRecordAt bytes at read.0
has_record_at bytes at read h =
    (records_from default_config (length read.2 + 1) read.1 read.2, records-more st.StartRecord (drop at bytes) read refl h)

-- and one whose machine gives none has none
pub no_record_at : (bytes : List ℕ) (at : ℕ) → next_record default_config st.StartRecord [] [] (drop at bytes) ≡ None → records_at bytes at ≡ []
no_record_at bytes at h = records-none st.StartRecord (drop at bytes) h
