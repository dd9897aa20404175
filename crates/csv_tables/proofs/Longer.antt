-- A record under way goes on to an end, and has more fields there.
use Rattle.std.proofs.Common.{◌≡◌, ◌==◌, ℕ, ◌<◌, ◌≤◌, Bool, true, false, List, [], ◌∷◌, ◌++◌, Some, length, if◌then◌else◌, inl, inr, refl, arith}
use Rattle.std.proofs.lemmas.Bool.{cases_Bool}
use Rattle.std.proofs.lemmas.List.{length_push}
use Rattle.csv.specs.Machine.{Read, ends_at_end, ends_with, field_after, fields_after, in_field, is_end, next_record, start_field, step}
use Rattle.csv.specs.Reading.{default_config}
use Rattle.csv.specs.declared.parser.Action.{Action}
use Rattle.csv.specs.declared.parser.Action.TheVariants as act
use Rattle.csv.specs.declared.parser.State.{State}
use Rattle.csv.specs.declared.parser.State.TheVariants as st
use Rattle.csv.specs.declared.parser.Terminator.TheVariants as term
use Rattle.csv_tables.proofs.Records.{ended_more}

-- whether a state is within a record
abbrev is_within : State → Bool
is_within st.StartRecord = false
is_within st.AfterCr = false
is_within st.InComment = false
is_within st.StartField = true
is_within st.InField = true
is_within st.InQuoted = true
is_within st.AfterQuote = true
is_within st.InEscape = true

-- a step that ends no record stays within it
abbrev Stays : State × Action → Type 0
Stays result = is_end result.1 ≡ false → is_within result.0 ≡ true

stays_if : (test : Bool) (x y : State × Action) → Stays x → Stays y → Stays (if test then x else y)
stays_if true x y f g = f
stays_if false x y f g = g

stays_in_field : (c : ℕ) → Stays (in_field default_config c)
stays_in_field c =
    stays_if (c == 44) (st.StartField, act.EndField) _ (λ h. refl)
    (stays_if (ends_with term.CRLF c) (_, act.EndRecord) (st.InField, act.Copy) (λ h. cc) (λ h. refl))

stays_start_field : (c : ℕ) → Stays (start_field default_config c)
stays_start_field c = stays_if (c == 34) (st.InQuoted, act.Skip) (in_field default_config c) (λ h. refl) (stays_in_field c)

stays_step : (s : State) (c : ℕ) → is_within s ≡ true → Stays (step default_config s c)
stays_step st.StartRecord c inside = cc
stays_step st.AfterCr c inside = cc
stays_step st.InComment c inside = cc
stays_step st.StartField c inside = stays_start_field c
stays_step st.InField c inside = stays_in_field c
stays_step st.InQuoted c inside = stays_if (c == 34) (st.AfterQuote, act.Skip) (st.InQuoted, act.Copy) (λ h. refl) (λ h. refl)
stays_step st.InEscape c inside = λ h. refl
stays_step st.AfterQuote c inside = stays_if (c == 34) (st.InQuoted, act.Copy) (in_field default_config c) (λ h. refl) (stays_in_field c)

-- the end of a text ends a record there
ends_within : (s : State) → is_within s ≡ true → ends_at_end s ≡ true
ends_within st.StartRecord inside = cc
ends_within st.AfterCr inside = cc
ends_within st.InComment inside = refl
ends_within st.StartField inside = refl
ends_within st.InField inside = refl
ends_within st.InQuoted inside = refl
ends_within st.InEscape inside = refl
ends_within st.AfterQuote inside = refl

-- no action drops a field
fields_kept : (action : Action) (fields : List (List ℕ)) (field : List ℕ) → length fields ≤ length (fields_after action fields field)
fields_kept act.EndRecord fields field = omega (arith, length_push fields field)
fields_kept act.EndField fields field = omega (arith, length_push fields field)
fields_kept act.Skip fields field = omega arith
fields_kept act.Copy fields field = omega arith

-- a record under way ends, be it with the text, and has a field more at least
pub ends_longer : (s : State) (fields : List (List ℕ)) (field xs : List ℕ) → is_within s ≡ true
    → (read : Read) × (next_record default_config s fields field xs ≡ Some read) × (length fields < length read.0)
unfolding next_record
ends_longer s fields field [] inside =
    ((fields ++ field ∷ [], st.StartRecord, []), rw (ends_within s inside) refl, omega (arith, length_push fields field))
ends_longer s fields field (c ∷ rest) inside =
    let action = (step default_config s c).1 in
    elim (cases_Bool (is_end action)) [
      | inl end ↦ ((fields_after action fields field, (step default_config s c).0, rest), rw end refl, ended_more action fields field end)
      | inr going ↦
          let (read, ends, more) = ends_longer (step default_config s c).0 (fields_after action fields field) (field_after action c field) rest
          (stays_step s c inside going) in
          (read, rw going ends, omega (arith, more, fields_kept action fields field))
    ]
