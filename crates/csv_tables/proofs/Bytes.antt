-- What one byte does to a record under way.
use Rattle.std.proofs.Common.{◌≡◌, ℕ, ◌++◌, ◌∷◌, List, [], true, false, None, Some, refl}
use Rattle.csv.specs.Machine.{ends_with, next_record, step}
use Rattle.csv.specs.Reading.{default_config}
use Rattle.csv.specs.declared.parser.Action.TheVariants as act
use Rattle.csv.specs.declared.parser.State.{State as MachineState}
use Rattle.csv.specs.declared.parser.State.TheVariants as st
use Rattle.csv.specs.declared.parser.Terminator.TheVariants as term
use Rattle.csv_tables.specs.Reading.{state_of}
use Rattle.csv_tables.specs.declared.scan.State.{State}
use Rattle.csv_tables.specs.declared.scan.State.TheVariants as state

pub skips : (s next : MachineState) (fields : List (List ℕ)) (field : List ℕ) (byte : ℕ) (rest : List ℕ) → step default_config s byte ≡ (next, act.Skip)
    → next_record default_config s fields field (byte ∷ rest) ≡ next_record default_config next fields field rest
unfolding next_record
skips s next fields field byte rest e = rw e refl

pub copies : (s next : MachineState) (fields : List (List ℕ)) (field : List ℕ) (byte : ℕ) (rest : List ℕ) → step default_config s byte ≡ (next, act.Copy)
    → next_record default_config s fields field (byte ∷ rest) ≡ next_record default_config next fields (field ++ byte ∷ []) rest
unfolding next_record
copies s next fields field byte rest e = rw e refl

pub ends_field : (s next : MachineState) (fields : List (List ℕ)) (field : List ℕ) (byte : ℕ) (rest : List ℕ) → step default_config s byte
    ≡ (next, act.EndField)
    → next_record default_config s fields field (byte ∷ rest) ≡ next_record default_config next (fields ++ field ∷ []) [] rest
unfolding next_record
ends_field s next fields field byte rest e = rw e refl

pub ends_record : (s after : MachineState) (fields : List (List ℕ)) (field : List ℕ) (byte : ℕ) (rest : List ℕ) → step default_config s byte
    ≡ (after, act.EndRecord)
    → next_record default_config s fields field (byte ∷ rest) ≡ Some (fields ++ field ∷ [], after, rest)
unfolding next_record
ends_record s after fields field byte rest e = rw e refl

-- at the end of a text the record under way ends, if there is one
pub none_left : (fields : List (List ℕ)) (field : List ℕ) → next_record default_config st.StartRecord fields field [] ≡ None
unfolding next_record
none_left fields field = refl

pub last_left : (s : State) (fields : List (List ℕ)) (field : List ℕ) → ¬ (s ≡ state.StartRecord) → next_record default_config (state_of s) fields field []
    ≡ Some (fields ++ field ∷ [], st.StartRecord, [])
unfolding next_record
last_left state.StartRecord fields field not = absurd (not refl)
last_left state.StartField fields field not = refl
last_left state.InField fields field not = refl
last_left state.InQuoted fields field not = refl
last_left state.AfterQuote fields field not = refl

-- a byte that ends a line is skipped between two records, and any other begins a field there
pub skips_line : (byte : ℕ) (rest : List ℕ) → ends_with term.CRLF byte ≡ true → next_record default_config st.StartRecord [] [] (byte ∷ rest)
    ≡ next_record default_config st.StartRecord [] [] rest
unfolding next_record
skips_line byte rest ends = rw ends refl

pub begins_field : (byte : ℕ) (rest : List ℕ) → ends_with term.CRLF byte ≡ false → next_record default_config st.StartRecord [] [] (byte ∷ rest)
    ≡ next_record default_config st.StartField [] [] (byte ∷ rest)
unfolding next_record
begins_field byte rest ends = rw ends refl
