-- Headers, and the places of their fields.
use Rattle.std.proofs.Common.{◌≡◌, ℕ, ◌<◌, ◌≤◌, ◌+◌, ◌++◌, ◌∷◌, List, [], Bool, Some, Decides, length, get_or, take, nat_eq, ap, arith, inl, inr}
use Rattle.std.proofs.Common.{refl, sym, subst}
use Rattle.std.proofs.Common.{◌∙◌}
use Rattle.std.specs.Cmp.Lexicographic.{pointwise}
use Rattle.std.specs.List.{Contains, IsAnyAnswer}
use Rattle.std.proofs.lemmas.Bool.{cases_lt}
use Rattle.std.proofs.lemmas.List.{get_or_append_left, get_or_default, get_or_push, length-take-le, length_push}
use Rattle.std.proofs.lemmas.List.Elements.{All-push, Decides-contains, contains_decides}
use Rattle.std.proofs.lemmas.Slice.Eq.{bytes_eq-Decides}
use Rattle.col_table.specs.Name.{IsName}
use Rattle.col_table.specs.NamedRows.{AllDiffer}
use Rattle.col_table.specs.declared.table.TheConstants.{MAX_COLUMNS}
use Rattle.col_table.specs.Refusals.{RefusesNames}
use Rattle.col_table.specs.declared.table.ShapeRefusal.{ShapeRefusal}
use Rattle.col_table.specs.declared.table.ShapeRefusal.TheVariants as shape
use Rattle.csv.specs.Records.{Row, field_at, fields_of}
use Rattle.csv.proofs.RecordFacts.{field-get, field-none}
use Rattle.csv_tables.specs.Loading.{IsHeader}
use Rattle.csv_tables.specs.Refusals.{AreNames, OrMemory, Reaches, RefusesHeader}
use Rattle.csv_tables.specs.declared.refusal.TableRefusal.{TableRefusal}
use Rattle.csv_tables.specs.declared.refusal.TableRefusal.TheVariants.{BadName, TwiceNamed}
use Rattle.csv_tables.proofs.Reaching.{reaches_at}

-- a field that is there is at a place of the record
field_within : (fields : List (List ℕ)) (place : ℕ) (field : List ℕ) → field_at fields place ≡ Some field → place < length fields
field_within fields place field h =
    elim (cases_lt place (length fields)) [ inl within ↦ within | inr past ↦ absurd (let none = field-none fields place past in cc) ]

-- a field that a row gave at a place, if the row is the header
pub record IsFieldAt (fields : List (List ℕ)) (index : ℕ) (field : List ℕ) : Type 0 where
  pub within : index < length fields
  pub here : get_or fields index [] ≡ field

pub field_read : (row header : Row) (index : ℕ) (field : List ℕ) → row ≡ header → Some field ≡ field_at (fields_of row) index
    → IsFieldAt (fields_of header) index field
field_read row header index field same gave =
    let there : field_at (fields_of header) index ≡ Some field = ap (λ row. field_at (fields_of row) index) (sym same) ∙ sym gave in
    record { within = field_within (fields_of header) index field there; here = field-get (fields_of header) index field there }

-- names that were taken are as many as their index says
pub length_taken : (names header : List (List ℕ)) (index : ℕ) → names ≡ take index header → index < length header → length names ≡ index
length_taken names header index taken within = omega (arith, ap length taken, length-take-le index header (omega arith))

-- whether a name is among others
pub name_decides : (names : List (List ℕ)) (name : List ℕ) (found : Bool) → IsAnyAnswer (λ other answer. pointwise nat_eq other name ≡ answer) names found
    → Decides found (Contains names name)
name_decides names name found answer = Decides-contains names name found (contains_decides (pointwise nat_eq) bytes_eq-Decides names name found answer)

-- a last name that differs from the others stood not before, and the others did not either
differ_push : (names : List (List ℕ)) (name : List ℕ) → AllDiffer names → ¬ (Contains names name) → AllDiffer (names ++ name ∷ [])
differ_push names name differ new place within (earlier, before, same) =
    elim (cases_lt place (length names)) [
      | inl inside ↦
          differ place inside (
            earlier,
            before,
            sym (get_or_append_left names (name ∷ []) [] earlier (omega arith)) ∙ same
                ∙ get_or_append_left names (name ∷ []) [] place inside,
          )
      | inr last ↦
          let here : earlier < length names = omega (arith, within, length_push names name) in
          let at : get_or (names ++ name ∷ []) place [] ≡ name = get_or_push names name [] place (omega (arith, within, length_push names name)) in
          new (earlier, here, get_or_default names earlier name [] here ∙ sym (get_or_append_left names (name ∷ []) [] earlier here) ∙ same ∙ at)
    ]

-- no field, and one name more
pub names_none : AreNames []
names_none = record { legal = λ k d h. absurd (omega arith); differ = λ k h. absurd (omega arith) }

pub names_push : (names : List (List ℕ)) (name : List ℕ) → AreNames names → IsName name → ¬ (Contains names name) → AreNames (names ++ name ∷ [])
names_push names name are legal new = record { legal = All-push IsName names name are.legal legal; differ = differ_push names name are.differ new }

-- names that are some, and few, head a table
pub header_from_names : (fields : List (List ℕ)) → AreNames fields → 0 < length fields → length fields ≤ MAX_COLUMNS → IsHeader fields
header_from_names fields are some few = record { legal = are.legal; heading = record { some = some; few = few; differ = are.differ } }

-- so only memory can be missing for the table under them
pub only_memory : (names : List (List ℕ)) → AreNames names → 0 < length names → length names ≤ MAX_COLUMNS → (refusal : ShapeRefusal)
    → RefusesNames names refusal → refusal ≡ shape.OutOfMemory
only_memory names are some few shape.NoColumns none = absurd (omega arith)
only_memory names are some few shape.TooManyColumns many = absurd (omega arith)
only_memory names are some few (shape.TwiceNamed place) twice = absurd (are.differ place twice.1.within twice.1.twice)
only_memory names are some few shape.OutOfMemory heading = refl

-- the refusals of a field after names
pub bad_name : (header : List (List ℕ)) (index place : ℕ) (field : List ℕ) → length header ≤ MAX_COLUMNS → index < length header → get_or header index []
    ≡ field → AreNames (take index header)
    → place ≡ index + 1 → ¬ (IsName field) → RefusesHeader header (BadName place)
bad_name header index place field few within here are counted illegal =
    (few, field, subst (λ place. Reaches AreNames header place field) (sym counted) (reaches_at AreNames header index field [] within here are), illegal)

pub twice_named : (header : List (List ℕ)) (index place : ℕ) (field : List ℕ) → length header ≤ MAX_COLUMNS → index < length header → get_or header index []
    ≡ field → AreNames (take index header)
    → place ≡ index + 1 → IsName field → Contains (take index header) field → RefusesHeader header (TwiceNamed place)
twice_named header index place field few within here are counted legal twice =
    subst (λ place. RefusesHeader header (TwiceNamed place)) (sym counted) (few, field, reaches_at AreNames header index field [] within here are, legal, twice)

pub name_refused : (header : List (List ℕ)) (index place : ℕ) (field : List ℕ) → length header ≤ MAX_COLUMNS → index < length header → get_or header index []
    ≡ field → AreNames (take index header)
    → place ≡ index + 1 → (refusal : TableRefusal) → OrMemory (λ refusal. (refusal ≡ BadName place) × ¬ (IsName field)) refusal
    → OrMemory (RefusesHeader header) refusal
name_refused header index place field few within here are counted refusal (inl memory) = inl memory
name_refused header index place field few within here are counted refusal (inr (same, illegal)) =
    inr (subst (RefusesHeader header) (sym same) (bad_name header index place field few within here are counted illegal))
