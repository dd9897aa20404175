-- The refusals of a record.
use Rattle.std.proofs.Common.{◌≡◌, ℕ, ◌<◌, ◌≤◌, ◌+◌, List, [], All, length, get_or, take, refl}
use Rattle.col_table.specs.declared.table.TheConstants.{MAX_ROWS}
use Rattle.csv_tables.specs.Numbers.{HasFault, IsValue}
use Rattle.csv_tables.specs.Refusals.{RefusesRecord, refusal_of}
use Rattle.csv_tables.specs.declared.number.FieldFault.{FieldFault}
use Rattle.csv_tables.specs.declared.number.FieldFault.TheVariants as fault
use Rattle.csv_tables.proofs.Reaching.{reaches_at}

-- a field with a fault after values
pub field_refused : (count number : ℕ) (fields : List (List ℕ)) (index : ℕ) (field : List ℕ) (fault : FieldFault) → number ≤ MAX_ROWS → length fields ≡ count
    → index < length fields
    → get_or fields index [] ≡ field → All IsValue (take index fields) → HasFault field fault
    → RefusesRecord count number fields (refusal_of fault number (index + 1))
field_refused count number fields index field fault.NotANumber within width inside here values bad =
    (refl, record { within = within; width = width }, field, reaches_at (All IsValue) fields index field [] inside here values, bad)
field_refused count number fields index field fault.OutOfRange within width inside here values bad =
    (refl, record { within = within; width = width }, field, reaches_at (All IsValue) fields index field [] inside here values, bad.0, bad.1)
