-- The text of a refusal, which names the record and the field.
use Rattle.std.specs.Prelude.{ℕ, List, ◌++◌, codes, decimal}
use Rattle.csv_tables.specs.declared.refusal.TableRefusal.{TableRefusal}
use Rattle.csv_tables.specs.declared.refusal.TableRefusal.TheVariants.{NoHeader, TooManyColumns}
use Rattle.csv_tables.specs.declared.refusal.TableRefusal.TheVariants.{BadName, TwiceNamed, Ragged}
use Rattle.csv_tables.specs.declared.refusal.TableRefusal.TheVariants.{NotANumber, OutOfRange}
use Rattle.csv_tables.specs.declared.refusal.TableRefusal.TheVariants.{TooManyRows, OutOfMemory}

-- a field of a record, both counted from 1
abbrev pub place_text : ℕ → ℕ → List ℕ
place_text row field = decimal row ++ (codes " field " ++ decimal field)

abbrev pub refusal_text : TableRefusal → List ℕ
refusal_text NoHeader = codes "no header"
refusal_text TooManyColumns = codes "too many columns"
refusal_text (BadName field) = codes "bad name field " ++ decimal field
refusal_text (TwiceNamed field) = codes "named twice field " ++ decimal field
refusal_text (Ragged row) = codes "ragged record " ++ decimal row
refusal_text (NotANumber row field) = codes "not a number record " ++ place_text row field
refusal_text (OutOfRange row field) = codes "out of range record " ++ place_text row field
refusal_text TooManyRows = codes "too many rows"
refusal_text OutOfMemory = codes "out of memory"
