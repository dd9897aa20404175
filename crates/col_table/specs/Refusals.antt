-- Why names can't head a table.
use Rattle.std.specs.Prelude.{ℕ, ◌≡◌, ◌<◌, ◌≤◌, List, length}
use Rattle.col_table.specs.NamedRows.{IsHeading, IsFirstTwice}
use Rattle.col_table.specs.declared.table.TheConstants.{MAX_COLUMNS}
use Rattle.col_table.specs.declared.table.ShapeRefusal.{ShapeRefusal}
use Rattle.col_table.specs.declared.table.ShapeRefusal.TheVariants.{NoColumns, TooManyColumns}
use Rattle.col_table.specs.declared.table.ShapeRefusal.TheVariants.{TwiceNamed, OutOfMemory}

-- why names can't head a table: the first cause, in the order of the cases
abbrev pub RefusesHeading : List (List ℕ) → ShapeRefusal → Type 0
RefusesHeading names NoColumns = length names ≡ 0
RefusesHeading names TooManyColumns = MAX_COLUMNS < length names
RefusesHeading names (TwiceNamed place) = (length names ≤ MAX_COLUMNS) × IsFirstTwice names place
RefusesHeading names OutOfMemory = ⊥

-- the cause of each refusal of names; out of memory only if nothing else is wrong
abbrev pub RefusesNames : List (List ℕ) → ShapeRefusal → Type 0
RefusesNames names NoColumns = RefusesHeading names NoColumns
RefusesNames names TooManyColumns = RefusesHeading names TooManyColumns
RefusesNames names (TwiceNamed place) = RefusesHeading names (TwiceNamed place)
RefusesNames names OutOfMemory = IsHeading names
