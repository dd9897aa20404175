-- Which refusal of a file follows from the refusal of a piece.
use Rattle.outside_io.specs.declared.reading.PieceRefusal.{PieceRefusal}
use Rattle.outside_io.specs.declared.reading.PieceRefusal.TheVariants.{Failed, OutOfMemory}
use Rattle.outside_io.specs.declared.reading.ReadRefusal.{ReadRefusal}
use Rattle.outside_io.specs.declared.reading.ReadRefusal.TheVariants as whole

-- the refusal of the whole file after the refusal of a piece
abbrev pub read_refusal_of : PieceRefusal → ReadRefusal
read_refusal_of Failed = whole.Failed
read_refusal_of OutOfMemory = whole.OutOfMemory
