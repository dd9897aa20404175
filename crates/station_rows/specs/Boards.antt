-- The passes of a board that are kept beside it.
use Rattle.std.specs.Prelude.{List, Option, All, IfSome}
use Rattle.board_rule.specs.declared.board.Board.{Board}
use Rattle.board_rule.specs.declared.board.Pass.{Pass}
use Rattle.board_rule.specs.Passes.{IsPassOf}
use Rattle.station_rows.specs.declared.subject.Piece.{Piece}
use Rattle.station_rows.specs.declared.subject.Sets.{Sets}

-- each pass that is here is of the board
abbrev pub AreOf : Board Piece Sets → List (Option (Pass Piece Sets)) → Type 0
AreOf board passes = All (λ pass. IfSome pass (IsPassOf board)) passes
