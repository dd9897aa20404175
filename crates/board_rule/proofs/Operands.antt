-- What a step's operation and address name, by which a call picks what the step is.
use Rattle.std.proofs.Common.{ℕ}
use Rattle.slot_words.specs.declared.address.Address.{Address}
use Rattle.slot_words.specs.declared.address.Address.TheVariants.{StateOf, ReturnOf, ChangeOf}
use Rattle.board_rule.specs.declared.atomic.WordOperation.{WordOperation}
use Rattle.board_rule.specs.declared.atomic.WordOperation.TheVariants.{Store, Add, CompareExchange}

-- the number that an operation has, of two the first
abbrev pub operand : WordOperation → ℕ
operand (Store new) = new
operand (Add more) = more
operand (CompareExchange old new) = old
operand _ = 0

abbrev pub slot_named : Address → ℕ
slot_named (StateOf s) = s
slot_named _ = 0

abbrev pub part_named : Address → ℕ
part_named (ReturnOf w part) = part
part_named (ChangeOf w part) = part
part_named _ = 0
