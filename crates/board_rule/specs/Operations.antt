-- What an atomic step makes of its word, and what it answers.
use Rattle.std.specs.Prelude.{ℕ, bit_or}
use Rattle.slot_words.specs.Steps.{added, one_less, compare_exchanged}
use Rattle.board_rule.specs.declared.atomic.WordOperation.{WordOperation}
use Rattle.board_rule.specs.declared.atomic.WordOperation.TheVariants.{Load, Store, Swap}
use Rattle.board_rule.specs.declared.atomic.WordOperation.TheVariants.{Add, Decrement, SetBits}
use Rattle.board_rule.specs.declared.atomic.WordOperation.TheVariants.{CompareExchange}

-- what it makes of the word n
abbrev pub changed : WordOperation → ℕ → ℕ
changed Load n = n
changed (Store new) n = new
changed (Swap new) n = new
changed (Add more) n = added more n
changed Decrement n = one_less n
changed (SetBits bits) n = bit_or n bits
changed (CompareExchange old new) n = compare_exchanged old new n

-- what it answers at the word n: the word as it was, but for a store, which reads nothing
abbrev pub read_by : WordOperation → ℕ → ℕ
read_by (Store new) n = new
read_by _ n = n
