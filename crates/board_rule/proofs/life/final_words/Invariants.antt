use Rattle.std.proofs.Common.{◌≡◌, ℕ, ◌<◌, length, get_or}
use Rattle.std.specs.Slots.{slots_items, slots_len}
use Rattle.board_rule.proofs.life.final_words.Given as goal

abbrev pub invariant-loop-i : goal.invariant-loop-i
invariant-loop-i g l = (length l.words.items ≡ l.count) × (l.count ≡ slots_len l.closed.words)
    × ((k : ℕ) → k < l.i → get_or l.words.items k 0 ≡ get_or (slots_items l.closed.words) k 0)
