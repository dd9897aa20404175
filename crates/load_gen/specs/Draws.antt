-- The numbers that a large input is drawn from: one state, one step, and draws.
use Rattle.std.specs.Prelude.{ℕ, zero, suc, ℤ, pos, ◌+◌, ◌*◌, ◌%◌, ◌-ℤ◌, List, map}
use Rattle.std.specs.List.{range_with_len}

-- the state before the first draw
abbrev pub first_state : ℕ → ℕ
first_state number = 1 + number % 2147483646

-- the state one draw later
abbrev pub next_state : ℕ → ℕ
next_state state = state * 48271 % 2147483647

-- the state so many draws later
unfoldable pub state_after : ℕ → ℕ → ℕ
state_after state zero = state
state_after state (suc count) = next_state (state_after state count)

-- the draw below a bound that stands at a place, counted from 1, among the draws after a state
abbrev pub draw : ℕ → ℕ → ℕ → ℕ
draw state place bound = state_after state place % bound

-- the number from -1,000 to 1,000 that a state gives
abbrev pub signed_of : ℕ → ℤ
signed_of state = pos (state % 2001) -ℤ pos 1000

-- the draw from -1,000 to 1,000 at a place
abbrev pub signed_draw : ℕ → ℕ → ℤ
signed_draw state place = signed_of (state_after state place)

-- what is made of each number below a count, in order
unfoldable pub each_below : {A : Type 0} → ℕ → (ℕ → A) → List A
each_below count made = map made (range_with_len 0 count)
