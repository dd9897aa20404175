-- The slots of a list: which is chosen, and how far their passes lie apart.
use Rattle.std.specs.Prelude.{◌≡◌, ℕ, ◌<◌, ◌≤◌, Bool, true, false, Option, Some, None, List, length}
use Rattle.std.specs.Prelude.{◌&&◌, ◌-◌, zero, suc, max, nat_lt, if◌then◌else◌, slice_index_or}
use Rattle.stride_set.specs.declared.Slot.{Slot}

-- a slot that is not active, at pass 0: what stands past the last slot
abbrev pub idle : Slot
idle = record { active = false; pass = 0 }

-- which slots of a list are active
abbrev pub active_in : List Slot → ℕ → Bool
active_in slots s = (slice_index_or slots s idle).active

-- each active slot of a list is among the first `reach`
pub record IsReach (slots : List Slot) (reach : ℕ) : Type 0 where
  pub within : reach ≤ length slots
  pub idle_beyond : (s : ℕ) → reach ≤ s → active_in slots s ≡ false

-- the passes of the slots of a list
abbrev pub pass_in : List Slot → ℕ → ℕ
pass_in slots s = (slice_index_or slots s idle).pass

-- the greatest of f 0 to f (n - 1), and 0 where n is 0
unfoldable pub greatest : ℕ → (ℕ → ℕ) → ℕ
greatest zero f = 0
greatest (suc n) f = max (greatest n f) (f n)

-- how far slot s is ahead of slot t, where both are active
abbrev pub lead_of : (ℕ → Bool) → (ℕ → ℕ) → ℕ → ℕ → ℕ
lead_of active pass s t = if active s && active t then pass s - pass t else 0

-- the greatest difference of the passes of two active slots, of n slots
abbrev pub spread_from : ℕ → (ℕ → Bool) → (ℕ → ℕ) → ℕ
spread_from n active pass = greatest n (λ s. greatest n (λ t. lead_of active pass s t))

-- the same of the slots of a list
abbrev pub spread_among : List Slot → ℕ
spread_among slots = spread_from (length slots) (active_in slots) (pass_in slots)

-- slot n comes before the choice so far: its pass is less, or there is none yet
abbrev pub comes_before : (ℕ → ℕ) → ℕ → Option ℕ → Bool
comes_before pass n None = true
comes_before pass n (Some s) = nat_lt (pass n) (pass s)

-- the choice of n slots: the active slot of least pass, the least slot among ties
unfoldable pub choice_from : ℕ → (ℕ → Bool) → (ℕ → ℕ) → Option ℕ
choice_from zero active pass = None
choice_from (suc n) active pass =
    let before = choice_from n active pass in
    if active n && comes_before pass n before then Some n else before

-- the same of the slots of a list
abbrev pub choice_among : List Slot → Option ℕ
choice_among slots = choice_from (length slots) (active_in slots) (pass_in slots)

-- s is the active slot of least pass of n slots, and the least slot among ties
pub record IsLeastActive (n : ℕ) (active : ℕ → Bool) (pass : ℕ → ℕ) (s : ℕ) : Type 0 where
  pub in_range : s < n
  pub is_active : active s ≡ true
  pub least : (t : ℕ) → t < n → active t ≡ true → pass s ≤ pass t
  pub first : (t : ℕ) → t < s → active t ≡ true → pass s < pass t
