-- The priority after so many quanta, and what contracts see of a decay.
use Rattle.std.specs.Prelude.{◌≡◌, ℕ, ◌-◌, ◌*◌, ◌/◌, ◌+◌, ◌^◌, ◌<◌, ◌≤◌, min, max, zero, suc}
use Rattle.std.specs.Prelude.{nat_lt, if◌then◌else◌}
use Rattle.prio_decay.specs.declared.Params.{Params}
use Rattle.prio_decay.specs.declared.TheConstants.{LEAST_PRIORITY, MOST_DENOMINATOR, MOST_PRIORITY}
use Rattle.prio_decay.specs.declared.TheConstants.{QUANTUM_NS}

-- parameters under which a priority stays within 100 and 10,000, and decays once it is held no
-- longer
pub record IsUsable (p : Params) : Type 0 where
  pub least : LEAST_PRIORITY ≤ p.start
  pub most : p.start ≤ MOST_PRIORITY
  pub decays : p.num < p.den
  pub small : p.den ≤ MOST_DENOMINATOR
  pub ends : p.hold < 2 ^ 32

-- the priority after n quanta: the start as long as it is held, and then a fraction of the one
-- before, and never below 100
unfoldable pub priority_after : Params → ℕ → ℕ
priority_after p zero = p.start
priority_after p (suc n) =
    if nat_lt n p.hold then p.start else max LEAST_PRIORITY (priority_after p n * p.num / p.den)

-- what contracts see of a `Decay`: its parameters, and the nanoseconds spent
pub record Spending : Type 0 where
  pub params : Params
  pub spent : ℕ

-- the decay before any time is spent
abbrev pub unspent : Params → Spending
unspent p = record { params = p; spent = 0 }

-- the decay after so many nanoseconds more; the count stands still at the largest u64
abbrev pub after_spending : Spending → ℕ → Spending
after_spending d ns = record d { spent = min (d.spent + ns) (2 ^ 64 - 1) }

-- so many nanoseconds were spent in all
abbrev pub HasSpent : Spending → ℕ → Type 0
HasSpent d total = d.spent ≡ min total (2 ^ 64 - 1)

-- the priority of a decay
abbrev pub priority_of : Spending → ℕ
priority_of d = priority_after d.params (d.spent / QUANTUM_NS)
