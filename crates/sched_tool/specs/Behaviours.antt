-- What a command accepts, answers, refuses and reads.
use Rattle.std.specs.Prelude.{ℕ, List}
use Rattle.sched_tool.specs.declared.program.refusal.Refusal.{Refusal}
use Rattle.sched_tool.specs.declared.program.refusal.Refusal.TheVariants.{Usage, OutOfMemory}

-- the behaviour of a command over one outside: each command has one, and the contracts of `command`
-- and `command_run` speak of nothing else
pub record Behaviour : Type 1 where
  -- its words, and what its files hold, are accepted
  pub accepts : Type 0
  -- this text answers it whole
  pub answers : List ℕ → Type 0
  -- this text answers it, but for queries that ran out of memory
  pub answers_in_part : List ℕ → Type 0
  -- it is refused for this reason
  pub refuses : Refusal → Type 0
  -- it reads the file of this name
  pub reads : List ℕ → Type 0

-- ---- words outside the grammar

abbrev pub IsUsageRefused : Refusal → Type 0
IsUsageRefused Usage = Unit {0}
IsUsageRefused OutOfMemory = Unit {0}
IsUsageRefused refusal = ⊥

-- words outside the grammar are refused, and nothing is read
abbrev pub usage_behaviour : Behaviour
usage_behaviour = record {
  accepts = ⊥;
  answers = λ text. ⊥;
  answers_in_part = λ text. ⊥;
  refuses = IsUsageRefused;
  reads = λ file. ⊥;
}
