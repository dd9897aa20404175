-- Outsides that agree.
use Rattle.std.proofs.Common.{◌≡◌, ℕ, List, Option, Some, IfSome, refl, subst, sym, ◌∙◌}
use Rattle.sched_tool.specs.Outsides.{Contents, known, may_hold, Outside, possible, surely_holds}

-- no file holds different bytes by the one and by the other
abbrev pub SameFiles : Contents → Contents → Type 0
SameFiles a b = (file x y : List ℕ) → a file x → b file y → x ≡ y

-- no file holds different bytes in two outsides, and meters may give the same times
pub record Agree (a b : Outside) : Type 1 where
  pub files : SameFiles a.holds b.holds
  pub times : a.gives ≡ b.gives

pub SameFiles-swap : (a b : Contents) → SameFiles a b → SameFiles b a
SameFiles-swap a b same = λ file x y held other. sym (same file y x other held)

pub Agree-swap : (a b : Outside) → Agree a b → Agree b a
Agree-swap a b agree = record { files = SameFiles-swap a.holds b.holds agree.files; times = sym agree.times }

pub SameFiles-known : (content : List ℕ → Option (List ℕ)) → SameFiles (surely_holds content) (surely_holds content)
SameFiles-known content file a b x y = let same : Some a ≡ Some b = sym x ∙ y in cc

-- what is known of a file is all that it may hold
all_possible : (content : List ℕ → Option (List ℕ)) → SameFiles (surely_holds content) (may_hold content)
all_possible content file a b is may = let same : b ≡ a = subst (λ o. IfSome o (λ bytes. b ≡ bytes)) is may in sym same

pub known-possible : (content : List ℕ → Option (List ℕ)) (times : ℕ → ℕ → ℕ → Type 0) → Agree (known content times) (possible content times)
known-possible content times = record { files = all_possible content; times = refl }

pub Agree-known : (content : List ℕ → Option (List ℕ)) (times : ℕ → ℕ → ℕ → Type 0) → Agree (known content times) (known content times)
Agree-known content times = record { files = SameFiles-known content; times = refl }
