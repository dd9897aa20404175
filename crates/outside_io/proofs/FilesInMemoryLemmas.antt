-- What a name holds after a file was added.
use Rattle.std.proofs.Common.{◌≡◌, ℕ, Bool, true, false, cond, [], Option, Some, Vec, if◌then◌else◌, refl, unwrap_or}
use Rattle.std.specs.Option.{option_map}
use Rattle.std.specs.declared.alloc.Global.{Global}

-- the bytes under a name, if it is the one that was added or another
pub option_map-cond : (b : Bool) (added : Vec ℕ Global) (before : Option (Vec ℕ Global)) →
    option_map (λ v. v.items) (cond b (Some added) before)
    ≡ (if b then Some added.items else option_map (λ v. v.items) before)
option_map-cond true added before = refl
option_map-cond false added before = refl

-- the same, if a name without a file holds no bytes
pub unwrap_or-cond : (b : Bool) (added : Vec ℕ Global) (before : Option (Vec ℕ Global)) →
    unwrap_or (option_map (λ v. v.items) (cond b (Some added) before)) []
    ≡ (if b then added.items else unwrap_or (option_map (λ v. v.items) before) [])
unwrap_or-cond true added before = refl
unwrap_or-cond false added before = refl
