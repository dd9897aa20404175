-- What a text that has to keep a rule gives.
use Rattle.std.proofs.Common.{◌≡◌, ℕ, List, Bool, true, false, Ok, Err}
use Rattle.script_json.specs.Forms.{bad_text, kept}

pub kept-true : (rule : List ℕ → Bool) (bytes : List ℕ) → rule bytes ≡ true → kept rule bytes ≡ Ok bytes
kept-true rule bytes holds = rw holds

pub kept-broken : (rule : List ℕ → Bool) (bytes : List ℕ) → rule bytes ≡ false → kept rule bytes ≡ Err bad_text
kept-broken rule bytes broken = rw broken
