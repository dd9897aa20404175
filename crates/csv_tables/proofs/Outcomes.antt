-- What holds of an outcome through `map_err`.
use Rattle.std.proofs.Common.{◌≡◌, IfOk, IsErrAnd, MatchResult, Result, Ok, Err}

pub IfOk-map_err : {T D E : Type 0} (inner : Result T E) (outer : Result T D) (Q : E → D → Type 0) (P : T → Type 0)
    → MatchResult inner (λ x. outer ≡ Ok x) (λ e. IsErrAnd outer (Q e)) → IfOk inner P → IfOk outer P
IfOk-map_err (Ok x) outer Q P h holds = rw h holds
IfOk-map_err (Err e) (Ok y) Q P h holds = absurd h
IfOk-map_err (Err e) (Err d) Q P h holds = tt
