-- A list that only contracts see, as a history and as numbers in order.
use Rattle.std.proofs.Common.{◌≡◌, List, [], ◌∷◌, refl, ap}
use Rattle.slot_history.specs.declared.act.Entry.{Entry}
use Rattle.slot_station.specs.GhostLists.{logged}
use Rattle.slot_station.specs.Log.{calls_of}

-- the history of the log of some calls is these calls
pub calls-logged : (h : List Entry) → calls_of (logged h) ≡ h
calls-logged [] = refl
calls-logged (e ∷ es) = ap (λ l. e ∷ l) (calls-logged es)
