-- Legal histories, what a trail knows of them, and what they did with each task set. Newest entries
-- come first.
use Rattle.std.specs.Prelude.{◌≡◌, ℕ, ◌+◌, ◌/◌, ◌%◌, ◌<◌, Bool, true, false, cond, eqb, ◌&&◌, List}
use Rattle.std.specs.Prelude.{[], ◌∷◌, ◌++◌, Option, Some, None, IsSome}
use Rattle.std.specs.Int.{bit_at}
use Rattle.slot_history.specs.declared.shape.Shape.{Shape}
use Rattle.slot_history.specs.declared.shape.TheConstants.{STAGES}
use Rattle.slot_history.specs.declared.act.Act.{Act}
use Rattle.slot_history.specs.declared.act.Act.TheVariants.{LookOpen, LookInvalid, LookVacant}
use Rattle.slot_history.specs.declared.act.Act.TheVariants.{ClaimRange, ClaimUsed, ShutWon}
use Rattle.slot_history.specs.declared.act.Act.TheVariants.{ShutLost, PayLast, MarkMarked}
use Rattle.slot_history.specs.declared.act.Act.TheVariants.{MarkMissed, SweepLast, ReserveGot}
use Rattle.slot_history.specs.declared.act.Act.TheVariants.{AdmitGot, Install, Release, TakeReturn}
use Rattle.slot_history.specs.declared.act.Act.TheVariants.{TakeChange}
use Rattle.slot_history.specs.declared.act.Entry.{Entry}
use Rattle.slot_history.specs.declared.place.Place.{Place}
use Rattle.slot_history.specs.States.{NoticeRecord, slot_of, id_at, held_at, is_inside}
use Rattle.slot_history.specs.Steps.{site, is_in_part, dropped, looked, state_after}
use Rattle.slot_history.specs.Allowed.{IsAllowed}

-- each call was allowed when it was made, and had the answer that the state gave
abbrev pub IsLegal : Shape → List Entry → Type 0
IsLegal d [] = Unit {0}
IsLegal d (e ∷ es) = (e.worker < d.workers) × IsAllowed d (state_after d es) e.worker e.act
    × IsLegal d es

abbrev pub entry : ℕ → Act → Entry
entry w a = record { worker = w; act = a }

-- the entries of one worker
abbrev pub own_calls : ℕ → List Entry → List Entry
own_calls w [] = []
own_calls w (e ∷ es) = cond (eqb w e.worker) (e ∷ own_calls w es) (own_calls w es)

-- where a worker is after a history
abbrev pub place_of : Shape → List Entry → ℕ → Place
place_of d h w = (state_after d h).places w

-- the history h begins with `early`, which the newer entries follow
abbrev pub Begins : List Entry → List Entry → Type 0
Begins h early = (more : List Entry) × (h ≡ more ++ early)

-- After the call e of a worker, its trail `new` ends with this call, and begins with the trail
-- `old`. Of the worker it has just the worker's own calls, and it is a legal history.
abbrev pub Called : Shape → Entry → List Entry → List Entry → Type 0
Called d e old new = (h : List Entry) × (new ≡ e ∷ h) × Begins h old
    × (own_calls e.worker h ≡ own_calls e.worker old) × IsLegal d new

-- ---- claims

-- a range of tuples that was claimed, from one number up to below another, and by whom
pub record Morsel : Type 0 where
  pub worker : ℕ
  pub from : ℕ
  pub to : ℕ

-- one more if the call is a claim that got a range, by a worker that is inside with the id
abbrev pub claims_after : ℕ → Act → Place → ℕ → List Morsel → List Morsel
claims_after worker (ClaimRange n from to) place id claims =
    cond (is_inside place id) (record { worker = worker; from = from; to = to } ∷ claims) claims
claims_after worker _ place id claims = claims

-- the ranges that were claimed of an id, newest first
abbrev pub claims_of : Shape → ℕ → List Entry → List Morsel
claims_of d id [] = []
claims_of d id (e ∷ es) =
    claims_after e.worker e.act (place_of d es e.worker) id (claims_of d id es)

abbrev pub ranges_after : Act → Place → ℕ → List (ℕ × ℕ) → List (ℕ × ℕ)
ranges_after (ClaimRange n from to) p id rs = cond (is_inside p id) ((from, to) ∷ rs) rs
ranges_after _ p id rs = rs

-- the ranges that w claimed of an id, newest first, each from one number up to below another
abbrev pub ranges_of : Shape → ℕ → ℕ → List Entry → List (ℕ × ℕ)
ranges_of d w id [] = []
ranges_of d w id (e ∷ es) =
    let before = ranges_of d w id es in
    cond (eqb w e.worker) (ranges_after e.act (place_of d es w) id before) before

-- the ranges of claims that are by w
abbrev pub ranges_by : ℕ → List Morsel → List (ℕ × ℕ)
ranges_by w [] = []
ranges_by w (m ∷ ms) = cond (eqb w m.worker) ((m.from, m.to) ∷ ranges_by w ms) (ranges_by w ms)

-- Claims, newest first, tile a total. The newest is not empty and ends at the total, and the
-- earlier ones tile the number at which it begins. Without claims the total is 0.
abbrev pub Tiles : List Morsel → ℕ → Type 0
Tiles [] total = total ≡ 0
Tiles (m ∷ ms) total = (m.to ≡ total) × (m.from < m.to) × Tiles ms m.from

-- ---- notice records, by what a worker's own calls were answered

-- the mask word of this part has the bit of the slot
abbrev pub is_in_mask : ℕ → ℕ → ℕ → Bool
is_in_mask part bits s = is_in_part part s && eqb (bit_at bits (s % 64)) 1

-- the record of the slot s after a call of its worker, which is at p
abbrev pub own_record_after : Act → Place → ℕ → NoticeRecord → NoticeRecord
own_record_after (LookOpen id) p s r = cond (eqb s (slot_of p)) (looked (id / STAGES) r) r
own_record_after LookInvalid p s r = cond (eqb s (slot_of p)) (dropped r) r
own_record_after LookVacant p s r = cond (eqb s (slot_of p)) (dropped r) r
own_record_after ShutWon p s r = cond (eqb s (slot_of p)) (dropped r) r
own_record_after ShutLost p s r = cond (eqb s (slot_of p)) (dropped r) r
own_record_after (TakeReturn part bits) p s r =
    cond (is_in_mask part bits s) (record r { active = true }) r
own_record_after (TakeChange part bits) p s r =
    cond (is_in_mask part bits s) (record { active = true; group = None }) r
own_record_after _ p s r = r

-- the record that w has of the slot s
abbrev pub own_record : Shape → ℕ → ℕ → List Entry → NoticeRecord
own_record d w s [] = record { active = false; group = None }
own_record d w s (e ∷ es) =
    let before = own_record d w s es in
    cond (eqb w e.worker) (own_record_after e.act (place_of d es w) s before) before

-- ---- task sets

-- how many calls a history has in the set f
abbrev pub calls_in : (Act → Bool) → List Entry → ℕ
calls_in f [] = 0
calls_in f (e ∷ es) = cond (f e.act) 1 0 + calls_in f es

abbrev pub is_install : Act → ℕ → Bool
is_install (Install jd) id = eqb jd id
is_install _ id = false

-- how many installs of an id there are
abbrev pub installs_of : ℕ → List Entry → ℕ
installs_of id = calls_in (λ a. is_install a id)

-- the total with which an id was installed, if it was
abbrev pub total_of : Shape → ℕ → List Entry → Option ℕ
total_of d id [] = None
total_of d id (e ∷ es) =
    cond (is_install e.act id) (held_at (place_of d es e.worker)).total (total_of d id es)

-- the slot in which an id was installed, if it was
abbrev pub slot_with : Shape → ℕ → List Entry → Option ℕ
slot_with d id [] = None
slot_with d id (e ∷ es) =
    cond (is_install e.act id) (Some (slot_of (place_of d es e.worker))) (slot_with d id es)

-- each install is of a task set that the subject has, with its total; `totals` gives the totals of
-- the subject
abbrev pub IsOfTotals : (ℕ → Option ℕ) → Shape → List Entry → Type 0
IsOfTotals totals d h = (id total : ℕ) → total_of d id h ≡ Some total → totals id ≡ Some total

abbrev pub is_admit : Act → ℕ → Bool
is_admit (AdmitGot got) q = eqb got q
is_admit _ q = false

-- how many times a query was admitted
abbrev pub admits_of : ℕ → List Entry → ℕ
admits_of q = calls_in (λ a. is_admit a q)

abbrev pub is_last : Act → Bool
is_last SweepLast = true
is_last PayLast = true
is_last _ = false

-- how many calls on the task set of an id were answered Last: its caller finalises
abbrev pub lasts_of : Shape → ℕ → List Entry → ℕ
lasts_of d id [] = 0
lasts_of d id (e ∷ es) =
    cond (is_last e.act && eqb (id_at (place_of d es e.worker)) id) 1 0 + lasts_of d id es

-- the worker whose call was answered Last, if there is one
abbrev pub finisher_of : Shape → ℕ → List Entry → Option ℕ
finisher_of d id [] = None
finisher_of d id (e ∷ es) = let here = id_at (place_of d es e.worker) in
    cond (is_last e.act && eqb here id) (Some e.worker) (finisher_of d id es)

-- a look that answers an id, or a claim, a shut or a mark of it, by a worker at this place
abbrev pub touches : Act → Place → ℕ → Bool
touches (LookOpen jd) p id = eqb jd id
touches (ClaimRange n from to) p id = eqb (id_at p) id
touches (ClaimUsed n) p id = eqb (id_at p) id
touches ShutWon p id = eqb (id_at p) id
touches ShutLost p id = eqb (id_at p) id
touches MarkMarked p id = eqb (id_at p) id
touches MarkMissed p id = eqb (id_at p) id
touches _ p id = false

-- a call that gives a slot to another task set: an install, a reservation or a release
abbrev pub renews : Act → Bool
renews (ReserveGot s) = true
renews (Install id) = true
renews Release = true
renews _ = false

-- the task set to which such a call gives its slot
abbrev pub task_given : Act → Option ℕ
task_given (Install id) = Some id
task_given _ = None

-- the task set that a slot serves: that of its newest install, if it was not released or reserved
-- since
abbrev pub task_in : Shape → ℕ → List Entry → Option ℕ
task_in d s [] = None
task_in d s (e ∷ es) = let here = site e.act (place_of d es e.worker) in
    cond (renews e.act && eqb here s) (task_given e.act) (task_in d s es)

-- A finalised task set was finalised exactly once, and in place. It was installed in a slot. From
-- its last call on, nobody is inside with it and no call touches it. Between its install and its
-- last call, no call gives its slot away.
pub record FinalisedOnce (d : Shape) (id : ℕ) (h : List Entry) : Type 0 where
  pub once : lasts_of d id h ≡ 1
  pub slot : IsSome (slot_with d id h)
  pub none_inside : (early : List Entry) → Begins h early → 0 < lasts_of d id early → (v : ℕ)
      → is_inside (place_of d early v) id ≡ false
  pub untouched : (e : Entry) (early : List Entry) → Begins h (e ∷ early) → 0 < lasts_of d id early
      → touches e.act (place_of d early e.worker) id ≡ false
  pub in_place : (e : Entry) (early : List Entry) → Begins h (e ∷ early)
      → slot_with d id early ≡ Some (site e.act (place_of d early e.worker)) → renews e.act ≡ true
      → 0 < lasts_of d id early
