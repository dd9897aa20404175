-- What a worker meets that calls alone, while all others are free.
use Rattle.std.specs.Prelude.{◌≡◌, ◌≢◌, ℕ, ◌/◌, ◌<◌, ◌⊎◌, Bool, true, false, List, [], ◌∷◌, ◌++◌}
use Rattle.slot_history.specs.declared.shape.Shape.{Shape}
use Rattle.slot_history.specs.declared.shape.TheConstants.{STAGES}
use Rattle.slot_history.specs.declared.act.Act.{Act}
use Rattle.slot_history.specs.declared.act.Act.TheVariants.{LookOpen, LookInvalid, ShutLost}
use Rattle.slot_history.specs.declared.act.Act.TheVariants.{LeaveOwe, PayLast, PayDone, MarkMarked}
use Rattle.slot_history.specs.declared.act.Act.TheVariants.{SweepOthers, AdmitLost, Arrivals}
use Rattle.slot_history.specs.declared.act.Act.TheVariants.{Announce, TakeReturn, TakeChange}
use Rattle.slot_history.specs.declared.act.Entry.{Entry}
use Rattle.slot_history.specs.declared.place.Place.TheVariants.{Free}
use Rattle.slot_history.specs.States.{ObjectState, slot_of, id_of, is_open, owes}
use Rattle.slot_history.specs.Steps.{state_after}
use Rattle.slot_history.specs.Histories.{IsLegal, entry, admits_of}
use Rattle.slot_history.specs.Notices.{notices_of, take_of, MayBe, IsQuiet}

-- all calls are of one worker
abbrev pub IsOnlyBy : ℕ → List Entry → Type 0
IsOnlyBy w [] = Unit {0}
IsOnlyBy w (e ∷ es) = (e.worker ≡ w) × IsOnlyBy w es

-- nobody is told of a task set
abbrev pub TellsNobody : List Entry → Type 0
TellsNobody [] = Unit {0}
TellsNobody (e ∷ es) = (e.act ≢ Announce) × TellsNobody es

-- no query is admitted
abbrev pub AdmitsNone : List Entry → Type 0
AdmitsNone h = (q : ℕ) → admits_of q h ≡ 0

-- every other worker is free, and this one is marked nowhere: a free worker may have left it a debt
-- before
pub record IsLone (d : Shape) (S : ObjectState) (w : ℕ) : Type 0 where
  pub others : (v : ℕ) → v < d.workers → v ≢ w → S.places v ≡ Free
  pub unmarked : (s : ℕ) → owes (S.slots s) w ≡ false

-- the answers that a worker gets only if it meets another one
abbrev pub needs_another : Act → Bool
needs_another LookInvalid = true
needs_another ShutLost = true
needs_another MarkMarked = true
needs_another (LeaveOwe id) = true
needs_another (SweepOthers n) = true
needs_another PayDone = true
needs_another PayLast = true
needs_another _ = false

-- no answer needs another worker
abbrev pub NeedsNobody : List Entry → Type 0
NeedsNobody [] = Unit {0}
NeedsNobody (e ∷ es) = (needs_another e.act ≡ false) × NeedsNobody es

-- the worker's record of the slot is active and lets it in, or a pending notice will make it so
abbrev pub IsKnown : ObjectState → ℕ → ℕ → Type 0
IsKnown S s v = let q = id_of (S.slots s) / STAGES in
    (((S.records v s).active ≡ true) × MayBe (S.records v s) q)
    ⊎ ((S.changes v s ≡ true) ⊎ ((S.returns v s ≡ true) × MayBe (S.records v s) q))

-- the call takes notices
abbrev pub is_take : Act → Bool
is_take (TakeReturn part bits) = true
is_take (TakeChange part bits) = true
is_take _ = false

-- all calls are takes
abbrev pub AreTakes : List Entry → Type 0
AreTakes [] = Unit {0}
AreTakes (e ∷ es) = (is_take e.act ≡ true) × AreTakes es

-- w took the notices of this kind and this part by one of the calls
abbrev pub Took : Bool → ℕ → ℕ → List Entry → Type 0
Took again w part takes = (bits : ℕ) × (more early : List Entry)
    × (takes ≡ more ++ entry w (take_of again part bits) ∷ early)

-- the record of w of an open slot is active and lets it in
abbrev pub LetsIn : ObjectState → ℕ → ℕ → Type 0
LetsIn S w s = ((S.records w s).active ≡ true)
    × MayBe (S.records w s) (id_of (S.slots s) / STAGES)

-- ---- the laws, as the functions of module `laws::lone_turns` state them

-- from a quiet state on, while only one worker calls, it is lone
abbrev pub StaysLone : Type 0
StaysLone = (d : Shape) (w : ℕ) (more old : List Entry) → w < d.workers → IsLegal d (more ++ old)
    → IsQuiet d (state_after d old) → IsOnlyBy w more
    → IsLone d (state_after d (more ++ old)) w

-- once a lone worker is free the state is quiet
abbrev pub EndsQuiet : Type 0
EndsQuiet = (d : Shape) (S : ObjectState) (w : ℕ) → IsLone d S w → S.places w ≡ Free → IsQuiet d S

-- a lone worker gets no answer that needs another one
abbrev pub MeetsNobody : Type 0
MeetsNobody = (d : Shape) (w : ℕ) (a : Act) (h : List Entry) → IsLegal d (entry w a ∷ h)
    → IsLone d (state_after d h) w → needs_another a ≡ false

-- and so none at all from a quiet state on, while only that worker calls
abbrev pub RunMeetsNobody : Type 0
RunMeetsNobody = (d : Shape) (w : ℕ) (more old : List Entry) → w < d.workers
    → IsLegal d (more ++ old) → IsQuiet d (state_after d old) → IsOnlyBy w more → NeedsNobody more

-- if a lone worker sees its slot open, and no change notice of it is pending, its record allows the
-- query
abbrev pub LookIsKnown : Type 0
LookIsKnown = (d : Shape) (w id : ℕ) (h : List Entry) → IsLegal d (entry w (LookOpen id) ∷ h)
    → let S = state_after d h in let s = slot_of (S.places w) in
    IsLone d S w → S.changes w s ≡ false → MayBe (S.records w s) (id / STAGES)

-- in a quiet state every worker knows every open slot
abbrev pub QuietIsKnown : Shape → ObjectState → Type 0
QuietIsKnown d S = IsQuiet d S → (s v : ℕ) → v < d.workers → is_open (S.slots s) ≡ true
    → IsKnown S s v

-- notices that a worker took are not pending before somebody is told
abbrev pub NoticesStayTaken : Type 0
NoticesStayTaken = (d : Shape) (again : Bool) (w bits s : ℕ) (more old : List Entry)
    → TellsNobody more
    → let S = state_after d (more ++ entry w (take_of again (s / 64) bits) ∷ old) in
    notices_of again S w s ≡ false

-- what `arrivals` answered stays the number of queries as long as none is admitted
abbrev pub ArrivalsStay : Type 0
ArrivalsStay = (d : Shape) (v n : ℕ) (more old : List Entry)
    → let h = more ++ entry v (Arrivals n) ∷ old in
    IsLegal d h → AdmitsNone more → (state_after d h).admitted ≡ n

-- and so an admit of that number is not lost
abbrev pub AdmitIsGot : Type 0
AdmitIsGot = (d : Shape) (v w q now : ℕ) (more old : List Entry)
    → IsLegal d (entry w (AdmitLost q now) ∷ more ++ entry v (Arrivals q) ∷ old)
    → AdmitsNone more → ⊥

-- once a worker took both kinds of notices of a slot from a quiet state on, its record lets it in
abbrev pub TakenIsKnown : Type 0
TakenIsKnown = (d : Shape) (w s : ℕ) (takes old : List Entry) → w < d.workers
    → IsLegal d (takes ++ old) → IsQuiet d (state_after d old) → AreTakes takes
    → ((again : Bool) → Took again w (s / 64) takes)
    → let S = state_after d (takes ++ old) in is_open (S.slots s) ≡ true → LetsIn S w s
