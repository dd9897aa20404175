-- No notice of an open slot is lost, and quiet states.
use Rattle.std.specs.Prelude.{◌≡◌, ℕ, ◌/◌, ◌<◌, ◌≤◌, ◌⊎◌, Bool, true, false, Some, None}
use Rattle.slot_history.specs.declared.shape.Shape.{Shape}
use Rattle.slot_history.specs.declared.shape.TheConstants.{STAGES}
use Rattle.slot_history.specs.declared.act.Act.{Act}
use Rattle.slot_history.specs.declared.act.Act.TheVariants.{TakeReturn, TakeChange}
use Rattle.slot_history.specs.declared.place.Place.TheVariants.{Free, Announcing}
use Rattle.slot_history.specs.States.{NoticeRecord, ObjectState, id_of, has_id, is_open}

-- the pending notices of one kind: return notices if `again`, else change notices
abbrev pub notices_of : Bool → ObjectState → ℕ → ℕ → Bool
notices_of true S = S.returns
notices_of false S = S.changes

-- the take of notices of this kind, with its answer
abbrev pub take_of : Bool → ℕ → ℕ → Act
take_of true part bits = TakeReturn part bits
take_of false part bits = TakeChange part bits

-- an announcer of this kind has still to tell the worker of the slot
abbrev pub IsUntold : ObjectState → Bool → ℕ → ℕ → Type 0
IsUntold S again s v = (u told : ℕ) × (S.places u ≡ Announcing s again told) × (told ≤ v)

-- a change notice of the slot is pending for the worker, or still to be told
abbrev pub ChangeComes : ObjectState → ℕ → ℕ → Type 0
ChangeComes S s v = (S.changes v s ≡ true) ⊎ IsUntold S false s v

-- a return notice of the slot is pending for the worker, or still to be told
abbrev pub ReturnComes : ObjectState → ℕ → ℕ → Type 0
ReturnComes S s v = (S.returns v s ≡ true) ⊎ IsUntold S true s v

-- the record is of query q, or of a query that is not known
abbrev pub MayBe : NoticeRecord → ℕ → Type 0
MayBe r q = (r.group ≡ None) ⊎ (r.group ≡ Some q)

-- what the worker v knows, or will be told, of the slot s
pub record IsNoticedAt (S : ObjectState) (s v : ℕ) : Type 0 where
  pub open_slot : is_open (S.slots s) ≡ true → let q = id_of (S.slots s) / STAGES in
      (((S.records v s).active ≡ true) × MayBe (S.records v s) q)
      ⊎ (ChangeComes S s v ⊎ (ReturnComes S s v × MayBe (S.records v s) q))
  pub group : has_id (S.slots s) ≡ true
      → MayBe (S.records v s) (id_of (S.slots s) / STAGES) ⊎ ChangeComes S s v

-- every worker knows of each open slot, or will be told
abbrev pub IsNoticed : Shape → ObjectState → Type 0
IsNoticed d S = (s v : ℕ) → s < d.slots → v < d.workers → IsNoticedAt S s v

-- every worker is free; so nobody is left to be told
abbrev pub IsQuiet : Shape → ObjectState → Type 0
IsQuiet d S = (v : ℕ) → v < d.workers → S.places v ≡ Free
