-- Tokens: every field is what the trail gives for its worker.
use Rattle.std.specs.Prelude.{◌≡◌, ℕ, Bool, true, false, cond, eqb, ◌&&◌, List, [], ◌∷◌, Option}
use Rattle.std.specs.Prelude.{Some, None}
use Rattle.slot_history.specs.declared.shape.Shape.{Shape}
use Rattle.slot_history.specs.declared.act.Act.{Act}
use Rattle.slot_history.specs.declared.act.Act.TheVariants.{Install}
use Rattle.slot_history.specs.declared.act.Entry.{Entry}
use Rattle.slot_history.specs.declared.place.Place.{Place}
use Rattle.slot_history.specs.declared.place.Place.TheVariants.{Free, Used, Leading, Asking, Owing}
use Rattle.slot_history.specs.declared.place.Place.TheVariants.{Holding, Announcing}
use Rattle.slot_history.specs.States.{slot_of, held_at}
use Rattle.slot_history.specs.Histories.{place_of}
use Rattle.slot_station.specs.Desks.{Seen, own_place}
use Rattle.slot_station.specs.declared.token.Spent.{Spent}
use Rattle.slot_station.specs.declared.token.Debt.{Debt}
use Rattle.slot_station.specs.declared.token.Coordinator.{Coordinator}
use Rattle.slot_station.specs.declared.token.Holder.{Holder}
use Rattle.slot_station.specs.declared.token.Announcer.{Announcer}
use Rattle.slot_station.specs.declared.reply.Claim.{Claim}
use Rattle.slot_station.specs.declared.reply.Claim.TheVariants as claim
use Rattle.slot_station.specs.declared.reply.Shut.{Shut}
use Rattle.slot_station.specs.declared.reply.Shut.TheVariants as shut
use Rattle.slot_station.specs.declared.reply.Leave.{Leave}
use Rattle.slot_station.specs.declared.reply.Leave.TheVariants as leave
use Rattle.slot_station.specs.declared.reply.Sweep.{Sweep}
use Rattle.slot_station.specs.declared.reply.Sweep.TheVariants as sweep
use Rattle.slot_station.specs.declared.reply.Pay.{Pay}
use Rattle.slot_station.specs.declared.reply.Pay.TheVariants as pay
use Rattle.slot_station.specs.declared.reply.Reserve.{Reserve}
use Rattle.slot_station.specs.declared.reply.Reserve.TheVariants as reserve

-- of the worker w, at the place p, of an object of shape d
module _ (d : Shape) (w : ℕ) (p : Place) where
  -- the worker found the task set used up
  pub record IsSpent (token : Spent) : Type 0 where
    pub worker : token.worker ≡ w
    pub place : p ≡ Used token.slot token.id

  -- the worker was marked for the task set, and has left the slot
  pub record IsDebt (token : Debt) : Type 0 where
    pub worker : token.worker ≡ w
    pub place : p ≡ Owing token.slot token.id

  -- the worker shut the task set, and asked and marked nobody so far
  pub record IsFirst (token : Coordinator) : Type 0 where
    pub worker : token.worker ≡ w
    pub workers : token.workers ≡ d.workers
    pub place : p ≡ Leading token.slot token.id
    pub asked : token.asked ≡ 0
    pub marked : token.marked ≡ 0

  -- the worker shut the task set, has left the slot, and asked and marked so many others
  pub record IsCoordinator (token : Coordinator) : Type 0 where
    pub worker : token.worker ≡ w
    pub workers : token.workers ≡ d.workers
    pub place : p ≡ Asking token.slot token.id token.asked token.marked

  -- the worker holds the slot, after a reservation or a finalisation
  pub record IsHolder (token : Holder) : Type 0 where
    pub worker : token.worker ≡ w
    pub noted : ℕ
    pub total : Option ℕ
    pub place : p ≡ Holding token.slot (record {
      query = token.query;
      stage = token.stage;
      again = token.again;
      noted = noted;
      total = total;
    })

  -- the token's fields are those of what the worker holds
  pub record HoldsAs (token : Holder) : Type 0 where
    pub worker : token.worker ≡ w
    pub slot : token.slot ≡ slot_of p
    pub query : token.query ≡ (held_at p).query
    pub stage : token.stage ≡ (held_at p).stage
    pub again : token.again ≡ (held_at p).again

  -- the worker opened the slot, and told so many workers
  pub record IsAnnouncer (token : Announcer) : Type 0 where
    pub worker : token.worker ≡ w
    pub workers : token.workers ≡ d.workers
    pub place : p ≡ Announcing token.slot token.again token.told

  -- the tokens that replies bring
  abbrev pub ClaimGives : Claim → Type 0
  ClaimGives (claim.Range from to) = Unit {0}
  ClaimGives (claim.Exhausted token) = IsSpent token

  abbrev pub ShutGives : Shut → Type 0
  ShutGives (shut.Won token) = IsFirst token
  ShutGives shut.Lost = Unit {0}

  abbrev pub LeaveGives : Leave → Type 0
  LeaveGives leave.Left = Unit {0}
  LeaveGives (leave.Owe token) = IsDebt token

  abbrev pub SweepGives : Sweep → Type 0
  SweepGives (sweep.Last token) = IsHolder token
  SweepGives (sweep.Others owing) = Unit {0}

  abbrev pub PayGives : Pay → Type 0
  PayGives (pay.Last token) = IsHolder token
  PayGives pay.Done = Unit {0}

  abbrev pub ReserveGives : Reserve → Type 0
  ReserveGives (reserve.Got token) = IsHolder token
  ReserveGives (reserve.Taken word) = Unit {0}

abbrev pub opens : Act → Bool
opens (Install id) = true
opens _ = false

-- the slot that the worker w opened last, and whether it did so after a finalisation
abbrev pub last_opened : Shape → ℕ → List Entry → Option (ℕ × Bool)
last_opened d w [] = None
last_opened d w (e ∷ es) =
    let p = place_of d es w in
    cond (eqb w e.worker && opens e.act) (Some (slot_of p, (held_at p).again)) (last_opened d w es)

-- the token of the worker's last install, after it has told every worker
pub record IsDone {O Sub : Type 0} (seen : Seen O Sub) (token : Announcer) : Type 0 where
  pub worker : token.worker ≡ seen.desk.worker
  pub workers : token.workers ≡ seen.desk.shape.workers
  pub told : token.told ≡ seen.desk.shape.workers
  pub free : own_place seen ≡ Free
  pub opened : last_opened seen.desk.shape seen.desk.worker seen.trail
      ≡ Some (token.slot, token.again)
