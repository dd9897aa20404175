-- What some points of a turn say of the worker's place, and of the task set to which it was let in.
use Rattle.std.proofs.Common.{◌≡◌, ℕ, ◌/◌, true, ◌&&◌, cond, List, [], ◌∷◌, Some, refl, sym, ap, ◌∙◌, subst, eq-eqb}
use Rattle.slot_history.specs.declared.shape.TheConstants.{STAGES}
use Rattle.slot_history.specs.declared.act.Act.{Act}
use Rattle.slot_history.specs.declared.act.Act.TheVariants.{LookOpen, ClaimRange}
use Rattle.slot_history.specs.declared.place.Place.TheVariants.{Entered, Inside}
use Rattle.slot_history.specs.States.{slot_of, id_at}
use Rattle.slot_station.specs.Desks.{Desk}
use Rattle.turn_model.specs.Workloads.{Workload}
use Rattle.turn_model.specs.Moves.{Move, Made, Exchanged}
use Rattle.turn_model.specs.Learned.{place_by, slot_by, lets_in, let_in_by}
use Rattle.turn_model.specs.Points.{Point, Fill, Look, Take, Claim, Back, Fetch, after, exchanged, point_by}
use Rattle.turn_model.specs.Driven.{MayCall, MayExchange, AreDriven}
use Rattle.turn_model.specs.OneSlot.{ClaimsAreLetIn}
use Rattle.turn_model.proofs.PointsAfter.{CallSays, after-says}

-- the worker is inside with a task set to which the last look at its slot let it in
pub record IsLetIn (D : Desk Workload) (ms : List Move) : Type 0 where
  pub slot : ℕ
  pub id : ℕ
  pub place : place_by D ms ≡ Inside slot id
  pub let_in : let_in_by D slot ms ≡ Some id

abbrev pub PointSays : Desk Workload → List Move → Point → Type 0
PointSays D ms Look = (s : ℕ) × (place_by D ms ≡ Entered s)
PointSays D ms Take = IsLetIn D ms
PointSays D ms Claim = IsLetIn D ms
PointSays D ms x = Unit {0}

pub here-in : (D : Desk Workload) (ms : List Move) (id t : ℕ) → lets_in D ms (id / STAGES) ≡ true
    → let_in_by D (slot_by D ms) (Made (LookOpen id) t ∷ ms) ≡ Some id
here-in D ms id t lets =
    ap (λ b. cond (b && lets_in D ms (id / STAGES)) (Some id) (let_in_by D (slot_by D ms) ms)) (eq-eqb (slot_by D ms) (slot_by D ms) refl)
    ∙ ap (λ b. cond b (Some id) (let_in_by D (slot_by D ms) ms)) lets

call-says : (D : Desk Workload) (ms : List Move) (a : Act) (t : ℕ) (x : Point) → CallSays D ms a x → PointSays D (Made a t ∷ ms) x
call-says D ms a t Look says = subst (λ b. (s : ℕ) × (place_by D (Made b t ∷ ms) ≡ Entered s)) (sym says.1) (says.0, refl)
call-says D ms a t Take says = subst (λ b. IsLetIn D (Made b t ∷ ms)) (sym says.1)
    (record { slot = slot_by D ms; id = says.0; place = refl; let_in = here-in D ms says.0 t says.2 })
call-says D ms a t Claim says = absurd says
call-says D ms a t x says = tt

exchange-says : (D : Desk Workload) (ms : List Move) (x : Point) → MayExchange D x → PointSays D ms x → PointSays D (Exchanged ∷ ms) (exchanged x)
exchange-says D ms (Fill v) m says = tt
exchange-says D ms Take m says = record { slot = says.slot; id = says.id; place = says.place; let_in = says.let_in }
exchange-says D ms Back m says = tt
exchange-says D ms (Fetch v) m says = tt
exchange-says D ms x m says = absurd m

pub points-say : (D : Desk Workload) (ms : List Move) → AreDriven D ms → PointSays D ms (point_by D ms)
points-say D [] driven = tt
points-say D (Made a t ∷ ms) driven = call-says D ms a t (after D ms (point_by D ms) a) (after-says D ms (point_by D ms) a driven.0)
points-say D (Exchanged ∷ ms) driven = exchange-says D ms (point_by D ms) driven.0 (points-say D ms driven.1)

-- a look is made where the worker entered a slot, and a claim where it was let in
look-at : (D : Desk Workload) (ms : List Move) (x : Point) (id : ℕ) → MayCall D ms x (LookOpen id) → PointSays D ms x → (s : ℕ) × (place_by D ms ≡ Entered s)
look-at D ms Look id m says = says
look-at D ms x id m says = absurd m

claim-at : (D : Desk Workload) (ms : List Move) (x : Point) (n from to : ℕ) → MayCall D ms x (ClaimRange n from to) → PointSays D ms x → IsLetIn D ms
claim-at D ms Claim n from to m says = says
claim-at D ms x n from to m says = absurd m

pub look-made-at : (D : Desk Workload) (ms : List Move) (id : ℕ) → AreDriven D ms → MayCall D ms (point_by D ms) (LookOpen id)
    → (s : ℕ) × (place_by D ms ≡ Entered s)
look-made-at D ms id driven may = look-at D ms (point_by D ms) id may (points-say D ms driven)

pub claim-made-at : (D : Desk Workload) (ms : List Move) (n from to : ℕ) → AreDriven D ms → MayCall D ms (point_by D ms) (ClaimRange n from to) → IsLetIn D ms
claim-made-at D ms n from to driven may = claim-at D ms (point_by D ms) n from to may (points-say D ms driven)

pub claims-are-let-in : ClaimsAreLetIn
claims-are-let-in D ms s id driven at place =
    let says : IsLetIn D ms = subst (PointSays D ms) at (points-say D ms driven) in
    let slot : says.slot ≡ s = ap slot_of (sym says.place ∙ place) in
    let task : says.id ≡ id = ap id_at (sym says.place ∙ place) in
    subst (λ k. let_in_by D k ms ≡ Some id) slot (says.let_in ∙ ap Some task)
