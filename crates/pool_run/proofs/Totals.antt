-- The history of moves that workers may make is of their work: each task set has its total.
use Rattle.std.proofs.Common.{◌≡◌, ℕ, ◌<◌, Bool, true, false, cond, List, [], ◌∷◌, Option, Some, refl, sym, ap, ◌∙◌, subst, eqb-true}
use native.Mathlib.Decide.{ℕ_discrete}
use Rattle.slot_history.specs.declared.shape.Shape.{Shape}
use Rattle.slot_history.specs.declared.act.Act.{Act}
use Rattle.slot_history.specs.declared.act.Entry.{Entry}
use Rattle.slot_history.specs.declared.act.Act.TheVariants.{SetTotal, Install}
use Rattle.slot_history.specs.declared.place.Place.{Place}
use Rattle.slot_history.specs.declared.place.Place.TheVariants.{Holding}
use Rattle.slot_history.specs.States.{held_at, next_id}
use Rattle.slot_history.specs.Steps.{holding_after}
use Rattle.slot_history.specs.Histories.{IsLegal, IsOfTotals, entry, is_install, own_calls, place_of, total_of}
use Rattle.slot_history.proofs.Own.{own-mine, own-other}
use Rattle.slot_station.specs.Desks.{Desk}
use Rattle.turn_model.specs.Workloads.{Workload}
use Rattle.turn_model.specs.Moves.{Move, Made, Exchanged, entries}
use Rattle.turn_model.specs.Learned.{place_by}
use Rattle.turn_model.specs.Points.{Point, Fill, Opens, Take, Claim, Back, Fetch, after, exchanged, point_by}
use Rattle.turn_model.specs.Driven.{MayCall, MayExchange, AreDriven}
use Rattle.turn_model.specs.Runs.{desk_at}
use Rattle.turn_model.proofs.OwnMoves.{moves-tell}
use Rattle.turn_model.proofs.PointsAfter.{CallSays, after-says}

-- before an install the total that was set is that of the task set which comes next
abbrev OpensSays : Desk Workload → List Move → Point → Type 0
OpensSays D ms Opens = (n : ℕ) → (held_at (place_by D ms)).total ≡ Some n → D.subject.total (next_id (held_at (place_by D ms))) ≡ Some n
OpensSays D ms x = Unit {0}

set-says : (totals : ℕ → Option ℕ) (p : Place) (n : ℕ) → totals (next_id (held_at p)) ≡ Some n → (k : ℕ)
    → (held_at (holding_after (SetTotal n) p)).total ≡ Some k → totals (next_id (held_at (holding_after (SetTotal n) p))) ≡ Some k
set-says totals (Holding s held) n is k set = is ∙ set
set-says totals p n is k set = absurd (cc)

call-says : (D : Desk Workload) (ms : List Move) (a : Act) (t : ℕ) (x : Point) → CallSays D ms a x → OpensSays D (Made a t ∷ ms) x
call-says D ms a t Opens says = subst (λ b. OpensSays D (Made b t ∷ ms) Opens) (sym says.1) (set-says D.subject.total (place_by D ms) says.0 says.2)
call-says D ms a t Claim says = absurd says
call-says D ms a t x says = tt

exchange-says : (D : Desk Workload) (ms : List Move) (x : Point) → MayExchange D x → OpensSays D (Exchanged ∷ ms) (exchanged x)
exchange-says D ms (Fill v) m = tt
exchange-says D ms Take m = tt
exchange-says D ms Back m = tt
exchange-says D ms (Fetch v) m = tt
exchange-says D ms x m = absurd m

opens-says : (D : Desk Workload) (ms : List Move) → AreDriven D ms → OpensSays D ms (point_by D ms)
opens-says D [] driven = tt
opens-says D (Made a t ∷ ms) driven = call-says D ms a t (after D ms (point_by D ms) a) (after-says D ms (point_by D ms) a driven.0)
opens-says D (Exchanged ∷ ms) driven = exchange-says D ms (point_by D ms) driven.0

install-at : (D : Desk Workload) (ms : List Move) (x : Point) (id n : ℕ) → MayCall D ms x (Install id) → OpensSays D ms x
    → (held_at (place_by D ms)).total ≡ Some n → D.subject.total id ≡ Some n
install-at D ms Opens id n m says set = ap D.subject.total m ∙ says n set
install-at D ms x id n m says set = absurd m

is-install : (a : Act) (id : ℕ) → is_install a id ≡ true → a ≡ Install id
is-install (Install jd) id e = ap Install (eqb-true jd id e)
is-install a id e = absurd (cc)

-- the newest call of a worker, and its moves before it
record LastCall (D : Desk Workload) (e : Entry) (rest : List Entry) : Type 0 where
  before : List Move
  driven : AreDriven D before
  may : MayCall D before (point_by D before) e.act
  mine : rest ≡ entries D.worker before

last-call : (D : Desk Workload) (e : Entry) (rest : List Entry) (ms : List Move) → AreDriven D ms → e ∷ rest ≡ entries D.worker ms → LastCall D e rest
last-call D e rest [] driven is = absurd (cc)
last-call D e rest (Made a t ∷ ms) driven is =
    let act : e.act ≡ a = (let same : e ≡ entry D.worker a = cc in ap (λ (x : Entry). x.act) same) in
    record { before = ms; driven = driven.1; may = subst (MayCall D ms (point_by D ms)) (sym act) driven.0; mine = cc }
last-call D e rest (Exchanged ∷ ms) driven is = last-call D e rest ms driven.1 is

-- a worker's calls in a history are those of moves that it may make
pub record IsMadeBy (D : Desk Workload) (h : List Entry) : Type 0 where
  pub moves : List Move
  pub driven : AreDriven D moves
  pub mine : own_calls D.worker h ≡ entries D.worker moves

module _ (d : Shape) (load : Workload) where
  one-less : (e : Entry) (es : List Entry) (w : ℕ) → IsMadeBy (desk_at d load w) (e ∷ es) → Dec (w ≡ e.worker) → IsMadeBy (desk_at d load w) es
  one-less e es w by (yes same) =
      let last = last-call (desk_at d load w) e (own_calls w es) by.moves by.driven (sym (own-mine e es w same) ∙ by.mine) in
      record { moves = last.before; driven = last.driven; mine = last.mine }
  one-less e es w by (no other) = record { moves = by.moves; driven = by.driven; mine = sym (own-other e es w other) ∙ by.mine }

  first-total : (e : Entry) (es : List Entry) → IsMadeBy (desk_at d load e.worker) (e ∷ es) → (id n : ℕ) → e.act ≡ Install id
      → (held_at (place_of d es e.worker)).total ≡ Some n → load.total id ≡ Some n
  first-total e es by id n is set =
      let D = desk_at d load e.worker in
      let last = last-call D e (own_calls e.worker es) by.moves by.driven (sym (own-mine e es e.worker refl) ∙ by.mine) in
      let place = (moves-tell D es last.before last.mine).place in
      install-at D last.before (point_by D last.before) id n (subst (MayCall D last.before (point_by D last.before)) is last.may)
      (opens-says D last.before last.driven) (ap (λ p. (held_at p).total) (sym place) ∙ set)

  total-at : (e : Entry) (es : List Entry) (id n : ℕ) (b : Bool) → is_install e.act id ≡ b → IsMadeBy (desk_at d load e.worker) (e ∷ es)
      → (total_of d id es ≡ Some n → load.total id ≡ Some n) → cond b (held_at (place_of d es e.worker)).total (total_of d id es) ≡ Some n
      → load.total id ≡ Some n
  total-at e es id n true at by before set = first-total e es by id n (is-install e.act id at) set
  total-at e es id n false at by before set = before set

  pub of-load : (h : List Entry) → IsLegal d h → ((w : ℕ) → w < d.workers → IsMadeBy (desk_at d load w) h) → IsOfTotals load.total d h
  of-load [] legal by id n set = absurd (cc)
  of-load (e ∷ es) legal by id n set =
      total-at e es id n (is_install e.act id) refl (by e.worker legal.0)
      (of-load es legal.2 (λ w below. one-less e es w (by w below) (ℕ_discrete w e.worker)) id n) set
