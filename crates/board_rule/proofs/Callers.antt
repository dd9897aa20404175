-- What a call has after its step, whatever the call.
use Rattle.std.proofs.Common.{◌≡◌, ℕ, ◌+◌, Option, cond, false, ◌&&◌, Some, refl, sym, ap, ◌∙◌, subst, eq-eqb}
use Rattle.std.proofs.Math.Logic.{∥∥₁_elim}
use Rattle.std.proofs.Props.{props}
use Rattle.slot_history.specs.declared.shape.Shape.{Shape}
use Rattle.slot_history.specs.declared.act.Act.{Act}
use Rattle.slot_history.specs.declared.act.Act.TheVariants.{Announce}
use Rattle.slot_history.specs.declared.place.Place.{Place}
use Rattle.slot_history.specs.declared.place.Place.TheVariants.{Free, Asking, Announcing}
use Rattle.slot_history.specs.States.{held_at, slot_of}
use Rattle.slot_history.specs.Steps.{moved}
use Rattle.slot_history.specs.Histories.{place_of}
use Rattle.slot_history.proofs.Own.{calls-go-on}
use Rattle.slot_station.specs.declared.token.Announcer.{Announcer}
use Rattle.slot_station.specs.Desks.{Makes, Owns, Seen, own_place}
use Rattle.slot_station.specs.Places.{IsCounted}
use Rattle.slot_station.specs.Tokens.{IsAnnouncer, IsDone, last_opened}
use Rattle.slot_station.proofs.Follows.{place-after}
use Rattle.slot_station.proofs.PlaceCounts.{place-counted}
use Rattle.slot_station.proofs.TokensKept.{announcer-opened}
use Rattle.board_rule.specs.declared.board.Board.{Board}
use Rattle.board_rule.specs.declared.board.Pass.{Pass}
use Rattle.board_rule.specs.Passes.{board_shape, seen_of, Advances, IsPassOf, IsSeatOf, HasStepped}
use Rattle.board_rule.proofs.Stepping.{shape}

counted-prop : (q : Place) → IsProp (IsCounted q)
counted-prop (Asking s id n m) = hlevel (props)
counted-prop (Announcing s again told) = hlevel (props)
counted-prop _ = hlevel (props)

-- the counts of a pass's place
pub pass-counted : {B Sub : Type 0} → (board : Board B Sub) (p : Pass B Sub) → IsPassOf board p → IsCounted p.place
pass-counted board p ours = ∥∥₁_elim ours.10 (counted-prop p.place) (λ legal. subst IsCounted ours.6
    (place-counted (board_shape board) p.seat.me.0.trail p.worker (shape board p.worker p.place p.seat ours) legal ours.1))

-- the same call
pub made-as : {O Sub : Type 0} {total : Sub → ℕ → Option ℕ} {a b : Act} {x y : Seen O Sub} → b ≡ a → Makes total a x y → Makes total b x y
made-as {total = total} {x = x} {y = y} is m = subst (λ c. Makes total c x y) (sym is) m

module _ {B Sub : Type 0} {board : Board B Sub} {old mid : Pass B Sub} {a : Act} (st : HasStepped board a old mid) where
  abbrev d : Shape
  d = board_shape board

  -- the pass after the step that is this call, once its place is moved
  pub advances-as : {b : Act} {total : Sub → ℕ → Option ℕ} → b ≡ a → (p : Place) → p ≡ moved board.shape b mid.place
      → Makes total a (seen_of board old) (seen_of board mid) → Advances board (Makes total b) old (record mid { place = p })
  advances-as is p at m = (
    subst (λ q. IsSeatOf board mid.worker q mid.seat) (ap (λ c. moved board.shape c mid.place) (sym is) ∙ sym at) st.seat,
    made-as is m,
  )

  -- what a reply brings, by the place to which the call moves its worker
  pub brings : {b : Act} → b ≡ a → {X : Type 0} → (Is : Shape → ℕ → Place → X → Type 0) (x : X) → Is d mid.worker (moved d b mid.place) x
      → Owns Is (seen_of board mid) x
  brings is Is x gives = subst (λ q. Is d mid.worker q x)
      (ap (λ b. moved d b mid.place) is ∙ ap (λ e. moved e a mid.place) board.shape_is ∙ sym st.seat.6) gives

  -- an announcer that told every worker
  pub told-done : {total : Sub → ℕ → Option ℕ} → Makes total Announce (seen_of board old) (seen_of board mid) → (x : Announcer)
      → Owns IsAnnouncer (seen_of board old) x → x.told + 1 ≡ d.workers → IsDone (seen_of board mid) (record x { told = x.told + 1 })
  told-done m x ok all =
      let w : ℕ = old.worker in
      let (h, is, begins, same, legal) = m.called in
      let found = (calls-go-on d w Announce old.seat.me.0.trail mid.seat.me.0.trail m.called).allowed in
      let at : place_of d found.0 w ≡ Announcing x.slot x.again x.told = found.5 ∙ ok.place in
      let free : own_place (seen_of board mid) ≡ Free =
      place-after m ∙ ap (moved d Announce) ok.place ∙ ap (λ c. cond c Free (Announcing x.slot x.again (x.told + 1))) (eq-eqb (x.told + 1) d.workers all) in
      let opened : last_opened d w mid.seat.me.0.trail ≡ Some (x.slot, x.again) =
      ap (last_opened d w) found.1
      ∙ ap (λ c. cond (c && false) (Some (slot_of (place_of d found.0 w), (held_at (place_of d found.0 w)).again)) (last_opened d w found.0)) (eq-eqb w w refl)
      ∙ announcer-opened d w x.slot x.again found.0 x.told at in record {
        worker = ok.worker ∙ sym st.worker;
        workers = ok.workers;
        told = all;
        free = free;
        opened = ap (λ v. last_opened d v mid.seat.me.0.trail) st.worker ∙ opened;
      }
