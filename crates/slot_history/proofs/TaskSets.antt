-- A task set is finalised once, and in place. It rules out a shut that two workers win, a state word that is published after
-- the look, and a sweep before the last worker was asked, by which a worker would be inside a task set that is finalised.
use Rattle.std.proofs.Common.{◌≡◌, ℕ, ◌<◌, ◌≤◌, ◌⊎◌, true, false, eqb, List, ◌∷◌, Some, refl, sym}
use Rattle.std.proofs.Common.{ap, ◌∙◌, subst, inl, inr, ⊎_elim, arith, eqb-true}
use mathlib.Core.Bool.{true≢false}
use Rattle.std.proofs.lemmas.Bool.{cases_lt, false_from_ne_true}
use Rattle.slot_history.specs.declared.shape.Shape.{Shape}
use Rattle.slot_history.specs.declared.act.Act.{Act}
use Rattle.slot_history.specs.declared.act.Act.TheVariants.{LookOpen, ClaimRange, ClaimUsed}
use Rattle.slot_history.specs.declared.act.Act.TheVariants.{ShutWon, ShutLost, MarkMarked}
use Rattle.slot_history.specs.declared.act.Act.TheVariants.{MarkMissed, ReserveGot, Install}
use Rattle.slot_history.specs.declared.act.Act.TheVariants.{Release}
use Rattle.slot_history.specs.declared.act.Entry.{Entry}
use Rattle.slot_history.specs.declared.place.Held.{Held}
use Rattle.slot_history.specs.declared.place.Place.TheVariants.{Inside, Used, Asking}
use Rattle.slot_history.specs.States.{SlotState, Empty, ObjectState, slot_of, id_at, task_of}
use Rattle.slot_history.specs.States.{is_empty, is_inside}
use Rattle.slot_history.specs.Steps.{site, state_after}
use Rattle.slot_history.specs.Allowed.{IsAllowed}
use Rattle.slot_history.specs.Histories.{IsLegal, place_of, lasts_of, slot_with, touches, renews}
use Rattle.slot_history.specs.Lives.{Runs, Done, life_of, has_task}
use Rattle.slot_history.specs.Laws.{OnceInPlace}
use Rattle.slot_history.proofs.Beginnings.{begins-legal}
use Rattle.slot_history.proofs.Duties.{IsHeldBy}
use Rattle.slot_history.proofs.Table.{table}
use Rattle.slot_history.proofs.Within.{within}
use Rattle.slot_history.proofs.Growth.{open-or-shut}
use Rattle.slot_history.proofs.Holdings.{holder-slot}
use Rattle.slot_history.proofs.Book.{book, task-id, asking-slot}
use Rattle.slot_history.proofs.Counts.{slot-runs, counts-most, counts-done, counts-runs}
use Rattle.slot_history.proofs.Claims.{inside-runs, inside-done}

-- ---- finalised once, and in place

-- from its last call on a task set is done
pub finalised-done : (d : Shape) (id : ℕ) (h : List Entry) → IsLegal d h → 0 < lasts_of d id h → (n : ℕ) × (life_of d id h ≡ Done n)
finalised-done d id h legal some_last = let k = counts-done d id h legal some_last in (k.0, k.1)

none-inside : (d : Shape) (id : ℕ) (h : List Entry) → IsLegal d h → 0 < lasts_of d id h → (v : ℕ) → is_inside (place_of d h v) id ≡ false
none-inside d id h legal some_last v = false_from_ne_true (is_inside (place_of d h v) id) (λ k. ⊎_elim
    (λ low. let r = finalised-done d id h legal some_last in inside-done d h v id r.0 legal low r.1 k)
    (λ high. true≢false (sym k ∙ ap (λ p. is_inside p id) ((within d h legal).others v high)))
    (cases_lt v d.workers))

empty-idle : (x : SlotState) → is_empty x ≡ true → has_task x ≡ false
empty-idle Empty h = refl
empty-idle _ h = absurd (cc)

held-idle : (x : SlotState) (w : ℕ) (h : Held) → IsHeldBy w h x → has_task x ≡ false
held-idle x w h how = ⊎_elim (λ e. ap has_task e) (λ r. ap has_task r.1) how

-- a worker that works on an id, and a coordinator of an id
named-inside : (d : Shape) (h : List Entry) (w s jd id : ℕ) → (place_of d h w ≡ Inside s jd) ⊎ (place_of d h w ≡ Used s jd)
    → eqb (id_at (place_of d h w)) id ≡ true → is_inside (place_of d h w) id ≡ true
named-inside d h w s jd id how this = ⊎_elim
    (λ e. ap (λ p. is_inside p id) e ∙ sym (ap (λ p. eqb (id_at p) id) e) ∙ this)
    (λ e. ap (λ p. is_inside p id) e ∙ sym (ap (λ p. eqb (id_at p) id) e) ∙ this) how

marks-run : (d : Shape) (h : List Entry) (w s jd n m id : ℕ) → IsLegal d h → w < d.workers → place_of d h w ≡ Asking s jd n m
    → eqb (id_at (place_of d h w)) id ≡ true → (k : ℕ) × (total : ℕ) × (life_of d id h ≡ Runs k total)
marks-run d h w s jd n m id legal low at this = let S : ObjectState = state_after d h in
    let r = asking-slot d S (table d h legal) w s jd n m low at in
    let has : has_task (S.slots s) ≡ true = ap has_task r.2 in
    let is : (task_of (S.slots s)).id ≡ id = ap (λ x. (task_of x).id) r.2 ∙ r.3 ∙ ap id_at (sym at) ∙ eqb-true (id_at (S.places w)) id this in
    (s, (task_of (S.slots s)).total, ap (λ j. life_of d j h) (sym is) ∙ slot-runs d h legal s has)

-- a call that touches a task set does so while it runs
touches-runs : (d : Shape) (h : List Entry) (w : ℕ) (a : Act) (id : ℕ) → IsLegal d h → w < d.workers → IsAllowed d (state_after d h) w a
    → touches a (place_of d h w) id ≡ true → (s : ℕ) × (n : ℕ) × (life_of d id h ≡ Runs s n)
touches-runs d h w (LookOpen jd) id legal low ok this = let S : ObjectState = state_after d h in
    let has : has_task (S.slots ok.0) ≡ true = open-or-shut (S.slots ok.0) (inl ok.2) in (
      ok.0,
      (task_of (S.slots ok.0)).total,
      ap (λ j. life_of d j h) (sym (task-id (S.slots ok.0) has ∙ sym ok.3 ∙ eqb-true jd id this))
          ∙ slot-runs d h legal ok.0 has,
    )
touches-runs d h w (ClaimRange n from to) id legal low ok this = inside-runs d h w id legal low (named-inside d h w ok.0 ok.1 id (inl ok.2) this)
touches-runs d h w (ClaimUsed n) id legal low ok this = inside-runs d h w id legal low (named-inside d h w ok.0 ok.1 id (inl ok.2) this)
touches-runs d h w ShutWon id legal low ok this = inside-runs d h w id legal low (named-inside d h w ok.0 ok.1 id (inr ok.2) this)
touches-runs d h w ShutLost id legal low ok this = inside-runs d h w id legal low (named-inside d h w ok.0 ok.1 id (inr ok.2) this)
touches-runs d h w MarkMarked id legal low ok this = marks-run d h w ok.0 ok.1 ok.2 ok.3 id legal low ok.4 this
touches-runs d h w MarkMissed id legal low ok this = marks-run d h w ok.0 ok.1 ok.2 ok.3 id legal low ok.4 this
touches-runs d h w _ id legal low ok this = absurd (cc)

untouched : (d : Shape) (h : List Entry) (w : ℕ) (a : Act) (id : ℕ) → IsLegal d h → w < d.workers → IsAllowed d (state_after d h) w a → 0 < lasts_of d id h
    → touches a (place_of d h w) id ≡ false
untouched d h w a id legal low ok some_last = false_from_ne_true (touches a (place_of d h w) id)
    (λ this. let r = finalised-done d id h legal some_last in let q = touches-runs d h w a id legal low ok this in let e : Done r.0 ≡ Runs q.0 q.1 = sym r.1
    ∙ q.2 in cc)

-- a call that gives a slot to another task set finds none there
renews-idle : (d : Shape) (h : List Entry) (w : ℕ) (a : Act) → IsLegal d h → w < d.workers → IsAllowed d (state_after d h) w a → renews a ≡ true
    → has_task ((state_after d h).slots (site a (place_of d h w))) ≡ false
renews-idle d h w (ReserveGot s) legal low ok this = empty-idle ((state_after d h).slots s) ok.2
renews-idle d h w (Install id) legal low ok this = subst
    (λ p. has_task ((state_after d h).slots (slot_of p)) ≡ false) (sym ok.2)
    (held-idle ((state_after d h).slots ok.0) w ok.1 (holder-slot d (state_after d h) (table d h legal) w ok.0 ok.1 low ok.2))
renews-idle d h w Release legal low ok this = subst (λ p. has_task ((state_after d h).slots (slot_of p)) ≡ false) (sym ok.2)
    (held-idle ((state_after d h).slots ok.0) w ok.1 (holder-slot d (state_after d h) (table d h legal) w ok.0 ok.1 low ok.2))
renews-idle d h w _ legal low ok this = absurd (cc)

in-place : (d : Shape) (h : List Entry) (w : ℕ) (a : Act) (id : ℕ) → IsLegal d h → w < d.workers → IsAllowed d (state_after d h) w a
    → slot_with d id h ≡ Some (site a (place_of d h w)) → renews a ≡ true → 0 < lasts_of d id h
in-place d h w a id legal low ok at this = ⊎_elim
    (λ some_last. some_last)
    (λ few. let none : lasts_of d id h ≡ 0 = omega arith in
    let s : ℕ = site a (place_of d h w) in
    let k = counts-runs d id h legal s none at in
    let r = (book d h legal).runs id s k.0 k.1 in absurd (true≢false (sym r.0 ∙ renews-idle d h w a legal low ok this)))
    (cases_lt 0 (lasts_of d id h))

pub once-in-place : (d : Shape) (h : List Entry) → IsLegal d h → OnceInPlace d h
once-in-place d h legal id some_last = record {
  once = let most : lasts_of d id h ≤ 1 = (counts-most d id h legal).1 in omega arith;
  slot = (counts-done d id h legal some_last).3;
  none_inside = λ early b past v. none-inside d id early (begins-legal d h early legal b) past v;
  untouched = λ e early b past. let k : IsLegal d (e ∷ early) = begins-legal d h (e ∷ early) legal b in untouched d early e.worker e.act id k.2 k.0 k.1 past;
  in_place = λ e early b at this. let k : IsLegal d (e ∷ early) = begins-legal d h (e ∷ early) legal b in
      in-place d early e.worker e.act id k.2 k.0 k.1 at this;
}
