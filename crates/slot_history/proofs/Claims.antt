-- The claims of a task set tile what was claimed of it, and its total in the end. It rules out a claim that is not cut at
-- the total, and a claim after the last call.
use Rattle.std.proofs.Common.{◌≡◌, ℕ, ◌<◌, Bool, true, false, cond, eqb, ◌&&◌, min, List, [], ◌∷◌}
use Rattle.std.proofs.Common.{refl, sym, ap, ◌∙◌, subst, inr, ⊎_elim, arith, eq-eqb, ne_eqb}
use Rattle.std.proofs.Common.{eqb-true}
use Rattle.std.specs.Prelude.{unwrap_or}
use Rattle.std.proofs.lemmas.Bool.{cond_both, cases_Bool, and_parts}
use Rattle.slot_history.specs.declared.shape.Shape.{Shape}
use Rattle.slot_history.specs.declared.act.Act.{Act}
use Rattle.slot_history.specs.declared.act.Act.TheVariants.{ClaimRange, PayLast, SweepLast}
use Rattle.slot_history.specs.declared.act.Entry.{Entry}
use Rattle.slot_history.specs.declared.place.Place.{Place}
use Rattle.slot_history.specs.States.{TaskSet, SlotState, Open, Shut, ObjectState, slot_of, id_at}
use Rattle.slot_history.specs.States.{held_at, task_of, is_inside}
use Rattle.slot_history.specs.Steps.{state_after}
use Rattle.slot_history.specs.Allowed.{IsAllowed}
use Rattle.slot_history.specs.Histories.{IsLegal, Morsel, Tiles, claims_of, claims_after, ranges_of}
use Rattle.slot_history.specs.Histories.{ranges_after, ranges_by, place_of, is_install, is_last}
use Rattle.slot_history.specs.Histories.{lasts_of}
use Rattle.slot_history.specs.Lives.{Book, book_of, Life, Never, Runs, Done, done, life_of}
use Rattle.slot_history.specs.Lives.{has_task, IsSlotBook}
use Rattle.slot_history.specs.Laws.{NoEarlyClaims, TilesCursor, TilesTotal, FinishingLast}
use Rattle.slot_history.proofs.Sets.{pick}
use Rattle.slot_history.proofs.Table.{table}
use Rattle.slot_history.proofs.Places.{inside-cell}
use Rattle.slot_history.proofs.Cursors.{cursors}
use Rattle.slot_history.proofs.Growth.{open-or-shut}
use Rattle.slot_history.proofs.BookSteps.{tiles-spent}
use Rattle.slot_history.proofs.Book.{book, inside-task}
use Rattle.slot_history.proofs.Counts.{slot-runs, last-runs, counts-as, counts-never, counts-done}

-- ---- claims

ranges-step : (a : Act) (w u : ℕ) (p q : Place) (id : ℕ) (rs : List (ℕ × ℕ)) (ms : List Morsel) → rs ≡ ranges_by w ms → (w ≡ u → q ≡ p)
    → cond (eqb w u) (ranges_after a q id rs) rs ≡ ranges_by w (claims_after u a p id ms)
ranges-step (ClaimRange n from to) w u p q id rs ms same at = let m : Morsel = record { worker = u; from = from; to = to } in
    pick w u (cond (is_inside q id) ((from, to) ∷ rs) rs) rs (λ z. z ≡ ranges_by w (cond (is_inside p id) (m ∷ ms) ms))
    (λ e. ap (λ r. cond (is_inside r id) ((from, to) ∷ rs) rs) (at e)
    ∙ cond_both (is_inside p id) (m ∷ ms) ms (λ z. cond (is_inside p id) ((from, to) ∷ rs) rs ≡ ranges_by w z)
    (λ t. ap (λ b. cond b ((from, to) ∷ rs) rs) t ∙ ap (λ z. (from, to) ∷ z) same
    ∙ sym (ap (λ b. cond b ((from, to) ∷ ranges_by w ms) (ranges_by w ms)) (eq-eqb w u e)))
    (λ f. ap (λ b. cond b ((from, to) ∷ rs) rs) f ∙ same))
    (λ n'. cond_both (is_inside p id) (m ∷ ms) ms (λ z. rs ≡ ranges_by w z)
    (λ t. same ∙ sym (ap (λ b. cond b ((from, to) ∷ ranges_by w ms) (ranges_by w ms)) (ne_eqb w u n')))
    (λ f. same))
ranges-step _ w u p q id rs ms same at = pick w u rs rs (λ z. z ≡ ranges_by w ms) (λ e. same) (λ n. same)

pub ranges-claims : (d : Shape) (w id : ℕ) (h : List Entry) → ranges_of d w id h ≡ ranges_by w (claims_of d id h)
ranges-claims d w id [] = refl
ranges-claims d w id (e ∷ es) = ranges-step e.act w e.worker (place_of d es e.worker) (place_of d es w) id (ranges_of d w id es) (claims_of d id es)
    (ranges-claims d w id es) (λ same. ap (place_of d es) same)

pub no-early-claims : (d : Shape) (h : List Entry) → IsLegal d h → NoEarlyClaims d h
no-early-claims d h legal id none =
    let never : life_of d id h ≡ Never = counts-never d id h legal none in
    let empty : claims_of d id h ≡ [] = (book d h legal).never id never in
    (empty, λ w. ranges-claims d w id h ∙ ap (ranges_by w) empty)

running-tiles : (B : Book) (s : ℕ) (x : SlotState) → has_task x ≡ true → IsSlotBook B s x
    → Tiles (B.claims (task_of x).id) (min (task_of x).cursor (task_of x).total)
running-tiles B s (Open t) has k = k.tiles
running-tiles B s (Shut t e) has k = k.tiles
running-tiles B s _ has k = absurd (cc)

pub tiles-cursor : (d : Shape) (h : List Entry) → IsLegal d h → TilesCursor d h
tiles-cursor d h legal s has = let x : SlotState = (state_after d h).slots s in let t : TaskSet = task_of x in (
  (counts-as d t.id h legal (Runs s t.total) (slot-runs d h legal s has)).2,
  running-tiles (book_of d h) s x has ((book d h legal).slot s),
)

-- a call that finalises claims nothing
last-claims : (w : ℕ) (a : Act) (p : Place) (id : ℕ) (ms : List Morsel) → is_last a ≡ true → claims_after w a p id ms ≡ ms
last-claims w PayLast p id ms h = refl
last-claims w SweepLast p id ms h = refl
last-claims w _ p id ms h = absurd (cc)

-- whoever is inside with an id is so with a task set that runs
pub inside-runs : (d : Shape) (h : List Entry) (v id : ℕ) → IsLegal d h → v < d.workers → is_inside (place_of d h v) id ≡ true → (s : ℕ) × (n : ℕ)
    × (life_of d id h ≡ Runs s n)
inside-runs d h v id legal low k = let S : ObjectState = state_after d h in let s : ℕ = slot_of (S.places v) in
    let r = inside-task d S (table d h legal) v s id low (inside-cell (S.places v) id k) k in
    (s, (task_of (S.slots s)).total, ap (λ j. life_of d j h) (sym r.1) ∙ slot-runs d h legal s r.0)

pub inside-done : (d : Shape) (h : List Entry) (v id n : ℕ) → IsLegal d h → v < d.workers → life_of d id h ≡ Done n → is_inside (place_of d h v) id ≡ true → ⊥
inside-done d h v id n legal low over k = let r = inside-runs d h v id legal low k in let e : Done n ≡ Runs r.0 r.1 = sym over ∙ r.2 in cc

-- nobody claims of a task set that was finalised
pub done-claims : (d : Shape) (h : List Entry) (w : ℕ) (a : Act) (id n : ℕ) → IsLegal d h → w < d.workers → IsAllowed d (state_after d h) w a
    → life_of d id h ≡ Done n → (ms : List Morsel) → claims_after w a (place_of d h w) id ms ≡ ms
done-claims d h w (ClaimRange k from to) id n legal low ok over ms =
    cond_both (is_inside (place_of d h w) id) (record { worker = w; from = from; to = to } ∷ ms) ms (λ z. z ≡ ms)
    (λ t. absurd (inside-done d h w id n legal low over t)) (λ f. refl)
done-claims d h w _ id n legal low ok over ms = refl

abbrev TiledAfter : Act → Place → ℕ → Life → List Morsel → Bool → Bool → Type 0
TiledAfter a p id l ms installed last = (n : ℕ) → cond installed (Runs (slot_of p) (unwrap_or (held_at p).total 0)) (cond last (done l) l) ≡ Done n → Tiles ms n

pub tiles-done : (d : Shape) (id : ℕ) (h : List Entry) → IsLegal d h → (n : ℕ) → life_of d id h ≡ Done n → Tiles (claims_of d id h) n
tiles-done d id [] legal = λ n e. absurd (cc)
tiles-done d id (e ∷ es) legal =
    let p : Place = place_of d es e.worker in let a : Act = e.act in let l : Life = life_of d id es in let ms : List Morsel =
    claims_after e.worker a p id (claims_of d id es) in ⊎_elim
    (λ this. subst (λ b. TiledAfter a p id l ms b (is_last a && eqb (id_at p) id)) (sym this) (λ n k. absurd (cc)))
    (λ other. subst (λ b. TiledAfter a p id l ms b (is_last a && eqb (id_at p) id)) (sym other) (⊎_elim
    (λ last. let both = and_parts (is_last a) (eqb (id_at p) id) last in
    let r = last-runs d es e.worker a id legal.2 legal.0 legal.1 both.0 (eqb-true (id_at p) id both.1) in
    subst (TiledAfter a p id l ms false) (sym last) (λ n k. subst (λ z. Tiles z n) (sym (last-claims e.worker a p id (claims_of d id es) both.0))
    (tiles-spent (claims_of d id es) r.0.cursor r.0.total n r.3 (let q : Done r.0.total ≡ Done n = sym (ap done r.1) ∙ k in cc) r.2)))
    (λ none. subst (TiledAfter a p id l ms false) (sym none)
    (λ n k. subst (λ z. Tiles z n) (sym (done-claims d es e.worker a id n legal.2 legal.0 legal.1 k (claims_of d id es))) (tiles-done d id es legal.2 n k)))
    (cases_Bool (is_last a && eqb (id_at p) id))))
    (cases_Bool (is_install a id))

pub tiles-total : (d : Shape) (h : List Entry) → IsLegal d h → TilesTotal d h
tiles-total d h legal = (
  λ s shut_. let x : SlotState = (state_after d h).slots s in let t : TaskSet = task_of x in
      tiles-spent (claims_of d t.id h) t.cursor t.total t.total ((cursors d h legal).shut s shut_) refl
      (tiles-cursor d h legal s (open-or-shut x (inr shut_))).1,
  λ id some_last. let k = counts-done d id h legal some_last in
      (k.0, k.2, tiles-done d id h legal k.0 k.1),
)

pub finishing-last : (d : Shape) (h : List Entry) → IsLegal d h → FinishingLast d h
finishing-last d h legal s id w held is =
    let k = subst (IsSlotBook (book_of d h) s) is ((book d h legal).slot s) in
    let one : lasts_of d id h ≡ 1 = (counts-as d id h legal (Done k.0) k.1).1 in omega arith
