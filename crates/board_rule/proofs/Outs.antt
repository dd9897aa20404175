-- A cell that is out is out with exactly one seat.
use Rattle.std.proofs.Common.{◌≡◌, ℕ, suc, ◌<◌, ◌⊎◌, Bool, true, false, cond, eqb, ltb, List, [], ◌∷◌}
use Rattle.std.proofs.Common.{length, Option, slice_index, refl, sym, ap, ◌∙◌, subst, inl, inr, ⊎_elim, eqb-true, lt-ltb, ltb-true, arith}
use mathlib.Core.Option as std_option
use mathlib.Core.Option.{some}
use mathlib.Core.Logic.{dite}
use native.Mathlib.Decide.{ℕ_discrete}
use lib.ListN.{get_elem?}
use Rattle.atomic_table.specs.Table as table
use Rattle.slot_history.specs.declared.shape.Shape.{Shape}
use Rattle.slot_history.specs.States.{ObjectState, HasCell}
use Rattle.slot_history.specs.Steps.{state_after}
use Rattle.slot_history.specs.Histories.{place_of}
use Rattle.slot_history.proofs.Places.{one-owner}
use Rattle.slot_history.proofs.Table as places
use Rattle.board_rule.specs.declared.view.View.{View}
use Rattle.board_rule.specs.Laws.{HasOut}
use Rattle.board_rule.specs.Rule.{Terms, Knowledge, IsTrueOf, cell_index, total_over}
use Rattle.board_rule.specs.Views.{times, number}
use Rattle.board_rule.proofs.Extends.{lone}
use Rattle.board_rule.proofs.Lists.{headed, one-of, times-head}
use Rattle.board_rule.proofs.Moves.{free-has-none}

some-of : {V : Type 0} → (f : V → ℕ) (vs : List V) → 0 < total_over f vs → (i : ℕ) × (v : V) × (get_elem? vs i ≡ some v) × (0 < f v)
some-of f [] h = absurd (omega arith)
some-of f (v ∷ vs) h = dite (ℕ_discrete (f v) 0)
    (λ e. let (i, x, at, has) = some-of f vs (omega arith) in (suc i, x, at, has))
    (λ ne. (0, v, refl, omega arith))

only-true : (b : Bool) → 0 < cond {A = ℕ} b 1 0 → b ≡ true
only-true true h = refl
only-true false h = absurd (omega arith)

not-empty : (w : ℕ) (l : List ℕ) → 0 < times w l → 0 < length l
not-empty w [] h = h
not-empty w (x ∷ xs) h = omega arith

-- the first number of a list, or a further one
first-or-further : (w x : ℕ) (ws : List ℕ) → 0 < times w (x ∷ ws) → (x ≡ w) ⊎ (0 < times w ws)
first-or-further w x ws h = elim (eqb x w) as (λ b. eqb x w ≡ b → (x ≡ w) ⊎ (0 < times w ws)) [
  | true ↦ λ e. inl (eqb-true x w e)
  | false ↦ λ e. inr (let k : cond {A = ℕ} (eqb x w) 1 0 ≡ 0 = ap (λ (b : Bool). cond {A = ℕ} b 1 0) e in omega arith)
] refl

module _ {B Sub : Type 0} (terms : Terms B Sub) (known : Knowledge) (st : table.State (Option B) (View Sub)) (ok : IsTrueOf terms known st) where
  abbrev d : Shape
  d = terms.shape

  abbrev S : ObjectState
  S = state_after d known.trail

  has-first : (v : View Sub) → 0 < length v.numbers → 0 < times (number v) v.numbers
  has-first v any = let l = headed v.numbers (number v) any refl in subst (λ n. 0 < times (number v) n) (sym l.1) (times-head (number v) l.0)

  -- the worker of a seat is one of the board
  below : (i : ℕ) (v : View Sub) → get_elem? st.views i ≡ some v → 0 < length v.numbers → number v < d.workers
  below i v at any =
      let one = one-of (λ (z : View Sub). times (number v) z.numbers) st.views i v at in
      let all = ok.numbers (number v) in
      let has = has-first v any in
      ltb-true (number v) d.workers (only-true (ltb (number v) d.workers) (omega arith))

  -- its view has the board's shape
  shape-is : (i : ℕ) (v : View Sub) → get_elem? st.views i ≡ some v → 0 < length v.numbers → v.shape ≡ d
  shape-is i v at any = let l = headed v.numbers (number v) any refl in (ok.views i v at).shape (number v) l.0 l.1

  -- a worker that has a cell is the first of a seat's numbers
  seat-of : (w s u : ℕ) → w < d.workers → HasCell S s u w
      → (i : ℕ) × (v : View Sub) × (ws : List ℕ) × (get_elem? st.views i ≡ some v) × (v.numbers ≡ w ∷ ws)
  seat-of w s u low has =
      let one : cond {A = ℕ} (ltb w d.workers) 1 0 ≡ 1 = ap (λ (b : Bool). cond {A = ℕ} b 1 0) (lt-ltb w d.workers low) in
      let all = ok.numbers w in
      let (i, v, at, there) = some-of (λ (z : View Sub). times w z.numbers) st.views (omega arith) in
      let l = headed v.numbers (number v) (not-empty w v.numbers there) refl in
      ⊎_elim
      (λ e. (i, v, l.0, at, l.1 ∙ ap (λ x. x ∷ l.0) e))
      (λ more. absurd (free-has-none s u w (place_of d known.trail w) ((ok.views i v at).further w (number v) l.0 l.1 more) has))
      (first-or-further w (number v) l.0 (subst (λ n. 0 < times w n) l.1 there))

  pub out-with-one : (s u : ℕ) → s < d.slots → u < d.workers → get_elem? st.homes (cell_index d s u) ≡ some std_option.none
      → (i : ℕ) × (v : View Sub) × (get_elem? st.views i ≡ some v) × HasOut known v s u
      × ((j : ℕ) (x : View Sub) → get_elem? st.views j ≡ some x → HasOut known x s u → j ≡ i)
  out-with-one s u in_s in_u away =
      let (w, low, out, has) = ok.cells s u in_s in_u std_option.none away in
      let (i, v, ws, at, nums) = seat-of w s u low has in
      let own : number v ≡ w = ap (λ l. slice_index l 0) nums in
      let any : 0 < length v.numbers = subst (λ l. 0 < length l) (sym nums) (omega arith) in (
        i,
        v,
        at,
        record {
          some_number = any;
          out = sym ((ok.views i v at).out w ws nums) ∙ out;
          has = subst (λ e. HasCell (state_after e known.trail) s u (number v)) (sym (shape-is i v at any)) (subst (HasCell S s u) (sym own) has);
        },
        λ j x at_j h.
            let cell : HasCell S s u (number x) = subst (λ e. HasCell (state_after e known.trail) s u (number x)) (shape-is j x at_j h.some_number) h.has in
            let same : number x ≡ w =
            one-owner d S (places.table d known.trail ok.words_are.legal) s u (number x) w (below j x at_j h.some_number) low cell has in
            let there : 0 < times w x.numbers = subst (λ m. 0 < times m x.numbers) same (has-first x h.some_number) in
            let here : 0 < times w v.numbers = subst (λ m. 0 < times m v.numbers) own (has-first v any) in
            dite (ℕ_discrete j i) (λ e. e) (λ ne. absurd (lone terms known st ok i j v x w at at_j ne here there)),
      )
