-- An exchange of a cell over a board: what its two loads owe, and what the pass is after them.
use Rattle.std.proofs.Common.{◌≡◌, ℕ, ◌*◌, ◌<◌, true, List, ◌∷◌, cond, eqb, ◌&&◌, length, Option}
use Rattle.std.proofs.Common.{Some, IfSome, None, refl, sym, ap, ap₂, ◌∙◌, subst, eq-eqb, ne_eqb, arith}
use Rattle.std.specs.Prelude.{unwrap_or}
use Rattle.std.proofs.Math.Bool.{and-false}
use Rattle.atomic_table.specs.Table.{Me, Allows, rest}
use Rattle.atomic_table.specs.declared.shared.Seat.{Seat}
use Rattle.slot_history.specs.declared.shape.Shape.{Shape}
use Rattle.slot_station.specs.declared.note.Note.{Note}
use Rattle.slot_station.specs.Desks.{Exchanges, caller_of, own_place}
use Rattle.slot_station.specs.Exchanges.{MayExchange, MayPut, HoldsNoted, put_note}
use Rattle.slot_station.specs.Log.{note_in}
use Rattle.board_rule.specs.declared.view.View.{View}
use Rattle.board_rule.specs.declared.board.Board.{Board}
use Rattle.board_rule.specs.declared.board.Pass.{Pass}
use Rattle.board_rule.specs.Cells.{Takes, Gives, index_in, note_put}
use Rattle.board_rule.specs.Passes.{board_shape, board_subject, seen_at, seen_of, IsSeatOf, IsPassOf}
use Rattle.board_rule.specs.Rule.{RunningRule, Terms, terms_of}
use Rattle.board_rule.specs.Views.{number, view_place, seen_by_view, with_out, view_exchanged}
use Rattle.board_rule.proofs.Moves.{take-allowed, give-allowed}
use Rattle.board_rule.proofs.Stepping.{place-is, place-in, still, below, by-view, by-board, goes-on}

pair-heads : {X : Type 0} → (a c : ℕ) (x y : X) (r q : List (ℕ × X)) → (a, x) ∷ r ≡ (c, y) ∷ q → (a ≡ c) × (x ≡ y) × (r ≡ q)
pair-heads {X} a c x y r q e =
    let l : ℕ × X = (a, x) in
    let m : ℕ × X = (c, y) in
    let h : l ≡ m = cc in (ap (λ (z : ℕ × X). z.0) h, ap (λ (z : ℕ × X). z.1) h, cc)

module _ {B Sub : Type 0} (total : Sub → ℕ → Option ℕ) (fits : Sub → ℕ → ℕ → List (ℕ × ℕ) → B → Type 0) (b : Board B Sub) (p : Pass B Sub)
    (ours : IsPassOf b p) (u : ℕ) (has : MayExchange (caller_of (seen_of b p)) u) where
  abbrev d : Shape
  d = board_shape b

  abbrev v : View Sub
  v = p.seat.me.0

  abbrev terms : Terms B Sub
  terms = terms_of total fits b.table.shared.key

  -- what a load of the meeting word owes, by the seat number i that knows and holds m
  abbrev Owes : ℕ → Me (Option B) (View Sub) → (ℕ → Me (Option B) (View Sub) → Type 0) → Type 0
  Owes i m then = Allows (RunningRule terms) b.table.shared.table_id.slots i m 0 (λ n. n) then

  pub some-words : 0 < b.table.shared.table_id.words
  some-words = let w = b.words_are in omega arith

  count : b.table.shared.table_id.slots ≡ d.slots * d.workers
  count = subst (λ (e : Shape). b.table.shared.table_id.slots ≡ e.slots * e.workers) (sym b.shape_is) b.cells_are

  has-v : MayExchange (caller_of (seen_by_view v (board_subject b))) u
  has-v = by-view b p.worker p.place p.seat ours (λ x. MayExchange (caller_of x) u) has

  low : number v < d.workers
  low = below b p.worker p.place p.seat ours

  pub take-step : Owes p.seat.id p.seat.me (λ _ new. Takes fits u p.seat.me new)
  take-step = take-allowed terms b.table.shared.table_id.slots p.seat.id v u p.seat.me.1 ours.2 low has-v count
      (still b p.worker p.place p.seat ours)

  -- where the worker is, by the view and by what the pass shows
  here : view_place v ≡ own_place (seen_of b p)
  here = place-in b p.worker p.place p.seat ours ∙ sym (place-is b p.worker p.place p.seat ours)

  -- ---- the first load, after which the seat knows and holds `l`

  module _ (l : Me (Option B) (View Sub)) (t : Takes fits u p.seat.me l) where
    -- what the seat holds is the cell, as its note says
    pub says : (spot : ℕ) (old : Option B) → l.1 ≡ (spot, old) ∷ rest l.1 → HoldsNoted (seen_of b p) u fits old
    says spot old found =
        let heads = pair-heads spot (index_in v u) old t.value (rest l.1) p.seat.me.1 (sym found ∙ t.holds) in
        subst (HoldsNoted (seen_of b p) u fits) (sym heads.1)
        (by-board b p.worker p.place p.seat ours (λ x. HoldsNoted x u fits t.value) (t.says (board_subject b) ours.5))

    -- ---- and after the exchange it has `new` in place of `old`

    module _ (m : Me (Option B) (View Sub)) (spot : ℕ) (old new : Option B) (found : l.1 ≡ (spot, old) ∷ rest l.1)
        (puts : m ≡ (l.0, (spot, new) ∷ rest l.1)) where
      heads : (spot ≡ index_in v u) × (old ≡ t.value) × (rest l.1 ≡ p.seat.me.1)
      heads = pair-heads spot (index_in v u) old t.value (rest l.1) p.seat.me.1 (sym found ∙ t.holds)

      holds : m ≡ (with_out v u, (index_in v u, new) ∷ rest l.1)
      holds = puts ∙ ap₂ (λ x y. (x, (y, new) ∷ rest l.1)) t.view heads.0

      pub give-step : (i : ℕ) → IfSome new (MayPut (seen_of b p) u fits) → Owes i m (λ _ n. Gives m n)
      give-step i fit = subst (λ x. Owes i x (λ _ n. Gives x n)) (sym holds)
          (give-allowed terms b.table.shared.table_id.slots i (with_out v u) u ((index_in v u, new) ∷ rest l.1) ours.2 low has-v count new
          (rest l.1) refl refl
          (λ x is. let e : board_subject b ≡ x = (let r : Some (board_subject b) ≡ Some x = sym ours.5 ∙ is in cc) in
          subst (λ s. IfSome new (MayPut (seen_by_view v s) u fits)) e
          (by-view b p.worker p.place p.seat ours (λ y. IfSome new (MayPut y u fits)) fit)))

      -- ---- the second load, after which it knows and holds `n`

      module _ (n : Me (Option B) (View Sub)) (g : Gives m n) where
        abbrev noted : Note
        noted = put_note (own_place (seen_of b p)) new

        view : n.0 ≡ view_exchanged v u noted
        view = g.view ∙ ap (λ (x : Me (Option B) (View Sub)). view_exchanged x.0 (unwrap_or x.0.out 0) (note_put (view_place x.0) x.1)) holds
            ∙ ap (λ q. view_exchanged v u (put_note q new)) here

        module _ (s : Seat (Option B) (View Sub)) (me : s.me ≡ n) where
          pub knows : s.me.0 ≡ view_exchanged v u noted
          knows = ap (λ (x : Me (Option B) (View Sub)). x.0) me ∙ view

          trail : s.me.0.trail ≡ v.trail
          trail = ap (λ (z : View Sub). z.trail) knows

          carries : s.me.1 ≡ p.seat.me.1
          carries = ap (λ (x : Me (Option B) (View Sub)). x.1) me ∙ g.holds ∙ ap (λ (x : Me (Option B) (View Sub)). rest x.1) puts ∙ heads.2

          pub pass-after : s.table_id ≡ p.seat.table_id → IsSeatOf b p.worker p.place s
          pass-after id = goes-on b p.worker p.place p.seat ours v.trail (view_exchanged v u noted).own None p.place
              (place-is b p.worker p.place p.seat ours) refl ours.10 s id knows (ap length carries ∙ ours.9)

          pub put-after : Exchanges u noted (seen_of b p) (seen_at b p.worker s)
          put-after =
              let w : ℕ = p.worker in
              let own : (z : ℕ) → note_in s.me.0.own w z ≡ cond (eqb w (number v) && eqb z u) noted (note_in v.own w z) =
              λ z. ap (λ (y : View Sub). note_in y.own w z) knows in
              let mine : eqb w (number v) ≡ true = eq-eqb w (number v) (sym ours.3) in record {
                stays = record { origin = refl; desk = refl; trail = trail };
                note_is = own u ∙ ap₂ (λ x y. cond (x && y) noted (note_in v.own w u)) mine (eq-eqb u u refl);
                others = λ z other. own z ∙ ap (λ y. cond (eqb w (number v) && y) noted (note_in v.own w z)) (ne_eqb z u other)
                    ∙ ap (λ x. cond x noted (note_in v.own w z)) (and-false (eqb w (number v)));
              }
