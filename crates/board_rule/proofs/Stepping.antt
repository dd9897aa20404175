-- What a step that is a call owes, and what its seat is after it, of a board.
use Rattle.std.proofs.Common.{◌≡◌, ℕ, ◌<◌, false, cond, length, List, ◌∷◌, Option, Some, None, refl, sym, ap, ap₂, ◌∙◌, subst, eq-eqb}
use Rattle.std.specs.Prelude.{is_some}
use Rattle.std.proofs.Math.Logic.{∥∥₁_elim}
use Rattle.std.proofs.Props.{props}
use mathlib.Core.Bool.{true≢false}
use Rattle.atomic_table.specs.Table.{Me, Allows}
use Rattle.atomic_table.specs.declared.shared.Seat.{Seat}
use Rattle.slot_history.specs.declared.shape.Shape.{Shape}
use Rattle.slot_history.specs.declared.act.Act.{Act}
use Rattle.slot_history.specs.declared.act.Entry.{Entry}
use Rattle.slot_history.specs.declared.place.Place.{Place}
use Rattle.slot_history.specs.Bounds.{IsShape}
use Rattle.slot_history.specs.Steps.{moved}
use Rattle.slot_history.specs.Histories.{IsLegal, IsOfTotals, Called, entry, place_of}
use Rattle.slot_history.specs.Calls.{Call, MayAt}
use Rattle.slot_history.proofs.Own.{calls-go-on}
use Rattle.slot_station.specs.Cells.{noted, CellsAllow}
use Rattle.slot_station.specs.Desks.{Makes, Seen, caller_of, own_place, totals_of}
use Rattle.slot_station.specs.declared.log.Logged.{Logged}
use Rattle.slot_station.specs.Log.{note_in, call}
use Rattle.slot_words.specs.declared.address.Address.{Address}
use Rattle.slot_words.specs.Addresses.{index, count_of_words}
use Rattle.slot_words.specs.Numbers.{IsSmall}
use Rattle.slot_words.specs.Steps.{address_of, change_of, answer_of}
use Rattle.slot_words.proofs.Addresses.{index-low}
use Rattle.slot_words.proofs.Law.{step-of}
use Rattle.slot_words.proofs.Numbers as numbers
use Rattle.board_rule.specs.declared.board.Board.{Board}
use Rattle.board_rule.specs.declared.view.View.{View}
use Rattle.board_rule.specs.Passes.{board_shape, board_subject, seen_at, IsSeatOf}
use Rattle.board_rule.specs.Rule.{Terms, RunningRule, terms_of}
use Rattle.board_rule.specs.Steps.{AllowsCall, MayStep, HasCalled}
use Rattle.board_rule.specs.Views.{number, view_place, seen_with, seen_by_view, view_called}
use Rattle.board_rule.proofs.Allowed.{call-allowed}
use Rattle.board_rule.proofs.Lists.{no-items, headed}

none-of : {A : Type 0} (o : Option A) → is_some o ≡ false → o ≡ None
none-of None h = refl
none-of (Some x) h = absurd (true≢false h)

-- a seat of the worker w, at the place p, of a board
module _ {B Sub : Type 0} (board : Board B Sub) (w : ℕ) (p : Place) (seat : Seat (Option B) (View Sub)) (ours : IsSeatOf board w p seat) where
  abbrev d : Shape
  d = board_shape board

  abbrev v : View Sub
  v = seat.me.0

  pub shape : IsShape d
  shape = subst IsShape (sym board.shape_is) board.bounded

  -- the place by the trail
  pub place-is : place_of d v.trail w ≡ p
  place-is = ours.6

  pub place-in : view_place v ≡ p
  place-in = ap₂ (λ e m. place_of e v.trail m) ours.4 ours.3 ∙ place-is

  pub still : v.out ≡ None
  still = none-of v.out ours.7

  -- what the worker shows, but for the station's origin: by the board, and by the view
  abbrev pub shown : ℕ → Shape → Seen (Unit {0}) Sub
  shown m e = seen_with (record { worker = m; shape = e; subject = board_subject board }) v.trail (note_in v.own m)

  pub by-view : (P : Seen (Unit {0}) Sub → Type 0) → P (shown w d) → P (seen_by_view v (board_subject board))
  by-view P h = subst (λ m. P (shown m v.shape)) (sym ours.3) (subst (λ e. P (shown w e)) (sym ours.4) h)

  pub by-board : (P : Seen (Unit {0}) Sub → Type 0) → P (seen_by_view v (board_subject board)) → P (shown w d)
  by-board P h = subst (λ e. P (shown w e)) ours.4 (subst (λ m. P (shown m v.shape)) ours.3 h)

  pub below : number v < d.workers
  below = subst (λ m. m < d.workers) (sym ours.3) ours.1

  -- the seat goes on with this trail, these own calls and exchanges, and this cell out, and is at the place q then
  pub goes-on : (trail : List Entry) (own : List Logged) (out : Option ℕ) (q : Place) → place_of d trail w ≡ q → is_some out ≡ false
      → ∥ IsLegal d trail ∥₁ → (other : Seat (Option B) (View Sub)) → other.table_id ≡ seat.table_id
      → other.me.0 ≡ record v { trail = trail; own = own; out = out } → length other.me.1 ≡ 0 → IsSeatOf board w q other
  goes-on trail own out q there none legal other id view carries = (
    id ∙ ours.0,
    ours.1,
    subst (λ (z : View Sub). 0 < length z.numbers) (sym view) ours.2,
    ap (λ (z : View Sub). number z) view ∙ ours.3,
    ap (λ (z : View Sub). z.shape) view ∙ ours.4,
    ap (λ (z : View Sub). z.subject) view ∙ ours.5,
    ap (λ (z : View Sub). place_of d z.trail w) view ∙ there,
    ap (λ (z : View Sub). is_some z.out) view ∙ none,
    ap (λ (z : View Sub). length z.heard) view ∙ ours.8,
    carries,
    subst (λ t. ∥ IsLegal d t ∥₁) (sym (ap (λ (z : View Sub). z.trail) view)) legal,
  )

  -- ---- a step that is the call c

  module _ (total : Sub → ℕ → Option ℕ) (fits : Sub → ℕ → ℕ → List (ℕ × ℕ) → B → Type 0) (c : Call) (may : AllowsCall total (seen_at board w seat) c) where
    abbrev terms : Terms B Sub
    terms = terms_of total fits board.table.shared.key

    -- what the worker may ask for, by the view alone
    may-in : AllowsCall total (seen_by_view v (board_subject board)) c
    may-in = record {
      place = by-view (λ x. MayAt x.desk.shape (own_place x) c) may.place;
      cells = by-view (λ x. CellsAllow (totals_of total x) (caller_of x) c) may.cells;
    }

    may-step : MayStep terms v c
    may-step = let l = headed v.numbers w ours.2 ours.3 in record {
      rest = l.0;
      numbers = l.1 ∙ ap (λ m. m ∷ l.0) (sym ours.3);
      below = below;
      shape = ours.4;
      may = may-in;
      still = still;
      alone = no-items v.heard ours.8;
    }

    -- what the step owes, on the word of this address
    pub owes : (a : Address) → a ≡ address_of w c p → (word : ℕ) → word ≡ index board.shape a
        → (f : ℕ → ℕ) → ((n : ℕ) → f n ≡ change_of c p n) → (found : ℕ → ℕ) → ((n : ℕ) → answer_of c p (found n) ≡ answer_of c p n)
        → (seat.table_id ≡ board.table.shared.table_id) × (word < board.table.shared.table_id.words)
        × Allows (RunningRule terms) board.table.shared.table_id.slots seat.id seat.me word f
        (λ n. HasCalled total (answer_of c (view_place v) (found n)) seat.me)
    owes a on word is f changes found finds =
        let at : (P : Place → Type 0) → P p → P (view_place v) = λ P h. subst P (sym place-in) h in
        let named : word ≡ index d (address_of w c p) = is ∙ ap₂ index (sym board.shape_is) on in
        let low : index d (address_of w c p) < count_of_words d = ∥∥₁_elim ours.10 (hlevel (props))
        (λ legal. subst (λ q. index d (address_of w c q) < count_of_words d) place-is
        (index-low d (address_of w c (place_of d v.trail w)) (step-of d v.trail shape legal w ours.1 c may.place).there)) in
        let words : board.table.shared.table_id.words ≡ count_of_words d =
        subst (λ (e : Shape). board.table.shared.table_id.words ≡ count_of_words e) (sym board.shape_is) board.words_are in (
          ours.0,
          subst (λ n. word < n) (sym words) (subst (λ n. n < count_of_words d) (sym named) low),
          call-allowed terms board.table.shared.table_id.slots seat.id v seat.me.1 c may-step word
              (subst (λ m. word ≡ index d (address_of m c (view_place v))) (sym ours.3) (at (λ q. word ≡ index d (address_of w c q)) named))
              f (at (λ q. (n : ℕ) → f n ≡ change_of c q n) changes) found (at (λ q. (n : ℕ) → answer_of c q (found n) ≡ answer_of c q n) finds),
        )

  -- ---- the seat after it, which knows and holds `new`

  module _ (total : Sub → ℕ → Option ℕ) (c : Call) (n : ℕ) (new : Me (Option B) (View Sub))
      (told : HasCalled total (answer_of c (view_place v) n) seat.me new) where
    abbrev a : Act
    a = answer_of c p n

    same : answer_of c (view_place v) n ≡ a
    same = ap (λ q. answer_of c q n) place-in

    grows : new.0 ≡ view_called v w new.0.trail a
    grows = told.view ∙ ap₂ (λ m b. view_called v m new.0.trail b) ours.3 same

    called : Called d (entry w a) v.trail new.0.trail
    called = subst (λ e. Called e (entry w a) v.trail new.0.trail) ours.4 (subst (λ m. Called v.shape (entry m a) v.trail new.0.trail) ours.3
        (subst (λ b. Called v.shape (entry (number v) b) v.trail new.0.trail) same told.called))

    pub small : IsSmall a
    small = let (h, is, begins, own, legal) = called in numbers.small d h w a shape (subst (IsLegal d) is legal)

    pub seat-after : (other : Seat (Option B) (View Sub)) → other.table_id ≡ seat.table_id → other.me ≡ new → IsSeatOf board w (moved board.shape a p) other
    seat-after other id me =
        let goes = calls-go-on d w a v.trail new.0.trail called in
        let trail = new.0.trail in
        goes-on trail (call w a ∷ v.own) v.out (moved board.shape a p) (goes.place ∙ ap₂ (λ e q. moved e a q) board.shape_is place-is) ours.7 ∣ called.4 ∣₁
        other id (ap (λ (m : Me (Option B) (View Sub)). m.0) me ∙ grows)
        (ap (λ (m : Me (Option B) (View Sub)). length m.1) me ∙ ap length told.holds ∙ ours.9)

    pub made : (other : Seat (Option B) (View Sub)) → other.me ≡ new → Makes total a (seen_at board w seat) (seen_at board w other)
    made other me =
        let view : other.me.0 ≡ new.0 = ap (λ (m : Me (Option B) (View Sub)). m.0) me in
        let trail : other.me.0.trail ≡ new.0.trail = ap (λ (z : View Sub). z.trail) view in record {
          origin = refl;
          desk = refl;
          called = subst (Called d (entry w a) v.trail) (sym trail) called;
          of_subject = subst (IsOfTotals (total (board_subject board)) d) (sym trail)
              (subst (λ e. IsOfTotals (total (board_subject board)) e new.0.trail) ours.4 (told.of_subject (board_subject board) ours.5));
          notes = λ u low. ap (λ (z : View Sub). note_in z.own w u) (view ∙ grows)
              ∙ ap (λ b. cond b (noted a w u (note_in v.own w u)) (note_in v.own w u)) (eq-eqb w w refl);
        }
