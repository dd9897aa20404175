-- How the first seat is dealt out.
use Rattle.std.proofs.Common.{◌≡◌, ℕ, zero, suc, ◌<◌, List, [], ◌∷◌, ◌++◌, length, Option, Some}
use Rattle.std.proofs.Common.{slice_get, refl, sym, ap, ◌∙◌, subst, inl, inr, ◌⊎◌, ⊎_elim, arith}
use Rattle.atomic_table.specs.Table.{Me, Splits}
use Rattle.atomic_table.specs.declared.shared.Seat.{Seat}
use Rattle.slot_history.specs.declared.place.Place.TheVariants.{Free}
use Rattle.board_rule.specs.declared.board.Board.{Board}
use Rattle.board_rule.specs.declared.board.Pass.{Pass}
use Rattle.board_rule.specs.declared.view.View.{View}
use Rattle.board_rule.specs.Lives.{IsUnused, AreAll, AreFree, AreUnused, IsUndealt}
use Rattle.board_rule.specs.Passes.{board_shape, board_subject, IsSeatOf}
use Rattle.board_rule.specs.Rule.{RunningRule, terms_of}
use Rattle.board_rule.specs.Views.{numbers_from, fresh_view, kept_part, dealt_part}
use Rattle.board_rule.proofs.Seats.{splits}

get-snoc : {A : Type 0} → (xs : List A) (x : A) (k : ℕ) (y : A) → slice_get (xs ++ x ∷ []) k ≡ Some y → (slice_get xs k ≡ Some y) ⊎ ((k ≡ length xs) × (x ≡ y))
get-snoc [] x zero y e = inr (refl, cc)
get-snoc [] x (suc k) y e = absurd (cc)
get-snoc (z ∷ zs) x zero y e = inl e
get-snoc (z ∷ zs) x (suc k) y e = ⊎_elim (λ h. inl h) (λ h. inr (ap suc h.0, h.1)) (get-snoc zs x k y e)

module _ {B Sub : Type 0} (b : Board B Sub) (k n m : ℕ) (s : Seat (Option B) (View Sub)) (more : m ≡ suc n) (h : IsUndealt b k m s) where
  abbrev all : View Sub
  all = fresh_view (board_shape b) (board_subject b) k (suc n)

  at-suc : s.me ≡ (all, [])
  at-suc = h.knows ∙ ap (λ j. (fresh_view (board_shape b) (board_subject b) k j, [])) more

  view : s.me.0 ≡ all
  view = ap (λ (l : Me (Option B) (View Sub)). l.0) at-suc

  pub deal-step : (total : Sub → ℕ → Option ℕ) (fits : Sub → ℕ → ℕ → List (ℕ × ℕ) → B → Type 0)
      → (s.table_id ≡ b.table.shared.table_id) × (0 < b.table.shared.table_id.words)
      × Splits (RunningRule (terms_of total fits b.table.shared.key)) s.id s.me.0 (kept_part s.me.0) (dealt_part s.me.0)
  deal-step total fits = let w = b.words_are in (
    h.table,
    omega arith,
    splits (terms_of total fits b.table.shared.key) s.id s.me.0 k (numbers_from (suc k) n) (ap (λ (v : View Sub). v.numbers) view)
        (ap (λ (v : View Sub). v.trail) view),
  )

  -- what is left to deal
  pub deal-rest : (rest : Seat (Option B) (View Sub)) → rest.table_id ≡ s.table_id → rest.me ≡ (dealt_part s.me.0, []) → IsUndealt b (suc k) n rest
  deal-rest rest id e = record { table = id ∙ h.table; knows = e ∙ ap (λ (v : View Sub). (dealt_part v, [])) view }

  pub deal-own : (own : Seat (Option B) (View Sub)) → own.table_id ≡ s.table_id → own.me ≡ (kept_part s.me.0, s.me.1) → k < (board_shape b).workers
      → IsSeatOf b k Free own × (own.me.0.trail ≡ [])
  deal-own own id e low =
      let P : Me (Option B) (View Sub) → Type 0 = λ l. IsSeatOf b k Free (record own { me = l }) × (l.0.trail ≡ []) in
      let is : own.me ≡ (kept_part all, []) = e ∙ ap (λ (l : Me (Option B) (View Sub)). (kept_part l.0, l.1)) at-suc in
      subst P (sym is) ((id ∙ h.table, low, omega arith, refl, refl, refl, refl, refl, refl, refl, ∣ tt ∣₁), refl)

-- one pass more
pub deal-more : {B Sub : Type 0} → (b : Board B Sub) (k : ℕ) (old middle new : List (Pass B Sub)) (p : Pass B Sub) → new ≡ middle ++ p ∷ [] → middle ≡ old
    → AreUnused b old → length old ≡ k → IsUnused b k p → AreUnused b new
deal-more b k old middle new p e same each count fresh j q at = ⊎_elim
    (λ r. each j q r)
    (λ r. subst (λ z. IsUnused b j z) r.1 (subst (λ i. IsUnused b i p) (sym (r.0 ∙ count)) fresh))
    (get-snoc old p j q (rw (← same, ← e) at))

-- passes that are dealt and not used yet

there : {A : Type 0} → (xs : List A) (k : ℕ) → k < length xs → (x : A) × (slice_get xs k ≡ Some x)
there [] k low = absurd (omega arith)
there (x ∷ xs) zero low = (x, refl)
there (x ∷ xs) (suc k) low = there xs k (omega arith)

pub fresh-done : {B Sub : Type 0} → (b : Board B Sub) (ps : List (Pass B Sub)) → AreUnused b ps → AreFree b ps
fresh-done b ps fresh k p at = let f = fresh k p at in record { of_board = f.of_board; place = f.place }

pub fresh-all : {B Sub : Type 0} → (b : Board B Sub) (ps : List (Pass B Sub)) → length ps ≡ (board_shape b).workers → AreUnused b ps → AreAll b ps
fresh-all b ps long fresh w low = let r = there ps w (omega arith) in (w, r.0, r.1, (fresh w r.0 r.1).worker)
