-- The rule holds of a new table.
use Rattle.std.proofs.Common.{◌≡◌, ℕ, zero, suc, ◌+◌, ◌<◌, ◌≤◌, Bool, cond, eqb, ltb, List, []}
use Rattle.std.proofs.Common.{◌∷◌, replicate, map, Option, None, refl, sym, ap, subst, eq-eqb, lt-ltb, le-ltb, arith}
use mathlib.Core.Option as std_option
use mathlib.Core.Option.{some, some-injective, some-ne-none}
use native.Mathlib.Decide.{ℕ_discrete}
use lib.ListN.{get_elem?}
use Rattle.atomic_table.specs.Table.{opening}
use Rattle.slot_history.specs.declared.shape.Shape.{Shape}
use Rattle.slot_history.specs.Bounds.{IsShape}
use Rattle.slot_station.specs.declared.note.Note.TheVariants.{Loose}
use Rattle.slot_words.specs.Words.{AreFirst}
use Rattle.slot_words.proofs.Openings.{first-words-stand}
use Rattle.board_rule.specs.declared.view.View.{View}
use Rattle.board_rule.specs.Rule.{Terms, Knowledge, IsViewOf, CellIs, named, RunningRule, cell_index}
use Rattle.board_rule.specs.Views.{times, numbers_from, fresh_view}
use Rattle.board_rule.proofs.Lists.{counts-not}

nones : {B : Type 0} → (n k : ℕ) (h : std_option.Option (Option B)) → get_elem? (map some (replicate n None)) k ≡ some h → h ≡ some None
nones zero k h e = absurd (some-ne-none h (sym e))
nones (suc n) zero h e = sym (some-injective (some None) h e)
nones (suc n) (suc k) h e = nones n k h e

below-first : (n k w : ℕ) → w < k → times w (numbers_from k n) ≡ 0
below-first zero k w lt = refl
below-first (suc n) k w lt = let h = below-first n (suc k) w (omega arith) in let e = counts-not k w (λ q. omega arith) in omega arith

is-below : (w m : ℕ) → w < m → cond {A = ℕ} (ltb w m) 1 0 ≡ 1
is-below w m lt = ap (λ (b : Bool). cond {A = ℕ} b 1 0) (lt-ltb w m lt)

numbers-step : (n k w : ℕ) → k ≤ w → (suc k ≤ w → times w (numbers_from (suc k) n) ≡ cond {A = ℕ} (ltb w (suc k + n)) 1 0) → Dec (k ≡ w)
    → times w (numbers_from k (suc n)) ≡ cond {A = ℕ} (ltb w (k + suc n)) 1 0
numbers-step n k w le ih (yes e) =
    let h = below-first n (suc k) w (omega arith) in
    let t : cond {A = ℕ} (eqb k w) 1 0 ≡ 1 = ap (λ (b : Bool). cond {A = ℕ} b 1 0) (eq-eqb k w e) in
    let r = is-below w (k + suc n) (omega arith) in omega arith
numbers-step n k w le ih (no ne) =
    let h = ih (omega arith) in let e = counts-not k w ne in
    let q : suc k + n ≡ k + suc n = omega arith in
    let r : cond {A = ℕ} (ltb w (suc k + n)) 1 0 ≡ cond {A = ℕ} (ltb w (k + suc n)) 1 0 = ap (λ m. cond {A = ℕ} (ltb w m) 1 0) q in omega arith

times-numbers : (n k w : ℕ) → k ≤ w → times w (numbers_from k n) ≡ cond {A = ℕ} (ltb w (k + n)) 1 0
times-numbers zero k w le = sym (ap (λ (b : Bool). cond {A = ℕ} b 1 0) (le-ltb w (k + 0) (omega arith)))
times-numbers (suc n) k w le = numbers-step n k w le (times-numbers n (suc k) w) (ℕ_discrete k w)

module _ {B Sub : Type 0} (terms : Terms B Sub) (words : List ℕ) (n : ℕ) (shape : IsShape terms.shape) (first : AreFirst terms.shape words) where
  abbrev d : Shape
  d = terms.shape

  abbrev none : Knowledge
  none = record { trail = []; notes = λ w u. Loose; outs = λ w. None }

  abbrev all : View Sub
  all = fresh_view d terms.subject 0 d.workers

  alone : (i : ℕ) (v : View Sub) → get_elem? (all ∷ []) i ≡ some v → all ≡ v
  alone zero v at = some-injective all v at
  alone (suc i) v at = absurd (some-ne-none v (sym at))

  view-first : IsViewOf terms none all
  view-first = record {
    shape = λ w ws e. refl;
    subject_is = λ w ws e. refl;
    begins = ([], refl);
    own = λ w has. refl;
    notes = λ w ws e u. refl;
    out = λ w ws e. refl;
    further = λ w x ws e has. refl;
    none = λ e. refl;
    heard = λ k x e. absurd (some-ne-none x (sym e));
  }

  pub opens : RunningRule terms (opening words (replicate n None) all)
  opens = (
    none,
    record {
      words_are = first-words-stand d words shape first;
      of_subject = λ id total at. absurd (cc at);
      numbers = λ w. let t = times-numbers d.workers 0 w (omega arith) in let e : 0 + d.workers ≡ d.workers = omega arith in
          let r : cond {A = ℕ} (ltb w (0 + d.workers)) 1 0 ≡ cond {A = ℕ} (ltb w d.workers) 1 0 = ap (λ k. cond {A = ℕ} (ltb w k) 1 0) e in omega arith;
      views = λ i v at. subst (IsViewOf terms none) (alone i v at) view-first;
      cells = λ s w in_s in_w h at. subst (CellIs terms none (named s w)) (sym (nones n (cell_index d s w) h at)) refl;
      idle = λ w none. (refl, λ u. refl);
    },
  )
