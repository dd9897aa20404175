-- What a beginning says of a task set stays: its total and slot from its install on, and its claims from its last call on.
use Rattle.std.proofs.Common.{◌≡◌, ℕ, ◌+◌, ◌<◌, ◌≤◌, false, cond, List, [], ◌∷◌, ◌++◌, Option, Some}
use Rattle.std.proofs.Common.{refl, sym, ap, ◌∙◌, subst, arith}
use Rattle.std.proofs.lemmas.Bool.{false_from_ne_true}
use Rattle.slot_history.specs.declared.shape.Shape.{Shape}
use Rattle.slot_history.specs.declared.act.Entry.{Entry}
use Rattle.slot_history.specs.States.{slot_of, held_at}
use Rattle.slot_history.specs.Histories.{IsLegal, place_of, claims_of, ranges_by, is_install}
use Rattle.slot_history.specs.Histories.{installs_of, lasts_of, total_of, slot_with}
use Rattle.slot_history.specs.Beginnings.{KeepsTaskSets, TaskSetsStay}
use Rattle.slot_history.proofs.Counts.{counts-most, only-once, total-installed, slot-installed}
use Rattle.slot_history.proofs.Claims.{ranges-claims, done-claims}
use Rattle.slot_history.proofs.TaskSets.{finalised-done}

-- ---- numbers of installs and of last calls

pub installs-grow : (id : ℕ) (more early : List Entry) → installs_of id early ≤ installs_of id (more ++ early)
installs-grow id [] early = omega arith
installs-grow id (e ∷ more) early = let r : installs_of id early ≤ installs_of id (more ++ early) = installs-grow id more early in omega arith

pub lasts-grow : (d : Shape) (id : ℕ) (more early : List Entry) → lasts_of d id early ≤ lasts_of d id (more ++ early)
lasts-grow d id [] early = omega arith
lasts-grow d id (e ∷ more) early = let r : lasts_of d id early ≤ lasts_of d id (more ++ early) = lasts-grow d id more early in omega arith

-- what was installed is not installed again
pub not-again : (d : Shape) (id : ℕ) (e : Entry) (es : List Entry) → IsLegal d (e ∷ es) → 0 < installs_of id es → is_install e.act id ≡ false
not-again d id e es legal was = false_from_ne_true (is_install e.act id) (λ this.
    let one : cond {A = ℕ} (is_install e.act id) 1 0 ≡ 1 = ap (λ b. cond b 1 0) this in
    let most : cond {A = ℕ} (is_install e.act id) 1 0 + installs_of id es ≤ 1 = (only-once d (e ∷ es) legal).0 id in omega arith)

module _ (d : Shape) (id : ℕ) where
  -- ---- what stays from its install on

  -- what an install sets of a task set, and every other call leaves
  install-stays : (set : Entry → List Entry → Option ℕ) (f : List Entry → Option ℕ)
      → ((e : Entry) (es : List Entry) → f (e ∷ es) ≡ cond (is_install e.act id) (set e es) (f es))
      → ((h : List Entry) → IsLegal d h → (n : ℕ) → f h ≡ Some n → 0 < installs_of id h)
      → (n : ℕ) (more early : List Entry) → IsLegal d (more ++ early) → f early ≡ Some n → f (more ++ early) ≡ Some n
  install-stays set f after was n [] early legal is = is
  install-stays set f after was n (e ∷ more) early legal is =
      let h : List Entry = more ++ early in
      let old : f h ≡ Some n = install-stays set f after was n more early legal.2 is in
      after e h ∙ ap (λ b. cond b (set e h) (f h)) (not-again d id e h legal (was h legal.2 n old)) ∙ old

  pub total-stays : (n : ℕ) (more early : List Entry) → IsLegal d (more ++ early) → total_of d id early ≡ Some n → total_of d id (more ++ early) ≡ Some n
  total-stays = install-stays (λ e es. (held_at (place_of d es e.worker)).total) (total_of d id) (λ e es. refl) (λ h legal n. total-installed d id h legal n)

  pub slot-stays : (s : ℕ) (more early : List Entry) → IsLegal d (more ++ early) → slot_with d id early ≡ Some s → slot_with d id (more ++ early) ≡ Some s
  slot-stays = install-stays (λ e es. Some (slot_of (place_of d es e.worker))) (slot_with d id) (λ e es. refl) (λ h legal s. slot-installed d id h legal s)

  -- ---- what stays from its last call on

  pub claims-stay : (more early : List Entry) → IsLegal d (more ++ early) → 0 < lasts_of d id early → claims_of d id (more ++ early) ≡ claims_of d id early
  claims-stay [] early legal past = refl
  claims-stay (e ∷ more) early legal past =
      let h : List Entry = more ++ early in
      let grows = lasts-grow d id more early in
      let over = finalised-done d id h legal.2 (omega arith) in
      done-claims d h e.worker e.act id over.0 legal.2 legal.0 legal.1 over.1 (claims_of d id h) ∙ claims-stay more early legal.2 past

  pub last-stays : (more early : List Entry) → IsLegal d (more ++ early) → 0 < lasts_of d id early → lasts_of d id (more ++ early) ≡ 1
  last-stays more early legal past =
      let h : List Entry = more ++ early in
      let grows = lasts-grow d id more early in
      let most = (counts-most d id h legal).1 in omega arith

pub keeps-task-sets : (d : Shape) (more early : List Entry) → IsLegal d (more ++ early) → KeepsTaskSets d (more ++ early) early
keeps-task-sets d more early legal = record {
  total = λ id n. total-stays d id n more early legal;
  slot = λ id s. slot-stays d id s more early legal;
  last = λ id. last-stays d id more early legal;
  claims = λ id. claims-stay d id more early legal;
  ranges = λ w id past. ranges-claims d w id (more ++ early) ∙ ap (ranges_by w) (claims-stay d id more early legal past) ∙ sym (ranges-claims d w id early);
}

pub task-sets-stay : TaskSetsStay
task-sets-stay d h early legal (more, is) = subst (λ l. KeepsTaskSets d l early) (sym is) (keeps-task-sets d more early (subst (IsLegal d) is legal))
