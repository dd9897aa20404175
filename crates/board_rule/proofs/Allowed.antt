-- A step that is a call is allowed by the extension law.
use Rattle.std.proofs.Common.{◌≡◌, ℕ, List, ◌∷◌, Option, Some, slice_index, refl, sym, ◌∙◌, subst}
use Rattle.atomic_table.specs.Table.{Me, Allows, keeps}
use Rattle.slot_history.specs.declared.act.Act.{Act}
use Rattle.slot_history.specs.declared.act.Entry.{Entry}
use Rattle.slot_history.specs.declared.place.Place.{Place}
use Rattle.slot_history.specs.Histories.{IsOfTotals, Called, entry}
use Rattle.slot_history.specs.Calls.{Call}
use Rattle.slot_words.specs.Addresses.{index}
use Rattle.slot_words.specs.Steps.{address_of, change_of, answer_of}
use Rattle.board_rule.specs.declared.view.View.{View}
use Rattle.board_rule.specs.Rule.{Terms, RunningRule, known_after}
use Rattle.board_rule.specs.Steps.{MayStep, HasCalled}
use Rattle.board_rule.specs.Views.{number, view_place, view_called}
use Rattle.board_rule.proofs.Extends.{extended}

module _ {B Sub : Type 0} (terms : Terms B Sub) (slots i : ℕ) (v : View Sub) (cells : List (ℕ × Option B)) (c : Call) (step : MayStep terms v c) where
  abbrev p : Place
  p = view_place v

  abbrev at_word : ℕ
  at_word = index terms.shape (address_of (number v) c p)

  allowed : (then : ℕ → Me (Option B) (View Sub) → Type 0)
      → ((n : ℕ) (new : Me (Option B) (View Sub)) → HasCalled terms.total (answer_of c p n) (v, cells) new → then n new)
      → Allows (RunningRule terms) slots i (v, cells) at_word (change_of c p) then
  allowed then tells st (known, ok) len at small =
      let n : ℕ = slice_index st.words at_word in
      let a : Act = answer_of c p n in
      let trail : List Entry = entry (number v) a ∷ known.trail in
      let e = extended terms known st ok i v at c step in
      let named : v.subject ≡ Some terms.subject = (ok.views i v at).subject_is (number v) step.rest step.numbers in
      let called : Called v.shape (entry (number v) a) v.trail trail = subst (λ d. Called d (entry (number v) a) v.trail trail) (sym step.shape) e.0 in
      let of : (x : Sub) → v.subject ≡ Some x → IsOfTotals (terms.total x) v.shape trail =
      λ x is. subst (λ d. IsOfTotals (terms.total x) d trail) (sym step.shape)
      (subst (λ y. IsOfTotals (terms.total y) terms.shape trail) (let r : Some terms.subject ≡ Some x = sym named ∙ is in cc) e.1.of_subject) in (
        view_called v (number v) trail a,
        keeps,
        tt,
        (known_after (number v) a known, e.1),
        tells n (view_called v (number v) trail a, cells) (record { called = called; view = refl; holds = refl; of_subject = of }),
      )

  -- the same, as the caller of a step owes it
  pub call-allowed : (word : ℕ) → word ≡ at_word → (f : ℕ → ℕ) → ((n : ℕ) → f n ≡ change_of c p n)
      → (found : ℕ → ℕ) → ((n : ℕ) → answer_of c p (found n) ≡ answer_of c p n)
      → Allows (RunningRule terms) slots i (v, cells) word f (λ n. HasCalled terms.total (answer_of c p (found n)) (v, cells))
  call-allowed word is f changes found finds =
      let then : ℕ → Me (Option B) (View Sub) → Type 0 = λ n. HasCalled terms.total (answer_of c p (found n)) (v, cells) in
      let f_is : change_of c p ≡ f = λ j n. sym (changes n) j in
      subst (λ j. Allows (RunningRule terms) slots i (v, cells) j f then) (sym is)
      (subst (λ g. Allows (RunningRule terms) slots i (v, cells) at_word g then) f_is
      (allowed then (λ n new h. subst (λ a. HasCalled terms.total a (v, cells) new) (sym (finds n)) h)))
