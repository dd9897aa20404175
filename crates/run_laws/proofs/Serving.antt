-- The slot that serves a query, and how many task sets of the query are done by it.
use Rattle.std.proofs.Common.{◌≡◌, ◌≢◌, ℕ, ◌<◌, Bool, true, false, cond, ltb, Option, Some, None}
use Rattle.std.proofs.Common.{◌⊎◌, inl, inr, refl, sym, ap, ◌∙◌, eq-eqb, eqb-true, lt-ltb, le-ltb, ⊎_elim, arith}
use Rattle.std.proofs.lemmas.Bool.{cond_both, ltb-true, false_from_ne_true, cases_lt, true≢false}
use mathlib.Core.Logic.{dite}
use native.Mathlib.Decide.{ℕ_discrete}
use Rattle.slot_history.specs.declared.shape.Shape.{Shape}
use Rattle.slot_history.specs.Sets.{upd}
use Rattle.slot_history.specs.States.{SlotState, Empty, ObjectState, is_empty}
use Rattle.slot_history.specs.Lives.{query_in}
use Rattle.slot_history.specs.Bounds.{IsWithin}
use Rattle.slot_history.proofs.Sets.{least-is, upd-cases, upd-same, upd-else}
use Rattle.turn_model.specs.Workloads.{Workload}
use Rattle.turn_model.specs.Measure.{is_query, slot_serving, done_in, done_of}
use Rattle.run_laws.proofs.Least.{least-same, least-holds, least-none}

pub is-query : (o : Option ℕ) (q : ℕ) → is_query o q ≡ true → o ≡ Some q
is-query None q h = absurd (true≢false (sym h))
is-query (Some r) q h = ap Some (eqb-true r q h)

pub query-is : (o : Option ℕ) (q : ℕ) → o ≡ Some q → is_query o q ≡ true
query-is o q is = ap (λ p. is_query p q) is ∙ eq-eqb q q refl

pub query-not : (o : Option ℕ) (q : ℕ) → o ≢ Some q → is_query o q ≡ false
query-not o q not = false_from_ne_true (is_query o q) (λ h. not (is-query o q h))

-- no two slots serve one query
abbrev pub AreApart : (ℕ → SlotState) → Type 0
AreApart slots = (s other q : ℕ) → query_in (slots s) ≡ Some q → query_in (slots other) ≡ Some q → s ≡ other

pub empty-query : (x : SlotState) (q : ℕ) → is_empty x ≡ true → query_in x ≢ Some q
empty-query Empty q h = λ e. absurd (cc)
empty-query _ q h = absurd (cc)

-- a slot that serves a query is one of the shape
pub serving-low : (d : Shape) (S : ObjectState) (s q : ℕ) → IsWithin d S → query_in (S.slots s) ≡ Some q → s < d.slots
serving-low d S s q near is = ⊎_elim (λ low. low) (λ high. absurd (empty-query (S.slots s) q (near.slots s high) is)) (cases_lt s d.slots)

-- the slot that serves a query is found
pub serving-is : (d : Shape) (S : ObjectState) (s q : ℕ) → s < d.slots → AreApart S.slots → query_in (S.slots s) ≡ Some q → slot_serving d S q ≡ s
serving-is d S s q low apart is = least-is d.slots (λ k. is_query (query_in (S.slots k)) q) s low (query-is (query_in (S.slots s)) q is)
    (λ v below. query-not (query_in (S.slots v)) q (λ e. let same : v ≡ s = apart v s q e is in absurd (omega (arith, below, same))))

pub serving-none : (d : Shape) (S : ObjectState) (q : ℕ) → ((s : ℕ) → s < d.slots → query_in (S.slots s) ≢ Some q) → slot_serving d S q ≡ d.slots
serving-none d S q none = least-none d.slots (λ k. is_query (query_in (S.slots k)) q) (λ s low. query-not (query_in (S.slots s)) q (none s low))

module _ (d : Shape) (load : Workload) where
  -- the task sets that are done of a query that a slot serves
  pub served : (S : ObjectState) (s q : ℕ) → s < d.slots → AreApart S.slots → query_in (S.slots s) ≡ Some q → done_of d load S q ≡ done_in (S.slots s)
  served S s q low apart is =
      ap (λ k. cond (ltb k d.slots) (done_in (S.slots k)) (load.stages q)) (serving-is d S s q low apart is)
      ∙ ap (λ b. cond b (done_in (S.slots s)) (load.stages q)) (lt-ltb s d.slots low)

  -- and of one that none serves
  pub unserved : (S : ObjectState) (q : ℕ) → ((s : ℕ) → s < d.slots → query_in (S.slots s) ≢ Some q) → done_of d load S q ≡ load.stages q
  unserved S q none =
      ap (λ k. cond (ltb k d.slots) (done_in (S.slots k)) (load.stages q)) (serving-none d S q none)
      ∙ ap (λ b. cond b (done_in (S.slots d.slots)) (load.stages q)) (le-ltb d.slots d.slots (omega arith))

  -- what holds of both holds of the number
  pub done-cases : (S : ObjectState) (q : ℕ) (P : ℕ → Type 0) → ((s : ℕ) → s < d.slots → query_in (S.slots s) ≡ Some q → P (done_in (S.slots s)))
      → P (load.stages q) → P (done_of d load S q)
  done-cases S q P some none = cond_both (ltb (slot_serving d S q) d.slots) (done_in (S.slots (slot_serving d S q))) (load.stages q) P
      (λ t. let low : slot_serving d S q < d.slots = ltb-true (slot_serving d S q) d.slots t in
      some (slot_serving d S q) low
      (is-query (query_in (S.slots (slot_serving d S q))) q (least-holds d.slots (λ k. is_query (query_in (S.slots k)) q) low)))
      (λ t. none)

-- to the query q both states of a slot are the same
pub record AreAlike (q : ℕ) (x y : SlotState) : Type 0 where
  pub is : is_query (query_in y) q ≡ is_query (query_in x) q
  pub done : query_in x ≡ Some q → done_in y ≡ done_in x

-- a slot that is given up, or gets a query, changes nothing for another query
pub alike-others : (q r : ℕ) (x y : SlotState) → ((query_in x ≡ Some r) ⊎ (query_in x ≡ None)) → ((query_in y ≡ Some r) ⊎ (query_in y ≡ None)) → q ≢ r
    → AreAlike q x y
alike-others q r x y was is other = record {
  is = not-here y is ∙ sym (not-here x was);
  done = λ e. absurd (true≢false (sym (query-is (query_in x) q e) ∙ not-here x was));
} where
  not-here : (z : SlotState) → ((query_in z ≡ Some r) ⊎ (query_in z ≡ None)) → is_query (query_in z) q ≡ false
  not-here z (inl e) = ap (λ o. is_query o q) e ∙ query-not (Some r) q (λ f. other (sym (some-is f))) where
    some-is : Some r ≡ Some q → r ≡ q
    some-is f = cc
  not-here z (inr e) = ap (λ o. is_query o q) e

-- a slot to which nothing of its query changes
pub record IsSteady (x y : SlotState) : Type 0 where
  pub query : query_in y ≡ query_in x
  pub done : (q : ℕ) → query_in x ≡ Some q → done_in y ≡ done_in x

pub alike-steady : (q : ℕ) (x y : SlotState) → IsSteady x y → AreAlike q x y
alike-steady q x y steady = record { is = ap (λ o. is_query o q) steady.query; done = steady.done q }

-- a slot to which nothing of a query changes leaves the slot that serves it
pub serving-same : (d : Shape) (S : ObjectState) (k : ℕ) (y : SlotState) (T : ObjectState) → T.slots ≡ upd S.slots k y → (q : ℕ)
    → is_query (query_in y) q ≡ is_query (query_in (S.slots k)) q → slot_serving d T q ≡ slot_serving d S q
serving-same d S k y T slots_are q is =
    least-same d.slots (λ s. is_query (query_in (S.slots s)) q) (λ s. is_query (query_in (T.slots s)) q)
    (λ s. ap (λ f. is_query (query_in (f s)) q) slots_are
    ∙ upd-cases S.slots k y s (λ x. is_query (query_in x) q ≡ is_query (query_in (S.slots s)) q)
    (λ e. is ∙ ap (λ j. is_query (query_in (S.slots j)) q) (sym e)) (λ other. refl))

-- so the number stays
module _ (d : Shape) (load : Workload) (S : ObjectState) (k : ℕ) (y : SlotState) (T : ObjectState) (slots_are : T.slots ≡ upd S.slots k y) where
  slot-here : T.slots k ≡ y
  slot-here = ap (λ f. f k) slots_are ∙ upd-same S.slots k y

  slot-else : (s : ℕ) → s ≢ k → T.slots s ≡ S.slots s
  slot-else s other = ap (λ f. f s) slots_are ∙ upd-else S.slots k y s other

  pub done-alike : (q : ℕ) → AreAlike q (S.slots k) y → done_of d load T q ≡ done_of d load S q
  done-alike q alike = step (ltb (slot_serving d S q) d.slots) refl where
    at : slot_serving d T q ≡ slot_serving d S q
    at = serving-same d S k y T slots_are q alike.is

    stays : (s : ℕ) → query_in (S.slots s) ≡ Some q → done_in (T.slots s) ≡ done_in (S.slots s)
    stays s is = dite (ℕ_discrete s k)
        (λ e. ap (λ j. done_in (T.slots j)) e ∙ ap done_in slot-here ∙ alike.done (ap (λ j. query_in (S.slots j)) (sym e) ∙ is)
        ∙ ap (λ j. done_in (S.slots j)) (sym e))
        (λ other. ap done_in (slot-else s other))

    step : (b : Bool) → ltb (slot_serving d S q) d.slots ≡ b → done_of d load T q ≡ done_of d load S q
    step true low =
        ap (λ j. cond (ltb j d.slots) (done_in (T.slots j)) (load.stages q)) at
        ∙ ap (λ n. cond (ltb (slot_serving d S q) d.slots) n (load.stages q))
        (stays (slot_serving d S q) (is-query (query_in (S.slots (slot_serving d S q))) q
        (least-holds d.slots (λ s. is_query (query_in (S.slots s)) q) (ltb-true (slot_serving d S q) d.slots low))))
    step false high =
        ap (λ j. cond (ltb j d.slots) (done_in (T.slots j)) (load.stages q)) at
        ∙ ap (λ b. cond b (done_in (T.slots (slot_serving d S q))) (load.stages q)) high
        ∙ sym (ap (λ b. cond b (done_in (S.slots (slot_serving d S q))) (load.stages q)) high)
