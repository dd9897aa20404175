use Rattle.std.proofs.Common.{◌≡◌, ℕ, ◌+◌, ◌<◌, ◌≤◌, ◌&&◌, ◌||◌, Bool, true, false, Option, Some, None, MatchOption, suc, zero, List, length, cond, nat_lt}
use Rattle.std.proofs.Common.{refl, sym, ap, subst, ◌∙◌, ⊎_elim, add-one, below_more, ltb-true, ltb-false, arith}
use Rattle.std.proofs.lemmas.Bool.{cases_lt, false≢true}
use Rattle.std.proofs.lemmas.Option.{none-some, same_Some}
use Rattle.std.specs.Option.{is_none}
use Rattle.stride_set.specs.declared.Slot.{Slot}
use Rattle.stride_set.specs.Slots.{comes_before, choice_among, choice_from, active_in, pass_in, IsLeastActive, IsReach}

-- what the choice of n slots says
abbrev pub IsChoiceOf : ℕ → (ℕ → Bool) → (ℕ → ℕ) → Option ℕ → Type 0
IsChoiceOf n active pass choice = MatchOption choice ((s : ℕ) → s < n → active s ≡ false) (IsLeastActive n active pass)

-- one more slot that is not better changes no choice
keeps : (n : ℕ) (active : ℕ → Bool) (pass : ℕ → ℕ) (s : ℕ) → (active n ≡ true → pass s ≤ pass n) → IsLeastActive n active pass s → IsLeastActive
    (suc n) active pass s
keeps n active pass s not_better h = record {
  in_range = omega (arith, h.in_range);
  is_active = h.is_active;
  least = λ t below on. ⊎_elim (λ lt. h.least t lt on)
      (λ ge. let same : t ≡ n = omega arith in omega (arith, not_better (subst (λ k. active k ≡ true) same on), ap pass same)) (cases_lt t n);
  first = h.first;
}

-- a better one takes its place
takes : (n : ℕ) (active : ℕ → Bool) (pass : ℕ → ℕ) → active n ≡ true → ((t : ℕ) → t < n → active t ≡ true → pass n < pass t) → IsLeastActive (suc n)
    active pass n
takes n active pass on better = record {
  in_range = omega arith;
  is_active = on;
  least = λ t below on_t. ⊎_elim (λ lt. omega (arith, better t lt on_t)) (λ ge. omega (arith, ap pass (same t below ge))) (cases_lt t n);
  first = better;
}
  where
    same : (t : ℕ) → t < suc n → n ≤ t → t ≡ n
    same t below ge = omega arith

-- where none was active, an active one is better
first_one : (n : ℕ) (active : ℕ → Bool) (pass : ℕ → ℕ) → ((s : ℕ) → s < n → active s ≡ false) → (t : ℕ) → t < n → active t ≡ true → pass n < pass t
first_one n active pass h t below on = absurd (false≢true (sym (h t below) ∙ on))

-- one more slot makes a choice of a choice
choice_from-more : (n : ℕ) (active : ℕ → Bool) (pass : ℕ → ℕ) (before : Option ℕ) → IsChoiceOf n active pass before → IsChoiceOf (suc n) active pass
    (cond (active n && comes_before pass n before) (Some n) before)
choice_from-more n active pass None h = by_case (active n) refl
  where
    by_case : (b : Bool) → active n ≡ b → IsChoiceOf (suc n) active pass (cond (b && true) (Some n) None)
    by_case true on = takes n active pass on (first_one n active pass h)
    by_case false off = λ s below. below_more (λ t. active t ≡ false) n h off s (omega arith)
choice_from-more n active pass (Some s) h = by_case (active n) (nat_lt (pass n) (pass s)) refl refl
  where
    by_case : (b c : Bool) → active n ≡ b → nat_lt (pass n) (pass s) ≡ c → IsChoiceOf (suc n) active pass (cond (b && c) (Some n) (Some s))
    by_case true true on less =
        takes n active pass on (λ t below on_t. omega (arith, ltb-true (pass n) (pass s) less, h.least t below on_t))
    by_case true false on not_less = keeps n active pass s (λ _. ltb-false (pass n) (pass s) not_less) h
    by_case false c off less = keeps n active pass s (λ on. absurd (false≢true (sym off ∙ on))) h

-- the choice is the active slot of least pass, the least slot among ties, and none where none is active
choice_from-is : (n : ℕ) (active : ℕ → Bool) (pass : ℕ → ℕ) → IsChoiceOf n active pass (choice_from n active pass)
unfolding choice_from
choice_from-is zero active pass = λ s below. absurd (omega arith)
choice_from-is (suc n) active pass = choice_from-more n active pass (choice_from n active pass) (choice_from-is n active pass)

-- among no slot there is none to choose
choice_from-none : (active : ℕ → Bool) (pass : ℕ → ℕ) → None ≡ choice_from 0 active pass
unfolding choice_from
choice_from-none active pass = refl

-- and one more slot is chosen, or the choice before stays
choice_from-next : (n : ℕ) (active : ℕ → Bool) (pass : ℕ → ℕ) (before : Option ℕ) → before ≡ choice_from n active pass → choice_from (n + 1) active
    pass ≡ cond (active n && comes_before pass n before) (Some n) before
unfolding choice_from
choice_from-next n active pass before is = rw (add-one, is) refl

choice_from-takes : (n : ℕ) (active : ℕ → Bool) (pass : ℕ → ℕ) (before : Option ℕ) → before ≡ choice_from n active pass → active n ≡ true →
    comes_before pass n before ≡ true → Some n ≡ choice_from (n + 1) active pass
choice_from-takes n active pass before is on less = rw (choice_from-next n active pass before is, on, less) refl

choice_from-keeps : (n : ℕ) (active : ℕ → Bool) (pass : ℕ → ℕ) (before : Option ℕ) → before ≡ choice_from n active pass →
    (active n && comes_before pass n before) ≡ false → before ≡ choice_from (n + 1) active pass
choice_from-keeps n active pass before is stays = rw (choice_from-next n active pass before is, stays) refl

-- slots that are not active change no choice
choice_from-reach : (n : ℕ) (active : ℕ → Bool) (pass : ℕ → ℕ) (reach : ℕ) → reach ≤ n → ((s : ℕ) → reach ≤ s → active s ≡ false)
    → choice_from reach active pass ≡ choice_from n active pass
unfolding choice_from
choice_from-reach zero active pass reach within idle = ap (λ k. choice_from k active pass) none
  where
    none : reach ≡ 0
    none = omega arith
choice_from-reach (suc n) active pass reach within idle = ⊎_elim (λ all. ap (λ k. choice_from k active pass) (same all))
    (λ past. rw (idle n past) (choice_from-reach n active pass reach past idle)) (cases_lt n reach)
  where
    same : n < reach → reach ≡ suc n
    same all = omega arith

-- and so of the slots of a list
pub choice_among-reach : (slots : List Slot) (reach : ℕ) → IsReach slots reach → choice_from reach (active_in slots) (pass_in slots) ≡ choice_among slots
choice_among-reach slots reach h = choice_from-reach (length slots) (active_in slots) (pass_in slots) reach h.within h.idle_beyond

-- `choice` is the choice of the first n slots, and `low` its pass, if there is one
pub record HasChoice (n : ℕ) (active : ℕ → Bool) (pass : ℕ → ℕ) (choice : Option ℕ) (low : ℕ) : Type 0 where
  pub chosen : choice ≡ choice_from n active pass
  pub pass_is : (s : ℕ) → choice ≡ Some s → low ≡ pass s

-- so a slot comes before it exactly where there is none yet or its pass is less
comes_before-is : (pass : ℕ → ℕ) (n : ℕ) (choice : Option ℕ) (low : ℕ) → ((s : ℕ) → choice ≡ Some s → low ≡ pass s)
    → comes_before pass n choice ≡ (is_none choice || nat_lt (pass n) low)
comes_before-is pass n None low is = refl
comes_before-is pass n (Some s) low is = ap (nat_lt (pass n)) (sym (is s refl))

-- among no slot there is none to choose
pub HasChoice-none : (active : ℕ → Bool) (pass : ℕ → ℕ) (low : ℕ) → HasChoice 0 active pass None low
HasChoice-none active pass low = record { chosen = choice_from-none active pass; pass_is = λ s is. absurd (none-some s is) }

-- and one more slot is chosen, or the choice before stays
pub HasChoice-take : (n : ℕ) (active : ℕ → Bool) (pass : ℕ → ℕ) (choice : Option ℕ) (low : ℕ) → HasChoice n active pass choice low → active n ≡ true
    → (is_none choice || nat_lt (pass n) low) ≡ true → HasChoice (n + 1) active pass (Some n) (pass n)
HasChoice-take n active pass choice low h on less = record {
  chosen = choice_from-takes n active pass choice h.chosen on (comes_before-is pass n choice low h.pass_is ∙ less);
  pass_is = λ s is. ap pass (same_Some n s is);
}

pub HasChoice-keep : (n : ℕ) (active : ℕ → Bool) (pass : ℕ → ℕ) (choice : Option ℕ) (low : ℕ) → HasChoice n active pass choice low
    → (active n && (is_none choice || nat_lt (pass n) low)) ≡ false → HasChoice (n + 1) active pass choice low
HasChoice-keep n active pass choice low h stays = record {
  chosen = choice_from-keeps n active pass choice h.chosen (ap (λ b. active n && b) (comes_before-is pass n choice low h.pass_is) ∙ stays);
  pass_is = h.pass_is;
}

-- so what was chosen is the active slot of least pass
pub choice_from-chosen : (n : ℕ) (active : ℕ → Bool) (pass : ℕ → ℕ) (choice : Option ℕ) (s : ℕ) → choice ≡ choice_from n active pass → choice ≡ Some s
    → IsLeastActive n active pass s
choice_from-chosen n active pass choice s is chosen =
    subst (IsChoiceOf n active pass) (sym is ∙ chosen) (choice_from-is n active pass)

-- and so of the slots that a list shows
pub chosen-least : (slots : List Slot) (choice : Option ℕ) (s : ℕ) → choice ≡ choice_among slots → choice ≡ Some s
    → IsLeastActive (length slots) (active_in slots) (pass_in slots) s
chosen-least slots = choice_from-chosen (length slots) (active_in slots) (pass_in slots)

-- and where nothing was, no slot is active
pub choice_from-idle : (n : ℕ) (active : ℕ → Bool) (pass : ℕ → ℕ) → choice_from n active pass ≡ None → (s : ℕ) → s < n → active s ≡ false
choice_from-idle n active pass idle = subst (IsChoiceOf n active pass) idle (choice_from-is n active pass)
