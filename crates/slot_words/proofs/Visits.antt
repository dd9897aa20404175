-- What the calls of a visit read and write: enter, look, claim, leave.
use Rattle.std.proofs.Common.{◌≡◌, ℕ, ◌+◌, ◌*◌, ◌^◌, ◌<◌, ◌≤◌, ◌⊎◌, true, false, ltb, min, refl}
use Rattle.std.proofs.Common.{sym, ap, ap₂, ◌∙◌, subst, eq-eqb, lt-ltb, le-ltb, arith}
use Rattle.std.proofs.lemmas.Bool.{cond-true, cond-false}
use Rattle.slot_history.specs.declared.shape.Shape.{Shape}
use Rattle.slot_history.specs.declared.shape.TheConstants.{MOST_CLAIM}
use Rattle.slot_history.specs.declared.act.Act.{Act}
use Rattle.slot_history.specs.declared.act.Act.TheVariants.{Enter, LookOpen, LookInvalid}
use Rattle.slot_history.specs.declared.act.Act.TheVariants.{LookVacant, ClaimRange, ClaimUsed}
use Rattle.slot_history.specs.declared.act.Act.TheVariants.{LeaveLeft, LeaveOwe}
use Rattle.slot_history.specs.declared.place.Place.{Place}
use Rattle.slot_history.specs.declared.place.Place.TheVariants.{Free, Entered, Inside, Owing}
use Rattle.slot_history.specs.Sets.{upd}
use Rattle.slot_history.specs.States.{TaskSet, ObjectState, slot_of, id_of, task_of, slot_word}
use Rattle.slot_history.specs.States.{is_open, is_shut, owes, can_leave, has_own_cell, is_inside}
use Rattle.slot_history.specs.Steps.{left, claimed}
use Rattle.slot_history.proofs.Sets.{upd-same}
use Rattle.slot_history.proofs.Coordinators.{owes-nothing}
use Rattle.slot_history.proofs.SlotWords.{leaves-at, left-away}
use Rattle.slot_history.proofs.Within.{within-slots}
use Rattle.slot_history.proofs.Places.{inside-slots}
use Rattle.slot_words.specs.Encodings.{at_word, mark_for, mark_in, total_in, cursor_in}
use Rattle.slot_words.specs.Words.{IsCursor, mark_at}
use Rattle.slot_words.specs.Steps.{added, look_answer, claim_answer_of}
use Rattle.slot_words.proofs.Slots.{no-mark}
use Rattle.slot_words.proofs.Fit.{IsFit}
use Rattle.slot_words.proofs.WorkerWords.{at-slot, nowhere, not-free}
use Rattle.slot_words.proofs.SlotWords.{Looks, cursor-has, cursor-grows}
use Rattle.slot_words.proofs.Readings.{Reads, state-after, own-after}

module _ (d : Shape) (S : ObjectState) (w : ℕ) (low : w < d.workers) (fit : IsFit d S) where
  abbrev p : Place
  p = S.places w

  pub enters : (s : ℕ) → p ≡ Free → Reads d S w (Enter s) Free
  enters s at n h =
      let clear : owes (S.slots s) w ≡ false = owes-nothing d S fit.table s w low Free at refl in
      let none : at_word s + 0 ≡ at_word s = omega arith in (
        refl,
        sym (own-after d S w (upd S.slots s (S.slots s)) (Entered s) ∙ at-slot (upd S.slots s (S.slots s) s) w (Entered s) s (eq-eqb s s refl)
            ∙ ap (λ x. at_word s + mark_at x w) (upd-same S.slots s (S.slots s)) ∙ ap (λ m. at_word s + m) (no-mark (S.slots s) w clear) ∙ none),
      )

  -- ---- looks

  looks : (s : ℕ) (a : Act) → Looks (S.slots s) a → (n : ℕ) → n ≡ slot_word (S.slots s)
      → (look_answer n ≡ a) × (n ≡ slot_word (upd S.slots s (S.slots s) s))
  looks s a reads n h = (reads n h, state-after d S w s n (S.slots s) h)

  pub looks-open : (s id : ℕ) → Looks (S.slots s) (LookOpen id) → Reads d S w (LookOpen id) (Entered s)
  looks-open s id = looks s (LookOpen id)

  pub looks-invalid : (s : ℕ) → Looks (S.slots s) LookInvalid → Reads d S w LookInvalid (Entered s)
  looks-invalid s = looks s LookInvalid

  pub looks-vacant : (s : ℕ) → Looks (S.slots s) LookVacant → Reads d S w LookVacant (Entered s)
  looks-vacant s = looks s LookVacant

  -- ---- claims

  inside-kind : (s id : ℕ) → p ≡ Inside s id → (is_open (S.slots s) ≡ true) ⊎ (is_shut (S.slots s) ≡ true)
  inside-kind s id at =
      let own = ap (λ q. has_own_cell q s) at ∙ eq-eqb s s refl in
      let in_id = ap (λ q. is_inside q id) at ∙ eq-eqb id id refl in
      (inside-slots d S fit.table s w id low own in_id).0

  -- the cursor's word of a slot whose task set may be claimed from
  record Cursor (s n k : ℕ) : Type 0 where
    total : total_in n ≡ (task_of (S.slots s)).total
    cursor : cursor_in n ≡ (task_of (S.slots s)).cursor
    after : IsCursor (upd S.slots s (claimed (S.slots s) k) s) (added k n)

  cursor : (s n k : ℕ) → (is_open (S.slots s) ≡ true) ⊎ (is_shut (S.slots s) ≡ true) → IsCursor (S.slots s) n → k ≤ MOST_CLAIM → Cursor s n k
  cursor s n k kind c few =
      let t : TaskSet = task_of (S.slots s) in
      let r = cursor-has (S.slots s) n kind (fit.sound s) c in
      let e : n ≡ t.total * 2 ^ 32 + t.cursor = r.0 in
      let a : t.total ≤ 1048576 = r.1 in
      let b : t.cursor ≤ t.total + 65536 * (d.workers + 1) = fit.limit s in
      let m : d.workers ≤ 64 = fit.shape.workers.1 in
      let f : k ≤ 65536 = few in record {
        total = omega arith;
        cursor = omega arith;
        after = subst (λ x. IsCursor x (added k n)) (sym (upd-same S.slots s (claimed (S.slots s) k)))
            (cursor-grows (S.slots s) (added k n) k kind (omega arith));
      }

  pub claims : (s id k from to : ℕ) → p ≡ Inside s id → k ≤ MOST_CLAIM → from ≡ (task_of (S.slots s)).cursor
      → from < (task_of (S.slots s)).total → to ≡ min (task_of (S.slots s)).total (from + k) → Reads d S w (ClaimRange k from to) (Inside s id)
  claims s id k from to at few is less ends n h =
      let c = cursor s n k (inside-kind s id at) h few in
      let t : TaskSet = task_of (S.slots s) in
      let range : Act = ClaimRange k t.cursor (min t.total (t.cursor + k)) in
      let gets = cond-true (ltb t.cursor t.total) range (ClaimUsed k) (lt-ltb t.cursor t.total (subst (λ m. m < t.total) is less)) in (
        ap₂ (claim_answer_of k) c.total c.cursor ∙ gets ∙ ap₂ (ClaimRange k) (sym is) (ap (λ m. min t.total (m + k)) (sym is) ∙ sym ends),
        c.after,
      )

  pub uses : (s id k : ℕ) → p ≡ Inside s id → k ≤ MOST_CLAIM → (task_of (S.slots s)).total ≤ (task_of (S.slots s)).cursor
      → Reads d S w (ClaimUsed k) (Inside s id)
  uses s id k at few more n h =
      let c = cursor s n k (inside-kind s id at) h few in
      let t : TaskSet = task_of (S.slots s) in
      let range : Act = ClaimRange k t.cursor (min t.total (t.cursor + k)) in (
        ap₂ (claim_answer_of k) c.total c.cursor ∙ cond-false (ltb t.cursor t.total) range (ClaimUsed k) (le-ltb t.cursor t.total more),
        c.after,
      )

  -- ---- leaves

  pub leaves : can_leave p ≡ true → owes (S.slots (slot_of p)) w ≡ false → Reads d S w LeaveLeft p
  leaves can free n h =
      let there = within-slots d p (fit.within.places w) (not-free p can) in let most = fit.shape.slots.1 in
      let is : n ≡ at_word (slot_of p) + mark_at (S.slots (slot_of p)) w = h ∙ at-slot (S.slots (slot_of p)) w p (slot_of p) (leaves-at p can) in
      let z : mark_at (S.slots (slot_of p)) w ≡ 0 = no-mark (S.slots (slot_of p)) w free in
      let f = upd S.slots (slot_of p) (S.slots (slot_of p)) in (
        cond-true (ltb n 512) LeaveLeft (LeaveOwe (mark_in n)) (lt-ltb n 512 (omega arith)),
        sym (own-after d S w f (left p) ∙ nowhere (f (slot_of (left p))) w (left p) (left-away p (slot_of (left p)))),
      )

  pub owes-it : (id : ℕ) → can_leave p ≡ true → owes (S.slots (slot_of p)) w ≡ true → id ≡ id_of (S.slots (slot_of p)) → Reads d S w (LeaveOwe id) p
  owes-it id can owe named n h =
      let there = within-slots d p (fit.within.places w) (not-free p can) in let most = fit.shape.slots.1 in
      let is : n ≡ at_word (slot_of p) + mark_at (S.slots (slot_of p)) w = h ∙ at-slot (S.slots (slot_of p)) w p (slot_of p) (leaves-at p can) in
      let z : mark_at (S.slots (slot_of p)) w ≡ mark_for id =
      cond-true (owes (S.slots (slot_of p)) w) (mark_for (id_of (S.slots (slot_of p)))) 0 owe ∙ ap mark_for (sym named) in
      let q : mark_in n ≡ id = omega arith in (
        cond-false (ltb n 512) LeaveLeft (LeaveOwe (mark_in n)) (le-ltb n 512 (omega arith)) ∙ ap LeaveOwe q,
        sym (own-after d S w (upd S.slots (slot_of p) (S.slots (slot_of p))) (Owing (slot_of p) id)),
      )
