-- What the calls that end a task set read and write: shut, mark_next, sweep, pay.
use Rattle.std.proofs.Common.{◌≡◌, ◌≢◌, ℕ, ◌+◌, ◌-◌, ◌^◌, ◌<◌, ◌⊎◌, Bool, true, false, cond, eqb}
use Rattle.std.proofs.Common.{not, ◌&&◌, bit_or, refl, sym, ap, ap₂, ◌∙◌, subst, ⊎_elim, eq-eqb}
use Rattle.std.proofs.Common.{ne_eqb, arith}
use Rattle.std.proofs.lemmas.Bool.{cond-true, cond-false}
use mathlib.Core.Bool.{true≢false}
use prog.Atomic.{either}
use Rattle.slot_history.specs.declared.shape.Shape.{Shape}
use Rattle.slot_history.specs.declared.act.Act.TheVariants.{ShutWon, ShutLost, PayLast, PayDone}
use Rattle.slot_history.specs.declared.act.Act.TheVariants.{MarkMarked, MarkMissed, SweepLast}
use Rattle.slot_history.specs.declared.act.Act.TheVariants.{SweepOthers}
use Rattle.slot_history.specs.declared.place.Place.{Place}
use Rattle.slot_history.specs.declared.place.Place.TheVariants.{Used, Asking, Owing}
use Rattle.slot_history.specs.Sets.{upd}
use Rattle.slot_history.specs.States.{Ending, SlotState, Shut, ObjectState, slot_of, id_of, is_at}
use Rattle.slot_history.specs.States.{is_open, is_shut, is_swept, owes}
use Rattle.slot_history.specs.Steps.{slot_after, next_asked, ended, shut_by}
use Rattle.slot_history.specs.Allowed.{debts, next_is_at}
use Rattle.slot_history.specs.Payments.{payments, marks}
use Rattle.slot_history.specs.Bounds.{IsPlaceWithin}
use Rattle.slot_history.specs.Table.{IsLed, nth_other}
use Rattle.slot_history.proofs.Sets.{upd-same, upd-cases}
use Rattle.slot_history.proofs.Others.{nth-other-differs}
use Rattle.slot_history.proofs.Coordinators.{led}
use Rattle.slot_history.proofs.Payments.{Counted, counted, debt-paid, payment-counts, IsOwed}
use Rattle.slot_history.proofs.Payments.{owed-slot, next-unmarked}
use Rattle.slot_history.proofs.SlotWords.{is-at-slot}
use Rattle.slot_words.specs.Encodings.{at_word, mark_for, zero_count}
use Rattle.slot_words.specs.Words.{counter_of, mark_at, worker_word}
use Rattle.slot_words.specs.Steps.{added, one_less}
use Rattle.slot_words.proofs.Slots.{no-mark}
use Rattle.slot_words.proofs.Counters.{unswept-counter, swept-counter}
use Rattle.slot_words.proofs.Fit.{IsFit}
use Rattle.slot_words.proofs.WorkerWords.{at-slot, unmarked-at}
use Rattle.slot_words.proofs.SlotWords.{shuts-first, shuts-again}
use Rattle.slot_words.proofs.Readings.{Reads, state-after, counter-after, other-after}

module _ (d : Shape) (S : ObjectState) (w : ℕ) (low : w < d.workers) (fit : IsFit d S) where
  abbrev p : Place
  p = S.places w

  pub wins : (s id : ℕ) → is_open (S.slots s) ≡ true → Reads d S w ShutWon (Used s id)
  wins s id open_ n h = let r = shuts-first w (S.slots s) open_ n h in (r.0, state-after d S w s (bit_or n 1) (shut_by w (S.slots s)) r.1)

  pub loses : (s id : ℕ) → is_shut (S.slots s) ≡ true → Reads d S w ShutLost (Used s id)
  loses s id shut_ n h = let r = shuts-again (S.slots s) shut_ n h in (r.0, state-after d S w s (bit_or n 1) (S.slots s) r.1)

  -- ---- payments

  -- the slot at which w has to pay
  record Pays (s id : ℕ) : Type 0 where
    is : IsOwed (S.slots s) w id
    count : Counted d is.task is.ending
    one : debts d (ended d w PayDone (Shut is.task is.ending)) + 1 ≡ debts d (Shut is.task is.ending)

  pays : (s id : ℕ) → p ≡ Owing s id → Pays s id
  pays s id at =
      let o = owed-slot d S fit.table w s id low at in record {
        is = o;
        count = counted d S fit.table s o.task o.ending o.slot;
        one = debt-paid d w o.task o.ending low o.owed;
      }

  pub pays-last : (s id : ℕ) → p ≡ Owing s id → is_swept (S.slots s) ≡ true → debts d (ended d w PayDone (S.slots s)) ≡ 0
      → Reads d S w PayLast (Owing s id)
  pays-last s id at swept none n h =
      let k = pays s id at in let o = k.is in let c = k.count in
      let sw : o.ending.swept ≡ true = sym (ap is_swept o.slot) ∙ swept in
      let rest : debts d (ended d w PayDone (Shut o.task o.ending)) ≡ 0 = sym (ap (λ x. debts d (ended d w PayDone x)) o.slot) ∙ none in
      let one = k.one in let owed = c.owed_is in
      let is : n ≡ 2 ^ 32 + c.owed = h ∙ ap (counter_of d) o.slot ∙ swept-counter d o.task o.ending c sw in
      let last : one_less n ≡ zero_count = omega arith in (
        cond-true (eqb n (zero_count + 1)) PayLast PayDone (eq-eqb n (zero_count + 1) (omega arith)),
        counter-after d S w s (one_less n) (slot_after d w PayLast (S.slots s)) (last ∙ sym (ap (λ x. counter_of d (slot_after d w PayLast x)) o.slot)),
      )

  -- the counter of a slot at which w pays and is not the last
  record Lowered (n : ℕ) (x : SlotState) : Type 0 where
    more : n ≢ zero_count + 1
    after : one_less n ≡ counter_of d x

  pays-swept : (s id n : ℕ) (k : Pays s id) → k.is.ending.swept ≡ true → n ≡ counter_of d (S.slots s) → 0 < debts d (ended d w PayDone (S.slots s))
      → Lowered n (ended d w PayDone (Shut k.is.task k.is.ending))
  pays-swept s id n k sw h more =
      let o = k.is in let c = k.count in
      let g : Ending = record o.ending { paid = upd o.ending.paid w true } in
      let is : n ≡ 2 ^ 32 + c.owed = h ∙ ap (counter_of d) o.slot ∙ swept-counter d o.task o.ending c sw in
      let rest : 0 < debts d (Shut o.task g) = subst (λ x. 0 < debts d (ended d w PayDone x)) o.slot more in
      let one : debts d (Shut o.task g) + 1 ≡ debts d (Shut o.task o.ending) = k.one in
      let paid : payments d (Shut o.task g) ≡ payments d (Shut o.task o.ending) + 1 = payment-counts d w o.ending low o.owed in
      let owed = c.owed_is in let was = c.paid_is in let marks_are = c.marked_is in let sum = c.sum in
      let few = c.few in let most = fit.shape.workers.1 in
      let v : counter_of d (Shut o.task g) ≡ 2 ^ 32 + marks d (Shut o.task o.ending) - payments d (Shut o.task g) =
      ap (λ b. 2 ^ 32 + cond b (marks d (Shut o.task o.ending)) 0 - payments d (Shut o.task g)) sw in
      record { more = λ e. omega arith; after = omega arith }

  pays-unswept : (s id n : ℕ) (k : Pays s id) → k.is.ending.swept ≡ false → n ≡ counter_of d (S.slots s)
      → Lowered n (ended d w PayDone (Shut k.is.task k.is.ending))
  pays-unswept s id n k sw h =
      let o = k.is in let c = k.count in
      let g : Ending = record o.ending { paid = upd o.ending.paid w true } in
      let is : n ≡ 2 ^ 32 - c.paid = h ∙ ap (counter_of d) o.slot ∙ unswept-counter d o.task o.ending c sw in
      let one : debts d (Shut o.task g) + 1 ≡ debts d (Shut o.task o.ending) = k.one in
      let paid : payments d (Shut o.task g) ≡ payments d (Shut o.task o.ending) + 1 = payment-counts d w o.ending low o.owed in
      let owed = c.owed_is in let was = c.paid_is in let sum = c.sum in let few = c.few in let most = fit.shape.workers.1 in
      let v : counter_of d (Shut o.task g) ≡ 2 ^ 32 + 0 - payments d (Shut o.task g) =
      ap (λ b. 2 ^ 32 + cond b (marks d (Shut o.task o.ending)) 0 - payments d (Shut o.task g)) sw in
      record { more = λ e. omega arith; after = omega arith }

  lowered : (s id n : ℕ) (k : Pays s id) → n ≡ counter_of d (S.slots s) → (b : Bool) → k.is.ending.swept ≡ b
      → (is_swept (S.slots s) ≡ false) ⊎ (0 < debts d (ended d w PayDone (S.slots s))) → Lowered n (ended d w PayDone (Shut k.is.task k.is.ending))
  lowered s id n k h true sw more =
      pays-swept s id n k sw h (⊎_elim (λ e. absurd (true≢false (sym sw ∙ sym (ap is_swept k.is.slot) ∙ e))) (λ z. z) more)
  lowered s id n k h false sw more = pays-unswept s id n k sw h

  pub pays-one : (s id : ℕ) → p ≡ Owing s id → (is_swept (S.slots s) ≡ false) ⊎ (0 < debts d (ended d w PayDone (S.slots s)))
      → Reads d S w PayDone (Owing s id)
  pays-one s id at more n h =
      let k = pays s id at in
      let r = lowered s id n k h k.is.ending.swept refl more in (
        cond-false (eqb n (zero_count + 1)) PayLast PayDone (ne_eqb n (zero_count + 1) r.more),
        counter-after d S w s (one_less n) (slot_after d w PayDone (S.slots s)) (r.after ∙ sym (ap (λ x. counter_of d (slot_after d w PayDone x)) k.is.slot)),
      )

  -- ---- sweeps

  -- the slot whose end w leads
  record Leads (s id n m : ℕ) : Type 0 where
    lead : IsLed d (S.slots s) (record { worker = w; id = id; asked = n; marked = m })
    count : Counted d lead.task lead.ending

  leading : (s id n m : ℕ) → p ≡ Asking s id n m → Leads s id n m
  leading s id n m at =
      let l = led d S fit.table w s id n m low at in record { lead = l; count = counted d S fit.table s l.task l.ending l.slot }

  -- what a sweep finds: the counter is minus the payments, and so many were marked
  record Swept (s n m : ℕ) : Type 0 where
    paid : ℕ
    word : n ≡ 2 ^ 32 - paid
    sum : paid + debts d (S.slots s) ≡ m
    few : m < 64

  sweep-word : (s id k m n : ℕ) → p ≡ Asking s id k m → n ≡ counter_of d (S.slots s) → Swept s n m
  sweep-word s id k m n at h =
      let l = leading s id k m at in let c = l.count in let t = l.lead.task in let e = l.lead.ending in
      let owed = c.owed_is in let marks_are = c.marked_is in let sum = c.sum in let few = c.few in let most = fit.shape.workers.1 in
      let mine = l.lead.asked.marks in
      let named : debts d (S.slots s) ≡ debts d (Shut t e) = ap (debts d) l.lead.slot in record {
        paid = c.paid;
        word = h ∙ ap (counter_of d) l.lead.slot ∙ unswept-counter d t e c l.lead.unswept;
        sum = omega arith;
        few = omega arith;
      }

  pub sweeps-last : (s id k m : ℕ) → p ≡ Asking s id k m → debts d (S.slots s) ≡ 0 → Reads d S w SweepLast (Asking s id k m)
  sweeps-last s id k m at none n h =
      let l = leading s id k m at in
      let r = sweep-word s id k m n at h in let is = r.word in let sum = r.sum in let few = r.few in
      let z : added m n ≡ zero_count = omega arith in (
        cond-true (eqb (added m n) zero_count) SweepLast (SweepOthers (added m n - zero_count)) (eq-eqb (added m n) zero_count z),
        counter-after d S w s (added m n) (slot_after d w SweepLast (S.slots s)) (z ∙ sym (ap (λ x. counter_of d (slot_after d w SweepLast x)) l.lead.slot)),
      )

  pub sweeps-on : (s id k m o : ℕ) → p ≡ Asking s id k m → 0 < o → o ≡ debts d (S.slots s) → Reads d S w (SweepOthers o) (Asking s id k m)
  sweeps-on s id k m o at some_debt owed n h =
      let l = leading s id k m at in let t = l.lead.task in let e = l.lead.ending in let c = l.count in
      let r = sweep-word s id k m n at h in let is = r.word in let sum = r.sum in let few = r.few in
      let rest : added m n - zero_count ≡ o = omega arith in
      let g : Ending = record e { swept = true } in
      let paid = c.paid_is in let marks_are = c.marked_is in let all = c.sum in let deb = c.owed_is in
      let mine = l.lead.asked.marks in
      let named : debts d (S.slots s) ≡ debts d (Shut t e) = ap (debts d) l.lead.slot in
      let v : counter_of d (Shut t g) ≡ 2 ^ 32 + marks d (Shut t e) - payments d (Shut t e) = refl in
      let z : added m n ≡ counter_of d (Shut t g) = omega arith in
      let after = sym (ap (λ x. counter_of d (slot_after d w (SweepOthers o) x)) l.lead.slot) in (
        cond-false (eqb (added m n) zero_count) SweepLast (SweepOthers (added m n - zero_count)) (ne_eqb (added m n) zero_count (λ q. omega arith))
            ∙ ap SweepOthers rest,
        counter-after d S w s (added m n) (slot_after d w (SweepOthers o) (S.slots s)) (z ∙ after),
      )

  -- ---- marks

  -- the worker that is asked next
  record Asks (s id n m : ℕ) : Type 0 where
    lead : IsLed d (S.slots s) (record { worker = w; id = id; asked = n; marked = m })
    other : nth_other w n ≢ w
    is_next : next_asked d lead.ending ≡ nth_other w n
    unmarked : lead.ending.marked (nth_other w n) ≡ false
    unpaid : lead.ending.paid (nth_other w n) ≡ false

  asking : (s id n m : ℕ) → p ≡ Asking s id n m → n + 1 < d.workers → Asks s id n m
  asking s id n m at more =
      let l = led d S fit.table w s id n m low at in let e = l.ending in
      let u = next-unmarked d (S.slots s) (record { worker = w; id = id; asked = n; marked = m }) more (fit.table.chain s) l in record {
        lead = l;
        other = nth-other-differs w n;
        is_next = l.next more;
        unmarked = subst (λ v. e.marked v ≡ false) (l.next more) u.marked;
        unpaid = subst (λ v. e.paid v ≡ false) (l.next more) u.paid;
      }

  there-next : (s id n m : ℕ) (k : Asks s id n m) (b : Bool) → next_is_at d S s (S.slots s) ≡ b → is_at (S.places (nth_other w n)) s ≡ b
  there-next s id n m k b h = ap (λ u. is_at (S.places u) s) (sym k.is_next) ∙ sym (ap (next_is_at d S s) k.lead.slot) ∙ h

  pub marks-it : (s id n m : ℕ) → p ≡ Asking s id n m → n + 1 < d.workers → next_is_at d S s (S.slots s) ≡ true
      → Reads d S w MarkMarked (Asking s id n m)
  marks-it s id n m at more meets N h =
      let k = asking s id n m at more in let e = k.lead.ending in let t = k.lead.task in
      let v : ℕ = nth_other w n in
      let q : Place = S.places v in
      let there : is_at q s ≡ true = there-next s id n m k true meets in
      let at_s : slot_of q ≡ s = is-at-slot q s there in
      let free : owes (S.slots s) v ≡ false = ap (λ x. owes x v) k.lead.slot ∙ ap (λ b. b && not (e.paid v)) k.unmarked in
      let none : at_word s + 0 ≡ at_word s = omega arith in
      let is : N ≡ at_word s = h ∙ at-slot (S.slots (slot_of q)) v q s there ∙ ap (λ x. at_word s + mark_at (S.slots x) v) at_s
      ∙ ap (λ m. at_word s + m) (no-mark (S.slots s) v free) ∙ none in
      let y : SlotState = slot_after d w MarkMarked (S.slots s) in
      let owe : owes y v ≡ true = ap (λ x. owes (slot_after d w MarkMarked x) v) k.lead.slot ∙ ap (λ u. upd e.marked u true v && not (e.paid v)) k.is_next
      ∙ ap₂ (λ a b. a && not b) (upd-same e.marked v true) k.unpaid in
      let named : id_of y ≡ id = ap (λ x. id_of (slot_after d w MarkMarked x)) k.lead.slot ∙ k.lead.named in
      let after : worker_word (upd S.slots s y (slot_of q)) v q ≡ at_word s + mark_for id =
      at-slot (upd S.slots s y (slot_of q)) v q s there ∙ ap (λ r. at_word s + mark_at (upd S.slots s y r) v) at_s
      ∙ ap (λ x. at_word s + mark_at x v) (upd-same S.slots s y)
      ∙ ap (λ m. at_word s + m) (cond-true (owes y v) (mark_for (id_of y)) 0 owe ∙ ap mark_for named) in
      let hit : eqb N (at_word s) ≡ true = eq-eqb N (at_word s) is in (
        cond-true (eqb N (at_word s)) MarkMarked MarkMissed hit,
        ap (λ b. either b (at_word s + mark_for id) N) hit ∙ sym (other-after d S w (upd S.slots s y) (Asking s id (n + 1) (m + 1)) v k.other ∙ after),
      )

  pub misses : (s id n m : ℕ) → p ≡ Asking s id n m → n + 1 < d.workers → next_is_at d S s (S.slots s) ≡ false
      → Reads d S w MarkMissed (Asking s id n m)
  misses s id n m at more away N h =
      let k = asking s id n m at more in
      let v : ℕ = nth_other w n in
      let q : Place = S.places v in
      let gone : is_at q s ≡ false = there-next s id n m k false away in
      let in_s : s < d.slots = subst (λ r. IsPlaceWithin d r) at (fit.within.places w) in
      let most = fit.shape.slots.1 in
      let no : N ≢ at_word s = λ is. true≢false (sym (unmarked-at (S.slots (slot_of q)) v q s (omega arith) (sym h ∙ is)) ∙ gone) in
      let miss : eqb N (at_word s) ≡ false = ne_eqb N (at_word s) no in
      let y : SlotState = slot_after d w MarkMissed (S.slots s) in
      let same : mark_at y v ≡ mark_at (S.slots s) v =
      ap (λ x. mark_at (slot_after d w MarkMissed x) v) k.lead.slot ∙ sym (ap (λ x. mark_at x v) k.lead.slot) in
      let after : worker_word (upd S.slots s y (slot_of q)) v q ≡ worker_word (S.slots (slot_of q)) v q =
      ap (λ m. cond (is_at q (slot_of q)) (at_word (slot_of q) + m) 0) (upd-cases S.slots s y (slot_of q) (λ x. mark_at x v ≡ mark_at (S.slots (slot_of q)) v)
      (λ e. same ∙ ap (λ r. mark_at (S.slots r) v) (sym e)) (λ ne. refl)) in (
        cond-false (eqb N (at_word s)) MarkMarked MarkMissed miss,
        ap (λ b. either b (at_word s + mark_for id) N) miss ∙ h ∙ sym (other-after d S w (upd S.slots s y) (Asking s id (n + 1) (m + 0)) v k.other ∙ after),
      )
