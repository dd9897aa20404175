-- The calls that end and renew a task set keep what is kept of the object.
use Rattle.std.proofs.Common.{◌≡◌, ◌≢◌, ℕ, ◌+◌, ◌*◌, ◌<◌, ◌≤◌, ◌⊎◌, Bool, true, false, cond, eqb, not, ◌&&◌, ◌||◌, List, set}
use Rattle.std.proofs.Common.{◌^◌, None, unwrap_or, refl, sym, ap, ap₂, ◌∙◌, subst, inl, inr, ⊎_elim, eqb-true, arith, pos_of_ne-zero}
use Rattle.std.proofs.Math.Nat.{min-zero}
use mathlib.Core.Bool.{true≢false}
use Rattle.std.proofs.lemmas.Bool.{and_parts, eqb-false, false_from_ne_true}
use Rattle.slot_history.specs.declared.shape.Shape.{Shape}
use Rattle.slot_history.specs.declared.act.Act.{Act}
use Rattle.slot_history.specs.declared.act.Act.TheVariants.{SweepLast, SweepOthers, PayLast, PayDone, MarkMarked, MarkMissed, Install, Release}
use Rattle.slot_history.specs.declared.place.Place.{Place}
use Rattle.slot_history.specs.declared.place.Held.{Held}
use Rattle.slot_history.specs.declared.place.Place.TheVariants.{Asking, Owing, Holding}
use Rattle.slot_history.specs.Sets.{upd}
use Rattle.slot_history.specs.States.{TaskSet, Ending, SlotState, Empty, Reserved, Open, Shut, Finishing, slot_of, id_at, finalisation, is_shut, is_swept}
use Rattle.slot_history.specs.States.{is_at, owes, next_id, held_at}
use Rattle.slot_history.specs.Steps.{slot_after, moved, opened, ended, finalised_by, next_asked}
use Rattle.slot_history.specs.Allowed.{IsReady, debts, next_is_at}
use Rattle.slot_history.specs.Calls.{Call, Paying, MarkingNext, Sweeping, Installing, Releasing}
use Rattle.slot_history.specs.Table.{HasAsked, Meets, IsChainOf, duty_of, nth_other}
use Rattle.slot_history.proofs.Sets.{upd-same, upd-else, count-none, count-most, none-counted}
use Rattle.slot_history.proofs.Duties.{asking-leads, leads-slot, owing-else, paid-clear}
use Rattle.slot_history.proofs.Others.{next-is, next-unasked, nth-other-within}
use Rattle.slot_history.proofs.OneAnswer.{still-owed}
use Rattle.slot_history.proofs.Payments.{debt-paid, debt-marked, owed-slot}
use Rattle.slot_history.proofs.Holdings.{holder-slot}
use Rattle.plain_slots.specs.declared.object.PlainObject.TheInside.{Inside}
use Rattle.slot_station.specs.declared.reply.Mark.{Mark}
use Rattle.slot_station.specs.declared.reply.Sweep.{Sweep}
use Rattle.slot_station.specs.declared.reply.Sweep.TheVariants as sweep
use Rattle.slot_station.specs.declared.reply.Pay.{Pay}
use Rattle.slot_station.specs.declared.log.Logged.{Logged}
use Rattle.plain_slots.specs.declared.slot.Slot.{Slot}
use Rattle.plain_slots.specs.declared.slot.Slot.TheVariants as Slots
use Rattle.slot_station.specs.Answers.{finaliser_of, sweep_of, pay_of, mark_of}
use Rattle.plain_slots.specs.Slots.{shown, OfEach, pays_last}
use Rattle.plain_slots.specs.Objects.{HasSlots, IsObject}
use Rattle.slot_station.specs.Replies.{sweep_act, pay_act, mark_act}
use Rattle.slot_station.specs.Tokens.{IsHolder, SweepGives, PayGives}
use Rattle.plain_slots.proofs.Objects.{slots-set, slots-kept, debts-kept, debts-set}
use Rattle.plain_slots.proofs.Following.{Kept, Wrote, Spot, contents, now_of, tabled, writes}

-- the slot whose end a worker coordinates
leader : (o : Inside) (ok : Kept o) (w : ℕ) (c : Call) (p : Place) (k id n m : ℕ) → Spot o w c p k → p ≡ Asking k id n m
    → (t : TaskSet) × (e : Ending) × ((now_of o).slots k ≡ Shut t e) × (w ≡ e.coordinator) × HasAsked o.shape e n m
leader o ok w c p k id n m s at =
    let there : (now_of o).places w ≡ Asking k id n m = sym s.is ∙ at in
    let meets = subst (λ q. Meets o.shape k (duty_of ((now_of o).slots k) w) q) there ((tabled o ok).duty k w s.low) in
    let (e, duty, asked) = asking-leads o.shape k id n m (duty_of ((now_of o).slots k) w) meets in
    let (t, is, named, mine, unswept) = leads-slot ((now_of o).slots k) w id e duty in (t, e, is, mine, asked)

-- ---- sweep

sweep-cases : (o : Inside) (ok : Kept o) (w : ℕ) (p : Place) (k id n m : ℕ) → Spot o w Sweeping p k → p ≡ Asking k id n m
    → n + 1 ≡ o.shape.workers
    → (t : TaskSet) (e : Ending) → (now_of o).slots k ≡ Shut t e → (c : ℕ) → c ≡ debts o.shape ((now_of o).slots k)
    → (b : Bool) → eqb c 0 ≡ b → (y : Slot) → y ≡ cond b (shown (finalised_by w (Shut t e))) (shown (ended o.shape w (SweepOthers c) (Shut t e)))
    → (r : Sweep) → r ≡ cond b (sweep.Last (finaliser_of w p)) (sweep.Others c) → (a' : Act) → a' ≡ sweep_act r
    → (places : List Place) (log : List Logged) → Wrote o w a' places log
    → IsObject (record (contents o) { slots = set o.slots.items k y; places = places; log = log })
sweep-cases o ok w p k id n m s at all t e is c counts true zero_ y holds r answers a' act places log wrote =
    let d = o.shape in let S = now_of o in
    let none : debts d (S.slots k) ≡ 0 = sym counts ∙ eqb-true c 0 zero_ in
    writes o ok w s.low SweepLast a' (act ∙ ap sweep_act answers) (k, id, n, m, sym s.is ∙ at, all, none) places log wrote
    (λ v q f. refl, λ v q f. refl, λ j. refl, λ j. refl) k (s.slot ∙ ap slot_of s.is) (set o.slots.items k y) o.owing.items o.debts.items (
      subst (λ z. HasSlots d (set o.slots.items k z) (upd S.slots k (slot_after d w SweepLast (S.slots k))))
          (ap (λ x. shown (finalised_by w x)) is ∙ sym holds)
          (slots-set d o.slots.items S.slots k (slot_after d w SweepLast (S.slots k)) ok.slots_are s.in_slots),
      debts-kept d o.owing.items o.debts.items S.slots k (slot_after d w SweepLast (S.slots k)) ok.debts_are
          (λ v h. ap (λ x. owes (finalised_by w x) v) is ∙ sym (none-counted d.workers (owes (S.slots k)) none v h)),
    )
sweep-cases o ok w p k id n m s at all t e is c counts false some_ y holds r answers a' act places log wrote =
    let d = o.shape in let S = now_of o in
    let some : 0 < c = pos_of_ne-zero (eqb-false c 0 some_) in
    writes o ok w s.low (SweepOthers c) a' (act ∙ ap sweep_act answers) (k, id, n, m, sym s.is ∙ at, all, some, counts) places log wrote
    (λ v q f. refl, λ v q f. refl, λ j. refl, λ j. refl) k (s.slot ∙ ap slot_of s.is) (set o.slots.items k y) o.owing.items o.debts.items (
      subst (λ z. HasSlots d (set o.slots.items k z) (upd S.slots k (slot_after d w (SweepOthers c) (S.slots k))))
          (ap (λ x. shown (ended d w (SweepOthers c) x)) is ∙ sym holds)
          (slots-set d o.slots.items S.slots k (slot_after d w (SweepOthers c) (S.slots k)) ok.slots_are s.in_slots),
      debts-kept d o.owing.items o.debts.items S.slots k (slot_after d w (SweepOthers c) (S.slots k)) ok.debts_are
          (λ v h. ap (λ x. owes (ended d w (SweepOthers c) x) v) is ∙ ap (λ x. owes x v) (sym is)),
    )

pub sweep-after : (o : Inside) (ok : Kept o) (w : ℕ) (p : Place) (k : ℕ) → Spot o w Sweeping p k → (c : ℕ) → c ≡ debts o.shape ((now_of o).slots k)
    → (y : Slot) → OfEach (shown ((now_of o).slots k)) (λ x. (d : Shape) → is_shut x ≡ true
    → y ≡ cond (eqb c 0) (shown (finalised_by w x)) (shown (ended d w (SweepOthers c) x))) → (r : Sweep) → r ≡ sweep_of w p c → (a' : Act)
    → a' ≡ sweep_act r
    → (places : List Place) (log : List Logged) → Wrote o w a' places log
    → IsObject (record (contents o) { slots = set o.slots.items k y; places = places; log = log })
sweep-after o ok w p k s c counted y holds r answers a' act places log wrote =
    let (j, id, n, m, is_at, all) = s.may in
    let at : p ≡ Asking k id n m = is_at ∙ ap (λ i. Asking i id n m) (sym (s.slot ∙ ap slot_of is_at)) in
    let (t, e, is, mine, asked) = leader o ok w Sweeping p k id n m s at in
    sweep-cases o ok w p k id n m s at all t e is c counted (eqb c 0) refl y
    (holds (Shut t e) (ap shown (sym is)) o.shape refl) r answers a' act places log wrote

finaliser-holds : (w : ℕ) (p : Place) (d : Shape) → IsHolder d w (Holding (slot_of p) (finalisation (id_at p))) (finaliser_of w p)
finaliser-holds w p d = record { worker = refl; noted = 0; total = None; place = refl }

sweep-holds : (d : Shape) (w : ℕ) (p : Place) (c : ℕ) (b : Bool)
    → SweepGives d w (moved d (sweep_act (cond b (sweep.Last (finaliser_of w p)) (sweep.Others c))) p) (cond b (sweep.Last (finaliser_of w p)) (sweep.Others c))
sweep-holds d w p c true = finaliser-holds w p d
sweep-holds d w p c false = tt

pub sweep-gives : (d : Shape) (w : ℕ) (p : Place) (c : ℕ) (r : Sweep) → r ≡ sweep_of w p c → SweepGives d w (moved d (sweep_act r) p) r
sweep-gives d w p c r is = subst (λ m. SweepGives d w (moved d (sweep_act m) p) m) (sym is) (sweep-holds d w p c (eqb c 0))

-- ---- pay

-- nobody has to pay once the task set is being finalised
no-debts : (d : Shape) (w : ℕ) (t : TaskSet) (e : Ending) → debts d (finalised_by w (Shut t e)) ≡ 0
no-debts d w t e = count-none d.workers (owes (finalised_by w (Shut t e))) (λ v h. refl)

pay-cases : (o : Inside) (ok : Kept o) (w : ℕ) (p : Place) (k id : ℕ) → Spot o w Paying p k → p ≡ Owing k id → (t : TaskSet) (e : Ending)
    → (now_of o).slots k ≡ Shut t e → (c : ℕ) → c ≡ debts o.shape (ended o.shape w PayDone (Shut t e))
    → (owing : List Bool) → owing ≡ set o.owing.items (k * o.shape.workers + w) false → (counts : List ℕ) → counts ≡ set o.debts.items k c
    → (b : Bool) → pays_last c (Shut t e) ≡ b → (y : Slot)
    → y ≡ cond b (shown (finalised_by w (Shut t e))) (shown (Shut t e)) → (r : Pay) → r ≡ pay_of w p b → (a' : Act) → a' ≡ pay_act r
    → (places : List Place) (log : List Logged) → Wrote o w a' places log
    → IsObject (record (contents o) { slots = set o.slots.items k y; owing = owing; debts = counts; places = places; log = log })
pay-cases o ok w p k id s at t e is c counted owing sets counts puts true last y holds r answers a' act places log wrote =
    let d = o.shape in let S = now_of o in
    let none : debts d (ended d w PayDone (S.slots k)) ≡ 0 = ap (λ x. debts d (ended d w PayDone x)) is ∙ sym counted ∙ eqb-true c 0
    (and_parts (is_swept (Shut t e)) (eqb c 0) last).1 in
    let swept : is_swept (S.slots k) ≡ true = ap is_swept is ∙ (and_parts (is_swept (Shut t e)) (eqb c 0) last).0 in
    let clear : (v : ℕ) → v < d.workers → v ≢ w → owes (slot_after d w PayLast (S.slots k)) v ≡ owes (S.slots k) v =
    λ v h ne. ap (λ x. owes (finalised_by w x) v) is ∙ sym (none-counted d.workers (owes (ended d w PayDone (S.slots k))) none v h) ∙ ap
    (λ x. owes (ended d w PayDone x) v) is ∙ owing-else d e v w ne ∙ ap (λ x. owes x v) (sym is) in
    writes o ok w s.low PayLast a' (act ∙ ap pay_act answers) (k, id, sym s.is ∙ at, swept, none) places log wrote
    (λ v q f. refl, λ v q f. refl, λ j. refl, λ j. refl) k (s.slot ∙ ap slot_of s.is) (set o.slots.items k y) owing counts (
      subst (λ z. HasSlots d (set o.slots.items k z) (upd S.slots k (slot_after d w PayLast (S.slots k))))
          (ap (λ x. shown (finalised_by w x)) is ∙ sym holds)
          (slots-set d o.slots.items S.slots k (slot_after d w PayLast (S.slots k)) ok.slots_are s.in_slots),
      rw (sets, puts) (debts-set d o.owing.items o.debts.items S.slots k w (slot_after d w PayLast (S.slots k)) false c ok.debts_are s.in_slots s.low
          (ap (λ x. owes (finalised_by w x) w) is) clear
          (eqb-true c 0 (and_parts (is_swept (Shut t e)) (eqb c 0) last).1 ∙ sym (ap (λ x. debts d (finalised_by w x)) is ∙ no-debts d w t e))),
    )
pay-cases o ok w p k id s at t e is c counted owing sets counts puts false more y holds r answers a' act places log wrote =
    let d = o.shape in let S = now_of o in
    let why : (is_swept (S.slots k) ≡ false) ⊎ (0 < debts d (ended d w PayDone (S.slots k))) =
    ⊎_elim (λ u. inl (ap is_swept is ∙ u)) (λ u. inr (subst (λ j. 0 < j) (counted ∙ ap (λ x. debts d (ended d w PayDone x)) (sym is)) u))
    (still-owed (is_swept (Shut t e)) c more) in
    writes o ok w s.low PayDone a' (act ∙ ap pay_act answers) (k, id, sym s.is ∙ at, why) places log wrote
    (λ v q f. refl, λ v q f. refl, λ j. refl, λ j. refl) k (s.slot ∙ ap slot_of s.is) (set o.slots.items k y) owing counts (
      subst (λ z. HasSlots d (set o.slots.items k z) (upd S.slots k (slot_after d w PayDone (S.slots k))))
          (ap (λ x. shown (ended d w PayDone x)) is ∙ sym holds)
          (slots-set d o.slots.items S.slots k (slot_after d w PayDone (S.slots k)) ok.slots_are s.in_slots),
      rw (sets, puts) (debts-set d o.owing.items o.debts.items S.slots k w (slot_after d w PayDone (S.slots k)) false c ok.debts_are s.in_slots s.low
          (ap (λ x. owes (ended d w PayDone x) w) is ∙ paid-clear d e w)
          (λ v h ne. ap (λ x. owes (ended d w PayDone x) v) is ∙ owing-else d e v w ne ∙ ap (λ x. owes x v) (sym is))
          (counted ∙ ap (λ x. debts d (ended d w PayDone x)) (sym is))),
    )

pub pay-after : (o : Inside) (ok : Kept o) (w : ℕ) (p : Place) (k : ℕ) → Spot o w Paying p k → (owing : List Bool)
    → owing ≡ set o.owing.items (k * o.shape.workers + w) false → (old c : ℕ) → old ≡ debts o.shape ((now_of o).slots k) → c + 1 ≡ old
    → (y : Slot) → OfEach (shown ((now_of o).slots k)) (λ x. is_shut x ≡ true → y ≡ cond (pays_last c x) (shown (finalised_by w x)) (shown x))
    → (r : Pay) → OfEach (shown ((now_of o).slots k)) (λ x. r ≡ pay_of w p (pays_last c x)) → (a' : Act) → a' ≡ pay_act r
    → (places : List Place) (log : List Logged) → Wrote o w a' places log
    → IsObject (record (contents o) { slots = set o.slots.items k y; owing = owing; debts = set o.debts.items k c; places = places; log = log })
pay-after o ok w p k s owing sets old c had paid y holds r answers a' act places log wrote =
    let d = o.shape in let S = now_of o in
    let (j, id, is_at) = s.may in
    let at : p ≡ Owing k id = is_at ∙ ap (λ i. Owing i id) (sym (s.slot ∙ ap slot_of is_at)) in
    let owed = owed-slot d S (tabled o ok) w k id s.low (sym s.is ∙ at) in
    let t : TaskSet = owed.task in let e : Ending = owed.ending in
    let less : debts d (ended d w PayDone (Shut t e)) + 1 ≡ debts d (Shut t e) = debt-paid d w t e s.low owed.owed in
    let was : debts d (Shut t e) ≡ old = sym (had ∙ ap (debts d) owed.slot) in
    let rest : c ≡ debts d (ended d w PayDone (Shut t e)) = omega arith in
    pay-cases o ok w p k id s at t e owed.slot c rest owing sets (set o.debts.items k c) refl (pays_last c (Shut t e)) refl y
    (holds (Shut t e) (ap shown (sym owed.slot)) refl) r (answers (Shut t e) (ap shown (sym owed.slot))) a' act places log wrote

-- at the slot of a worker that pays someone has to pay
pub one-owes : (o : Inside) (ok : Kept o) (w : ℕ) (p : Place) (k : ℕ) → Spot o w Paying p k → (c : ℕ) → c ≡ debts o.shape ((now_of o).slots k) → 0 < c
one-owes o ok w p k s c is =
    let d = o.shape in let S = now_of o in
    let (j, id, is_at) = s.may in
    let at : p ≡ Owing k id = is_at ∙ ap (λ i. Owing i id) (sym (s.slot ∙ ap slot_of is_at)) in
    let owed = owed-slot d S (tabled o ok) w k id s.low (sym s.is ∙ at) in
    let less : debts d (ended d w PayDone (Shut owed.task owed.ending)) + 1 ≡ debts d (Shut owed.task owed.ending) =
    debt-paid d w owed.task owed.ending s.low owed.owed in
    let was : c ≡ debts d (Shut owed.task owed.ending) = is ∙ ap (debts d) owed.slot in omega arith

pay-holds : (d : Shape) (w : ℕ) (p : Place) (b : Bool) → PayGives d w (moved d (pay_act (pay_of w p b)) p) (pay_of w p b)
pay-holds d w p true = finaliser-holds w p d
pay-holds d w p false = tt

pub pay-gives : (d : Shape) (w : ℕ) (p : Place) (b : Bool) (r : Pay) → r ≡ pay_of w p b → PayGives d w (moved d (pay_act r) p) r
pay-gives d w p b r is = subst (λ m. PayGives d w (moved d (pay_act m) p) m) (sym is) (pay-holds d w p b)

-- ---- mark_next

mark-cases : (o : Inside) (ok : Kept o) (w : ℕ) (p : Place) (k id n m v : ℕ) → Spot o w MarkingNext p k → p ≡ Asking k id n m → n + 1 < o.shape.workers
    → (t : TaskSet) (e : Ending) → (now_of o).slots k ≡ Shut t e → v < o.shape.workers → v ≡ next_asked o.shape e → e.marked v ≡ false
    → e.paid v ≡ false → (b : Bool) → b ≡ is_at ((now_of o).places v) k
    → (owing : List Bool) → owing ≡ set o.owing.items (k * o.shape.workers + v) (b || owes (Shut t e) v)
    → (old : ℕ) → old ≡ debts o.shape (Shut t e) → (counts : List ℕ) → counts ≡ set o.debts.items k (cond b (old + 1) old)
    → (r : Mark) → r ≡ mark_of b → (a' : Act) → a' ≡ mark_act r
    → (places : List Place) (log : List Logged) → Wrote o w a' places log
    → IsObject (record (contents o) { owing = owing; debts = counts; places = places; log = log })
mark-cases o ok w p k id n m v s at more t e is in_v nxt unmarked unpaid true there owing sets old had counts puts r answers a' act places log wrote =
    let d = o.shape in let S = now_of o in
    let x' : SlotState = slot_after d w MarkMarked (S.slots k) in
    let meets : next_is_at d S k (S.slots k) ≡ true = ap (next_is_at d S k) is ∙ ap (λ u. is_at (S.places u) k) (sym nxt) ∙ sym there in
    let now : owes x' v ≡ true = ap (λ x. owes (ended d w MarkMarked x) v) is ∙ ap (λ u. upd e.marked u true v && not (e.paid v)) (sym nxt) ∙ ap₂
    (λ a b. a && not b) (upd-same e.marked v true) unpaid in
    let others : (u : ℕ) → u < d.workers → u ≢ v → owes x' u ≡ owes (S.slots k) u = λ u h ne. ap (λ x. owes (ended d w MarkMarked x) u) is ∙ ap
    (λ j. upd e.marked j true u && not (e.paid u)) (sym nxt) ∙ ap (λ a. a && not (e.paid u)) (upd-else e.marked v true u ne) ∙ ap (λ x. owes x u)
    (sym is) in
    let more_debts : old + 1 ≡ debts d x' = ap (λ j. j + 1) had ∙ sym (ap (λ x. debts d (ended d w MarkMarked x)) is
    ∙ ap (λ u. debts d (Shut t (record e { marked = upd e.marked u true }))) (sym nxt) ∙ debt-marked d v t e in_v unmarked unpaid) in
    writes o ok w s.low MarkMarked a' (act ∙ ap mark_act answers) (k, id, n, m, sym s.is ∙ at, more, meets) places log wrote
    (λ v q f. refl, λ v q f. refl, λ j. refl, λ j. refl) k (s.slot ∙ ap slot_of s.is) o.slots.items owing counts (
      slots-kept d o.slots.items S.slots k x' ok.slots_are (ap (λ x. shown (ended d w MarkMarked x)) is ∙ ap shown (sym is)),
      rw (sets, puts) (debts-set d o.owing.items o.debts.items S.slots k v x' true (old + 1) ok.debts_are s.in_slots in_v now others more_debts),
    )
mark-cases o ok w p k id n m v s at more t e is in_v nxt unmarked unpaid false there owing sets old had counts puts r answers a' act places log wrote =
    let d = o.shape in let S = now_of o in
    let x' : SlotState = slot_after d w MarkMissed (S.slots k) in
    let meets : next_is_at d S k (S.slots k) ≡ false = ap (next_is_at d S k) is ∙ ap (λ u. is_at (S.places u) k) (sym nxt) ∙ sym there in
    let same : (u : ℕ) → owes x' u ≡ owes (S.slots k) u = λ u. ap (λ x. owes (ended d w MarkMissed x) u) is ∙ ap (λ x. owes x u) (sym is) in
    writes o ok w s.low MarkMissed a' (act ∙ ap mark_act answers) (k, id, n, m, sym s.is ∙ at, more, meets) places log wrote
    (λ v q f. refl, λ v q f. refl, λ j. refl, λ j. refl) k (s.slot ∙ ap slot_of s.is) o.slots.items owing counts (
      slots-kept d o.slots.items S.slots k x' ok.slots_are (ap (λ x. shown (ended d w MarkMissed x)) is ∙ ap shown (sym is)),
      rw (sets, puts) (debts-set d o.owing.items o.debts.items S.slots k v x' (owes (Shut t e) v) old ok.debts_are s.in_slots in_v
          (same v ∙ ap (λ x. owes x v) is) (λ u h ne. same u) (had ∙ sym (ap (λ x. debts d (ended d w MarkMissed x)) is))),
    )

-- a worker that marks, by its place
pub asks-at : (o : Inside) (w : ℕ) (p : Place) (k : ℕ) → Spot o w MarkingNext p k
    → (id n m : ℕ) × (p ≡ Asking k id n m) × (n + 1 < o.shape.workers)
asks-at o w p k s =
    let (j, id, n, m, is, more) = s.may in
    (id, n, m, is ∙ ap (λ i. Asking i id n m) (sym (s.slot ∙ ap slot_of is)), more)

-- the worker that is asked next
pub next-worker : (o : Inside) (w : ℕ) (p : Place) (k n : ℕ) → Spot o w MarkingNext p k → n + 1 < o.shape.workers → nth_other w n < o.shape.workers
next-worker o w p k n s more = nth-other-within w n o.shape.workers s.low more

pub mark-after : (o : Inside) (ok : Kept o) (w : ℕ) (p : Place) (k id n m : ℕ) → Spot o w MarkingNext p k → p ≡ Asking k id n m → n + 1 < o.shape.workers
    → (b : Bool) → b ≡ is_at ((now_of o).places (nth_other w n)) k → (i : ℕ) → i ≡ k * o.shape.workers + nth_other w n → (was : Bool)
    → was ≡ owes ((now_of o).slots k) (nth_other w n) → (old : ℕ) → old ≡ debts o.shape ((now_of o).slots k)
    → (r : Mark) → r ≡ mark_of b → (a' : Act) → a' ≡ mark_act r
    → (places : List Place) (log : List Logged) → Wrote o w a' places log
    → IsObject (record (contents o) {
      owing = set o.owing.items i (b || was);
      debts = set o.debts.items k (cond b (old + 1) old);
      places = places;
      log = log;
    })
mark-after o ok w p k id n m s at more b there i index was owed old had r answers a' act places log wrote =
    let (t, e, is, mine, asked) = leader o ok w MarkingNext p k id n m s at in
    let chain = subst (IsChainOf o.shape) is ((tabled o ok).chain k) in
    let v = nth_other w n in
    let nxt : v ≡ next_asked o.shape e = ap (λ u. nth_other u n) mine ∙ sym (next-is o.shape e n m asked chain.coordinator more) in
    let unasked : e.asked v ≡ false = ap (λ u. e.asked (nth_other u n)) mine ∙ next-unasked o.shape e n m asked in
    let unmarked : e.marked v ≡ false = false_from_ne_true (e.marked v) (λ h. true≢false (sym (chain.marked v h) ∙ unasked)) in
    let unpaid : e.paid v ≡ false = false_from_ne_true (e.paid v) (λ h. true≢false (sym (chain.paid v h) ∙ unmarked)) in
    mark-cases o ok w p k id n m v s at more t e is (nth-other-within w n o.shape.workers s.low more) nxt unmarked unpaid b there _
    (ap (λ j. set o.owing.items j (b || was)) index ∙ ap (λ a. set o.owing.items (k * o.shape.workers + v) (b || a)) (owed ∙ ap (λ x. owes x v) is))
    old (had ∙ ap (debts o.shape) is) _ refl r
    answers a' act places log wrote

-- one debt more is within its type
pub count-fits : (o : Inside) (ok : Kept o) (k : ℕ) (c : ℕ) → c ≡ debts o.shape ((now_of o).slots k) → c + 1 < 2 ^ 32
count-fits o ok k c is =
    let few : c ≤ o.shape.workers = rw is (count-most o.shape.workers (owes ((now_of o).slots k))) in
    let most = ok.shape.workers.1 in omega arith

-- ---- install and release

open-shown : (id total : ℕ) → Slots.Open (record { id = id; total = total; next = 0 }) ≡ shown (Open (record { id = id; total = total; cursor = 0 }))
open-shown id total = ap (λ n. Slots.Open (record { id = id; total = total; next = n })) (sym (min-zero total))

install-with : (o : Inside) (ok : Kept o) (w : ℕ) (p : Place) (k id : ℕ) (h : Held) → Spot o w (Installing id) p k → p ≡ Holding k h → IsReady h
    → id ≡ next_id h
    → (x : SlotState) → (now_of o).slots k ≡ x → ((v : ℕ) → owes x v ≡ false)
    → opened id x ≡ Open (record { id = id; total = unwrap_or h.total 0; cursor = 0 })
    → (places : List Place) (log : List Logged) → Wrote o w (Install id) places log
    → IsObject (record (contents o) {
      slots = set o.slots.items k (Slots.Open (record { id = id; total = unwrap_or h.total 0; next = 0 }));
      places = places;
      log = log;
    })
install-with o ok w p k id h s at ready named x is clear opens places log wrote =
    let d = o.shape in let S = now_of o in
    let after : slot_after d w (Install id) (S.slots k) ≡ Open (record { id = id; total = unwrap_or h.total 0; cursor = 0 }) = ap (opened id) is ∙ opens in
    writes o ok w s.low (Install id) (Install id) refl (k, h, sym s.is ∙ at, ready, named) places log wrote
    (λ v q f. refl, λ v q f. refl, λ j. refl, λ j. refl) k (s.slot ∙ ap slot_of s.is) _ o.owing.items o.debts.items (
      subst (λ z. HasSlots d (set o.slots.items k z) (upd S.slots k (slot_after d w (Install id) (S.slots k))))
          (ap shown after ∙ sym (open-shown id (unwrap_or h.total 0)))
          (slots-set d o.slots.items S.slots k (slot_after d w (Install id) (S.slots k)) ok.slots_are s.in_slots),
      debts-kept d o.owing.items o.debts.items S.slots k (slot_after d w (Install id) (S.slots k)) ok.debts_are
          (λ v u. ap (λ y. owes y v) after ∙ sym (clear v) ∙ ap (λ y. owes y v) (sym is)),
    )

pub install-after : (o : Inside) (ok : Kept o) (w : ℕ) (p : Place) (k id total : ℕ) → Spot o w (Installing id) p k → total ≡ unwrap_or (held_at p).total 0
    → (places : List Place) (log : List Logged) → Wrote o w (Install id) places log
    → IsObject (record (contents o) {
      slots = set o.slots.items k (Slots.Open (record { id = id; total = total; next = 0 }));
      places = places;
      log = log;
    })
install-after o ok w p k id total s set_to places log wrote =
    let (j, h, is_at, ready, named) = s.may in
    let at : p ≡ Holding k h = is_at ∙ ap (λ i. Holding i h) (sym (s.slot ∙ ap slot_of is_at)) in
    let same : total ≡ unwrap_or h.total 0 = set_to ∙ ap (λ q. unwrap_or (held_at q).total 0) is_at in
    subst (λ t. IsObject (record (contents o) {
      slots = set o.slots.items k (Slots.Open (record { id = id; total = t; next = 0 }));
      places = places;
      log = log;
    })) (sym same)
    (⊎_elim (λ is. install-with o ok w p k id h s at ready named (Reserved w h) is (λ v. refl) refl places log wrote)
    (λ (jd, is). install-with o ok w p k id h s at ready named (Finishing jd w h) is (λ v. refl) refl places log wrote)
    (holder-slot o.shape (now_of o) (tabled o ok) w k h s.low (sym s.is ∙ at)))

release-with : (o : Inside) (ok : Kept o) (w : ℕ) (p : Place) (k : ℕ) (h : Held) → Spot o w Releasing p k → p ≡ Holding k h
    → ((h.query ≡ None) ⊎ (0 < h.noted))
    → (x : SlotState) → (now_of o).slots k ≡ x → ((v : ℕ) → owes x v ≡ false)
    → (places : List Place) (log : List Logged) → Wrote o w Release places log
    → IsObject (record (contents o) { slots = set o.slots.items k Slots.Empty; places = places; log = log })
release-with o ok w p k h s at may x is clear places log wrote =
    let d = o.shape in let S = now_of o in
    writes o ok w s.low Release Release refl (k, h, sym s.is ∙ at, may) places log wrote (λ v q f. refl, λ v q f. refl, λ j. refl, λ j. refl) k
    (s.slot ∙ ap slot_of s.is) _ o.owing.items o.debts.items (
      slots-set d o.slots.items S.slots k Empty ok.slots_are s.in_slots,
      debts-kept d o.owing.items o.debts.items S.slots k Empty ok.debts_are (λ v u. sym (clear v) ∙ ap (λ y. owes y v) (sym is)),
    )

pub release-after : (o : Inside) (ok : Kept o) (w : ℕ) (p : Place) (k : ℕ) → Spot o w Releasing p k
    → (places : List Place) (log : List Logged) → Wrote o w Release places log
    → IsObject (record (contents o) { slots = set o.slots.items k Slots.Empty; places = places; log = log })
release-after o ok w p k s places log wrote =
    let (j, h, is_at, may) = s.may in
    let at : p ≡ Holding k h = is_at ∙ ap (λ i. Holding i h) (sym (s.slot ∙ ap slot_of is_at)) in
    ⊎_elim (λ is. release-with o ok w p k h s at may (Reserved w h) is (λ v. refl) places log wrote)
    (λ (jd, is). release-with o ok w p k h s at may (Finishing jd w h) is (λ v. refl) places log wrote)
    (holder-slot o.shape (now_of o) (tabled o ok) w k h s.low (sym s.is ∙ at))
