-- What a payment and a mark change in the numbers of a shut slot.
use Rattle.std.proofs.Common.{◌≡◌, ℕ, ◌+◌, ◌<◌, Bool, true, false, not, ◌&&◌, refl, sym, ap, ◌∙◌}
use Rattle.std.proofs.Common.{subst}
use mathlib.Core.Bool.{true≢false}
use Rattle.std.proofs.lemmas.Bool.{and_parts, not-true, false_from_ne_true}
use Rattle.slot_history.specs.declared.shape.Shape.{Shape}
use Rattle.slot_history.specs.declared.act.Act.TheVariants.{PayDone, MarkMarked}
use Rattle.slot_history.specs.declared.place.Place.TheVariants.{Owing}
use Rattle.slot_history.specs.Sets.{upd, count_of}
use Rattle.slot_history.specs.States.{TaskSet, Ending, Shut, ObjectState, SlotState, slot_of, owes}
use Rattle.slot_history.specs.Steps.{ended, next_asked, slot_after}
use Rattle.slot_history.specs.Allowed.{IsAllowed, debts}
use Rattle.slot_history.specs.Table.{owing, duty_of, Meets, IsChain, IsChainOf, Asker, IsLed}
use Rattle.slot_history.specs.Table.{IsTable}
use Rattle.slot_history.specs.Payments.{IsOnePaid, IsOneMarked, DebtsGoOn}
use Rattle.slot_history.proofs.Sets.{upd-cases, upd-same, count-more, count-same}
use Rattle.slot_history.proofs.Duties.{owing-owes, owes-slot, owing-else, paid-clear}
use Rattle.slot_history.proofs.Others.{nth-other-within, next-is, next-unasked}
use Rattle.slot_history.proofs.Places.{debts-within}
use Rattle.slot_history.proofs.Coordinators.{led}

-- ---- one payment more

-- one debt less
pub debt-paid : (d : Shape) (w : ℕ) (t : TaskSet) (e : Ending) → w < d.workers → owing e w ≡ true
    → debts d (ended d w PayDone (Shut t e)) + 1 ≡ debts d (Shut t e)
debt-paid d w t e low owe =
    let f : ℕ → Bool = owes (ended d w PayDone (Shut t e)) in
    let a : count_of d.workers (upd f w true) ≡ count_of d.workers f + 1 = count-more d.workers f w low (paid-clear d e w) in
    let b : count_of d.workers (upd f w true) ≡ count_of d.workers (owing e) =
    count-same d.workers (upd f w true) (owing e) (λ v h. upd-cases f w true v (λ b. b ≡ owing e v) (λ same. sym (ap (owing e) same ∙ owe))
    (λ ne. owing-else d e v w ne)) in
    sym a ∙ b

pub payment-counts : (d : Shape) (w : ℕ) (e : Ending) → w < d.workers → owing e w ≡ true
    → count_of d.workers (upd e.paid w true) ≡ count_of d.workers e.paid + 1
payment-counts d w e low owe = count-more d.workers e.paid w low (not-true (e.paid w) (and_parts (e.marked w) (not (e.paid w)) owe).1)

-- ---- one mark more

-- of a worker that was neither marked nor paid
pub mark-counts : (d : Shape) (v : ℕ) (e : Ending) → v < d.workers → e.marked v ≡ false
    → count_of d.workers (upd e.marked v true) ≡ count_of d.workers e.marked + 1
mark-counts d v e low unmarked = count-more d.workers e.marked v low unmarked

-- whoever is marked now has not paid
pub debt-marked : (d : Shape) (v : ℕ) (t : TaskSet) (e : Ending) → v < d.workers → e.marked v ≡ false → e.paid v ≡ false
    → debts d (Shut t (record e { marked = upd e.marked v true })) ≡ debts d (Shut t e) + 1
debt-marked d v t e low unmarked unpaid =
    let f : ℕ → Bool = owing e in
    let was : f v ≡ false = ap (λ b. b && not (e.paid v)) unmarked in
    let a : count_of d.workers (upd f v true) ≡ count_of d.workers f + 1 = count-more d.workers f v low was in
    let b : count_of d.workers (upd f v true) ≡ count_of d.workers (λ u. upd e.marked v true u && not (e.paid u)) =
    count-same d.workers (upd f v true) (λ u. upd e.marked v true u && not (e.paid u))
    (λ u h. upd-cases e.marked v true u (λ b. upd f v true u ≡ (b && not (e.paid u)))
    (λ same. ap (upd f v true) same ∙ upd-same f v true ∙ sym (ap not (ap e.paid same ∙ unpaid)))
    (λ ne. upd-cases f v true u (λ b. b ≡ f u) (λ same. absurd (ne same)) (λ other. refl))) in
    sym b ∙ a

-- ---- payments, debts and marks at a shut slot

pub record Counted (d : Shape) (t : TaskSet) (e : Ending) : Type 0 where
  pub paid : ℕ
  pub owed : ℕ
  pub marked : ℕ
  pub paid_is : count_of d.workers e.paid ≡ paid
  pub owed_is : debts d (Shut t e) ≡ owed
  pub marked_is : count_of d.workers e.marked ≡ marked
  pub sum : paid + owed ≡ marked
  pub few : marked < d.workers

pub counted : (d : Shape) (S : ObjectState) → IsTable d S → (s : ℕ) (t : TaskSet) (e : Ending) → S.slots s ≡ Shut t e → Counted d t e
counted d S tab s t e is = let r = debts-within d S tab s t e is in record {
  paid = count_of d.workers e.paid;
  owed = debts d (Shut t e);
  marked = count_of d.workers e.marked;
  paid_is = refl;
  owed_is = refl;
  marked_is = refl;
  sum = r.0;
  few = r.1;
}

-- ---- a call at a shut slot

-- the slot at which w has to pay
pub record IsOwed (x : SlotState) (w id : ℕ) : Type 0 where
  pub task : TaskSet
  pub ending : Ending
  pub slot : x ≡ Shut task ending
  pub named : task.id ≡ id
  pub owed : owing ending w ≡ true

pub owed-slot : (d : Shape) (S : ObjectState) → IsTable d S → (w s id : ℕ) → w < d.workers → S.places w ≡ Owing s id → IsOwed (S.slots s) w id
owed-slot d S tab w s id low at =
    let r = owes-slot (S.slots s) w id (owing-owes d s id (duty_of (S.slots s) w) (subst (Meets d s (duty_of (S.slots s) w)) at (tab.duty s w low))) in
    record { task = r.0; ending = r.1; slot = r.2; named = r.3; owed = r.6 }

-- who is asked next is a worker that was not marked and has not paid
pub record IsUnmarked (d : Shape) (e : Ending) : Type 0 where
  pub low : next_asked d e < d.workers
  pub marked : e.marked (next_asked d e) ≡ false
  pub paid : e.paid (next_asked d e) ≡ false

pub next-unmarked : (d : Shape) (x : SlotState) (k : Asker) → k.asked + 1 < d.workers → IsChainOf d x → (l : IsLed d x k) → IsUnmarked d l.ending
next-unmarked d x k more chain l =
    let n : ℕ = k.asked in
    let m : ℕ = k.marked in
    let e : Ending = l.ending in
    let c : IsChain d e = subst (IsChainOf d) l.slot chain in
    let is = next-is d e n m l.asked c.coordinator more in
    let out : e.asked (next_asked d e) ≡ false = ap e.asked is ∙ next-unasked d e n m l.asked in
    let unmarked : e.marked (next_asked d e) ≡ false = false_from_ne_true (e.marked (next_asked d e))
    (λ k. true≢false (sym (c.marked (next_asked d e) k) ∙ out)) in record {
      low = subst (λ v. v < d.workers) (sym is) (nth-other-within e.coordinator n d.workers c.coordinator more);
      marked = unmarked;
      paid = false_from_ne_true (e.paid (next_asked d e)) (λ k. true≢false (sym (c.paid (next_asked d e) k) ∙ unmarked));
    }

marks-one : (d : Shape) (S : ObjectState) (w : ℕ) → IsTable d S → w < d.workers → (ok : IsAllowed d S w MarkMarked)
    → let x = S.slots ok.0 in IsOneMarked d x (slot_after d w MarkMarked x)
marks-one d S w tab low ok =
    let l = led d S tab w ok.0 ok.1 ok.2 ok.3 low ok.4 in
    let u = next-unmarked d (S.slots ok.0) (record { worker = w; id = ok.1; asked = ok.2; marked = ok.3 }) ok.5 (tab.chain ok.0) l in
    subst (λ x. IsOneMarked d x (slot_after d w MarkMarked x)) (sym l.slot)
    (refl, debt-marked d (next_asked d l.ending) l.task l.ending u.low u.marked u.paid, mark-counts d (next_asked d l.ending) l.ending u.low u.marked)

pays-one : (d : Shape) (S : ObjectState) (w s id : ℕ) → IsTable d S → w < d.workers → S.places w ≡ Owing s id
    → let x = S.slots s in IsOnePaid d x (slot_after d w PayDone x)
pays-one d S w s id tab low at =
    let o = owed-slot d S tab w s id low at in
    subst (λ x. IsOnePaid d x (slot_after d w PayDone x)) (sym o.slot)
    (payment-counts d w o.ending low o.owed, debt-paid d w o.task o.ending low o.owed, refl)

pub debts-go-on : (d : Shape) (S : ObjectState) → IsTable d S → DebtsGoOn d S
debts-go-on d S tab w low = (
  λ ok. subst (λ s. IsOneMarked d (S.slots s) (slot_after d w MarkMarked (S.slots s))) (sym (ap slot_of ok.4)) (marks-one d S w tab low ok),
  λ ok. subst (λ s. IsOnePaid d (S.slots s) (slot_after d w PayDone (S.slots s))) (sym (ap slot_of ok.2)) (pays-one d S w ok.0 ok.1 tab low ok.2),
  λ ok. let one : debts d (ended d w PayDone (S.slots ok.0)) + 1 ≡ debts d (S.slots ok.0) = (pays-one d S w ok.0 ok.1 tab low ok.2).1 in
      let none : debts d (ended d w PayDone (S.slots ok.0)) ≡ 0 = ok.4 in
      subst (λ s. debts d (S.slots s) ≡ 1) (sym (ap slot_of ok.2)) (sym one ∙ ap (λ k. k + 1) none),
)
