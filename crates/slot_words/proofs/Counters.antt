-- The counter of a shut slot, as numbers.
use Rattle.std.proofs.Common.{◌≡◌, ℕ, ◌+◌, ◌-◌, ◌^◌, Bool, true, false, cond, refl, sym, ap, ◌∙◌}
use Rattle.std.proofs.Common.{subst, arith}
use mathlib.Core.Bool.{true≢false}
use Rattle.slot_history.specs.Bounds.{IsShape}
use Rattle.slot_history.specs.declared.shape.Shape.{Shape}
use Rattle.slot_history.specs.States.{TaskSet, Ending, SlotState, Empty, Shut, ObjectState}
use Rattle.slot_history.specs.Steps.{state_after}
use Rattle.slot_history.specs.Payments.{payments, marks}
use Rattle.slot_history.specs.Table.{IsTable}
use Rattle.slot_history.proofs.Payments.{Counted, counted}
use Rattle.slot_history.proofs.Table.{table}
use Rattle.slot_words.specs.declared.address.Address.TheVariants.{CounterOf}
use Rattle.slot_words.specs.Words.{IsCounter, counter_of}
use Rattle.slot_words.specs.Laws.{CountersSay}

pub unswept-counter : (d : Shape) (t : TaskSet) (e : Ending) (c : Counted d t e) → e.swept ≡ false → counter_of d (Shut t e) ≡ 2 ^ 32 - c.paid
unswept-counter d t e c open_ =
    let r = ap (λ b. 2 ^ 32 + cond b (marks d (Shut t e)) 0 - payments d (Shut t e)) open_ in
    let p = c.paid_is in r ∙ (let z : 2 ^ 32 + 0 - payments d (Shut t e) ≡ 2 ^ 32 - c.paid = omega arith in z)

pub swept-counter : (d : Shape) (t : TaskSet) (e : Ending) (c : Counted d t e) → e.swept ≡ true → counter_of d (Shut t e) ≡ 2 ^ 32 + c.owed
swept-counter d t e c swept =
    let r = ap (λ b. 2 ^ 32 + cond b (marks d (Shut t e)) 0 - payments d (Shut t e)) swept in
    let p = c.paid_is in let m = c.marked_is in let s = c.sum in
    r ∙ (let z : 2 ^ 32 + marks d (Shut t e) - payments d (Shut t e) ≡ 2 ^ 32 + c.owed = omega arith in z)

shut-says : (d : Shape) (t : TaskSet) (e : Ending) → IsShape d → (c : Counted d t e) → (b : Bool) → e.swept ≡ b
    → IsCounter d (Shut t e) (counter_of d (Shut t e))
shut-says d t e shape c true is =
    let n = swept-counter d t e c is in let most = shape.workers.1 in
    let paid = c.paid_is in let owed = c.owed_is in let sum = c.sum in let few = c.few in record {
      unswept = λ no. absurd (true≢false (sym is ∙ no));
      swept = λ _. omega arith;
      low = omega arith;
      high = omega arith;
    }
shut-says d t e shape c false is =
    let n = unswept-counter d t e c is in let most = shape.workers.1 in
    let paid = c.paid_is in let owed = c.owed_is in let sum = c.sum in let few = c.few in record {
      unswept = λ _. omega arith;
      swept = λ yes. absurd (true≢false (sym yes ∙ is));
      low = omega arith;
      high = omega arith;
    }

counter-says : (d : Shape) (S : ObjectState) → IsShape d → IsTable d S → (s : ℕ) (x : SlotState) → S.slots s ≡ x → IsCounter d x (counter_of d x)
counter-says d S shape tab s (Shut t e) is = shut-says d t e shape (counted d S tab s t e is) e.swept refl
counter-says d S shape tab s Empty is = record { unswept = λ _. refl; swept = λ yes. absurd (cc); low = omega arith; high = omega arith }
counter-says d S shape tab s _ is = record { unswept = λ _. refl; swept = λ yes. absurd (cc); low = omega arith; high = omega arith }

pub counters-say : CountersSay
counters-say d h words are s in_s =
    let S : ObjectState = state_after d h in
    subst (IsCounter d (S.slots s)) (sym (are.stands.each (CounterOf s) in_s)) (counter-says d S are.shape (table d h are.legal) s (S.slots s) refl)
