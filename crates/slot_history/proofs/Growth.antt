-- The task set of a slot stays the same while there is one, and its cursor does not fall.
use Rattle.std.proofs.Common.{◌≡◌, ℕ, ◌+◌, ◌≤◌, ◌⊎◌, true, refl, sym, ⊎_elim, arith}
use mathlib.Core.Bool.{true≢false}
use Rattle.slot_history.specs.declared.shape.Shape.{Shape}
use Rattle.slot_history.specs.declared.act.Act.{Act}
use Rattle.slot_history.specs.declared.act.Act.TheVariants.{ClaimRange, ClaimUsed, ShutWon, PayLast}
use Rattle.slot_history.specs.declared.act.Act.TheVariants.{PayDone, MarkMarked, MarkMissed}
use Rattle.slot_history.specs.declared.act.Act.TheVariants.{SweepLast, SweepOthers, ReserveGot}
use Rattle.slot_history.specs.declared.act.Act.TheVariants.{AdmitGot, NoteDone, SetTotal, Install}
use Rattle.slot_history.specs.declared.act.Act.TheVariants.{Release}
use Rattle.slot_history.specs.States.{TaskSet, Ending, SlotState, Empty, Reserved, Open, Shut}
use Rattle.slot_history.specs.States.{Finishing, task_of, has_id, is_open, is_shut}
use Rattle.slot_history.specs.Steps.{slot_after, claimed, shut_by, ended, finalised_by, held_on}
use Rattle.slot_history.specs.Steps.{opened}
use Rattle.slot_history.specs.Lives.{has_task}

-- ---- slots that are open or shut

-- what holds of open slots and of shut ones
pub open-shut-cases : (x : SlotState) (P : SlotState → Type 0) → ((t : TaskSet) → P (Open t)) → ((t : TaskSet) (e : Ending) → P (Shut t e))
    → (is_open x ≡ true) ⊎ (is_shut x ≡ true) → P x
open-shut-cases (Open t) P opens shuts h = opens t
open-shut-cases (Shut t e) P opens shuts h = shuts t e
open-shut-cases Empty P opens shuts h = absurd (⊎_elim (λ k. true≢false (sym k)) (λ k. true≢false (sym k)) h)
open-shut-cases (Reserved w k) P opens shuts h = absurd (⊎_elim (λ k. true≢false (sym k)) (λ k. true≢false (sym k)) h)
open-shut-cases (Finishing id w k) P opens shuts h = absurd (⊎_elim (λ k. true≢false (sym k)) (λ k. true≢false (sym k)) h)

-- each has a task set
pub open-or-shut : (x : SlotState) → (is_open x ≡ true) ⊎ (is_shut x ≡ true) → has_task x ≡ true
open-or-shut x = open-shut-cases x (λ y. has_task y ≡ true) (λ t. refl) (λ t e. refl)

-- and an id
pub open-has : (x : SlotState) → (is_open x ≡ true) ⊎ (is_shut x ≡ true) → has_id x ≡ true
open-has x = open-shut-cases x (λ y. has_id y ≡ true) (λ t. refl) (λ t e. refl)

-- ---- the task set of the slot of a call

-- it is the same task set after the call, and its cursor does not fall
pub record Grows (x y : SlotState) : Type 0 where
  pub same : (task_of y).id ≡ (task_of x).id
  pub total : (task_of y).total ≡ (task_of x).total
  pub cursor : (task_of x).cursor ≤ (task_of y).cursor

grows-not : (x : SlotState) → Grows x x
grows-not x = record { same = refl; total = refl; cursor = omega arith }

pub grows-claimed : (x : SlotState) (n : ℕ) → Grows x (claimed x n)
grows-claimed (Open t) n = record { same = refl; total = refl; cursor = let c : ℕ = t.cursor in let k : c ≤ c + n = omega arith in k }
grows-claimed (Shut t e) n = record { same = refl; total = refl; cursor = let c : ℕ = t.cursor in let k : c ≤ c + n = omega arith in k }
grows-claimed Empty n = grows-not Empty
grows-claimed (Reserved w h) n = grows-not (Reserved w h)
grows-claimed (Finishing id w h) n = grows-not (Finishing id w h)

pub grows-shut : (x : SlotState) (w : ℕ) → Grows x (shut_by w x)
grows-shut (Open t) w = record { same = refl; total = refl; cursor = omega arith }
grows-shut (Shut t e) w = grows-not (Shut t e)
grows-shut Empty w = grows-not Empty
grows-shut (Reserved u h) w = grows-not (Reserved u h)
grows-shut (Finishing id u h) w = grows-not (Finishing id u h)

grows-ended : (d : Shape) (w : ℕ) (a : Act) (x : SlotState) → Grows x (ended d w a x)
grows-ended d w a (Shut t e) = record { same = refl; total = refl; cursor = omega arith }
grows-ended d w a (Open t) = grows-not (Open t)
grows-ended d w a Empty = grows-not Empty
grows-ended d w a (Reserved u h) = grows-not (Reserved u h)
grows-ended d w a (Finishing id u h) = grows-not (Finishing id u h)

grows-last : (x : SlotState) (w : ℕ) → has_task (finalised_by w x) ≡ true → Grows x (finalised_by w x)
grows-last (Shut t e) w h = absurd (cc)
grows-last (Open t) w h = grows-not (Open t)
grows-last Empty w h = grows-not Empty
grows-last (Reserved u k) w h = grows-not (Reserved u k)
grows-last (Finishing id u k) w h = grows-not (Finishing id u k)

grows-held : (x : SlotState) (a : Act) → Grows x (held_on a x)
grows-held (Shut t e) a = grows-not (Shut t e)
grows-held (Open t) a = grows-not (Open t)
grows-held Empty a = grows-not Empty
grows-held (Reserved u k) a = record { same = refl; total = refl; cursor = omega arith }
grows-held (Finishing id u k) a = record { same = refl; total = refl; cursor = omega arith }

grows-opened : (x : SlotState) (id : ℕ) → has_task x ≡ true → Grows x (opened id x)
grows-opened (Shut t e) id h = grows-not (Shut t e)
grows-opened (Open t) id h = grows-not (Open t)
grows-opened _ id h = absurd (cc)

pub grows : (d : Shape) (w : ℕ) (a : Act) (x : SlotState) → has_task x ≡ true → has_task (slot_after d w a x) ≡ true → Grows x (slot_after d w a x)
grows d w (ClaimRange n from to) x before after = grows-claimed x n
grows d w (ClaimUsed n) x before after = grows-claimed x n
grows d w ShutWon x before after = grows-shut x w
grows d w PayLast x before after = grows-last x w after
grows d w PayDone x before after = grows-ended d w PayDone x
grows d w MarkMarked x before after = grows-ended d w MarkMarked x
grows d w MarkMissed x before after = grows-ended d w MarkMissed x
grows d w SweepLast x before after = grows-last x w after
grows d w (SweepOthers n) x before after = grows-ended d w (SweepOthers n) x
grows d w (ReserveGot s) x before after = absurd (cc)
grows d w (AdmitGot q) x before after = grows-held x (AdmitGot q)
grows d w (NoteDone k) x before after = grows-held x (NoteDone k)
grows d w (SetTotal t) x before after = grows-held x (SetTotal t)
grows d w (Install id) x before after = grows-opened x id before
grows d w Release x before after = absurd (cc)
grows d w _ x before after = grows-not x
