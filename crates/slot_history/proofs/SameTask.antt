-- But for an install, no call gives a slot a task set.
use Rattle.std.proofs.Common.{◌≡◌, ℕ, ◌⊎◌, true, refl, sym, subst, inl, inr, ⊎_elim}
use Rattle.slot_history.specs.declared.shape.Shape.{Shape}
use Rattle.slot_history.specs.declared.act.Act.{Act}
use Rattle.slot_history.specs.declared.act.Act.TheVariants.{ClaimRange, ClaimUsed, ShutWon, PayLast}
use Rattle.slot_history.specs.declared.act.Act.TheVariants.{PayDone, MarkMarked, MarkMissed}
use Rattle.slot_history.specs.declared.act.Act.TheVariants.{SweepLast, SweepOthers, ReserveGot}
use Rattle.slot_history.specs.declared.act.Act.TheVariants.{AdmitGot, NoteDone, SetTotal, Install}
use Rattle.slot_history.specs.declared.act.Act.TheVariants.{Release}
use Rattle.slot_history.specs.States.{SlotState, Reserved, Open, Shut, Finishing, ObjectState}
use Rattle.slot_history.specs.States.{id_of, has_id, is_open}
use Rattle.slot_history.specs.Steps.{site, slot_after, claimed, shut_by, ended, finalised_by}
use Rattle.slot_history.specs.Steps.{held_on, next}
use Rattle.slot_history.proofs.Sets.{upd-cases}

-- y has no id that x had not, and is open only where x was
abbrev pub IsSameTask : SlotState → SlotState → Type 0
IsSameTask y x = (has_id y ≡ true → (has_id x ≡ true) × (id_of y ≡ id_of x)) × (is_open y ≡ true → is_open x ≡ true)

same-task : (x : SlotState) → IsSameTask x x
same-task x = (λ h. (h, refl), λ h. h)

claimed-task : (x : SlotState) (n : ℕ) → IsSameTask (claimed x n) x
claimed-task (Open t) n = (λ h. (h, refl), λ h. h)
claimed-task (Shut t e) n = (λ h. (h, refl), λ h. h)
claimed-task x n = same-task x

shut-task : (w : ℕ) (x : SlotState) → IsSameTask (shut_by w x) x
shut-task w (Open t) = (λ h. (refl, refl), λ h. refl)
shut-task w x = same-task x

ended-task : (d : Shape) (w : ℕ) (a : Act) (x : SlotState) → IsSameTask (ended d w a x) x
ended-task d w a (Shut t e) = (λ h. (h, refl), λ h. h)
ended-task d w a x = same-task x

finalised-task : (w : ℕ) (x : SlotState) → IsSameTask (finalised_by w x) x
finalised-task w (Shut t e) = (λ h. (h, refl), λ h. absurd (cc))
finalised-task w x = same-task x

held-task : (a : Act) (x : SlotState) → IsSameTask (held_on a x) x
held-task a (Reserved w h) = (λ h. absurd (cc), λ h. absurd (cc))
held-task a (Finishing id w h) = (λ h. (h, refl), λ h. absurd (cc))
held-task a x = same-task x

-- but for an install, no call gives a slot a task set
task-after : (d : Shape) (w : ℕ) (a : Act) (x : SlotState) → IsSameTask (slot_after d w a x) x ⊎ ((id : ℕ) × (a ≡ Install id))
task-after d w (ClaimRange n from to) x = inl (claimed-task x n)
task-after d w (ClaimUsed n) x = inl (claimed-task x n)
task-after d w ShutWon x = inl (shut-task w x)
task-after d w PayLast x = inl (finalised-task w x)
task-after d w PayDone x = inl (ended-task d w PayDone x)
task-after d w MarkMarked x = inl (ended-task d w MarkMarked x)
task-after d w MarkMissed x = inl (ended-task d w MarkMissed x)
task-after d w SweepLast x = inl (finalised-task w x)
task-after d w (SweepOthers n) x = inl (ended-task d w (SweepOthers n) x)
task-after d w (ReserveGot s) x = inl (λ h. absurd (cc), λ h. absurd (cc))
task-after d w (AdmitGot q) x = inl (held-task (AdmitGot q) x)
task-after d w (NoteDone k) x = inl (held-task (NoteDone k) x)
task-after d w (SetTotal t) x = inl (held-task (SetTotal t) x)
task-after d w (Install id) x = inr (id, refl)
task-after d w Release x = inl (λ h. absurd (cc), λ h. absurd (cc))
task-after d w _ x = inl (same-task x)

-- the slot s after a call, where the call is no install in it
pub task-next : (d : Shape) (S : ObjectState) (w : ℕ) (a : Act) (s : ℕ) → IsSameTask ((next d S w a).slots s) (S.slots s)
    ⊎ ((s ≡ site a (S.places w)) × ((id : ℕ) × (a ≡ Install id)))
task-next d S w a s =
    let k : ℕ = site a (S.places w) in
    upd-cases S.slots k (slot_after d w a (S.slots k)) s (λ y. IsSameTask y (S.slots s) ⊎ ((s ≡ k) × ((id : ℕ) × (a ≡ Install id))))
    (λ e. ⊎_elim (λ same. inl (subst (λ j. IsSameTask (slot_after d w a (S.slots k)) (S.slots j)) (sym e) same))
    (λ i. inr (e, i)) (task-after d w a (S.slots k)))
    (λ n. inl (same-task (S.slots s)))
