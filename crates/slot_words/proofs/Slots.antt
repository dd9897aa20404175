-- What a call leaves of what the words say of a slot.
use Rattle.std.proofs.Common.{◌*◌, ◌≡◌, ◌≢◌, ℕ, ◌+◌, ◌-◌, Bool, true, false, cond, not, ◌&&◌}
use Rattle.std.proofs.Common.{Option, Some, None, refl, sym, ap, ap₂, ◌∙◌, subst, inl, inr, arith}
use Rattle.std.specs.Prelude.{IfSome, IsSome, unwrap_or}
use Rattle.slot_history.specs.declared.shape.Shape.{Shape}
use Rattle.slot_history.specs.declared.act.Act.{Act}
use Rattle.slot_history.specs.declared.act.Act.TheVariants.{PayDone, MarkMarked, MarkMissed}
use Rattle.slot_history.specs.declared.act.Act.TheVariants.{SweepOthers}
use Rattle.slot_history.specs.declared.place.Held.{Held}
use Rattle.slot_history.specs.Sets.{upd, count_of}
use Rattle.slot_history.specs.States.{TaskSet, Ending, SlotState, Empty, Reserved, Open, Shut}
use Rattle.slot_history.specs.States.{Finishing, id_of, task_at, is_empty, is_swept, owes}
use Rattle.slot_history.specs.Steps.{claimed, shut_by, next_asked, ended, held_after, held_on}
use Rattle.slot_history.specs.Steps.{opened, finalised_by}
use Rattle.slot_history.proofs.Sets.{upd-else, count-none}
use Rattle.slot_history.proofs.Duties.{IsHeldBy, owing-else, owes-claimed, owes-shut, owes-held}
use Rattle.slot_history.proofs.SlotTasks.{at-claimed, at-shut, at-held}
use Rattle.slot_words.specs.Encodings.{open_word, tagged, mark_for, cursor_word, zero_count}
use Rattle.slot_words.specs.Laws.{StatesArePacked}
use Rattle.slot_words.specs.Words.{IsCursor, counter_of, mark_at}

-- ---- its state

next-tag : (id : ℕ) → (id + 1) * 4 + 3 ≡ tagged (open_word id)
next-tag id = omega arith

pub states-are-packed : StatesArePacked
states-are-packed (Shut t e) = next-tag t.id
states-are-packed (Finishing id w h) = next-tag id
states-are-packed Empty = refl
states-are-packed (Reserved w h) = refl
states-are-packed (Open t) = refl

-- ---- its cursor

pub cursor-shut : (w : ℕ) (x : SlotState) (n : ℕ) → IsCursor x n → IsCursor (shut_by w x) n
cursor-shut w Empty n h = h
cursor-shut w _ n h = h

pub cursor-ended : (d : Shape) (w : ℕ) (a : Act) (x : SlotState) (n : ℕ) → IsCursor x n → IsCursor (ended d w a x) n
cursor-ended d w a Empty n h = h
cursor-ended d w a _ n h = h

pub cursor-finalised : (w : ℕ) (x : SlotState) (n : ℕ) → IsCursor x n → IsCursor (finalised_by w x) n
cursor-finalised w (Shut t e) n h = tt
cursor-finalised w _ n h = h

pub cursor-held : (a : Act) (x : SlotState) (n : ℕ) → ((h : Held) → (held_after a h).total ≡ h.total)
    → IsCursor x n → IsCursor (held_on a x) n
cursor-held a (Reserved w h) n same c = subst (λ o. IfSome o (λ t. n ≡ cursor_word t 0)) (sym (same h)) c
cursor-held a (Finishing id w h) n same c = subst (λ o. IfSome o (λ t. n ≡ cursor_word t 0)) (sym (same h)) c
cursor-held a _ n same c = c

total-open : (o : Option ℕ) (n : ℕ) → IsSome o → IfSome o (λ t. n ≡ cursor_word t 0) → n ≡ cursor_word (unwrap_or o 0) 0
total-open (Some t) n is c = c
total-open None n is c = absurd (cc)

pub cursor-opened : (w : ℕ) (h : Held) (id : ℕ) (x : SlotState) (n : ℕ) → IsHeldBy w h x → IsSome h.total
    → IsCursor x n → IsCursor (opened id x) n
cursor-opened w h id x n (inl is) some_total c =
    subst (λ y. IsCursor (opened id y) n) (sym is) (total-open h.total n some_total (subst (λ y. IsCursor y n) is c))
cursor-opened w h id x n (inr (jd, is)) some_total c =
    subst (λ y. IsCursor (opened id y) n) (sym is) (total-open h.total n some_total (subst (λ y. IsCursor y n) is c))

-- ---- its counter

pub counter-claimed : (d : Shape) (x : SlotState) (n : ℕ) → counter_of d (claimed x n) ≡ counter_of d x
counter-claimed d Empty n = refl
counter-claimed d _ n = refl

pub counter-shut : (d : Shape) (w : ℕ) (x : SlotState) → counter_of d (shut_by w x) ≡ counter_of d x
counter-shut d w (Open t) = let z : count_of d.workers (λ v. false) ≡ 0 = count-none d.workers (λ v. false) (λ v h. refl) in omega arith
counter-shut d w _ = refl

pub counter-marked : (d : Shape) (w : ℕ) (x : SlotState) → is_swept x ≡ false → counter_of d (ended d w MarkMarked x) ≡ counter_of d x
counter-marked d w (Shut t e) unswept =
    let f : (Bool → ℕ → ℕ) = λ b m. zero_count + cond b m 0 - count_of d.workers e.paid in
    ap (λ b. f b (count_of d.workers (upd e.marked (next_asked d e) true))) unswept ∙ sym (ap (λ b. f b (count_of d.workers e.marked)) unswept)
counter-marked d w _ unswept = refl

pub counter-missed : (d : Shape) (w : ℕ) (x : SlotState) → counter_of d (ended d w MarkMissed x) ≡ counter_of d x
counter-missed d w Empty = refl
counter-missed d w _ = refl

pub counter-held : (d : Shape) (a : Act) (x : SlotState) → counter_of d (held_on a x) ≡ counter_of d x
counter-held d a Empty = refl
counter-held d a _ = refl

pub counter-opened : (d : Shape) (id : ℕ) (x : SlotState) → counter_of d (opened id x) ≡ counter_of d x
counter-opened d id Empty = refl
counter-opened d id _ = refl

pub held-counter : (d : Shape) (w : ℕ) (h : Held) (x : SlotState) → IsHeldBy w h x → counter_of d x ≡ zero_count
held-counter d w h x (inl is) = ap (counter_of d) is
held-counter d w h x (inr (id, is)) = ap (counter_of d) is

pub empty-counter : (d : Shape) (x : SlotState) → is_empty x ≡ true → counter_of d x ≡ zero_count
empty-counter d Empty h = refl
empty-counter d _ h = absurd (cc)

-- ---- the marks there

pub no-mark : (x : SlotState) (v : ℕ) → owes x v ≡ false → mark_at x v ≡ 0
no-mark x v clear = ap (λ b. cond b (mark_for (id_of x)) 0) clear

-- the mark of a worker is given by whether it owes, and by the slot's task set
id-by-task : (x : SlotState) → id_of x ≡ unwrap_or (task_at x) 0
id-by-task (Open t) = refl
id-by-task _ = refl

mark-by : (x y : SlotState) (v : ℕ) → owes y v ≡ owes x v → task_at y ≡ task_at x → mark_at y v ≡ mark_at x v
mark-by x y v owed same = ap₂ (λ b id. cond b (mark_for id) 0) owed (id-by-task y ∙ ap (λ o. unwrap_or o 0) same ∙ sym (id-by-task x))

pub mark-claimed : (x : SlotState) (n v : ℕ) → mark_at (claimed x n) v ≡ mark_at x v
mark-claimed x n v = mark-by x (claimed x n) v (owes-claimed x n v) (at-claimed x n)

pub mark-shut : (w : ℕ) (x : SlotState) (v : ℕ) → mark_at (shut_by w x) v ≡ mark_at x v
mark-shut w x v = mark-by x (shut_by w x) v (owes-shut w x v) (at-shut x w)

pub mark-paid : (d : Shape) (w : ℕ) (x : SlotState) (v : ℕ) → v ≢ w → mark_at (ended d w PayDone x) v ≡ mark_at x v
mark-paid d w (Shut t e) v other = ap (λ b. cond b (mark_for t.id) 0) (owing-else d e v w other)
mark-paid d w _ v other = refl

pub mark-marked : (d : Shape) (w : ℕ) (x : SlotState) (v : ℕ) → ((t : TaskSet) (e : Ending) → x ≡ Shut t e → v ≢ next_asked d e)
    → mark_at (ended d w MarkMarked x) v ≡ mark_at x v
mark-marked d w (Shut t e) v other =
    ap (λ b. cond (b && not (e.paid v)) (mark_for t.id) 0) (upd-else e.marked (next_asked d e) true v (other t e refl))
mark-marked d w _ v other = refl

pub mark-missed : (d : Shape) (w : ℕ) (x : SlotState) (v : ℕ) → mark_at (ended d w MarkMissed x) v ≡ mark_at x v
mark-missed d w Empty v = refl
mark-missed d w _ v = refl

pub mark-swept : (d : Shape) (w n : ℕ) (x : SlotState) (v : ℕ) → mark_at (ended d w (SweepOthers n) x) v ≡ mark_at x v
mark-swept d w n Empty v = refl
mark-swept d w n _ v = refl

pub mark-finalised : (w : ℕ) (x : SlotState) (v : ℕ) → owes x v ≡ false → mark_at (finalised_by w x) v ≡ mark_at x v
mark-finalised w (Shut t e) v clear = sym (no-mark (Shut t e) v clear)
mark-finalised w _ v clear = refl

pub mark-held : (a : Act) (x : SlotState) (v : ℕ) → mark_at (held_on a x) v ≡ mark_at x v
mark-held a x v = mark-by x (held_on a x) v (owes-held a x v) (at-held a x)

pub mark-opened : (id : ℕ) (x : SlotState) (v : ℕ) → mark_at (opened id x) v ≡ mark_at x v
mark-opened id Empty v = refl
mark-opened id _ v = refl
