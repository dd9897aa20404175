-- What a call reads in the words of a slot, by what the slot holds.
use Rattle.std.proofs.Common.{◌≡◌, ℕ, ◌+◌, ◌*◌, ◌<◌, ◌≤◌, ◌⊎◌, true, cond, eqb, bit_or, refl, sym}
use Rattle.std.proofs.Common.{ap, ap₂, ◌∙◌, subst, inl, inr, eq-eqb, lit<, arith}
use Rattle.std.specs.Int.Bits.{or_zero_r}
use Rattle.std.proofs.lemmas.Nat.{or_block}
use Rattle.slot_history.specs.declared.shape.TheConstants.{MOST_TOTAL}
use Rattle.slot_history.specs.declared.act.Act.{Act}
use Rattle.slot_history.specs.declared.act.Act.TheVariants.{LookOpen, LookInvalid, LookVacant}
use Rattle.slot_history.specs.declared.act.Act.TheVariants.{ShutWon, ShutLost, SetTotal}
use Rattle.slot_history.specs.declared.place.Held.{Held}
use Rattle.slot_history.specs.States.{SlotState, Empty, Reserved, Open, Shut, Finishing, id_of}
use Rattle.slot_history.specs.States.{task_of, slot_word, is_open, is_shut, is_tagged, is_vacant}
use Rattle.slot_history.specs.Steps.{shut_by, claimed, held_on, opened}
use Rattle.slot_history.specs.Bounds.{IsSlotSound}
use Rattle.slot_history.proofs.Duties.{IsHeldBy}
use Rattle.slot_history.proofs.Growth.{open-shut-cases}
use Rattle.slot_words.specs.Encodings.{open_word, kind_in, id_in, cursor_word}
use Rattle.slot_words.specs.Words.{IsCursor}
use Rattle.slot_words.specs.Steps.{look_answer, shut_answer}

-- ---- its state

open-reads : (id : ℕ) → (kind_in (open_word id) ≡ 2) × (id_in (open_word id) ≡ id)
open-reads id = (omega arith, omega arith)

tagged-kind : (id : ℕ) → kind_in ((id + 1) * 4 + 3) ≡ 3
tagged-kind id = omega arith

abbrev pub Looks : SlotState → Act → Type 0
Looks x a = (n : ℕ) → n ≡ slot_word x → look_answer n ≡ a

pub looks-open : (x : SlotState) (id : ℕ) → is_open x ≡ true → id ≡ id_of x → Looks x (LookOpen id)
looks-open (Open t) id h e n is =
    let r = open-reads t.id in
    ap₂ (λ b k. cond b (LookOpen k) (cond (eqb (kind_in n) 3) LookInvalid LookVacant)) (eq-eqb (kind_in n) 2 (ap kind_in is ∙ r.0)) (ap id_in is ∙ r.1 ∙ sym e)
looks-open _ id h e n is = absurd (cc)

looks-kind : (n : ℕ) → kind_in n ≡ 3 → look_answer n ≡ LookInvalid
looks-kind n is = ap (λ k. cond (eqb k 2) (LookOpen (id_in n)) (cond (eqb k 3) LookInvalid LookVacant)) is

pub looks-invalid : (x : SlotState) → is_tagged x ≡ true → Looks x LookInvalid
looks-invalid (Shut t e) h n is = looks-kind n (ap kind_in is ∙ tagged-kind t.id)
looks-invalid (Finishing id w k) h n is = looks-kind n (ap kind_in is ∙ tagged-kind id)
looks-invalid _ h n is = absurd (cc)

pub looks-vacant : (x : SlotState) → is_vacant x ≡ true → Looks x LookVacant
looks-vacant Empty h n is = ap look_answer is
looks-vacant (Reserved w k) h n is = ap look_answer is
looks-vacant _ h n is = absurd (cc)

tag : (id b : ℕ) → b < 4 → bit_or b 1 ≡ 3 → bit_or ((id + 1) * 4 + b) 1 ≡ (id + 1) * 4 + 3
tag id b low sets = or_block 2 (id + 1) 0 b 1 low (lit< tt) ∙ ap₂ (λ k m. k * 4 + m) (or_zero_r (id + 1)) sets

abbrev Shuts : SlotState → Act → SlotState → Type 0
Shuts x a y = (n : ℕ) → n ≡ slot_word x → (shut_answer n ≡ a) × (bit_or n 1 ≡ slot_word y)

pub shuts-first : (w : ℕ) (x : SlotState) → is_open x ≡ true → Shuts x ShutWon (shut_by w x)
shuts-first w (Open t) h n is = (
  ap (λ b. cond b ShutWon ShutLost) (eq-eqb (kind_in n) 2 (ap kind_in is ∙ (open-reads t.id).0)),
  ap (λ m. bit_or m 1) is ∙ tag t.id 2 (lit< tt) refl,
)
shuts-first w _ h n is = absurd (cc)

pub shuts-again : (x : SlotState) → is_shut x ≡ true → Shuts x ShutLost x
shuts-again (Shut t e) h n is = (
  ap (λ k. cond (eqb k 2) ShutWon ShutLost) (ap kind_in is ∙ tagged-kind t.id),
  ap (λ m. bit_or m 1) is ∙ tag t.id 3 (lit< tt) refl,
)
shuts-again _ h n is = absurd (cc)

pub held-opens : (w : ℕ) (h : Held) (id : ℕ) (x : SlotState) → IsHeldBy w h x → open_word id ≡ slot_word (opened id x)
held-opens w h id x (inl is) = sym (ap (λ y. slot_word (opened id y)) is)
held-opens w h id x (inr (jd, is)) = sym (ap (λ y. slot_word (opened id y)) is)

-- ---- its cursor

pub held-totals : (w : ℕ) (h : Held) (t : ℕ) (x : SlotState) → IsHeldBy w h x → IsCursor (held_on (SetTotal t) x) (cursor_word t 0)
held-totals w h t x (inl is) = subst (λ y. IsCursor (held_on (SetTotal t) y) (cursor_word t 0)) (sym is) refl
held-totals w h t x (inr (jd, is)) = subst (λ y. IsCursor (held_on (SetTotal t) y) (cursor_word t 0)) (sym is) refl

pub cursor-has : (x : SlotState) (n : ℕ) → (is_open x ≡ true) ⊎ (is_shut x ≡ true) → IsSlotSound x → IsCursor x n
    → (n ≡ cursor_word (task_of x).total (task_of x).cursor) × ((task_of x).total ≤ MOST_TOTAL)
cursor-has x n kind =
    open-shut-cases x (λ y. IsSlotSound y → IsCursor y n → (n ≡ cursor_word (task_of y).total (task_of y).cursor) × ((task_of y).total ≤ MOST_TOTAL))
    (λ t s c. (c, s)) (λ t e s c. (c, s)) kind

pub cursor-grows : (x : SlotState) (m k : ℕ) → (is_open x ≡ true) ⊎ (is_shut x ≡ true)
    → m ≡ cursor_word (task_of x).total ((task_of x).cursor + k) → IsCursor (claimed x k) m
cursor-grows x m k kind =
    open-shut-cases x (λ y. m ≡ cursor_word (task_of y).total ((task_of y).cursor + k) → IsCursor (claimed y k) m) (λ t e. e) (λ t g e. e) kind
