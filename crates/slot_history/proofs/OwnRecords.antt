-- The notice records of a state are those that the workers' own calls give, since the bits that a take answers are the
-- notices that are pending.
use Rattle.std.proofs.Common.{◌≡◌, ℕ, ◌+◌, ◌*◌, ◌/◌, ◌%◌, Bool, true, false, cond, eqb, ◌&&◌, None}
use Rattle.std.proofs.Common.{List, [], ◌∷◌, refl, sym, ap, ◌∙◌, ⊎_elim, eq-eqb, ne_eqb, eqb-true}
use Rattle.std.proofs.Common.{arith}
use Rattle.std.specs.Int.{bit_at}
use Rattle.std.proofs.lemmas.Bool.{cond_both, cases_Bool}
use Rattle.slot_history.specs.declared.shape.Shape.{Shape}
use Rattle.slot_history.specs.declared.shape.TheConstants.{STAGES}
use Rattle.slot_history.specs.declared.act.Act.{Act}
use Rattle.slot_history.specs.declared.act.Act.TheVariants.{LookOpen, LookInvalid, LookVacant}
use Rattle.slot_history.specs.declared.act.Act.TheVariants.{ShutWon, ShutLost, TakeReturn}
use Rattle.slot_history.specs.declared.act.Act.TheVariants.{TakeChange}
use Rattle.slot_history.specs.declared.act.Entry.{Entry}
use Rattle.slot_history.specs.Sets.{upd}
use Rattle.slot_history.specs.States.{NoticeRecord, ObjectState, slot_of}
use Rattle.slot_history.specs.Steps.{is_in_part, dropped, looked, records_after, state_after}
use Rattle.slot_history.specs.Allowed.{IsAllowed, IsMask}
use Rattle.slot_history.specs.Histories.{IsLegal, place_of, is_in_mask, own_record}
use Rattle.slot_history.specs.Histories.{own_record_after}
use Rattle.slot_history.specs.Laws.{OwnRecords}
use Rattle.slot_history.proofs.Sets.{pick, upd-cases}
use Rattle.slot_history.proofs.Own.{record-by-own}

-- a bit that stands for a truth is 1 where that is so
bit-true : (b : Bool) → eqb (cond b 1 0) 1 ≡ b
bit-true b = cond_both b true false (λ x. eqb (cond b 1 0) 1 ≡ b) (λ t. ap (λ x. eqb (cond x 1 0) 1) t ∙ sym t) (λ f. ap (λ x. eqb (cond x 1 0) 1) f ∙ sym f)

-- of the slots of a part, those that are in its mask are those whose notice is pending
mask-pending : (part s bits : ℕ) (pending : ℕ → Bool) → IsMask part pending bits → s / 64 ≡ part → eqb (bit_at bits (s % 64)) 1 ≡ pending s
mask-pending part s bits pending is here =
    let place : part * 64 + s % 64 ≡ s = omega arith in
    ap (λ n. eqb n 1) (is.each (s % 64) (omega arith)) ∙ bit-true (pending (part * 64 + s % 64)) ∙ ap pending place

in-mask : (part s bits : ℕ) (pending : ℕ → Bool) → IsMask part pending bits → (is_in_part part s && pending s) ≡ is_in_mask part bits s
in-mask part s bits pending is = ⊎_elim
    (λ t. ap (λ b. b && pending s) t ∙ sym (mask-pending part s bits pending is (eqb-true (s / 64) part t))
    ∙ sym (ap (λ b. b && eqb (bit_at bits (s % 64)) 1) t))
    (λ f. ap (λ b. b && pending s) f ∙ sym (ap (λ b. b && eqb (bit_at bits (s % 64)) 1) f))
    (cases_Bool (is_in_part part s))

-- one record changed, seen from any slot
changed-record : (r : ℕ → NoticeRecord) (f : NoticeRecord → NoticeRecord) (k s : ℕ) → upd r k (f (r k)) s ≡ cond (eqb s k) (f (r s)) (r s)
changed-record r f k s = pick s k (f (r k)) (r s) (λ x. x ≡ cond (eqb s k) (f (r s)) (r s))
    (λ e. sym (ap (λ b. cond b (f (r s)) (r s)) (eq-eqb s k e) ∙ ap (λ j. f (r j)) e))
    (λ n. sym (ap (λ b. cond b (f (r s)) (r s)) (ne_eqb s k n)))

record-step : (d : Shape) (S : ObjectState) (w : ℕ) (a : Act) (s : ℕ) → IsAllowed d S w a
    → records_after a (S.places w) (S.changes w) (S.returns w) (S.records w) s ≡ own_record_after a (S.places w) s (S.records w s)
record-step d S w (LookOpen id) s fine = changed-record (S.records w) (looked (id / STAGES)) (slot_of (S.places w)) s
record-step d S w LookInvalid s fine = changed-record (S.records w) dropped (slot_of (S.places w)) s
record-step d S w LookVacant s fine = changed-record (S.records w) dropped (slot_of (S.places w)) s
record-step d S w ShutWon s fine = changed-record (S.records w) dropped (slot_of (S.places w)) s
record-step d S w ShutLost s fine = changed-record (S.records w) dropped (slot_of (S.places w)) s
record-step d S w (TakeReturn part bits) s fine = let r : NoticeRecord = S.records w s in
    ap (λ b. cond b (record r { active = true }) r) (in-mask part s bits (S.returns w) fine.1)
record-step d S w (TakeChange part bits) s fine = let r : NoticeRecord = S.records w s in
    ap (λ b. cond b (record { active = true; group = None }) r) (in-mask part s bits (S.changes w) fine.1)
record-step d S w _ s fine = refl

pub own-records : (d : Shape) (h : List Entry) → IsLegal d h → OwnRecords d h
own-records d [] legal w s = refl
own-records d (e ∷ es) legal w s = let S : ObjectState = state_after d es in
    upd-cases S.records e.worker (records_after e.act (S.places e.worker) (S.changes e.worker) (S.returns e.worker) (S.records e.worker)) w
    (λ r. r s ≡ own_record d w s (e ∷ es))
    (λ same. record-step d S e.worker e.act s legal.1
    ∙ ap (λ u. own_record_after e.act (S.places u) s (S.records u s)) (sym same)
    ∙ ap (own_record_after e.act (place_of d es w) s) (own-records d es legal.2 w s) ∙ sym ((record-by-own d w s).mine e es same))
    (λ other. own-records d es legal.2 w s ∙ sym ((record-by-own d w s).other e es other))
