-- What taken notices do to passes and groups, by the moves.
use Rattle.std.proofs.Common.{◌≡◌, ◌≢◌, ℕ, zero, suc, ◌+◌, ◌*◌, ◌/◌, ◌%◌, ◌<◌, Bool, true, false, ◌&&◌, ◌==◌, if◌then◌else◌, cond, eqb, ltb}
use Rattle.std.proofs.Common.{List, [], ◌∷◌, Some, None, length, slice_get, slice_set, unwrap_or, refl, sym, ap, ◌∙◌, subst, arith}
use Rattle.std.proofs.Common.{lt-ltb, le-ltb, eq-eqb, eqb-true}
use Rattle.std.proofs.Math.Decide.{dec_lt}
use native.Mathlib.Decide.{ℕ_discrete}
use Rattle.std.specs.Prelude.{fold}
use Rattle.std.specs.Int.{bit_at}
use Rattle.std.proofs.lemmas.List.Sums.{fold-append}
use Rattle.slot_history.specs.States.{NoticeRecord}
use Rattle.slot_history.specs.Steps.{is_in_part}
use Rattle.slot_history.specs.Histories.{is_in_mask}
use Rattle.slot_station.proofs.Lists.{get-set_same, get-set_other}
use Rattle.slot_history.specs.declared.act.Act.TheVariants.{TakeReturn, TakeChange}
use Rattle.stride_set.specs.Strides.{Strides, Call, JoinReturn, JoinChange, strides_of, stride_after}
use Rattle.slot_station.specs.Desks.{Desk}
use Rattle.turn_model.specs.Workloads.{Workload}
use Rattle.turn_model.specs.Moves.{Move, Made}
use Rattle.turn_model.specs.Learned.{joins, record_by, strides_by}
use Rattle.turn_model.specs.Told.{KeepsSlot, past_by, told_by}
use Rattle.worker_machine.specs.declared.kept.Known.{Known}
use Rattle.worker_machine.specs.declared.kept.Core.{Core}
use Rattle.worker_machine.specs.declared.phase.Phase.{Phase}
use Rattle.worker_machine.specs.Joins.{joined, returned, changed, forgotten, AreForgotten}
use Rattle.worker_machine.specs.Keeps.{Knows, KeepsRest, kept_of, chosen}
use Rattle.worker_machine.proofs.Moving.{group-on, regroup}

one-call : (b : Bool) (c : Call) (st : Strides) → fold stride_after st (cond b (c ∷ []) []) ≡ (if b then stride_after st c else st)
one-call true c st = refl
one-call false c st = refl

-- the joins of a mask word, as calls
pub joins-are : (join : ℕ → Call) (n part bits : ℕ) (st : Strides) → joined join n part bits st ≡ fold stride_after st (joins join n part bits)
unfolding joined joins
joins-are join zero part bits st = refl
joins-are join (suc n) part bits st =
    ap (λ x. if bit_at bits n == 1 then stride_after x (join (part * 64 + n)) else x) (joins-are join n part bits st)
    ∙ sym (one-call (eqb (bit_at bits n) 1) (join (part * 64 + n)) (fold stride_after st (joins join n part bits)))
    ∙ sym (fold-append stride_after st (joins join n part bits) (cond (eqb (bit_at bits n) 1) (join (part * 64 + n) ∷ []) []))

-- a return notice leaves the group
pub group-kept : (b : Bool) (r : NoticeRecord) → (cond b (record r { active = true }) r).group ≡ r.group
group-kept true r = refl
group-kept false r = refl

-- a change notice forgets it
pub group-gone : (b : Bool) (r : NoticeRecord) → (cond b (record { active = true; group = None }) r).group ≡ cond b None r.group
group-gone true r = refl
group-gone false r = refl

-- ---- groups that are forgotten, one slot after another

-- of the slots of the word whose bit is below n, those with their bit
abbrev pub gone_below : ℕ → ℕ → ℕ → ℕ → Bool
gone_below n part bits s = is_in_part part s && (ltb (s % 64) n && eqb (bit_at bits (s % 64)) 1)

and-false : (b : Bool) → (b && false) ≡ false
and-false true = refl
and-false false = refl

and-same : (a b b' c : Bool) → (a ≡ true → c ≡ true → b ≡ b') → (a && (b && c)) ≡ (a && (b' && c))
and-same true b b' true same = ap (λ x. x && true) (same refl refl)
and-same true b b' false same = and-false b ∙ sym (and-false b')
and-same false b b' c same = refl

gone-none : (part bits s : ℕ) → gone_below 0 part bits s ≡ false
gone-none part bits s =
    ap (λ b. is_in_part part s && (b && eqb (bit_at bits (s % 64)) 1)) (le-ltb (s % 64) 0 (omega arith)) ∙ and-false (is_in_part part s)

gone-all : (part bits s : ℕ) → gone_below 64 part bits s ≡ is_in_mask part bits s
gone-all part bits s = ap (λ b. is_in_part part s && (b && eqb (bit_at bits (s % 64)) 1)) (lt-ltb (s % 64) 64 (omega arith))

ltb-on : (k n : ℕ) → k ≢ n → Dec (k < n) → ltb k (n + 1) ≡ ltb k n
ltb-on k n differs (yes lt) = lt-ltb k (n + 1) (omega (arith, lt)) ∙ sym (lt-ltb k n lt)
ltb-on k n differs (no ge) = le-ltb k (n + 1) (omega (arith, ge, differs)) ∙ sym (le-ltb k n (omega (arith, ge)))

-- one bit more changes nothing but the slot of this bit, and that one only if it is set
gone-on : (n part bits s : ℕ) → (s ≡ part * 64 + n → bit_at bits n ≢ 1) → gone_below (n + 1) part bits s ≡ gone_below n part bits s
gone-on n part bits s other =
    and-same (is_in_part part s) (ltb (s % 64) (n + 1)) (ltb (s % 64) n) (eqb (bit_at bits (s % 64)) 1)
    (λ here set. ltb-on (s % 64) n (differs here set) (dec_lt (s % 64) n)) where
      differs : is_in_part part s ≡ true → eqb (bit_at bits (s % 64)) 1 ≡ true → s % 64 ≢ n
      differs here set e =
          let p : s / 64 ≡ part = eqb-true (s / 64) part here in
          other (omega (arith, e, p)) (ap (bit_at bits) (sym e) ∙ eqb-true (bit_at bits (s % 64)) 1 set)

gone-now : (n part bits s : ℕ) → s ≡ part * 64 + n → n < 64 → bit_at bits n ≡ 1 → gone_below (n + 1) part bits s ≡ true
gone-now n part bits s here small set =
    let at : s % 64 ≡ n = omega (arith, here, small) in
    let in_part : is_in_part part s ≡ true = eq-eqb (s / 64) part (omega (arith, here, small)) in
    ap (λ b. b && (ltb (s % 64) (n + 1) && eqb (bit_at bits (s % 64)) 1)) in_part
    ∙ ap (λ b. b && eqb (bit_at bits (s % 64)) 1) (lt-ltb (s % 64) (n + 1) (omega (arith, at)))
    ∙ eq-eqb (bit_at bits (s % 64)) 1 (ap (bit_at bits) at ∙ set)

known-same : (x y : Known) → Some x ≡ Some y → x ≡ y
known-same x y e = ap (λ o. unwrap_or o x) e

pub forgot-none : (part bits : ℕ) (items : List Known) → AreForgotten (gone_below 0 part bits) items items
forgot-none part bits items s known got = (known, got, sym (ap (λ b. forgotten b known) (gone-none part bits s)))

pub forgot-all : (part bits : ℕ) (old new : List Known) → AreForgotten (gone_below 64 part bits) old new → AreForgotten (is_in_mask part bits) old new
forgot-all part bits old new all s known got =
    let b = all s known got in (b.0, b.1, b.2 ∙ ap (λ x. forgotten x b.0) (gone-all part bits s))

module _ (n part bits : ℕ) (old new : List Known) (all : AreForgotten (gone_below n part bits) old new) where
  -- the bit is not set
  pub forgot-skip : bit_at bits n ≢ 1 → AreForgotten (gone_below (n + 1) part bits) old new
  forgot-skip clear s known got =
      let b = all s known got in (b.0, b.1, b.2 ∙ ap (λ x. forgotten x b.0) (sym (gone-on n part bits s (λ e. clear))))

  -- it is
  pub forgot-one : (k : Known) → bit_at bits n ≡ 1 → n < 64 → part * 64 + n < length new → slice_get new (part * 64 + n) ≡ Some k
      → AreForgotten (gone_below (n + 1) part bits) old (slice_set new (part * 64 + n) (record k { group = None }))
  forgot-one k set small low here s known got = at (ℕ_discrete s (part * 64 + n)) where
    at : Dec (s ≡ part * 64 + n) → (before : Known) × (slice_get old s ≡ Some before) × (known ≡ forgotten (gone_below (n + 1) part bits s) before)
    at (yes e) =
        let b = all s k (ap (slice_get new) e ∙ here) in
        let known-is : known ≡ record k { group = None } =
        known-same known (record k { group = None }) (sym got ∙ ap (slice_get (slice_set new (part * 64 + n) (record k { group = None }))) e
        ∙ get-set_same new (part * 64 + n) (record k { group = None }) low) in
        (b.0, b.1, known-is ∙ ap (λ (x : Known). record x { group = None }) b.2 ∙ ap (λ x. forgotten x b.0) (sym (gone-now n part bits s e small set)))
    at (no other) =
        let b = all s known (sym (get-set_other new (part * 64 + n) s (record k { group = None }) other) ∙ got) in
        (b.0, b.1, b.2 ∙ ap (λ x. forgotten x b.0) (sym (gone-on n part bits s (λ e. absurd (other e)))))

-- ---- what a worker knows after it took notices

module _ {D : Desk Workload} {core core' : Core} {phase phase' : Phase} (part bits : ℕ) (ms : List Move) (k : Knows D (told_by D ms) core phase) where
  pub took-returns : chosen phase (strides_by D ms) ≡ strides_by D ms → strides_of core'.strides ≡ returned 64 part bits (strides_of core.strides)
      → KeepsRest core core' → chosen phase' (strides_by D (Made (TakeReturn part bits) 0 ∷ ms)) ≡ strides_by D (Made (TakeReturn part bits) 0 ∷ ms)
      → Knows D (told_by D (Made (TakeReturn part bits) 0 ∷ ms)) core' phase'
  took-returns same joined rest same' = record {
    strides = joined ∙ ap (returned 64 part bits) (k.strides ∙ same) ∙ joins-are JoinReturn 64 part bits (strides_by D ms) ∙ sym same';
    finished = rest.finished ∙ k.finished;
    arrived = rest.arrived ∙ k.arrived;
    times = rest.times ∙ k.times;
    slots = λ s known got. let kept = k.slots s known (ap (λ (v : _). slice_get v.items s) (sym rest.known) ∙ got) in
        group-on kept (kept.group ∙ sym (group-kept (is_in_mask part bits s) (record_by D s ms))) refl (λ q. refl) (λ id. (refl, refl));
  }

  pub took-changes : chosen phase (strides_by D ms) ≡ strides_by D ms → strides_of core'.strides ≡ changed 64 part bits (strides_of core.strides)
      → AreForgotten (is_in_mask part bits) core.known.items core'.known.items
      → (core'.finished ≡ core.finished) × (core'.arrived ≡ core.arrived) × (core'.times ≡ core.times)
      → chosen phase' (strides_by D (Made (TakeChange part bits) 0 ∷ ms)) ≡ strides_by D (Made (TakeChange part bits) 0 ∷ ms)
      → Knows D (told_by D (Made (TakeChange part bits) 0 ∷ ms)) core' phase'
  took-changes same joined groups rest same' = record {
    strides = joined ∙ ap (changed 64 part bits) (k.strides ∙ same) ∙ joins-are JoinChange 64 part bits (strides_by D ms) ∙ sym same';
    finished = rest.0 ∙ k.finished;
    arrived = rest.1 ∙ k.arrived;
    times = rest.2 ∙ k.times;
    slots = λ s known got. let b = groups s known got in let kept = k.slots s b.0 b.1 in
        subst (λ x. KeepsSlot D (past_by D (Made (TakeChange part bits) 0 ∷ ms)) s (kept_of x)) (sym b.2)
        (regroup (cond (is_in_mask part bits s) None b.0.group) kept
        (ap (cond (is_in_mask part bits s) None) kept.group
        ∙ sym (group-gone (is_in_mask part bits s) (record_by D s ms))) refl (λ q. refl) (λ id. (refl, refl)));
  }
