-- The active slots are those whose notice records are active.
use Rattle.std.proofs.Common.{◌≡◌, ◌≢◌, ℕ, zero, suc, ◌+◌, ◌*◌, ◌/◌, ◌%◌, ◌<◌, ◌≤◌, Bool}
use Rattle.std.proofs.Common.{true, false, ◌&&◌, ◌==◌, if◌then◌else◌, cond, eqb, ltb, List, [], ◌∷◌}
use Rattle.std.proofs.Common.{Option, Some, None, refl, sym, ap, ◌∙◌, arith, eq-eqb, ne_eqb, eqb-true, lt-ltb, le-ltb}
use Rattle.std.proofs.Math.Decide.{dec_lt}
use Rattle.std.specs.Prelude.{fold}
use Rattle.std.specs.Int.{bit_at}
use Rattle.std.proofs.lemmas.List.Sums.{fold-append}
use native.Mathlib.Decide.{ℕ_discrete}
use Rattle.slot_history.specs.declared.shape.TheConstants.{STAGES}
use Rattle.slot_history.specs.declared.act.Act.TheVariants.{LookOpen, LookInvalid, LookVacant, ShutWon, ShutLost, TakeReturn, TakeChange}
use Rattle.slot_history.specs.States.{NoticeRecord}
use Rattle.slot_history.specs.Steps.{is_in_part, dropped, looked}
use Rattle.slot_history.specs.Histories.{is_in_mask}
use Rattle.stride_set.specs.Strides.{Strides, Call, JoinReturn, JoinChange, DropSlot, stride_after}
use Rattle.slot_station.specs.Desks.{Desk}
use Rattle.turn_model.specs.Workloads.{Workload}
use Rattle.turn_model.specs.Moves.{Move, Made, Exchanged}
use Rattle.turn_model.specs.Learned.{joins, allows, slot_by, lets_in, record_by, strides_by}
use Rattle.turn_model.specs.Activity.{ActiveByRecords}

-- of the slots below n of the part, those with their bit
abbrev joins_below : ℕ → ℕ → ℕ → ℕ → Bool
joins_below n part bits s = is_in_part part s && (ltb (s % 64) n && eqb (bit_at bits (s % 64)) 1)

module _ (join : ℕ → Call) (active_then : (st : Strides) (k s : ℕ) → (stride_after st (join k)).active s ≡ (if s == k then true else st.active s)) where
  joins-next : (n part bits : ℕ) (st : Strides) → fold stride_after st (joins join (suc n) part bits)
      ≡ fold stride_after (fold stride_after st (joins join n part bits)) (cond (eqb (bit_at bits n) 1) (join (part * 64 + n) ∷ []) [])
  unfolding joins
  joins-next n part bits st = fold-append stride_after st (joins join n part bits) (cond (eqb (bit_at bits n) 1) (join (part * 64 + n) ∷ []) [])

  joins-none : (part bits : ℕ) (st : Strides) → fold stride_after st (joins join 0 part bits) ≡ st
  unfolding joins
  joins-none part bits st = refl

  -- one bit more
  one-more : (b : Bool) (k s : ℕ) (st : Strides) → (fold stride_after st (cond b (join k ∷ []) [])).active s ≡ (if (b && (s == k)) then true else st.active s)
  one-more true k s st = active_then st k s
  one-more false k s st = refl

  next-bit : (n part bits s : ℕ) (x : Bool) → n < 64 → Dec (s ≡ part * 64 + n)
      → (if (eqb (bit_at bits n) 1 && (s == part * 64 + n)) then true else cond (joins_below n part bits s) true x) ≡ cond
      (joins_below (suc n) part bits s) true x
  next-bit n part bits s x small (yes here) = at (eqb (bit_at bits n) 1) refl where
    place : s % 64 ≡ n
    place = omega (arith, here, small)

    part-is : s / 64 ≡ part
    part-is = omega (arith, here, small)

    within : is_in_part part s ≡ true
    within = eq-eqb _ _ part-is

    at : (b : Bool) → eqb (bit_at bits n) 1 ≡ b
        → (if (eqb (bit_at bits n) 1 && (s == part * 64 + n)) then true else cond (joins_below n part bits s) true x) ≡ cond
        (joins_below (suc n) part bits s) true x
    at true set =
        ap (λ b. if (b && (s == part * 64 + n)) then true else cond (joins_below n part bits s) true x) set
        ∙ ap (λ b. if b then true else cond (joins_below n part bits s) true x) (eq-eqb s (part * 64 + n) here)
        ∙ sym (ap (λ b. cond (b && (ltb (s % 64) (suc n) && eqb (bit_at bits (s % 64)) 1)) true x) within
        ∙ ap (λ b. cond (b && eqb (bit_at bits (s % 64)) 1) true x) (lt-ltb (s % 64) (suc n) (omega (arith, place)))
        ∙ ap (λ k. cond (eqb (bit_at bits k) 1) true x) place ∙ ap (λ b. cond b true x) set)
    at false clear =
        ap (λ b. if (b && (s == part * 64 + n)) then true else cond (joins_below n part bits s) true x) clear
        ∙ ap (λ b. cond (b && (ltb (s % 64) n && eqb (bit_at bits (s % 64)) 1)) true x) within
        ∙ ap (λ b. cond (b && eqb (bit_at bits (s % 64)) 1) true x) (le-ltb (s % 64) n (omega (arith, place)))
        ∙ sym (ap (λ b. cond (b && (ltb (s % 64) (suc n) && eqb (bit_at bits (s % 64)) 1)) true x) within
        ∙ ap (λ b. cond (b && eqb (bit_at bits (s % 64)) 1) true x) (lt-ltb (s % 64) (suc n) (omega (arith, place)))
        ∙ ap (λ k. cond (eqb (bit_at bits k) 1) true x) place ∙ ap (λ b. cond b true x) clear)
  next-bit n part bits s x small (no other) =
      ap (λ b. if (eqb (bit_at bits n) 1 && b) then true else cond (joins_below n part bits s) true x) (ne_eqb s (part * 64 + n) other)
      ∙ never (eqb (bit_at bits n) 1) ∙ ap (λ b. cond b true x) (same (ℕ_discrete (s % 64) n)) where
        never : (b : Bool) → (if (b && false) then true else cond (joins_below n part bits s) true x) ≡ cond (joins_below n part bits s) true x
        never true = refl
        never false = refl

        outside : s % 64 ≡ n → is_in_part part s ≡ false
        outside e = ne_eqb (s / 64) part (λ p. other (omega (arith, e, p)))

        ltb-same : s % 64 ≢ n → Dec (s % 64 < n) → ltb (s % 64) n ≡ ltb (s % 64) (suc n)
        ltb-same differs (yes lt) = lt-ltb (s % 64) n lt ∙ sym (lt-ltb (s % 64) (suc n) (omega (arith, lt)))
        ltb-same differs (no ge) = le-ltb (s % 64) n (omega (arith, ge)) ∙ sym (le-ltb (s % 64) (suc n) (omega (arith, ge, differs)))

        same : Dec (s % 64 ≡ n) → joins_below n part bits s ≡ joins_below (suc n) part bits s
        same (yes e) = ap (λ b. b && (ltb (s % 64) n && eqb (bit_at bits (s % 64)) 1)) (outside e)
            ∙ sym (ap (λ b. b && (ltb (s % 64) (suc n) && eqb (bit_at bits (s % 64)) 1)) (outside e))
        same (no differs) = ap (λ b. is_in_part part s && (b && eqb (bit_at bits (s % 64)) 1)) (ltb-same differs (dec_lt (s % 64) n))

  joined-active : (n part bits s : ℕ) (st : Strides) → n ≤ 64
      → (fold stride_after st (joins join n part bits)).active s ≡ cond (joins_below n part bits s) true (st.active s)
  joined-active zero part bits s st small = ap (λ (x : Strides). x.active s) (joins-none part bits st) ∙ sym (none-below (is_in_part part s)) where
    none-below : (b : Bool) → cond (b && (ltb (s % 64) 0 && eqb (bit_at bits (s % 64)) 1)) true (st.active s) ≡ st.active s
    none-below true = ap (λ b. cond (b && eqb (bit_at bits (s % 64)) 1) true (st.active s)) (le-ltb (s % 64) 0 (omega arith))
    none-below false = refl
  joined-active (suc n) part bits s st small =
      ap (λ (x : Strides). x.active s) (joins-next n part bits st)
      ∙ one-more (eqb (bit_at bits n) 1) (part * 64 + n) s (fold stride_after st (joins join n part bits))
      ∙ ap (λ y. if (eqb (bit_at bits n) 1 && (s == part * 64 + n)) then true else y) (joined-active n part bits s st (omega (arith, small)))
      ∙ next-bit n part bits s (st.active s) (omega (arith, small)) (ℕ_discrete s (part * 64 + n))

  -- a whole mask word
  word-active : (part bits s : ℕ) (st : Strides) → (fold stride_after st (joins join 64 part bits)).active s ≡ cond (is_in_mask part bits s) true (st.active s)
  word-active part bits s st = joined-active 64 part bits s st (omega arith)
      ∙ ap (λ b. cond (is_in_part part s && (b && eqb (bit_at bits (s % 64)) 1)) true (st.active s)) (lt-ltb (s % 64) 64 (omega arith))

return-record : (b : Bool) (r : NoticeRecord) → cond b true r.active ≡ (cond b (record r { active = true }) r).active
return-record true r = refl
return-record false r = refl

change-record : (b : Bool) (r : NoticeRecord) → cond b true r.active ≡ (cond b (record { active = true; group = None }) r).active
change-record true r = refl
change-record false r = refl

-- a slot is dropped
drop-record : (b : Bool) (r : NoticeRecord) → (if b then false else r.active) ≡ (cond b (dropped r) r).active
drop-record true r = refl
drop-record false r = refl

module _ (D : Desk Workload) (ms : List Move) (s : ℕ) (ih : (strides_by D ms).active s ≡ (record_by D s ms).active) where
  drops : (if s == slot_by D ms then false else (strides_by D ms).active s) ≡
      (cond (eqb s (slot_by D ms)) (dropped (record_by D s ms)) (record_by D s ms)).active
  drops = ap (λ y. if s == slot_by D ms then false else y) ih ∙ drop-record (eqb s (slot_by D ms)) (record_by D s ms)

  -- a look that is open: by the group of the record
  by-group : (r : NoticeRecord) (q : ℕ) (group : Option ℕ) → r.group ≡ group → (cond (allows group q) r (dropped r)).active ≡ (looked q r).active
  by-group r q None is = ap (λ (g : Option ℕ). (looked q (record r { group = g })).active) (sym is)
  by-group r q (Some g) is = choice (eqb g q) ∙ ap (λ (x : Option ℕ). (looked q (record r { group = x })).active) (sym is) where
    choice : (b : Bool) → (cond b r (dropped r)).active ≡ (cond b (record r { group = Some g }) (dropped (record r { group = Some g }))).active
    choice true = refl
    choice false = refl

  looks : (q : ℕ) (b c : Bool) → eqb s (slot_by D ms) ≡ b → lets_in D ms q ≡ c
      → (fold stride_after (strides_by D ms) (cond c [] (DropSlot (slot_by D ms) ∷ []))).active s
      ≡ (cond b (looked q (record_by D s ms)) (record_by D s ms)).active
  looks q true true here lets = ih ∙ ap (λ b. (cond b (record_by D s ms) (dropped (record_by D s ms))).active) (sym (mine ∙ lets))
      ∙ by-group (record_by D s ms) q _ refl where
        mine : allows (record_by D s ms).group q ≡ lets_in D ms q
        mine = ap (λ k. allows (record_by D k ms).group q) (eqb-true s (slot_by D ms) here)
  looks q true false here lets =
      ap (λ b. if b then false else (strides_by D ms).active s) here
      ∙ ap (λ b. (cond b (record_by D s ms) (dropped (record_by D s ms))).active)
      (sym (ap (λ k. allows (record_by D k ms).group q) (eqb-true s (slot_by D ms) here) ∙ lets))
      ∙ by-group (record_by D s ms) q _ refl
  looks q false true here lets = ih
  looks q false false here lets = ap (λ b. if b then false else (strides_by D ms).active s) here ∙ ih

pub active-by-records : ActiveByRecords
active-by-records D [] s = refl
active-by-records D (Made (TakeReturn part bits) t ∷ ms) s =
    word-active JoinReturn (λ st k j. refl) part bits s (strides_by D ms)
    ∙ ap (cond (is_in_mask part bits s) true) (active-by-records D ms s) ∙ return-record (is_in_mask part bits s) (record_by D s ms)
active-by-records D (Made (TakeChange part bits) t ∷ ms) s =
    word-active JoinChange (λ st k j. refl) part bits s (strides_by D ms)
    ∙ ap (cond (is_in_mask part bits s) true) (active-by-records D ms s) ∙ change-record (is_in_mask part bits s) (record_by D s ms)
active-by-records D (Made (LookOpen id) t ∷ ms) s =
    looks D ms s (active-by-records D ms s) (id / STAGES) (eqb s (slot_by D ms)) (lets_in D ms (id / STAGES)) refl refl
active-by-records D (Made LookInvalid t ∷ ms) s = drops D ms s (active-by-records D ms s)
active-by-records D (Made LookVacant t ∷ ms) s = drops D ms s (active-by-records D ms s)
active-by-records D (Made ShutWon t ∷ ms) s = drops D ms s (active-by-records D ms s)
active-by-records D (Made ShutLost t ∷ ms) s = drops D ms s (active-by-records D ms s)
active-by-records D (Made a t ∷ ms) s = active-by-records D ms s
active-by-records D (Exchanged ∷ ms) s = active-by-records D ms s
