-- What calls do to the numbers that whole turns lower.
use Rattle.std.proofs.Common.{◌≡◌, ◌⊎◌, inl, inr, ⊎_elim, ℕ, zero, suc, ◌+◌, ◌-◌, ◌*◌, ◌<◌, ◌≤◌, Bool, true, false, ◌&&◌, cond, eqb}
use Rattle.std.proofs.Common.{Option, Some, None, refl, sym, ap, ◌∙◌, subst, arith}
use Rattle.std.proofs.lemmas.Bool.{true≢false, cond_both, cases_lt}
use Rattle.slot_history.specs.declared.shape.Shape.{Shape}
use Rattle.slot_history.specs.declared.act.Act.{Act}
use Rattle.slot_history.specs.declared.act.Act.TheVariants.{AdmitGot, NoteDone, TakeReturn, TakeChange}
use Rattle.slot_history.specs.Sets.{upd, count_of, sum_below}
use Rattle.slot_history.specs.States.{SlotState, Empty, Reserved, Open, Shut, Finishing, ObjectState, NoticeRecord, task_of}
use Rattle.slot_history.specs.States.{is_empty, is_shut}
use Rattle.slot_history.specs.Steps.{site, slot_after, claimed, shut_by, finalised_by, ended, changes_after, returns_after, records_after, taken, is_in_part}
use Rattle.slot_history.specs.Steps.{joined_by_return, joined_by_change, dropped, looked, looked_group, admitted_after, finished_after, next}
use Rattle.slot_history.proofs.Sets.{upd-cases, upd-same, upd-else, count-grows, count-grows_one}
use Rattle.turn_model.specs.Workloads.{Workload, sets_of}
use Rattle.turn_model.specs.Learned.{allows}
use Rattle.turn_model.specs.Measure.{unclaimed, count_all, Falls, admits, notes, claims, drops}
use Rattle.run_laws.specs.Ends.{IsKept}
use Rattle.run_laws.proofs.Least.{sum-equal, sum-turns, sum-most}

pub kept-self : (d : Shape) (S : ObjectState) → IsKept d S S
kept-self d S = record { admitted = refl; finished = refl; tuples = refl; notices_fall = omega arith }

pub kept-then : (d : Shape) (S T U : ObjectState) → IsKept d S T → IsKept d T U → IsKept d S U
kept-then d S T U one two = record {
  admitted = two.admitted ∙ one.admitted;
  finished = two.finished ∙ one.finished;
  tuples = two.tuples ∙ one.tuples;
  notices_fall = let a = one.notices_fall in let b = two.notices_fall in omega (arith, a, b);
}

pub kept-falls : (d : Shape) (load : Workload) (S T U : ObjectState) → IsKept d S T → Falls d load T U → Falls d load S U
kept-falls d load S T U kept (admits more within) = admits (let a = kept.admitted in omega (arith, a, more)) within
kept-falls d load S T U kept (notes same fewer) = notes (same ∙ kept.admitted) (let a = kept.finished in omega (arith, a, fewer))
kept-falls d load S T U kept (claims same sets fewer) = claims (same ∙ kept.admitted) (sets ∙ ap (λ n. sets_of d load - n) kept.finished)
    (let a = kept.tuples in omega (arith, a, fewer))
kept-falls d load S T U kept (drops same sets left fewer) =
    drops (same ∙ kept.admitted) (sets ∙ ap (λ n. sets_of d load - n) kept.finished) (left ∙ kept.tuples)
    (let a = kept.notices_fall in omega (arith, a, fewer))

pub falls-then : (d : Shape) (load : Workload) (S T U : ObjectState) → Falls d load S T → IsKept d T U → Falls d load S U
falls-then d load S T U (admits more within) kept = admits (let a = kept.admitted in omega (arith, a, more)) (let a = kept.admitted in omega (arith, a, within))
falls-then d load S T U (notes same fewer) kept = notes (kept.admitted ∙ same) (let a = kept.finished in omega (arith, a, fewer))
falls-then d load S T U (claims same sets fewer) kept = claims (kept.admitted ∙ same) (ap (λ n. sets_of d load - n) kept.finished ∙ sets)
    (let a = kept.tuples in omega (arith, a, fewer))
falls-then d load S T U (drops same sets left fewer) kept =
    drops (kept.admitted ∙ same) (ap (λ n. sets_of d load - n) kept.finished ∙ sets) (kept.tuples ∙ left)
    (let a = kept.notices_fall in omega (arith, a, fewer))

-- ---- queries and task sets that are done

-- a query was admitted since, or a task set was noted as done
abbrev pub HasRisen : ObjectState → ObjectState → Type 0
HasRisen S T = (S.admitted < T.admitted) ⊎ ((T.admitted ≡ S.admitted) × (S.finished < T.finished))

admitted-grows : (a : Act) (n : ℕ) → n ≤ admitted_after a n
admitted-grows (AdmitGot q) n = omega arith
admitted-grows _ n = omega arith

pub finished-grows : (a : Act) (n : ℕ) → n ≤ finished_after a n
finished-grows (NoteDone k) n = omega arith
finished-grows _ n = omega arith

risen-more : (m n more k f g : ℕ) → m < n ⊎ ((n ≡ m) × (f < g)) → n ≤ more → g ≤ k → m < more ⊎ ((more ≡ m) × (f < k))
risen-more m n more k f g (inl less) a b = inl (omega (arith, less, a))
risen-more m n more k f g (inr (same, less)) a b = ⊎_elim
    (λ grows. inl (omega (arith, grows, same)))
    (λ stays. inr (omega (arith, stays, a, same), omega (arith, less, b)))
    (cases_lt n more)

pub risen-falls : (d : Shape) (load : Workload) (S T : ObjectState) → HasRisen S T → T.admitted ≤ d.queries → T.finished ≤ sets_of d load → Falls d load S T
risen-falls d load S T (inl more) within low = admits more within
risen-falls d load S T (inr (same, more)) within low = notes same (omega (arith, more, low))

-- ---- tuples

abbrev pub left_at : SlotState → ℕ
left_at x = (task_of x).total - (task_of x).cursor

pub left-empty : (x : SlotState) → is_empty x ≡ true → 0 ≡ left_at x
left-empty Empty h = refl
left-empty _ h = absurd (true≢false (sym h))

spent : (t c n : ℕ) → t ≤ c → t - (c + n) ≡ t - c
spent t c n h = omega (arith, h)

pub left-used : (x : SlotState) (n : ℕ) → (task_of x).total ≤ (task_of x).cursor → left_at (claimed x n) ≡ left_at x
left-used (Open t) n h = spent t.total t.cursor n h
left-used (Shut t end) n h = spent t.total t.cursor n h
left-used _ n h = refl

pub left-shut : (w : ℕ) (x : SlotState) → left_at (shut_by w x) ≡ left_at x
left-shut w Empty = refl
left-shut w _ = refl

pub left-ended : (d : Shape) (w : ℕ) (a : Act) (x : SlotState) → left_at (ended d w a x) ≡ left_at x
left-ended d w a Empty = refl
left-ended d w a _ = refl

pub left-last : (w : ℕ) (x : SlotState) → (is_shut x ≡ true → (task_of x).total ≤ (task_of x).cursor) → left_at (finalised_by w x) ≡ left_at x
left-last w (Shut t end) full = let f : t.total ≤ t.cursor = full refl in let r : 0 - 0 ≡ t.total - t.cursor = omega (arith, f) in r
left-last w _ full = refl

pub left-claimed : (x : SlotState) (n : ℕ) → 0 < n → (task_of x).cursor < (task_of x).total → left_at (claimed x n) < left_at x
left-claimed (Open t) n some low = let r : t.total - (t.cursor + n) < t.total - t.cursor = omega (arith, some, low) in r
left-claimed (Shut t end) n some low = let r : t.total - (t.cursor + n) < t.total - t.cursor = omega (arith, some, low) in r
left-claimed Empty n some low = absurd (omega (arith, low))
left-claimed (Reserved w h) n some low = absurd (omega (arith, low))
left-claimed (Finishing id w h) n some low = absurd (omega (arith, low))

module _ (d : Shape) (S : ObjectState) (w : ℕ) (a : Act) where
  unclaimed-same : left_at (slot_after d w a (S.slots (site a (S.places w)))) ≡ left_at (S.slots (site a (S.places w)))
      → unclaimed d (next d S w a) ≡ unclaimed d S
  unclaimed-same same = let k : ℕ = site a (S.places w) in
      sum-equal d.slots (λ s. left_at (S.slots s)) (λ s. left_at ((next d S w a).slots s))
      (λ s low. upd-cases S.slots k (slot_after d w a (S.slots k)) s (λ x. left_at x ≡ left_at (S.slots s))
      (λ e. same ∙ ap (λ j. left_at (S.slots j)) (sym e)) (λ n. refl))

  unclaimed-less : site a (S.places w) < d.slots → left_at (slot_after d w a (S.slots (site a (S.places w)))) < left_at (S.slots (site a (S.places w)))
      → unclaimed d (next d S w a) < unclaimed d S
  unclaimed-less low less = let k : ℕ = site a (S.places w) in
      let f : ℕ → ℕ = λ s. left_at (S.slots s) in
      let g : ℕ → ℕ = λ s. left_at ((next d S w a).slots s) in
      let turns : sum_below d.slots g + f k ≡ sum_below d.slots f + g k = sum-turns d.slots k f g low
      (λ s n. ap left_at (upd-else S.slots k (slot_after d w a (S.slots k)) s n)) in
      let here : g k ≡ left_at (slot_after d w a (S.slots k)) = ap left_at (upd-same S.slots k (slot_after d w a (S.slots k))) in
      let falls : left_at (slot_after d w a (S.slots k)) < f k = less in
      omega (arith, turns, here, falls)

-- ---- notices

abbrev one_if : Bool → ℕ
one_if b = cond b 1 0

-- how many records of a worker are active
abbrev active_of : Shape → (ℕ → NoticeRecord) → ℕ
active_of d r = count_of d.slots (λ s. (r s).active)

module _ (d : Shape) (S : ObjectState) (w : ℕ) (new : ℕ → NoticeRecord) where
  active-most : ((s : ℕ) → (new s).active ≡ true → (S.records w s).active ≡ true)
      → count_all d (λ v s. (upd S.records w new v s).active) ≤ count_all d (λ v s. (S.records v s).active)
  active-most less = sum-most d.workers (λ v. active_of d (upd S.records w new v)) (λ v. active_of d (S.records v))
      (λ v low. upd-cases S.records w new v (λ r. active_of d r ≤ active_of d (S.records v))
      (λ e. subst (λ u. active_of d new ≤ active_of d (S.records u)) (sym e)
      (count-grows d.slots (λ s. (new s).active) (λ s. (S.records w s).active) (λ s s_low. less s)))
      (λ n. omega arith))

  active-turns : w < d.workers → count_all d (λ v s. (upd S.records w new v s).active) + active_of d (S.records w)
      ≡ count_all d (λ v s. (S.records v s).active) + active_of d new
  active-turns low =
      let f : ℕ → ℕ = λ v. active_of d (S.records v) in
      let g : ℕ → ℕ = λ v. active_of d (upd S.records w new v) in
      let turns : sum_below d.workers g + f w ≡ sum_below d.workers f + g w = sum-turns d.workers w f g low
      (λ v n. ap (active_of d) (upd-else S.records w new v n)) in
      let here : g w ≡ active_of d new = ap (active_of d) (upd-same S.records w new) in
      omega (arith, turns, here)

  -- one record is dropped
  active-less : w < d.workers → (k : ℕ) → k < d.slots → (S.records w k).active ≡ true → (new k).active ≡ false
      → ((s : ℕ) → (new s).active ≡ true → (S.records w s).active ≡ true)
      → count_all d (λ v s. (upd S.records w new v s).active) < count_all d (λ v s. (S.records v s).active)
  active-less low k k_low was gone less =
      let turns = active-turns low in
      let row : active_of d new + 1 ≤ active_of d (S.records w) =
      count-grows_one d.slots (λ s. (new s).active) (λ s. (S.records w s).active) k k_low gone was (λ s s_low. less s) in
      omega (arith, turns, row)

-- pending notices of a worker that are taken
module _ (d : Shape) (w : ℕ) (pending : ℕ → ℕ → Bool) (rest : ℕ → Bool) where
  pending-turns : w < d.workers → count_all d (upd pending w rest) + count_of d.slots (pending w) ≡ count_all d pending + count_of d.slots rest
  pending-turns low =
      let f : ℕ → ℕ = λ v. count_of d.slots (pending v) in
      let g : ℕ → ℕ = λ v. count_of d.slots (upd pending w rest v) in
      let turns : sum_below d.workers g + f w ≡ sum_below d.workers f + g w = sum-turns d.workers w f g low
      (λ v n. ap (count_of d.slots) (upd-else pending w rest v n)) in
      let here : g w ≡ count_of d.slots rest = ap (count_of d.slots) (upd-same pending w rest) in
      omega (arith, turns, here)

-- where each slot has at most half as many notices less as active records more, so have all
rows : (n : ℕ) (p q a b : ℕ → Bool) → ((s : ℕ) → 2 * one_if (q s) + one_if (b s) ≤ 2 * one_if (p s) + one_if (a s))
    → 2 * count_of n q + count_of n b ≤ 2 * count_of n p + count_of n a
rows zero p q a b each = omega arith
rows (suc n) p q a b each =
    let here : 2 * one_if (q n) + one_if (b n) ≤ 2 * one_if (p n) + one_if (a n) = each n in
    let r : 2 * count_of n q + count_of n b ≤ 2 * count_of n p + count_of n a = rows n p q a b each in
    omega (arith, here, r)

taken-return : (part : ℕ) (pending : ℕ → Bool) (r : ℕ → NoticeRecord) (s : ℕ)
    → 2 * one_if (taken part pending s) + one_if (joined_by_return part pending r s).active ≤ 2 * one_if (pending s) + one_if (r s).active
taken-return part pending r s = at (is_in_part part s) (pending s) (r s) where
  at : (b p : Bool) (x : NoticeRecord)
      → 2 * one_if (cond b false p) + one_if (cond (b && p) (record x { active = true }) x).active ≤ 2 * one_if p + one_if x.active
  at true true x = omega arith
  at true false x = omega arith
  at false p x = omega arith

taken-change : (part : ℕ) (pending : ℕ → Bool) (r : ℕ → NoticeRecord) (s : ℕ)
    → 2 * one_if (taken part pending s) + one_if (joined_by_change part pending r s).active ≤ 2 * one_if (pending s) + one_if (r s).active
taken-change part pending r s = at (is_in_part part s) (pending s) (r s) where
  at : (b p : Bool) (x : NoticeRecord)
      → 2 * one_if (cond b false p) + one_if (cond (b && p) (record { active = true; group = None }) x).active ≤ 2 * one_if p + one_if x.active
  at true true x = omega arith
  at true false x = omega arith
  at false p x = omega arith

-- ---- calls that keep the numbers

pub kept-return : (d : Shape) (S : ObjectState) (w part bits : ℕ) → w < d.workers → IsKept d S (next d S w (TakeReturn part bits))
kept-return d S w part bits low =
    let rest : ℕ → Bool = taken part (S.returns w) in
    let new : ℕ → NoticeRecord = joined_by_return part (S.returns w) (S.records w) in
    record {
      admitted = refl;
      finished = refl;
      tuples = unclaimed-same d S w (TakeReturn part bits) refl;
      notices_fall =
          let a = active-turns d S w new low in
          let p = pending-turns d w S.returns rest low in
          let r : 2 * count_of d.slots rest + active_of d new ≤ 2 * count_of d.slots (S.returns w) + active_of d (S.records w) =
          rows d.slots (S.returns w) rest (λ s. (S.records w s).active) (λ s. (new s).active) (taken-return part (S.returns w) (S.records w)) in
          omega (arith, a, p, r);
    }

pub kept-change : (d : Shape) (S : ObjectState) (w part bits : ℕ) → w < d.workers → IsKept d S (next d S w (TakeChange part bits))
kept-change d S w part bits low =
    let rest : ℕ → Bool = taken part (S.changes w) in
    let new : ℕ → NoticeRecord = joined_by_change part (S.changes w) (S.records w) in
    record {
      admitted = refl;
      finished = refl;
      tuples = unclaimed-same d S w (TakeChange part bits) refl;
      notices_fall =
          let a = active-turns d S w new low in
          let p = pending-turns d w S.changes rest low in
          let r : 2 * count_of d.slots rest + active_of d new ≤ 2 * count_of d.slots (S.changes w) + active_of d (S.records w) =
          rows d.slots (S.changes w) rest (λ s. (S.records w s).active) (λ s. (new s).active) (taken-change part (S.changes w) (S.records w)) in
          omega (arith, a, p, r);
    }

-- the records of the worker that calls, after the call
abbrev pub new_records : ObjectState → ℕ → Act → ℕ → NoticeRecord
new_records S w a = records_after a (S.places w) (S.changes w) (S.returns w) (S.records w)

-- the call tells nobody, takes no notice, admits no query and notes nothing
pub record IsPlain (d : Shape) (S : ObjectState) (w : ℕ) (a : Act) : Type 0 where
  pub admitted : admitted_after a S.admitted ≡ S.admitted
  pub finished : finished_after a S.finished ≡ S.finished
  pub changes : changes_after w a (S.places w) S.changes ≡ S.changes
  pub returns : returns_after w a (S.places w) S.returns ≡ S.returns
  pub active : (s : ℕ) → (new_records S w a s).active ≡ true → (S.records w s).active ≡ true

abbrev pub LeavesTuples : Shape → ObjectState → ℕ → Act → Type 0
LeavesTuples d S w a = let x = S.slots (site a (S.places w)) in left_at (slot_after d w a x) ≡ left_at x

module _ (d : Shape) (load : Workload) (S : ObjectState) (w : ℕ) (a : Act) (plain : IsPlain d S w a) where
  pub kept-plain : LeavesTuples d S w a → IsKept d S (next d S w a)
  kept-plain same = record {
    admitted = plain.admitted;
    finished = plain.finished;
    tuples = unclaimed-same d S w a same;
    notices_fall =
        let c : count_all d (next d S w a).changes ≡ count_all d S.changes = ap (count_all d) plain.changes in
        let r : count_all d (next d S w a).returns ≡ count_all d S.returns = ap (count_all d) plain.returns in
        let act = active-most d S w (new_records S w a) plain.active in
        omega (arith, c, r, act);
  }

  pub falls-dropped : LeavesTuples d S w a → w < d.workers → (k : ℕ) → k < d.slots → (S.records w k).active ≡ true → (new_records S w a k).active ≡ false
      → Falls d load S (next d S w a)
  falls-dropped same low k k_low was gone = drops plain.admitted (ap (λ n. sets_of d load - n) plain.finished) (unclaimed-same d S w a same)
      (let c : count_all d (next d S w a).changes ≡ count_all d S.changes = ap (count_all d) plain.changes in
      let r : count_all d (next d S w a).returns ≡ count_all d S.returns = ap (count_all d) plain.returns in
      let act = active-less d S w (new_records S w a) low k k_low was gone plain.active in
      omega (arith, c, r, act))

  pub falls-claimed : site a (S.places w) < d.slots → left_at (slot_after d w a (S.slots (site a (S.places w)))) < left_at (S.slots (site a (S.places w)))
      → Falls d load S (next d S w a)
  falls-claimed low less = claims plain.admitted (ap (λ n. sets_of d load - n) plain.finished) (unclaimed-less d S w a low less)

-- a record that is dropped at one slot
pub dropped-active : (r : ℕ → NoticeRecord) (k s : ℕ) → (upd r k (dropped (r k)) s).active ≡ true → (r s).active ≡ true
dropped-active r k s = upd-cases r k (dropped (r k)) s (λ x. x.active ≡ true → (r s).active ≡ true) (λ e h. absurd (true≢false (sym h))) (λ n h. h)

looked-by : (o : Option ℕ) (q : ℕ) (r : NoticeRecord) → (looked_group o q r).active ≡ true → r.active ≡ true
looked-by None q r h = h
looked-by (Some g) q r h = cond_both (eqb g q) r (dropped r) (λ x. x.active ≡ true → r.active ≡ true) (λ t k. k) (λ t k. absurd (true≢false (sym k))) h

pub looked-active : (r : ℕ → NoticeRecord) (q k s : ℕ) → (upd r k (looked q (r k)) s).active ≡ true → (r s).active ≡ true
looked-active r q k s = upd-cases r k (looked q (r k)) s (λ x. x.active ≡ true → (r s).active ≡ true)
    (λ e h. subst (λ j. (r j).active ≡ true) (sym e) (looked-by (r k).group q (r k) h)) (λ n h. h)

barred-by : (o : Option ℕ) (q : ℕ) (r : NoticeRecord) → allows o q ≡ false → (looked_group o q r).active ≡ false
barred-by None q r h = absurd (true≢false h)
barred-by (Some g) q r h = ap (λ b. (cond b r (dropped r)).active) h

-- a look that does not let the worker in drops the record
pub looked-barred : (r : ℕ → NoticeRecord) (q k : ℕ) → allows (r k).group q ≡ false → (upd r k (looked q (r k)) k).active ≡ false
looked-barred r q k h = ap (λ (x : NoticeRecord). x.active) (upd-same r k (looked q (r k))) ∙ barred-by (r k).group q (r k) h

pub risen-next : (d : Shape) (S T : ObjectState) (w : ℕ) (a : Act) → HasRisen S T → HasRisen S (next d T w a)
risen-next d S T w a risen = risen-more S.admitted T.admitted (admitted_after a T.admitted) (finished_after a T.finished) S.finished T.finished risen
    (admitted-grows a T.admitted) (finished-grows a T.finished)
