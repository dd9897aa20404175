-- A look and a range keep what a worker keeps of its slots right.
use Rattle.std.proofs.Common.{◌≡◌, ◌≢◌, ◌⊎◌, inl, inr, ⊎_elim, ℕ, ◌+◌, ◌-◌, ◌/◌, Bool, true, false, ◌&&◌, cond, eqb, List, [], ◌∷◌, ◌++◌, Option, Some, None}
use Rattle.std.proofs.Common.{refl, sym, ap, ◌∙◌, subst, eq-eqb, ne_eqb, eqb-true, arith}
use Rattle.std.specs.Option.{option_map}
use native.Mathlib.Decide.{ℕ_discrete}
use Rattle.slot_history.specs.declared.shape.TheConstants.{STAGES}
use Rattle.slot_history.specs.declared.act.Act.TheVariants.{LookOpen, ClaimRange}
use Rattle.slot_history.specs.declared.place.Place.TheVariants.{Inside}
use Rattle.slot_history.specs.States.{NoticeRecord, id_at}
use Rattle.slot_history.specs.Steps.{dropped, looked}
use Rattle.prio_decay.specs.Priority.{HasSpent, Spending, unspent}
use Rattle.morsel_size.specs.Sizing.{pace_of}
use Rattle.slot_station.specs.Desks.{Desk}
use Rattle.turn_model.specs.Workloads.{Workload}
use Rattle.turn_model.specs.Moves.{Move, Made}
use Rattle.turn_model.specs.Learned.{params_of, allows, place_by, slot_by, query_by, task_by, lets_in, let_in_by, record_by, time_in, taken_by, last_end}
use Rattle.turn_model.specs.Learned.{strides_by, priority_in}
use Rattle.turn_model.specs.Told.{Past, Kept, Sized, HasTimeIn, HasRangesOf, KeepsSlot, past_by}
use Rattle.turn_model.specs.Fitting.{Range, AtWork, AreOfTask, worked}
use Rattle.turn_model.specs.OneSlot.{IsNewOrLetIn}
use Rattle.turn_model.specs.Keeping.{is_number, fresh_sized, settled, spent_on, LooksKeep, RangesKeep}
use Rattle.turn_model.proofs.Fitting.{range-fits}
use Rattle.turn_model.proofs.PointsSay.{here-in, claims-are-let-in}
use Rattle.turn_model.proofs.LetIn.{some-same, looks-fit, one-slot-lets-in}

-- ---- a slot of which only the group may change

pub group-on : {D : Desk Workload} {old new : Past} {s : ℕ} {kept : Kept} → KeepsSlot D old s kept → kept.group ≡ new.group s
    → old.task s ≡ new.task s → ((q : ℕ) → kept.query ≡ Some q → old.time q ≡ new.time q)
    → ((id : ℕ) → kept.id ≡ Some id → (old.taken id ≡ new.taken id) × (old.end id ≡ new.end id))
    → KeepsSlot D new s kept
group-on {D} {old} {new} {s} {kept} k group task time ranges = record {
  group = group;
  id = k.id ∙ task;
  query = k.query ∙ ap (option_map (λ id. id / STAGES)) task;
  decay = λ q is. let h = k.decay q is in record { params = h.params; spent = subst (HasSpent kept.decay) (time q is) h.spent };
  sizer = λ id is. let h = k.sizer id is in let r = ranges id is in record { workers = h.workers; pace = h.pace ∙ ap pace_of r.0; end_is = h.end_is ∙ r.1 };
}

time-on : {D : Desk Workload} {old new : Past} {q : ℕ} {decay : Spending} → HasTimeIn D old q decay → old.time q ≡ new.time q → HasTimeIn D new q decay
time-on {decay = decay} h same = record { params = h.params; spent = subst (HasSpent decay) same h.spent }

ranges-on : {D : Desk Workload} {old new : Past} {id : ℕ} {sized : Sized} → HasRangesOf D old id sized → old.taken id ≡ new.taken id → old.end id ≡ new.end id
    → HasRangesOf D new id sized
ranges-on h taken end = record { workers = h.workers; pace = h.pace ∙ ap pace_of taken; end_is = h.end_is ∙ end }

-- ---- a look

pub is-number : (o : Option ℕ) (n : ℕ) → is_number o n ≡ true → o ≡ Some n
is-number None n e = absurd (cc)
is-number (Some m) n e = ap Some (eqb-true m n e)

not-number : (o : Option ℕ) (n : ℕ) → is_number o n ≡ false → o ≢ Some n
not-number None n e is = cc
not-number (Some m) n e is = cannot (sym e ∙ eq-eqb m n (some-same m n is)) where
  cannot : false ≡ true → ⊥
  cannot was = cc

-- the group of a record that let the worker in
group-let-in : (r : NoticeRecord) (q : ℕ) (group : Option ℕ) → r.group ≡ group → allows group q ≡ true → (looked q r).group ≡ Some q
group-let-in r q None is lets = ap (λ (g : Option ℕ). (looked q (record r { group = g })).group) is
group-let-in r q (Some g) is lets =
    ap (λ (x : Option ℕ). (looked q (record r { group = x })).group) is
    ∙ ap (λ b. (cond b (record r { group = Some g }) (dropped (record r { group = Some g }))).group) lets
    ∙ ap Some (eqb-true g q lets)

decay-anew : (D : Desk Workload) (ms : List Move) (q : ℕ) (kept : Kept) (b : Bool) → is_number kept.query q ≡ b
    → (kept.query ≡ Some q → HasTimeIn D (past_by D ms) q kept.decay) → ((time_in D q ms ≡ 0) ⊎ (kept.query ≡ Some q))
    → HasTimeIn D (past_by D ms) q (cond b kept.decay (unspent (params_of (D.subject.weight q))))
decay-anew D ms q kept true is has new = has (is-number kept.query q is)
decay-anew D ms q kept false is has new = ⊎_elim
    (λ zero. record { params = refl; spent = subst (HasSpent (unspent (params_of (D.subject.weight q)))) (sym zero) (omega arith) })
    (λ same. absurd (not-number kept.query q is same))
    new

sized-anew : (D : Desk Workload) (ms : List Move) (id : ℕ) (kept : Kept) (b : Bool) → is_number kept.id id ≡ b
    → (kept.id ≡ Some id → HasRangesOf D (past_by D ms) id kept.sized) → (((taken_by D id ms ≡ []) × (last_end D id ms ≡ 0)) ⊎ (kept.id ≡ Some id))
    → HasRangesOf D (past_by D ms) id (cond b kept.sized (fresh_sized D.shape.workers))
sized-anew D ms id kept true is has new = has (is-number kept.id id is)
sized-anew D ms id kept false is has new = ⊎_elim
    (λ none. record { workers = refl; pace = ap pace_of (sym none.0); end_is = sym none.1 })
    (λ same. absurd (not-number kept.id id is same))
    new

module _ (D : Desk Workload) (ms : List Move) (id t s : ℕ) (kept : Kept) (lets : lets_in D ms (id / STAGES) ≡ true)
    (k : KeepsSlot D (past_by D ms) s kept) where
  look-here : s ≡ slot_by D ms → IsNewOrLetIn D ms id → KeepsSlot D (past_by D (Made (LookOpen id) t ∷ ms)) s (settled D id kept)
  look-here here new = record {
    group = sym (ap (λ b. (cond b (looked q (record_by D s ms)) (record_by D s ms)).group) (eq-eqb s (slot_by D ms) here)
        ∙ group-let-in (record_by D s ms) q (record_by D s ms).group refl (ap (λ j. allows (record_by D j ms).group q) here ∙ lets));
    id = sym in-now;
    query = sym (ap (option_map (λ i. i / STAGES)) in-now);
    decay = λ r is. subst (λ x. HasTimeIn D (past_by D (Made (LookOpen id) t ∷ ms)) x (settled D id kept).decay) (some-same q r is)
        (time-on {old = past_by D ms}
        (decay-anew D ms q kept (is_number kept.query q) refl (k.decay q)
        (⊎_elim inl (λ e. inr (k.query ∙ ap (λ j. option_map (λ i. i / STAGES) (let_in_by D j ms)) here ∙ e)) new.query)) refl);
    sizer = λ r is. subst (λ x. HasRangesOf D (past_by D (Made (LookOpen id) t ∷ ms)) x (settled D id kept).sized) (some-same id r is)
        (ranges-on {old = past_by D ms}
        (sized-anew D ms id kept (is_number kept.id id) refl (k.sizer id) (⊎_elim inl (λ e. inr (k.id ∙ ap (λ j. let_in_by D j ms) here
        ∙ e)) new.task)) refl refl);
  } where
    q : ℕ
    q = id / STAGES

    in-now : let_in_by D s (Made (LookOpen id) t ∷ ms) ≡ Some id
    in-now = ap (λ j. let_in_by D j (Made (LookOpen id) t ∷ ms)) here ∙ here-in D ms id t lets

  look-elsewhere : s ≢ slot_by D ms → KeepsSlot D (past_by D (Made (LookOpen id) t ∷ ms)) s kept
  look-elsewhere other = group-on k
      (k.group ∙ sym (ap (λ b. (cond b (looked (id / STAGES) (record_by D s ms)) (record_by D s ms)).group) (ne_eqb s (slot_by D ms) other)))
      (sym (elsewhere (eqb (slot_by D ms) s) refl)) (λ q is. refl) (λ i is. (refl, refl)) where
        elsewhere : (b : Bool) → eqb (slot_by D ms) s ≡ b → let_in_by D s (Made (LookOpen id) t ∷ ms) ≡ let_in_by D s ms
        elsewhere true e = absurd (other (sym (eqb-true (slot_by D ms) s e)))
        elsewhere false e = ap (λ b. cond (b && lets_in D ms (id / STAGES)) (Some id) (let_in_by D s ms)) e

look-by : (D : Desk Workload) (ms : List Move) (id t s : ℕ) (kept : Kept) → lets_in D ms (id / STAGES) ≡ true → KeepsSlot D (past_by D ms) s kept
    → IsNewOrLetIn D ms id
    → Dec (s ≡ slot_by D ms) → KeepsSlot D (past_by D (Made (LookOpen id) t ∷ ms)) s (cond (eqb s (slot_by D ms)) (settled D id kept) kept)
look-by D ms id t s kept lets k new (yes here) =
    subst (λ b. KeepsSlot D (past_by D (Made (LookOpen id) t ∷ ms)) s (cond b (settled D id kept) kept)) (sym (eq-eqb s (slot_by D ms) here))
    (look-here D ms id t s kept lets k here new)
look-by D ms id t s kept lets k new (no other) =
    subst (λ b. KeepsSlot D (past_by D (Made (LookOpen id) t ∷ ms)) s (cond b (settled D id kept) kept)) (sym (ne_eqb s (slot_by D ms) other))
    (look-elsewhere D ms id t s kept lets k other)

pub looks-keep : LooksKeep
looks-keep D h ms id t s kept moves legal lets k =
    look-by D ms id t s kept lets k (looks-fit D h ms id moves legal) (ℕ_discrete s (slot_by D ms))

-- ---- a range

cond-other : {A : Type 0} (b : Bool) (x y : A) → b ≡ false → y ≡ cond b x y
cond-other true x y e = absurd (cc)
cond-other false x y e = refl

module _ (D : Desk Workload) (ms : List Move) (id n s : ℕ) (range : Range) (kept : Kept) (place : place_by D ms ≡ Inside range.slot id)
    (k : KeepsSlot D (past_by D ms) s kept) where
  range-here : s ≡ range.slot → let_in_by D range.slot ms ≡ Some id
      → KeepsSlot D (past_by D (Made (ClaimRange n range.from range.to) range.time ∷ ms)) s (spent_on range kept)
  range-here here lets = record {
    group = k.group;
    id = k.id;
    query = k.query;
    decay = λ q is. subst (λ x. HasTimeIn D (past_by D (Made (ClaimRange n range.from range.to) range.time ∷ ms)) x (spent_on range kept).decay)
        (some-same (id / STAGES) q (sym query-is ∙ is)) fits.time;
    sizer = λ i is. subst (λ x. HasRangesOf D (past_by D (Made (ClaimRange n range.from range.to) range.time ∷ ms)) x (spent_on range kept).sized)
        (some-same id i (sym id-is ∙ is)) fits.ranges;
  } where
    id-is : kept.id ≡ Some id
    id-is = k.id ∙ ap (λ j. let_in_by D j ms) here ∙ lets

    query-is : kept.query ≡ Some (id / STAGES)
    query-is = k.query ∙ ap (option_map (λ i. i / STAGES)) (ap (λ j. let_in_by D j ms) here ∙ lets)

    work : AtWork
    work = record { strides = strides_by D ms; decay = kept.decay; sized = kept.sized }

    priced : Range
    priced = record { slot = range.slot; from = range.from; to = range.to; time = range.time; priority = priority_in D (id / STAGES) ms }

    fits : AreOfTask D (Made (ClaimRange n range.from range.to) range.time ∷ ms) id (worked work priced)
    fits = range-fits D ms id n priced work place refl (record { strides_are = refl; time = k.decay (id / STAGES) query-is; ranges = k.sizer id id-is })

  range-elsewhere : s ≢ range.slot → ((jd : ℕ) → let_in_by D s ms ≡ Some jd → jd / STAGES ≡ id / STAGES → s ≡ range.slot)
      → KeepsSlot D (past_by D (Made (ClaimRange n range.from range.to) range.time ∷ ms)) s kept
  range-elsewhere other one = group-on k k.group refl
      (λ q is. cond-other (eqb (query_by D ms) q) (time_in D q ms + range.time) (time_in D q ms)
      (ne_eqb (query_by D ms) q (λ e. other (by-query (let_in_by D s ms) refl q (sym k.query ∙ is) e))))
      (λ i is. (
        cond-other (eqb (task_by D ms) i) (taken_by D i ms ++ (range.to - range.from, range.time) ∷ []) (taken_by D i ms) (elsewhere i is),
        cond-other (eqb (task_by D ms) i) range.to (last_end D i ms) (elsewhere i is),
      )) where
        task-is : task_by D ms ≡ id
        task-is = ap id_at place

        by-query : (o : Option ℕ) → let_in_by D s ms ≡ o → (q : ℕ) → option_map (λ j. j / STAGES) o ≡ Some q → query_by D ms ≡ q → s ≡ range.slot
        by-query None is q e same = absurd (cc)
        by-query (Some jd) is q e same = one jd is (some-same (jd / STAGES) q e ∙ sym same ∙ ap (λ j. j / STAGES) task-is)

        elsewhere : (i : ℕ) → kept.id ≡ Some i → eqb (task_by D ms) i ≡ false
        elsewhere i is = ne_eqb (task_by D ms) i (λ e. other (one i (sym k.id ∙ is) (ap (λ j. j / STAGES) (sym e ∙ task-is))))

range-by : (D : Desk Workload) (ms : List Move) (id n s : ℕ) (range : Range) (kept : Kept) → place_by D ms ≡ Inside range.slot id
    → KeepsSlot D (past_by D ms) s kept → let_in_by D range.slot ms ≡ Some id
    → ((jd : ℕ) → let_in_by D s ms ≡ Some jd → jd / STAGES ≡ id / STAGES → s ≡ range.slot) → Dec (s ≡ range.slot)
    → KeepsSlot D (past_by D (Made (ClaimRange n range.from range.to) range.time ∷ ms)) s (cond (eqb s range.slot) (spent_on range kept) kept)
range-by D ms id n s range kept place k lets one (yes here) =
    subst (λ b. KeepsSlot D (past_by D (Made (ClaimRange n range.from range.to) range.time ∷ ms)) s (cond b (spent_on range kept) kept))
    (sym (eq-eqb s range.slot here))
    (range-here D ms id n s range kept place k here lets)
range-by D ms id n s range kept place k lets one (no other) =
    subst (λ b. KeepsSlot D (past_by D (Made (ClaimRange n range.from range.to) range.time ∷ ms)) s (cond b (spent_on range kept) kept))
    (sym (ne_eqb s range.slot other))
    (range-elsewhere D ms id n s range kept place k other one)

pub ranges-keep : RangesKeep
ranges-keep D h ms id n s range kept moves at place k =
    let lets : let_in_by D range.slot ms ≡ Some id = claims-are-let-in D ms range.slot id moves.driven at place in
    range-by D ms id n s range kept place k lets (λ jd is same. one-slot-lets-in D h ms s range.slot jd id moves is lets (sym same)) (ℕ_discrete s range.slot)
