-- A range keeps passes, decay and sizer with the moves.
use Rattle.std.proofs.Common.{◌≡◌, ℕ, ◌+◌, ◌-◌, ◌/◌, List, [], ◌∷◌, ◌++◌, true, cond, eqb, refl, sym, ap, ap₂, ◌∙◌, subst, eq-eqb, arith}
use Rattle.std.specs.Prelude.{fold, unwrap_or}
use Rattle.std.proofs.lemmas.List.Sums.{fold-append}
use Rattle.slot_history.specs.declared.shape.TheConstants.{STAGES}
use Rattle.slot_history.specs.declared.place.Place.{Place}
use Rattle.slot_history.specs.States.{slot_of, id_at}
use Rattle.stride_set.specs.Strides.{Advance, new_strides, stride_after}
use Rattle.prio_decay.specs.Priority.{Spending, HasSpent, after_spending}
use Rattle.morsel_size.specs.declared.Pace.{Pace}
use Rattle.morsel_size.specs.declared.Pace.TheVariants.{Startup}
use Rattle.morsel_size.specs.declared.TheConstants.{FIRST_SIZE}
use Rattle.morsel_size.specs.Sizing.{pace_of, pace_after, size_of, size_at}
use Rattle.turn_model.specs.Moves.{Made, Exchanged}
use Rattle.turn_model.specs.Learned.{task_by, time_in, taken_by, last_end, calls_of, strides_by, priority_in}
use Rattle.turn_model.specs.Fitting.{SizeFits, RangeFits, StridesAreCalls, all_calls}

pub strides-are-calls : StridesAreCalls
strides-are-calls D [] = refl
strides-are-calls D (Made a t ∷ ms) =
    ap (λ x. fold stride_after x (calls_of D a t ms)) (strides-are-calls D ms)
    ∙ sym (fold-append stride_after (new_strides D.shape.slots) (all_calls D ms) (calls_of D a t ms))
strides-are-calls D (Exchanged ∷ ms) = strides-are-calls D ms

pub size-fits : SizeFits
size-fits D ms s id total sized at tot fits =
    let here : task_by D ms ≡ id = ap id_at at in
    ap (λ i. size_of D.shape.workers (taken_by D i ms) (unwrap_or (D.subject.total i) 0) (last_end D i ms)) here
    ∙ ap (λ o. size_of D.shape.workers (taken_by D id ms) (unwrap_or o 0) (last_end D id ms)) tot
    ∙ ap (λ p. size_at D.shape.workers p (total - last_end D id ms)) (sym fits.pace)
    ∙ ap₂ (λ w e. size_at w sized.sizing.pace (total - e)) (sym fits.workers) (sym fits.end_is)

spent-more : (k : Spending) (total t : ℕ) → HasSpent k total → HasSpent (after_spending k t) (total + t)
spent-more k total t h = omega (arith, h)

pace-more : (taken : List (ℕ × ℕ)) (n t : ℕ) → pace_of (taken ++ (n, t) ∷ []) ≡ pace_after (pace_of taken) n t
pace-more taken n t = fold-append (λ (pace : Pace) (morsel : ℕ × ℕ). pace_after pace morsel.0 morsel.1) (Startup FIRST_SIZE) taken ((n, t) ∷ [])

pub range-fits : RangeFits
range-fits D ms id n range work at prio fits =
    let t : ℕ = range.time in
    let here : task_by D ms ≡ id = ap id_at at in
    let same-id : eqb (task_by D ms) id ≡ true = eq-eqb _ _ here in
    let same-query : eqb (task_by D ms / STAGES) (id / STAGES) ≡ true = eq-eqb _ _ (ap (λ i. i / STAGES) here) in
    record {
      strides_are = ap₂ (λ x p. stride_after x (Advance range.slot t p)) fits.strides_are prio
          ∙ sym (ap (λ (p : Place). stride_after (strides_by D ms) (Advance (slot_of p) t (priority_in D (id_at p / STAGES) ms))) at);
      time = record {
        params = fits.time.params;
        spent = subst (HasSpent (after_spending work.decay t)) (sym (ap (λ b. cond b (time_in D (id / STAGES) ms + t) (time_in D (id / STAGES) ms)) same-query))
            (spent-more work.decay _ t fits.time.spent);
      };
      ranges = record {
        workers = fits.ranges.workers;
        pace = ap (λ p. pace_after p (range.to - range.from) t) fits.ranges.pace ∙ sym (pace-more (taken_by D id ms) (range.to - range.from) t)
            ∙ sym (ap (λ b. pace_of (cond b (taken_by D id ms ++ (range.to - range.from, t) ∷ []) (taken_by D id ms))) same-id);
        end_is = sym (ap (λ b. cond b range.to (last_end D id ms)) same-id);
      };
    }
