-- What a look and a range change of what a worker keeps of its slots.
use Rattle.std.specs.Prelude.{◌≡◌, ℕ, ◌-◌, ◌/◌, Bool, true, false, cond, eqb, List, [], ◌∷◌, Option}
use Rattle.std.specs.Prelude.{Some, None}
use Rattle.slot_history.specs.declared.shape.TheConstants.{STAGES}
use Rattle.slot_history.specs.declared.act.Act.TheVariants.{LookOpen, ClaimRange}
use Rattle.slot_history.specs.declared.act.Entry.{Entry}
use Rattle.slot_history.specs.declared.place.Place.TheVariants.{Inside}
use Rattle.slot_history.specs.Histories.{IsLegal, entry}
use Rattle.prio_decay.specs.Priority.{unspent, after_spending}
use Rattle.morsel_size.specs.Sizing.{pace_of, pace_after}
use Rattle.slot_station.specs.Desks.{Desk}
use Rattle.turn_model.specs.Workloads.{Workload}
use Rattle.turn_model.specs.Moves.{Move, Made}
use Rattle.turn_model.specs.Learned.{params_of, place_by, slot_by, lets_in}
use Rattle.turn_model.specs.Points.{Claim, point_by}
use Rattle.turn_model.specs.Told.{Kept, Sized, KeepsSlot, past_by}
use Rattle.turn_model.specs.Fitting.{Range}
use Rattle.turn_model.specs.OneSlot.{AreMovesIn}

abbrev pub is_number : Option ℕ → ℕ → Bool
is_number None n = false
is_number (Some m) n = eqb m n

-- a sizer of one of so many workers that was told of no range
abbrev pub fresh_sized : ℕ → Sized
fresh_sized workers = record { sizing = record { workers = workers; pace = pace_of [] }; end = 0 }

-- What is kept of a slot whose look let the worker in to a task set. The decay is made anew if it
-- was of another query, and the sizer if it was of another task set.
abbrev pub settled : Desk Workload → ℕ → Kept → Kept
settled D id kept = let q = id / STAGES in record {
  group = Some q;
  query = Some q;
  decay = cond (is_number kept.query q) kept.decay (unspent (params_of (D.subject.weight q)));
  id = Some id;
  sized = cond (is_number kept.id id) kept.sized (fresh_sized D.shape.workers);
}

-- what is kept of the slot of a range, after it
abbrev pub spent_on : Range → Kept → Kept
spent_on range kept = record kept {
  decay = after_spending kept.decay range.time;
  sized = record {
    sizing = record {
      workers = kept.sized.sizing.workers;
      pace = pace_after kept.sized.sizing.pace (range.to - range.from) range.time;
    };
    end = range.to;
  };
}

-- ---- the laws, as the functions of module `laws` state them

-- what the worker keeps of each slot is right again after a look that let it in
abbrev pub LooksKeep : Type 0
LooksKeep = (D : Desk Workload) (h : List Entry) (ms : List Move) (id t s : ℕ) (kept : Kept)
    → AreMovesIn D h ms → IsLegal D.shape (entry D.worker (LookOpen id) ∷ h)
    → lets_in D ms (id / STAGES) ≡ true → KeepsSlot D (past_by D ms) s kept
    → KeepsSlot D (past_by D (Made (LookOpen id) t ∷ ms)) s
    (cond (eqb s (slot_by D ms)) (settled D id kept) kept)

-- and after a range
abbrev pub RangesKeep : Type 0
RangesKeep = (D : Desk Workload) (h : List Entry) (ms : List Move) (id n s : ℕ) (range : Range)
    (kept : Kept) → AreMovesIn D h ms → point_by D ms ≡ Claim
    → place_by D ms ≡ Inside range.slot id → KeepsSlot D (past_by D ms) s kept
    → KeepsSlot D (past_by D (Made (ClaimRange n range.from range.to) range.time ∷ ms)) s
    (cond (eqb s range.slot) (spent_on range kept) kept)
