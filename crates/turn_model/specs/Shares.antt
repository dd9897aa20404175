-- The shares of a worker: what its ranges of each query come to.
use Rattle.std.specs.Prelude.{◌≡◌, ℕ, ◌+◌, ◌-◌, ◌^◌, ◌<◌, ◌≤◌, ◌==◌, List, [], ◌∷◌, min, nat_lt}
use Rattle.std.specs.Prelude.{if◌then◌else◌, length, sum, slice_get, Some}
use Rattle.slot_history.specs.declared.act.Act.{Act}
use Rattle.slot_history.specs.declared.act.Act.TheVariants.{ClaimRange}
use Rattle.slot_station.specs.Desks.{Desk}
use Rattle.report_text.specs.declared.report.Share.{Share}
use Rattle.turn_model.specs.Workloads.{Workload}
use Rattle.turn_model.specs.Moves.{Move, Made, Exchanged}
use Rattle.turn_model.specs.Learned.{query_by, time_in, priority_in}
use Rattle.turn_model.specs.Reports.{Ascend, Has, IsShareOf, tuples_by}

-- a range that a worker worked on: its query, its tuples, the time that it took, and the priority
-- that its query has after it
pub record Worked : Type 0 where
  pub worker : ℕ
  pub query : ℕ
  pub tuples : ℕ
  pub ns : ℕ
  pub priority : ℕ

-- the share of the query of a range before the worker's first range of it
abbrev pub no_share : Worked → Share
no_share range = record {
  worker = range.worker;
  query = range.query;
  ranges = 0;
  tuples = 0;
  ns = 0;
  priority = 0;
}

-- the share with one range more; a count stands still at its type's end
abbrev pub with_range : Worked → Share → Share
with_range range share = record share {
  ranges = min (share.ranges + 1) (2 ^ 64 - 1);
  tuples = min (share.tuples + range.tuples) (2 ^ 64 - 1);
  ns = min (share.ns + range.ns) (2 ^ 128 - 1);
  priority = range.priority;
}

-- shares that ascend by query, with one range more
abbrev pub counted : Worked → List Share → List Share
counted range [] = with_range range (no_share range) ∷ []
counted range (share ∷ shares) =
    if nat_lt share.query range.query then share ∷ counted range shares
    else (if share.query == range.query then with_range range share ∷ shares
    else with_range range (no_share range) ∷ share ∷ shares)

-- the shares ascend by query, from one number on up to below another
abbrev pub AscendWithin : ℕ → ℕ → List Share → Type 0
AscendWithin from to [] = Unit {0}
AscendWithin from to (share ∷ shares) =
    (from ≤ share.query) × (share.query < to) × AscendWithin (share.query + 1) to shares

module _ (D : Desk Workload) where
  -- a range that a worker claimed after these moves and worked on for so long
  abbrev pub range_done : ℕ → ℕ → ℕ → List Move → Worked
  range_done from to time ms = record {
    worker = D.worker;
    query = query_by D ms;
    tuples = to - from;
    ns = time;
    priority = priority_in D (query_by D ms) (Made (ClaimRange 0 from to) time ∷ ms);
  }

  abbrev pub shares_after : Act → ℕ → List Move → List Share → List Share
  shares_after (ClaimRange n from to) time ms before = counted (range_done from to time ms) before
  shares_after _ time ms before = before

  -- the shares of a worker, ascending by query
  abbrev pub shares_by : List Move → List Share
  shares_by [] = []
  shares_by (Made act time ∷ ms) = shares_after act time ms (shares_by ms)
  shares_by (Exchanged ∷ ms) = shares_by ms

-- ---- what shares are, by the ranges

-- the counts of a worker's ranges fit the types of a share
pub record CountsFit (D : Desk Workload) (ms : List Move) : Type 0 where
  pub ranges : (q : ℕ) → length (tuples_by D q ms) < 2 ^ 64
  pub tuples : (q : ℕ) → sum (tuples_by D q ms) < 2 ^ 64
  pub ns : (q : ℕ) → time_in D q ms < 2 ^ 128

-- exactly one share of each query on which the worker worked
pub record AreSharesOf (D : Desk Workload) (ms : List Move) (shares : List Share) : Type 0 where
  pub each : (i : ℕ) (share : Share) → slice_get shares i ≡ Some share → IsShareOf D ms share
  pub all : (q : ℕ) → 0 < length (tuples_by D q ms)
      → Has (λ (share : Share). share.query ≡ q) shares
  pub ascend : Ascend (λ (share : Share). share.query) shares

-- the law, as a function of module `laws` states it: shares that are counted range by range are
-- those that a report has to have
abbrev pub SharesAreOfRanges : Type 0
SharesAreOfRanges = (D : Desk Workload) (ms : List Move) → CountsFit D ms
    → AreSharesOf D ms (shares_by D ms)
