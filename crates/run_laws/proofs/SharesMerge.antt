-- The shares of all workers, worker by worker, are those of the run.
use Rattle.std.proofs.Common.{◌≡◌, ℕ, zero, suc, ◌+◌, ◌-◌, ◌*◌, ◌/◌, ◌<◌, ◌≤◌, Bool, true, false, cond, eqb, List, [], ◌∷◌, ◌++◌, length, length-append}
use Rattle.std.proofs.Common.{Some, slice_get, refl, sym, ap, subst, ne_eqb, arith}
use Rattle.std.specs.Prelude.{All, flat_map, get_or}
use Rattle.std.proofs.lemmas.Bool.{cases_lt}
use Rattle.std.proofs.lemmas.List.Elements.{All-weaker}
use Rattle.std.proofs.lemmas.Option.{slice_get-get_or, slice_get_within}
use Rattle.std.proofs.Common.{⊎_elim}
use Rattle.slot_history.specs.declared.shape.Shape.{Shape}
use Rattle.slot_history.specs.declared.shape.TheConstants.{STAGES, MOST_QUERIES}
use Rattle.slot_history.specs.declared.act.Act.{Act}
use Rattle.slot_history.specs.declared.act.Act.TheVariants.{ClaimRange}
use Rattle.slot_history.specs.declared.act.Entry.{Entry}
use Rattle.slot_history.specs.declared.place.Place.{Place}
use Rattle.slot_history.specs.Sets.{sum_below}
use Rattle.slot_history.specs.States.{ObjectState, id_at}
use Rattle.slot_history.specs.Steps.{state_after}
use Rattle.slot_history.specs.Allowed.{IsAllowed}
use Rattle.slot_history.specs.Histories.{IsLegal}
use Rattle.slot_history.specs.Numbers.{names_id}
use Rattle.slot_history.proofs.Numbers.{ids-within}
use Rattle.slot_station.specs.Desks.{Desk}
use Rattle.report_text.specs.declared.report.Share.{Share}
use Rattle.turn_model.specs.Workloads.{Workload}
use Rattle.turn_model.specs.Moves.{Move, Made, Exchanged}
use Rattle.turn_model.specs.Learned.{query_by}
use Rattle.turn_model.specs.Runs.{Run, desk_at}
use Rattle.turn_model.specs.Reports.{Ascend, IsShareOf, number_of_share, tuples_by}
use Rattle.run_laws.specs.Ends.{IsPlayed}
use Rattle.turn_model.specs.Shares.{AreSharesOf}
use Rattle.run_laws.specs.Merging.{SharesAreMerged}
use Rattle.run_laws.proofs.Least.{sum-member}
use Rattle.run_laws.proofs.Lists.{all-of, RisesBy, rises-append, rises-of, rises-ascend, all-flat, has-flat}
use Rattle.run_laws.proofs.Tallies.{total, by_moves, total-moves}

-- ---- ranges are of queries of the shape

abbrev range_in : ℕ → Act → Place → ℕ
range_in q (ClaimRange n from to) p = cond (eqb (id_at p / STAGES) q) 1 0
range_in q a p = 0

range-low : (d : Shape) (S : ObjectState) (w q : ℕ) (a : Act) → IsAllowed d S w a → d.queries ≤ q
    → (names_id (S.places w) ≡ true → id_at (S.places w) < STAGES * d.queries) → range_in q a (S.places w) ≡ 0
range-low d S w q (ClaimRange n from to) ok high low =
    let less : id_at (S.places w) < STAGES * d.queries = low (ap names_id ok.2) in
    ap (λ b. cond b 1 0) (ne_eqb (id_at (S.places w) / STAGES) q (λ e. omega (arith, less, e, high)))
range-low d S w q _ ok high low = refl

ranges-low : (d : Shape) (h : List Entry) (q : ℕ) → IsLegal d h → d.queries ≤ q → total (range_in q) d h ≡ 0
ranges-low d [] q legal high = refl
ranges-low d (e ∷ es) q legal high =
    let here = range-low d (state_after d es) e.worker q e.act legal.1 high ((ids-within d es legal.2).places e.worker legal.0) in
    let before = ranges-low d es q legal.2 high in
    omega (arith, here, before)

ranges-in : (D : Desk Workload) (q : ℕ) (ms : List Move) → length (tuples_by D q ms) ≡ by_moves (range_in q) D ms
ranges-in D q [] = refl
ranges-in D q (Made (ClaimRange n from to) t ∷ ms) =
    let before : length (tuples_by D q ms) ≡ by_moves (range_in q) D ms = ranges-in D q ms in
    let more : length (tuples_by D q ms ++ (to - from) ∷ []) ≡ length (tuples_by D q ms) + 1 = length-append (tuples_by D q ms) ((to - from) ∷ []) in
    both (eqb (query_by D ms) q) before more
  where
    both : (b : Bool) → length (tuples_by D q ms) ≡ by_moves (range_in q) D ms
        → length (tuples_by D q ms ++ (to - from) ∷ []) ≡ length (tuples_by D q ms) + 1
        → length (cond b (tuples_by D q ms ++ (to - from) ∷ []) (tuples_by D q ms)) ≡ cond b 1 0 + by_moves (range_in q) D ms
    both true before more = omega (arith, before, more)
    both false before more = omega (arith, before)
ranges-in D q (Made a t ∷ ms) = let before : length (tuples_by D q ms) ≡ by_moves (range_in q) D ms = ranges-in D q ms in
    let r : length (tuples_by D q ms) ≡ 0 + by_moves (range_in q) D ms = omega (arith, before) in r
ranges-in D q (Exchanged ∷ ms) = ranges-in D q ms

module _ (d : Shape) (load : Workload) (run : Run) (most : d.queries ≤ MOST_QUERIES) (played : IsPlayed d load run) where
  query-low : (w q : ℕ) → w < d.workers → 0 < length (tuples_by (desk_at d load w) q (run.team w)) → q < MOST_QUERIES
  query-low w q low some = ⊎_elim
      (λ less. omega (arith, less, most))
      (λ high.
      let none : total (range_in q) d run.history ≡ 0 = ranges-low d run.history q played.legal high in
      let all : total (range_in q) d run.history ≡ sum_below d.workers (λ v. by_moves (range_in q) (desk_at d load v) (run.team v)) =
      total-moves (range_in q) d load run played in
      let mine : by_moves (range_in q) (desk_at d load w) (run.team w) ≤ sum_below d.workers (λ v. by_moves (range_in q) (desk_at d load v) (run.team v)) =
      sum-member d.workers w (λ v. by_moves (range_in q) (desk_at d load v) (run.team v)) low in
      let same : length (tuples_by (desk_at d load w) q (run.team w)) ≡ by_moves (range_in q) (desk_at d load w) (run.team w) =
      ranges-in (desk_at d load w) q (run.team w) in
      absurd (omega (arith, none, all, mine, same, some)))
      (cases_lt q d.queries)

  -- what is right of a share in the report
  abbrev IsRight : Share → Type 0
  IsRight share = ((share.worker < d.workers) × (share.query < MOST_QUERIES)) × IsShareOf (desk_at d load share.worker) (run.team share.worker) share

  right : (w : ℕ) (share : Share) → w < d.workers → IsShareOf (desk_at d load w) (run.team w) share → IsRight share
  right w share low is =
      let here : share.worker ≡ w = is.worker in (
        (subst (λ v. v < d.workers) (sym here) low, query-low w share.query low is.some),
        subst (λ v. IsShareOf (desk_at d load v) (run.team v) share) (sym here) is,
      )

  number-from : (w : ℕ) (share : Share) → IsShareOf (desk_at d load w) (run.team w) share → w * MOST_QUERIES ≤ number_of_share share
  number-from w share is = let here : share.worker ≡ w = is.worker in
      let r : w * MOST_QUERIES ≤ share.worker * MOST_QUERIES + share.query = omega (arith, here) in r

  number-below : (w : ℕ) (share : Share) → w < d.workers → IsShareOf (desk_at d load w) (run.team w) share
      → number_of_share share < (w + 1) * MOST_QUERIES
  number-below w share low is = let here : share.worker ≡ w = is.worker in
      let few : share.query < MOST_QUERIES = query-low w share.query low is.some in
      let r : share.worker * MOST_QUERIES + share.query < (w + 1) * MOST_QUERIES = omega (arith, here, few) in r

  number-ascends : (w : ℕ) (shares : List Share) → AreSharesOf (desk_at d load w) (run.team w) shares → Ascend number_of_share shares
  number-ascends w shares are i j x y less gx gy =
      let order : x.query < y.query = are.ascend i j x y less gx gy in
      let one : x.worker ≡ w = (are.each i x gx).worker in
      let other : y.worker ≡ w = (are.each j y gy).worker in
      let r : x.worker * MOST_QUERIES + x.query < y.worker * MOST_QUERIES + y.query = omega (arith, order, one, other) in r

  -- worker by worker, from worker k on
  rises-on : (told : List (List Share)) (k : ℕ) → length told + k ≤ d.workers
      → ((i : ℕ) (shares : List Share) → slice_get told i ≡ Some shares → AreSharesOf (desk_at d load (k + i)) (run.team (k + i)) shares)
      → RisesBy number_of_share (k * MOST_QUERIES) (flat_map (λ (shares : List Share). shares) told)
  rises-on [] k low each = tt
  rises-on (shares ∷ told) k low each =
      let here : AreSharesOf (desk_at d load k) (run.team k) shares = subst (λ w. AreSharesOf (desk_at d load w) (run.team w) shares)
      (let r : k + 0 ≡ k = omega arith in r) (each zero shares refl) in
      let k_low : k < d.workers = omega (arith, low) in
      rises-append number_of_share (k * MOST_QUERIES) ((k + 1) * MOST_QUERIES) shares (flat_map (λ (shares : List Share). shares) told) (omega arith)
      (rises-of number_of_share (k * MOST_QUERIES) shares (λ i share got. number-from k share (here.each i share got)) (number-ascends k shares here))
      (λ i share got. number-below k share k_low (here.each i share got))
      (rises-on told (k + 1) (omega (arith, low)) (λ i rest got. subst (λ w. AreSharesOf (desk_at d load w) (run.team w) rest)
      (let r : k + suc i ≡ k + 1 + i = omega arith in r) (each (suc i) rest got)))

pub shares-are-merged : SharesAreMerged
shares-are-merged d load run told most played count each =
    let all : All (IsRight d load run most played) (flat_map (λ (shares : List Share). shares) told) =
    all-flat (λ (shares : List Share). shares) (IsRight d load run most played) told
    (λ w shares got. let low : w < length told = slice_get_within told w shares got in
    all-of (IsRight d load run most played) shares
    (λ i share here. right d load run most played w share (omega (arith, low, count)) ((each w shares got).each i share here))) in
    record {
      low = All-weaker (IsRight d load run most played) (λ share. (share.worker < d.workers) × (share.query < MOST_QUERIES)) (λ share is. is.0) _ all;
      each = All-weaker (IsRight d load run most played) (λ share. IsShareOf (desk_at d load share.worker) (run.team share.worker) share)
          (λ share is. is.1) _ all;
      all = λ w q low some.
          let shares : List Share = get_or told w [] in
          let got : slice_get told w ≡ Some shares = slice_get-get_or told w [] (omega (arith, low, count)) in
          let are = each w shares got in
          let has = are.all q some in
          has-flat (λ (shares : List Share). shares) (λ (share : Share). (share.worker ≡ w) × (share.query ≡ q)) told w shares got
          (has.0, has.1, has.2, ((are.each has.0 has.1 has.2).worker, has.3));
      ascend = rises-ascend number_of_share (0 * MOST_QUERIES) _ (rises-on d load run most played told 0 (omega (arith, count))
          (λ i shares got. subst (λ w. AreSharesOf (desk_at d load w) (run.team w) shares) (let r : i ≡ 0 + i = omega arith in r) (each i shares got)));
    }
