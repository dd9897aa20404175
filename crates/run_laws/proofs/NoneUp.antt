-- If no reply of its report says that memory ran out, no worker of a whole run gives a query up.
use Rattle.std.proofs.Common.{◌≡◌, ℕ, ◌+◌, ◌*◌, ◌-◌, ◌/◌, ◌%◌, ◌<◌, ◌≤◌, ⊎_elim, Bool, true, false, ◌&&◌, cond, eqb, ltb, List, [], ◌∷◌}
use Rattle.std.proofs.Common.{Some, refl, sym, ap, ◌∙◌, subst, eq-eqb, ne_eqb, eqb-true, lt-ltb, le-ltb, ltb-true, unwrap_or, arith}
use Rattle.std.specs.Prelude.{IsSome}
use Rattle.std.proofs.lemmas.Bool.{true≢false, cases_lt, cond_both, and_parts, and_from, false_from_ne_true}
use mathlib.Core.Logic.{dite}
use native.Mathlib.Decide.{ℕ_discrete}
use Rattle.slot_history.specs.declared.shape.Shape.{Shape}
use Rattle.slot_history.specs.declared.shape.TheConstants.{STAGES}
use Rattle.slot_history.specs.declared.act.Act.{Act}
use Rattle.slot_history.specs.declared.act.Act.TheVariants.{NoteDone, SweepLast, PayLast}
use Rattle.slot_history.specs.declared.place.Held.{Held}
use Rattle.slot_history.specs.declared.place.Place.{Place}
use Rattle.slot_history.specs.declared.place.Place.TheVariants.{Holding}
use Rattle.slot_history.specs.States.{id_at, held_at, finalisation}
use Rattle.slot_history.specs.Steps.{moved}
use Rattle.slot_history.specs.Sets.{sum_below}
use Rattle.slot_history.specs.Histories.{lasts_of}
use Rattle.slot_history.proofs.Sets.{some-unwrapped}
use Rattle.slot_station.specs.Desks.{Desk}
use Rattle.report_text.specs.declared.report.Report.{Report}
use Rattle.turn_model.specs.Workloads.{Workload}
use Rattle.turn_model.specs.Moves.{Move, Made, Exchanged}
use Rattle.turn_model.specs.Learned.{place_by}
use Rattle.turn_model.specs.Points.{Point, Fill, FreeIt, Take, Back, Sweep, Pay, Fetch, stages_held, rest_of, goes_on, after, exchanged, point_by}
use Rattle.turn_model.specs.Driven.{MayCall, MayExchange, AreDriven}
use Rattle.turn_model.specs.Runs.{Run, desk_at}
use Rattle.turn_model.specs.Measure.{is_query}
use Rattle.turn_model.specs.Reports.{IsRecordIn, IsReportOf}
use Rattle.turn_model.specs.Endings.{ended_after, ended_by, gathered_by}
use Rattle.run_laws.specs.Merging.{IsWhole}
use Rattle.run_laws.specs.Agreeing.{NotesOne, GivesNoneUp, NoneRanOut}
use Rattle.run_laws.proofs.Least.{sum-less, sum-member}
use Rattle.run_laws.proofs.Lists.{all-at}
use Rattle.run_laws.proofs.Serving.{is-query, query-is}
use Rattle.run_laws.proofs.PointsStand.{Stands, points-stand}
use Rattle.run_laws.proofs.Tallies.{by_moves}
use Rattle.run_laws.proofs.EndingsTell.{last_of, ended_for, times_in}
use Rattle.run_laws.proofs.Rooms.{gathers-are, ends-total, gathers-total}

-- ---- holdings that end after the last stage

-- the holding ends after the last stage of its query
abbrev IsAtEnd : Workload → Held → Type 0
IsAtEnd load held = (q : ℕ) → held.query ≡ Some q → (held.again ≡ true) × (held.stage + 1 ≡ load.stages q)

abbrev AllAtEnd : Workload → List Held → Type 0
AllAtEnd load [] = Unit {0}
AllAtEnd load (held ∷ rest) = IsAtEnd load held × AllAtEnd load rest

-- of a holding that is for a query
at-end : (load : Workload) (p : Place) (s : ℕ) (held : Held) → p ≡ Holding s held → IsSome held.query → IsAtEnd load (held_at p)
    → (held.again ≡ true) × (held.stage + 1 ≡ stages_held load held)
at-end load p s held at some ends = ends_here (unwrap_or held.query 0) (some-unwrapped held.query 0 some) where
  ends_here : (q : ℕ) → held.query ≡ Some q → (held.again ≡ true) × (held.stage + 1 ≡ load.stages q)
  ends_here = subst (IsAtEnd load) (ap held_at at) ends

bit-true : (b : Bool) → 0 < cond {A = ℕ} b 1 0 → b ≡ true
bit-true true some = refl
bit-true false some = absurd (omega (arith, some))

and-most : (a b : Bool) → cond {A = ℕ} (a && b) 1 0 ≤ cond a 1 0
and-most true b = cond_both b 1 0 (λ n. n ≤ 1) (λ t. omega arith) (λ f. omega arith)
and-most false b = omega arith

module _ (load : Workload) (q : ℕ) where
  -- the same of a query, as a test
  abbrev at_end : Held → Bool
  at_end held = held.again && eqb (held.stage + 1) (load.stages q)

  abbrev ends_query : Held → Bool
  ends_query held = is_query held.query q && at_end held

  -- how many of the holdings ended so
  abbrev whole_for : List Held → ℕ
  whole_for [] = 0
  whole_for (held ∷ rest) = cond (ends_query held) 1 0 + whole_for rest

  whole-most : (hs : List Held) → whole_for hs ≤ ended_for q hs
  whole-most [] = omega arith
  whole-most (held ∷ hs) =
      let r : whole_for hs ≤ ended_for q hs = whole-most hs in
      let one : cond {A = ℕ} (ends_query held) 1 0 ≤ cond (is_query held.query q) 1 0 = and-most (is_query held.query q) (at_end held) in omega (arith, r, one)

  -- each holding of the query ended so
  abbrev AllWhole : List Held → Type 0
  AllWhole [] = Unit {0}
  AllWhole (held ∷ rest) = (held.query ≡ Some q → (held.again ≡ true) × (held.stage + 1 ≡ load.stages q)) × AllWhole rest

  all-whole : (hs : List Held) → ended_for q hs ≤ whole_for hs → AllWhole hs
  all-whole [] same = tt
  all-whole (held ∷ hs) same =
      let most : whole_for hs ≤ ended_for q hs = whole-most hs in
      let one : cond {A = ℕ} (ends_query held) 1 0 ≤ cond (is_query held.query q) 1 0 = and-most (is_query held.query q) (at_end held) in
      let all : cond {A = ℕ} (is_query held.query q) 1 0 + ended_for q hs ≤ cond {A = ℕ} (ends_query held) 1 0 + whole_for hs = same in (
        (λ is.
            let here : cond {A = ℕ} (is_query held.query q) 1 0 ≡ 1 = ap (λ b. cond b 1 0) (query-is held.query q is) in
            let ends : ends_query held ≡ true = bit-true (ends_query held) (omega (arith, most, all, here)) in
            let two = and_parts held.again (eqb (held.stage + 1) (load.stages q)) (and_parts (is_query held.query q) (at_end held) ends).1 in
            (two.0, eqb-true (held.stage + 1) (load.stages q) two.1)),
        all-whole hs (omega (arith, one, all)),
      )

  -- 1 if the holding is still to be noted
  abbrev unnoted : Point → Place → ℕ
  unnoted (Fetch v) p = cond (ends_query (held_at p)) 1 0
  unnoted x p = 0

  -- the last task set of the query
  abbrev last_id : ℕ
  last_id = STAGES * q + (load.stages q - 1)

  last-counts : 0 < load.stages q → load.stages q ≤ STAGES → (id n : ℕ)
      → cond {A = ℕ} (eqb id last_id) 1 0 + (n + 0) ≤ n + cond {A = ℕ} (ends_query (finalisation id)) 1 0
  last-counts some few id n = dite (ℕ_discrete id last_id)
      (λ same.
      let of_query : id / STAGES ≡ q = omega (arith, same, some, few) in
      let of_stage : id % STAGES + 1 ≡ load.stages q = omega (arith, same, some, few) in
      let one : cond {A = ℕ} (ends_query (finalisation id)) 1 0 ≡ 1 = ap (λ b. cond b 1 0)
      (and_from (eqb (id / STAGES) q) (eqb (id % STAGES + 1) (load.stages q)) (eq-eqb (id / STAGES) q of_query)
      (eq-eqb (id % STAGES + 1) (load.stages q) of_stage)) in
      let here : cond {A = ℕ} (eqb id last_id) 1 0 ≡ 1 = ap (λ b. cond b 1 0) (eq-eqb id last_id same) in
      omega (arith, one, here))
      (λ other. let none : cond {A = ℕ} (eqb id last_id) 1 0 ≡ 0 = ap (λ b. cond b 1 0) (ne_eqb id last_id other) in omega (arith, none))

  -- if there is a next stage, the holding does not end
  goes-unended : (held : Held) (k : ℕ) → goes_on load held k ≡ true → cond {A = ℕ} (ends_query held) 1 0 ≡ 0
  goes-unended held k goes = ap (λ b. cond b 1 0) (false_from_ne_true (ends_query held) (λ ends.
      let parts = and_parts (is_query held.query q) (at_end held) ends in
      let is : held.query ≡ Some q = is-query held.query q parts.0 in
      let stage : held.stage + 1 ≡ load.stages q =
      eqb-true (held.stage + 1) (load.stages q) (and_parts held.again (eqb (held.stage + 1) (load.stages q)) parts.1).1 in
      let next : held.stage + 1 < stages_held load held =
      ltb-true (held.stage + 1) (stages_held load held) (and_parts (eqb k 1) (ltb (held.stage + 1) (stages_held load held)) goes).1 in
      let same : stages_held load held ≡ load.stages q = ap (λ o. load.stages (unwrap_or o 0)) is in
      omega (arith, stage, next, same)))

idle : (n k : ℕ) → 0 + (n + 0) ≤ n + k
idle n k = omega arith

ended-more : (n k c : ℕ) → k ≤ c → 0 + (n + k) ≤ c + n + 0
ended-more n k c most = omega (arith, most)

goes-more : (n k : ℕ) → k ≡ 0 → 0 + (n + k) ≤ n + 0
goes-more n k none = omega (arith, none)

-- ---- the moves of a worker

module _ (D : Desk Workload) where
  module _ (q : ℕ) (some : 0 < D.subject.stages q) (few : D.subject.stages q ≤ STAGES) where
    -- a call on the last task set of the query is followed by a note that ends a holding
    abbrev Counts : List Move → Point → Act → List Held → Type 0
    Counts ms x a before = last_of (last_id D.subject q) a (place_by D ms) + (whole_for D.subject q before + unnoted D.subject q x (place_by D ms))
        ≤ whole_for D.subject q (ended_after a (after D ms x a) (held_at (place_by D ms)) before)
        + unnoted D.subject q (after D ms x a) (moved D.shape a (place_by D ms))

    call-counts : (ms : List Move) (x : Point) (a : Act) (before : List Held) → MayCall D ms x a → Counts ms x a before
    call-counts ms Sweep SweepLast before m = last-counts D.subject q some few (id_at (place_by D ms)) (whole_for D.subject q before)
    call-counts ms x SweepLast before m = absurd m
    call-counts ms Pay PayLast before m = last-counts D.subject q some few (id_at (place_by D ms)) (whole_for D.subject q before)
    call-counts ms x PayLast before m = absurd m
    call-counts ms (Fill v) (NoteDone k) before m =
        ended-more (whole_for D.subject q before) 0 (cond (ends_query D.subject q (held_at (place_by D ms))) 1 0) (omega arith)
    call-counts ms (Fetch v) (NoteDone k) before m =
        cond_both (goes_on D.subject (held_at (place_by D ms)) k) (Fill 0) FreeIt
        (λ y. 0 + (whole_for D.subject q before + cond {A = ℕ} (ends_query D.subject q (held_at (place_by D ms))) 1 0)
        ≤ whole_for D.subject q (ended_after (NoteDone k) y (held_at (place_by D ms)) before)
        + unnoted D.subject q y (moved D.shape (NoteDone k) (place_by D ms)))
        (λ goes. goes-more (whole_for D.subject q before) (cond (ends_query D.subject q (held_at (place_by D ms))) 1 0)
        (goes-unended D.subject q (held_at (place_by D ms)) k goes))
        (λ stops. ended-more (whole_for D.subject q before) (cond (ends_query D.subject q (held_at (place_by D ms))) 1 0)
        (cond (ends_query D.subject q (held_at (place_by D ms))) 1 0) (omega arith))
    call-counts ms x (NoteDone k) before m = absurd m
    call-counts ms (Fetch v) a before m = absurd m
    call-counts ms x a before m = idle (whole_for D.subject q before) (unnoted D.subject q (after D ms x a) (moved D.shape a (place_by D ms)))

    exchange-counts : (x : Point) (p : Place) → MayExchange D x → unnoted D.subject q (exchanged x) p ≡ unnoted D.subject q x p
    exchange-counts (Fill v) p m = refl
    exchange-counts Take p m = refl
    exchange-counts Back p m = refl
    exchange-counts (Fetch v) p m = refl
    exchange-counts x p m = absurd m

    lasts-counted : (ms : List Move) → AreDriven D ms
        → by_moves (last_of (last_id D.subject q)) D ms ≤ whole_for D.subject q (ended_by D ms) + unnoted D.subject q (point_by D ms) (place_by D ms)
    lasts-counted [] driven = omega arith
    lasts-counted (Made a t ∷ ms) driven =
        let r : by_moves (last_of (last_id D.subject q)) D ms ≤ whole_for D.subject q (ended_by D ms) + unnoted D.subject q (point_by D ms) (place_by D ms) =
        lasts-counted ms driven.1 in
        let this : Counts ms (point_by D ms) a (ended_by D ms) = call-counts ms (point_by D ms) a (ended_by D ms) driven.0 in
        omega (arith, r, this)
    lasts-counted (Exchanged ∷ ms) driven =
        let r : by_moves (last_of (last_id D.subject q)) D ms ≤ whole_for D.subject q (ended_by D ms) + unnoted D.subject q (point_by D ms) (place_by D ms) =
        lasts-counted ms driven.1 in
        let same = exchange-counts (point_by D ms) (place_by D ms) driven.0 in
        omega (arith, r, same)

  -- if each holding ended after the last stage, no note gives a query up
  notes-one : (ms : List Move) (x : Point) (a : Act) (before : List Held) → MayCall D ms x a → Stands D.subject x (place_by D ms)
      → AllAtEnd D.subject (ended_after a (after D ms x a) (held_at (place_by D ms)) before) → NotesOne x a × AllAtEnd D.subject before
  notes-one ms (Fill v) (NoteDone k) before m p all =
      let ends = at-end D.subject (place_by D ms) p.slot p.held p.at p.has.0 all.0 in
      absurd (⊎_elim (λ fresh. true≢false (sym ends.0 ∙ fresh.0))
      (λ next. let low : p.held.stage + 1 < stages_held D.subject p.held = next.1 in
      let last : p.held.stage + 1 ≡ stages_held D.subject p.held = ends.1 in omega (arith, low, last)) p.has.1)
  notes-one ms (Fetch v) (NoteDone k) before m p all =
      cond_both (goes_on D.subject (held_at (place_by D ms)) k) (Fill 0) FreeIt
      (λ y. AllAtEnd D.subject (ended_after (NoteDone k) y (held_at (place_by D ms)) before) → (k ≡ 1) × AllAtEnd D.subject before)
      (λ goes here. (
        eqb-true k 1
            (and_parts (eqb k 1) (ltb ((held_at (place_by D ms)).stage + 1) (stages_held D.subject (held_at (place_by D ms)))) goes).0,
        here,
      ))
      (λ stops here. (
        ⊎_elim (λ one. one) (λ gives.
            let ends = at-end D.subject (place_by D ms) p.slot p.held p.at p.has.2 here.0 in
            let rest : k ≡ rest_of D.subject p.held = gives.all ∙ ap (λ r. rest_of D.subject (held_at r)) p.at in
            let last : p.held.stage + 1 ≡ stages_held D.subject p.held = ends.1 in omega (arith, rest, last)) m.1,
        here.1,
      ))
      all
  notes-one ms x (NoteDone k) before m p all = absurd m
  notes-one ms x a before m p all = (tt, all)

  gives-none-up : (ms : List Move) → AreDriven D ms → AllAtEnd D.subject (ended_by D ms) → GivesNoneUp D ms
  gives-none-up [] driven all = tt
  gives-none-up (Made a t ∷ ms) driven all =
      let two = notes-one ms (point_by D ms) a (ended_by D ms) driven.0 (points-stand D ms driven.1) all in (two.0, gives-none-up ms driven.1 two.1)
  gives-none-up (Exchanged ∷ ms) driven all = gives-none-up ms driven.1 all

-- ---- a whole run

all-ends : (load : Workload) (hs : List Held) → ((q : ℕ) → AllWhole load q hs) → AllAtEnd load hs
all-ends load [] each = tt
all-ends load (held ∷ hs) each = ((λ q. (each q).0), all-ends load hs (λ q. (each q).1))

module _ (d : Shape) (load : Workload) (run : Run) (whole : IsWhole d load run) (report : Report) (is : IsReportOf d load run report)
    (none : NoneRanOut report) where
  abbrev D : ℕ → Desk Workload
  D w = desk_at d load w

  -- the last task set of each query was finalised
  finalised-last : (q : ℕ) → q < d.queries → lasts_of d (last_id load q) run.history ≡ 1
  finalised-last q low =
      let some : 0 < load.stages q = whole.work.some q low in
      ⊎_elim (λ out. absurd (none q out))
      (λ has. subst (λ id. lasts_of d id run.history ≡ 1) has.3.0
      ((all-at (IsRecordIn d load run.history) report.records is.records.each has.0 has.1 has.2).last))
      (is.answered.whole q (load.stages q - 1) (omega (arith, some)))

  gathered-whole : (w q : ℕ) → w < d.workers → q < d.queries
      → times_in (last_id load q) (gathered_by (D w) (run.team w)) ≤ whole_for load q (ended_by (D w) (run.team w))
  gathered-whole w q w_low low =
      let counts = subst (λ x. by_moves (last_of (last_id load q)) (D w) (run.team w)
      ≤ whole_for load q (ended_by (D w) (run.team w)) + unnoted load q x (place_by (D w) (run.team w))) (whole.over w w_low)
      (lasts-counted (D w) q (whole.work.some q low) (whole.work.few q low) (run.team w) (whole.played.driven w w_low)) in
      let same = gathers-are d load run whole w (last_id load q) w_low in
      let r : by_moves (last_of (last_id load q)) (D w) (run.team w) ≤ whole_for load q (ended_by (D w) (run.team w)) + 0 = counts in
      omega (arith, r, same)

  ended-whole : (w q : ℕ) → w < d.workers → ended_for q (ended_by (D w) (run.team w)) ≤ whole_for load q (ended_by (D w) (run.team w))
  ended-whole w q w_low = ⊎_elim
      (λ low. ⊎_elim (λ less. absurd
      (let f : ℕ → ℕ = λ v. times_in (last_id load q) (gathered_by (D v) (run.team v)) in
      let g : ℕ → ℕ = λ v. ended_for q (ended_by (D v) (run.team v)) in
      let here : f w ≤ whole_for load q (ended_by (D w) (run.team w)) = gathered-whole w q w_low low in
      let below : f w < g w = omega (arith, here, less) in
      let sums : sum_below d.workers f < sum_below d.workers g = sum-less d.workers w f g w_low below
      (λ v v_low. let a : f v ≤ whole_for load q (ended_by (D v) (run.team v)) = gathered-whole v q v_low low in
      let b : whole_for load q (ended_by (D v) (run.team v)) ≤ g v = whole-most load q (ended_by (D v) (run.team v)) in omega (arith, a, b)) in
      let one : sum_below d.workers f ≡ 1 = gathers-total d load run whole (last_id load q) ∙ finalised-last q low in
      let two : sum_below d.workers g ≡ 1 = ends-total d load run whole q ∙ ap (λ b. cond b 1 0) (lt-ltb q d.queries low) in
      omega (arith, sums, one, two)))
      (λ most. most) (cases_lt (whole_for load q (ended_by (D w) (run.team w))) (ended_for q (ended_by (D w) (run.team w)))))
      (λ high.
      let g : ℕ → ℕ = λ v. ended_for q (ended_by (D v) (run.team v)) in
      let member : g w ≤ sum_below d.workers g = sum-member d.workers w g w_low in
      let zero_ : sum_below d.workers g ≡ 0 = ends-total d load run whole q ∙ ap (λ b. cond b 1 0) (le-ltb q d.queries high) in
      omega (arith, member, zero_))
      (cases_lt q d.queries)

  pub none-given-up : (w : ℕ) → w < d.workers → GivesNoneUp (D w) (run.team w)
  none-given-up w low = gives-none-up (D w) (run.team w) (whole.played.driven w low)
      (all-ends load (ended_by (D w) (run.team w)) (λ q. all-whole load q (ended_by (D w) (run.team w)) (ended-whole w q low)))
