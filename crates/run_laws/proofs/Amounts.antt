-- The ranges of a worker are not many: their number, their tuples and their times fit a share.
use Rattle.std.proofs.Common.{◌≡◌, ℕ, ◌+◌, ◌-◌, ◌*◌, ◌^◌, ◌<◌, ◌≤◌, Bool, true, false, cond, eqb}
use Rattle.std.proofs.Common.{List, [], ◌∷◌, ◌++◌, length, length-append, refl, sym, ap, ◌∙◌, subst, eq-eqb, ne_eqb, arith}
use Rattle.std.specs.Prelude.{min, sum, unwrap_or}
use Rattle.std.proofs.lemmas.Bool.{cond_both}
use Rattle.slot_history.specs.declared.shape.Shape.{Shape}
use Rattle.slot_history.specs.declared.shape.TheConstants.{STAGES, MOST_TOTAL}
use Rattle.slot_history.specs.declared.act.Act.{Act}
use Rattle.slot_history.specs.declared.act.Act.TheVariants.{ClaimRange, ReserveGot, AdmitGot, NoteDone, SetTotal, Install, Release}
use Rattle.slot_history.specs.declared.act.Entry.{Entry}
use Rattle.slot_history.specs.declared.place.Place.{Place}
use Rattle.slot_history.specs.Sets.{sum_below}
use Rattle.slot_history.specs.States.{SlotState, Empty, Reserved, Open, Shut, Finishing, ObjectState, slot_of, task_of}
use Rattle.slot_history.specs.Steps.{site, slot_after, claimed, finalised_by, held_on, opened, next, state_after}
use Rattle.slot_history.specs.Allowed.{IsAllowed}
use Rattle.slot_history.specs.Histories.{IsLegal, place_of, is_install, installs_of}
use Rattle.slot_history.specs.Numbers.{named_id}
use Rattle.slot_history.specs.Bounds.{IsSlotSound, AreSlotsSound, IsWithin}
use Rattle.slot_history.proofs.Sets.{upd-same, upd-else, sum-change, sum-zero}
use Rattle.slot_history.proofs.SlotSteps.{is_holders, after-others}
use Rattle.slot_history.proofs.Within.{within}
use Rattle.slot_history.proofs.Holdings.{slots-sound}
use Rattle.slot_history.proofs.Counts.{only-once}
use Rattle.slot_history.proofs.Numbers.{named-low}
use Rattle.slot_station.specs.Desks.{Desk}
use Rattle.turn_model.specs.Workloads.{Workload}
use Rattle.turn_model.specs.Moves.{Move, Made, Exchanged}
use Rattle.turn_model.specs.Learned.{place_by, query_by, time_in}
use Rattle.turn_model.specs.Runs.{desk_at}
use Rattle.turn_model.specs.Measure.{unclaimed}
use Rattle.turn_model.specs.Reports.{tuples_by}
use Rattle.run_laws.specs.Merging.{AreShort, CountsAreSmall}
use Rattle.run_laws.proofs.Least.{sum-equal, sum-turns, sum-bounded, sum-member}
use Rattle.run_laws.proofs.Numbers.{left_at, left-empty, left-shut, left-ended}
use Rattle.run_laws.proofs.SharesTell.{sum-push}
use Rattle.run_laws.proofs.Tallies.{total, by_moves, total-moves}

-- the tuples of a range, ranges, and installs
abbrev tuples_of : Act → Place → ℕ
tuples_of (ClaimRange n from to) p = to - from
tuples_of a p = 0

abbrev range_of : Act → Place → ℕ
range_of (ClaimRange n from to) p = 1
range_of a p = 0

abbrev install_of : Act → Place → ℕ
install_of (Install id) p = 1
install_of a p = 0

-- ---- what a call claims its slot had left

left-used-less : (x : SlotState) (n : ℕ) → left_at (claimed x n) ≤ left_at x
left-used-less (Open t) n = let r : t.total - (t.cursor + n) ≤ t.total - t.cursor = omega arith in r
left-used-less (Shut t end) n = let r : t.total - (t.cursor + n) ≤ t.total - t.cursor = omega arith in r
left-used-less Empty n = omega arith
left-used-less (Reserved w h) n = omega arith
left-used-less (Finishing id w h) n = omega arith

left-last-less : (w : ℕ) (x : SlotState) → left_at (finalised_by w x) ≤ left_at x
left-last-less w (Shut t end) = let r : 0 - 0 ≤ t.total - t.cursor = omega arith in r
left-last-less w _ = omega arith

left-held : (a : Act) (x : SlotState) → left_at (held_on a x) ≡ left_at x
left-held a Empty = refl
left-held a _ = refl

left-opened : (id : ℕ) (x : SlotState) → IsSlotSound x → left_at (opened id x) ≤ left_at x + MOST_TOTAL
left-opened id (Reserved w h) sound = let t : unwrap_or h.total 0 ≤ MOST_TOTAL = sound.total in
    let r : unwrap_or h.total 0 - 0 ≤ 0 - 0 + MOST_TOTAL = omega (arith, t) in r
left-opened id (Finishing jd w h) sound = let t : unwrap_or h.total 0 ≤ MOST_TOTAL = sound.total in
    let r : unwrap_or h.total 0 - 0 ≤ 0 - 0 + MOST_TOTAL = omega (arith, t) in r
left-opened id _ sound = omega arith

range-left : (x : SlotState) (n from to : ℕ) → from ≡ (task_of x).cursor → from < (task_of x).total → to ≡ min (task_of x).total (from + n)
    → (to - from) + left_at (claimed x n) ≤ left_at x
range-left (Open t) n from to at less is = let r : (to - from) + (t.total - (t.cursor + n)) ≤ t.total - t.cursor = omega (arith, at, less, is) in r
range-left (Shut t end) n from to at less is = let r : (to - from) + (t.total - (t.cursor + n)) ≤ t.total - t.cursor = omega (arith, at, less, is) in r
range-left Empty n from to at less is = absurd (omega (arith, less))
range-left (Reserved w h) n from to at less is = absurd (omega (arith, less))
range-left (Finishing id w h) n from to at less is = absurd (omega (arith, less))

module _ (d : Shape) (S : ObjectState) (w : ℕ) where
  abbrev LeavesLess : Act → Type 0
  LeavesLess a = let x = S.slots (site a (S.places w)) in
      tuples_of a (S.places w) + left_at (slot_after d w a x) ≤ left_at x + MOST_TOTAL * install_of a (S.places w)

  others-less : (a : Act) → is_holders a ≡ false
      → left_at (slot_after d w a (S.slots (site a (S.places w)))) ≤ left_at (S.slots (site a (S.places w)))
  others-less a not_held = after-others d w (λ x y. left_at y ≤ left_at x) (λ x. omega arith) left-used-less
      (λ x. let e = left-shut w x in omega (arith, e)) (left-last-less w) (λ b x. let e = left-ended d w b x in omega (arith, e)) a not_held
      (S.slots (site a (S.places w)))

  leaves-less : (a : Act) → AreSlotsSound d S → IsAllowed d S w a → LeavesLess a
  leaves-less (ClaimRange n from to) sound ok = let at : ok.0 ≡ slot_of (S.places w) = sym (ap slot_of ok.2) in
      let r = subst (λ s. (to - from) + left_at (claimed (S.slots s) n) ≤ left_at (S.slots s)) at
      (range-left (S.slots ok.0) n from to ok.5 ok.6 ok.7) in omega (arith, r)
  leaves-less (ReserveGot s) sound ok = let r : 0 + (0 - 0) ≤ left_at (S.slots s) + MOST_TOTAL * 0 = omega arith in r
  leaves-less (AdmitGot q) sound ok = let e = left-held (AdmitGot q) (S.slots (slot_of (S.places w))) in omega (arith, e)
  leaves-less (NoteDone k) sound ok = let e = left-held (NoteDone k) (S.slots (slot_of (S.places w))) in omega (arith, e)
  leaves-less (SetTotal t) sound ok = let e = left-held (SetTotal t) (S.slots (slot_of (S.places w))) in omega (arith, e)
  leaves-less (Install id) sound ok = let e = left-opened id (S.slots (slot_of (S.places w))) (sound (slot_of (S.places w))) in omega (arith, e)
  leaves-less Release sound ok = let r : 0 + (0 - 0) ≤ left_at (S.slots (slot_of (S.places w))) + MOST_TOTAL * 0 = omega arith in r
  leaves-less a sound ok = let e = others-less a refl in omega (arith, e)

  all-less : (a : Act) → AreSlotsSound d S → IsWithin d S → IsAllowed d S w a
      → tuples_of a (S.places w) + unclaimed d (next d S w a) ≤ unclaimed d S + MOST_TOTAL * install_of a (S.places w)
  all-less a sound near ok =
      let k : ℕ = site a (S.places w) in
      let y : SlotState = slot_after d w a (S.slots k) in
      let f : ℕ → ℕ = λ s. left_at (S.slots s) in
      let g : ℕ → ℕ = λ s. left_at ((next d S w a).slots s) in
      let change : sum_below d.slots g + f k ≤ sum_below d.slots f + g k = sum-change d.slots k f g
      (λ s n. ap left_at (upd-else S.slots k y s n)) (λ past. sym (left-empty (S.slots k) (near.slots k past))) in
      let here : g k ≡ left_at y = ap left_at (upd-same S.slots k y) in
      let less : tuples_of a (S.places w) + left_at y ≤ f k + MOST_TOTAL * install_of a (S.places w) = leaves-less a sound ok in
      omega (arith, change, here, less)

-- all tuples that were claimed were installed
tuples-installed : (d : Shape) (h : List Entry) → IsLegal d h → total tuples_of d h + unclaimed d (state_after d h) ≤ MOST_TOTAL * total install_of d h
tuples-installed d [] legal = let z : sum_below d.slots (λ s. 0) ≡ 0 = sum-zero d.slots in
    let r : 0 + sum_below d.slots (λ s. 0) ≤ MOST_TOTAL * 0 = omega (arith, z) in r
tuples-installed d (e ∷ es) legal =
    let less = all-less d (state_after d es) e.worker e.act (slots-sound d es legal.2) (within d es legal.2) legal.1 in
    let before = tuples-installed d es legal.2 in
    omega (arith, less, before)

-- each task set is installed once
installs-step : (n : ℕ) (a : Act) (p : Place) (es : List Entry) (e : Entry) → e.act ≡ a → ((id : ℕ) → a ≡ Install id → id < n)
    → sum_below n (λ id. installs_of id (e ∷ es)) ≡ install_of a p + sum_below n (λ id. installs_of id es)
installs-step n (Install k) p es e is low =
    let f : ℕ → ℕ = λ id. installs_of id es in
    let g : ℕ → ℕ = λ id. installs_of id (e ∷ es) in
    let turns : sum_below n g + f k ≡ sum_below n f + g k = sum-turns n k f g (low k refl)
    (λ id other. ap (λ b. cond (is_install b id) 1 0 + installs_of id es) is
    ∙ (let z : cond {A = ℕ} (eqb k id) 1 0 ≡ 0 = ap (λ b. cond b 1 0) (ne_eqb k id (λ s. other (sym s))) in
    let r : cond {A = ℕ} (eqb k id) 1 0 + installs_of id es ≡ installs_of id es = omega (arith, z) in r)) in
    let here : g k ≡ 1 + f k = ap (λ b. cond (is_install b k) 1 0 + installs_of k es) is ∙ ap (λ b. cond b 1 0 + installs_of k es) (eq-eqb k k refl) in
    omega (arith, turns, here)
installs-step n _ p es e is low =
    sum-equal n (λ id. installs_of id es) (λ id. installs_of id (e ∷ es)) (λ id id_low. ap (λ b. cond (is_install b id) 1 0 + installs_of id es) is
    ∙ (let r : 0 + installs_of id es ≡ installs_of id es = omega arith in r))
    ∙ (let r : sum_below n (λ id. installs_of id es) ≡ 0 + sum_below n (λ id. installs_of id es) = omega arith in r)

installs-counted : (d : Shape) (h : List Entry) → IsLegal d h → total install_of d h ≡ sum_below (STAGES * d.queries) (λ id. installs_of id h)
installs-counted d [] legal = sym (sum-zero (STAGES * d.queries))
installs-counted d (e ∷ es) legal =
    let step = installs-step (STAGES * d.queries) e.act (place_of d es e.worker) es e refl
    (λ id is. named-low d e.worker e.act es id legal (ap named_id is)) in
    let before = installs-counted d es legal.2 in
    omega (arith, step, before)

installs-few : (d : Shape) (h : List Entry) → IsLegal d h → total install_of d h ≤ STAGES * d.queries
installs-few d h legal =
    let all = installs-counted d h legal in
    let few = sum-bounded (STAGES * d.queries) (λ id. installs_of id h) 1 (λ id low. (only-once d h legal).0 id) in
    omega (arith, all, few)

-- each range has a tuple
range-tuples : (d : Shape) (S : ObjectState) (w : ℕ) (a : Act) → IsAllowed d S w a → range_of a (S.places w) ≤ tuples_of a (S.places w)
range-tuples d S w (ClaimRange n from to) ok =
    let some : 0 < n = ok.3 in
    let less : from < (task_of (S.slots ok.0)).total = ok.6 in
    let is : to ≡ min (task_of (S.slots ok.0)).total (from + n) = ok.7 in
    let r : 1 ≤ to - from = omega (arith, some, less, is) in r
range-tuples d S w _ ok = omega arith

ranges-tuples : (d : Shape) (h : List Entry) → IsLegal d h → total range_of d h ≤ total tuples_of d h
ranges-tuples d [] legal = omega arith
ranges-tuples d (e ∷ es) legal =
    let here = range-tuples d (state_after d es) e.worker e.act legal.1 in
    let before = ranges-tuples d es legal.2 in
    omega (arith, here, before)

-- ---- of one worker and one query

-- a measure that each range adds to by what its call counts for
module _ (m : List ℕ → ℕ) (c : Act → Place → ℕ) (none : m [] ≡ 0)
    (one : (n from to : ℕ) (p : Place) (xs : List ℕ) → m (xs ++ (to - from) ∷ []) ≡ m xs + c (ClaimRange n from to) p) where
  query-most : (D : Desk Workload) (q : ℕ) (ms : List Move) → m (tuples_by D q ms) ≤ by_moves c D ms
  query-most D q [] = omega (arith, none)
  query-most D q (Made (ClaimRange n from to) t ∷ ms) =
      let before : m (tuples_by D q ms) ≤ by_moves c D ms = query-most D q ms in
      cond_both (eqb (query_by D ms) q) (tuples_by D q ms ++ (to - from) ∷ []) (tuples_by D q ms)
      (λ l. m l ≤ c (ClaimRange n from to) (place_by D ms) + by_moves c D ms)
      (λ here. let more = one n from to (place_by D ms) (tuples_by D q ms) in omega (arith, more, before))
      (λ other. omega (arith, before))
  query-most D q (Made a t ∷ ms) =
      let before : m (tuples_by D q ms) ≤ by_moves c D ms = query-most D q ms in
      let r : m (tuples_by D q ms) ≤ c a (place_by D ms) + by_moves c D ms = omega (arith, before) in r
  query-most D q (Exchanged ∷ ms) = query-most D q ms

tuples-more : (D : Desk Workload) (q : ℕ) (ms : List Move) → sum (tuples_by D q ms) ≤ by_moves tuples_of D ms
tuples-more = query-most sum tuples_of refl (λ n from to p xs. sum-push xs (to - from))

ranges-more : (D : Desk Workload) (q : ℕ) (ms : List Move) → length (tuples_by D q ms) ≤ by_moves range_of D ms
ranges-more = query-most length range_of refl (λ n from to p xs. length-append xs ((to - from) ∷ []))

times-short : (D : Desk Workload) (q : ℕ) (ms : List Move) → AreShort ms → time_in D q ms ≤ length (tuples_by D q ms) * 2 ^ 36
times-short D q [] short = omega arith
times-short D q (Made (ClaimRange n from to) t ∷ ms) short =
    let before : time_in D q ms ≤ length (tuples_by D q ms) * 2 ^ 36 = times-short D q ms short.1 in
    let here : t ≤ 2 ^ 36 = short.0 in
    let more : length (tuples_by D q ms ++ (to - from) ∷ []) ≡ length (tuples_by D q ms) + 1 = length-append (tuples_by D q ms) ((to - from) ∷ []) in
    both (eqb (query_by D ms) q) before here more
  where
    both : (b : Bool) → time_in D q ms ≤ length (tuples_by D q ms) * 2 ^ 36 → t ≤ 2 ^ 36
        → length (tuples_by D q ms ++ (to - from) ∷ []) ≡ length (tuples_by D q ms) + 1
        → cond b (time_in D q ms + t) (time_in D q ms) ≤ length (cond b (tuples_by D q ms ++ (to - from) ∷ []) (tuples_by D q ms)) * 2 ^ 36
    both true before here more = omega (arith, before, here, more)
    both false before here more = before
times-short D q (Made a t ∷ ms) short = times-short D q ms short.1
times-short D q (Exchanged ∷ ms) short = times-short D q ms short

pub counts-are-small : CountsAreSmall
counts-are-small d load run w queries played low short =
    let D : Desk Workload = desk_at d load w in
    let h : List Entry = run.history in
    let ms : List Move = run.team w in
    let all : total tuples_of d h + unclaimed d (state_after d h) ≤ MOST_TOTAL * total install_of d h = tuples-installed d h played.legal in
    let few : total install_of d h ≤ STAGES * d.queries = installs-few d h played.legal in
    let less : total range_of d h ≤ total tuples_of d h = ranges-tuples d h played.legal in
    let tuples_sum : total tuples_of d h ≡ sum_below d.workers (λ v. by_moves tuples_of (desk_at d load v) (run.team v)) =
    total-moves tuples_of d load run played in
    let ranges_sum : total range_of d h ≡ sum_below d.workers (λ v. by_moves range_of (desk_at d load v) (run.team v)) =
    total-moves range_of d load run played in
    let tuples_mine : by_moves tuples_of D ms ≤ sum_below d.workers (λ v. by_moves tuples_of (desk_at d load v) (run.team v)) =
    sum-member d.workers w (λ v. by_moves tuples_of (desk_at d load v) (run.team v)) low in
    let ranges_mine : by_moves range_of D ms ≤ sum_below d.workers (λ v. by_moves range_of (desk_at d load v) (run.team v)) =
    sum-member d.workers w (λ v. by_moves range_of (desk_at d load v) (run.team v)) low in
    let many_tuples : by_moves tuples_of D ms ≤ 2 ^ 35 = omega (arith, all, few, tuples_sum, tuples_mine, queries) in
    let many_ranges : by_moves range_of D ms ≤ 2 ^ 35 = omega (arith, all, few, less, ranges_sum, ranges_mine, queries) in
    record {
      ranges = λ q. let m : length (tuples_by D q ms) ≤ by_moves range_of D ms = ranges-more D q ms in omega (arith, m, many_ranges);
      tuples = λ q. let m : sum (tuples_by D q ms) ≤ by_moves tuples_of D ms = tuples-more D q ms in omega (arith, m, many_tuples);
      ns = λ q. let m : length (tuples_by D q ms) ≤ by_moves range_of D ms = ranges-more D q ms in
          let t : time_in D q ms ≤ length (tuples_by D q ms) * 2 ^ 36 = times-short D q ms short in omega (arith, m, t, many_ranges);
    }
