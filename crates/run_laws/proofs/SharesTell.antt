-- Shares that are counted range by range are those of the ranges.
use Rattle.std.proofs.Common.{◌≡◌, ◌≢◌, ℕ, zero, suc, ◌+◌, ◌-◌, ◌/◌, ◌^◌, ◌<◌, ◌≤◌, Bool, true, false, cond, eqb}
use Rattle.std.proofs.Common.{List, [], ◌∷◌, ◌++◌, ◌⊎◌, inl, inr, Some, refl, sym, ap, ◌∙◌, subst}
use Rattle.std.proofs.Common.{length, slice_get, eq-eqb, ne_eqb, length-append, min, max, arith}
use Rattle.std.specs.Prelude.{sum}
use native.Mathlib.Decide.{ℕ_discrete}
use Rattle.std.proofs.lemmas.Bool.{cases_order}
use Rattle.std.proofs.lemmas.List.Sums.{fold-append}
use Rattle.slot_history.specs.declared.act.Act.TheVariants as act
use Rattle.slot_station.specs.Desks.{Desk}
use Rattle.report_text.specs.declared.report.Share.{Share}
use Rattle.turn_model.specs.Workloads.{Workload}
use Rattle.turn_model.specs.Moves.{Move, Made, Exchanged}
use Rattle.prio_decay.specs.declared.TheConstants.{QUANTUM_NS}
use Rattle.prio_decay.specs.Priority.{priority_after}
use Rattle.turn_model.specs.Learned.{params_of, query_by, time_in, priority_in}
use Rattle.turn_model.specs.Reports.{Has, IsShareOf, tuples_by}
use Rattle.turn_model.specs.Shares.{Worked, no_share, with_range, counted, AscendWithin, range_done, shares_by, CountsFit, SharesAreOfRanges}
use Rattle.turn_model.proofs.Counting.{ascending-at, ascending-order, count-before, count-here, count-past, counted-ascends, some-is}

pub sum-push : (ns : List ℕ) (n : ℕ) → sum (ns ++ n ∷ []) ≡ sum ns + n
sum-push ns n = fold-append ◌+◌ 0 ns (n ∷ [])

-- ---- each of a list

abbrev Each : (Share → Type 0) → List Share → Type 0
Each P [] = Unit {0}
Each P (x ∷ xs) = P x × Each P xs

each-both : (P Q R : Share → Type 0) (xs : List Share) → ((x : Share) → P x → Q x → R x) → Each P xs → Each Q xs → Each R xs
each-both P Q R [] f ps qs = tt
each-both P Q R (x ∷ xs) f ps qs = (f x ps.0 qs.0, each-both P Q R xs f ps.1 qs.1)

each-get : (P : Share → Type 0) (xs : List Share) (i : ℕ) (x : Share) → Each P xs → slice_get xs i ≡ Some x → P x
each-get P [] i x all got = absurd (cc)
each-get P (y ∷ ys) zero x all got = subst P (some-is y x got) all.0
each-get P (y ∷ ys) (suc i) x all got = each-get P ys i x all.1 got

each-of : (P : Share → Type 0) (xs : List Share) → ((i : ℕ) (x : Share) → slice_get xs i ≡ Some x → P x) → Each P xs
each-of P [] f = tt
each-of P (x ∷ xs) f = (f zero x refl, each-of P xs (λ i y got. f (suc i) y got))

abbrev Else : ℕ → Share → Type 0
Else q s = s.query ≢ q

-- shares past a number are of other queries
else-past : (q from to : ℕ) (xs : List Share) → q < from → AscendWithin from to xs → Each (Else q) xs
else-past q from to xs lt up = each-of (Else q) xs (λ i x got e. let le = ascending-at from to xs i x up got in omega (arith, lt, le, e))

-- a query has a share, or none is of it
has-or : (q : ℕ) (xs : List Share) → Has (λ (s : Share). s.query ≡ q) xs ⊎ Each (Else q) xs
has-or q [] = inr tt
has-or q (x ∷ xs) = at (ℕ_discrete x.query q) (has-or q xs) where
  at : Dec (x.query ≡ q) → Has (λ (s : Share). s.query ≡ q) xs ⊎ Each (Else q) xs → Has (λ (s : Share). s.query ≡ q) (x ∷ xs) ⊎ Each (Else q) (x ∷ xs)
  at (yes e) rest = inl (zero, x, refl, e)
  at (no n) (inl (i, s, got, is)) = inl (suc i, s, got, is)
  at (no n) (inr others) = inr (n, others)

-- ---- one range more

module _ (range : Worked) where
  module _ (P Q : Share → Type 0) (kept : (s : Share) → s.query ≢ range.query → P s → Q s)
      (more : (s : Share) → s.query ≡ range.query → P s → Q (with_range range s)) where
    counted-each : (from to : ℕ) (xs : List Share) → AscendWithin from to xs → Each P xs
        → (Each (Else range.query) xs → Q (with_range range (no_share range))) → Each Q (counted range xs)
    counted-each from to [] up was new = (new tt, tt)
    counted-each from to (x ∷ xs) up was new =
        at (cases_order x.query range.query)
        (λ lt. counted-each (x.query + 1) to xs up.2 was.1 (λ others. new ((λ e. omega (arith, e, lt)), others))) where
          keep : Each (Else range.query) xs → Each Q xs
          keep others = each-both (Else range.query) P Q xs kept others was.1

          at : (x.query ≡ range.query) ⊎ ((x.query < range.query) ⊎ (range.query < x.query)) → (x.query < range.query → Each Q (counted range xs))
              → Each Q (counted range (x ∷ xs))
          at (inl e) rest =
              subst (Each Q) (sym (count-here range x xs e))
              (more x e was.0, keep (else-past range.query (x.query + 1) to xs (omega (arith, e)) up.2))
          at (inr (inl lt)) rest = subst (Each Q) (sym (count-past range x xs lt)) (kept x (λ e. omega (arith, e, lt)) was.0, rest lt)
          at (inr (inr lt)) rest =
              let others = else-past range.query (x.query + 1) to xs (omega (arith, lt)) up.2 in
              subst (Each Q) (sym (count-before range x xs lt))
              (new ((λ e. omega (arith, e, lt)), others), (kept x (λ e. omega (arith, e, lt)) was.0, keep others))

  -- the query of the range has a share then, and each that had one still has
  counted-has : (xs : List Share) → Each (Else range.query) (counted range xs) → ⊥
  counted-has [] all = all.0 refl
  counted-has (x ∷ xs) all = at (cases_order x.query range.query) (λ rest. counted-has xs rest) where
    at : (x.query ≡ range.query) ⊎ ((x.query < range.query) ⊎ (range.query < x.query)) → (Each (Else range.query) (counted range xs) → ⊥) → ⊥
    at (inl e) rest = (subst (Each (Else range.query)) (count-here range x xs e) all).0 e
    at (inr (inl lt)) rest = rest (subst (Each (Else range.query)) (count-past range x xs lt) all).1
    at (inr (inr lt)) rest = (subst (Each (Else range.query)) (count-before range x xs lt) all).0 refl

  counted-else : (q : ℕ) (xs : List Share) → Each (Else q) (counted range xs) → Each (Else q) xs
  counted-else q [] all = tt
  counted-else q (x ∷ xs) all = at (cases_order x.query range.query) (λ rest. counted-else q xs rest) where
    at : (x.query ≡ range.query) ⊎ ((x.query < range.query) ⊎ (range.query < x.query)) → (Each (Else q) (counted range xs) → Each (Else q) xs)
        → Each (Else q) (x ∷ xs)
    at (inl e) rest = let a = subst (Each (Else q)) (count-here range x xs e) all in (a.0, a.1)
    at (inr (inl lt)) rest = let a = subst (Each (Else q)) (count-past range x xs lt) all in (a.0, rest a.1)
    at (inr (inr lt)) rest = let a = subst (Each (Else q)) (count-before range x xs lt) all in (a.1.0, a.1.1)

ascend-on : (from to more : ℕ) (xs : List Share) → to ≤ more → AscendWithin from to xs → AscendWithin from more xs
ascend-on from to more [] le up = tt
ascend-on from to more (x ∷ xs) le up = let b = up.1 in (up.0, omega (arith, b, le), ascend-on (x.query + 1) to more xs le up.2)

-- ---- what ranges tell

record Facts : Type 0 where
  pub worker : ℕ
  pub tuples : ℕ → List ℕ
  pub time : ℕ → ℕ
  pub priority : ℕ → ℕ

abbrev facts_by : Desk Workload → List Move → Facts
facts_by D ms = record { worker = D.worker; tuples = λ q. tuples_by D q ms; time = λ q. time_in D q ms; priority = λ q. priority_in D q ms }

record IsOf (f : Facts) (s : Share) : Type 0 where
  pub some : 0 < length (f.tuples s.query)
  pub worker : s.worker ≡ f.worker
  pub ranges : s.ranges ≡ length (f.tuples s.query)
  pub tuples : s.tuples ≡ sum (f.tuples s.query)
  pub ns : s.ns ≡ f.time s.query
  pub priority : s.priority ≡ f.priority s.query

record Tell (f : Facts) (xs : List Share) : Type 0 where
  pub queries : ℕ
  pub up : AscendWithin 0 queries xs
  pub each : Each (IsOf f) xs
  pub none : (q : ℕ) → Each (Else q) xs → f.tuples q ≡ []
  pub zero-time : (q : ℕ) → f.tuples q ≡ [] → f.time q ≡ 0

-- the facts after one range more
record Grows (range : Worked) (f g : Facts) : Type 0 where
  pub worker : f.worker ≡ g.worker
  pub owner : range.worker ≡ g.worker
  pub tuples : g.tuples range.query ≡ f.tuples range.query ++ range.tuples ∷ []
  pub time : g.time range.query ≡ f.time range.query + range.ns
  pub priority : g.priority range.query ≡ range.priority
  pub tuples-else : (q : ℕ) → q ≢ range.query → g.tuples q ≡ f.tuples q
  pub time-else : (q : ℕ) → q ≢ range.query → g.time q ≡ f.time q
  pub priority-else : (q : ℕ) → q ≢ range.query → g.priority q ≡ f.priority q
  pub few-ranges : length (g.tuples range.query) < 2 ^ 64
  pub few-tuples : sum (g.tuples range.query) < 2 ^ 64
  pub few-ns : g.time range.query < 2 ^ 128

not-empty : (l : List ℕ) (x : ℕ) → l ++ x ∷ [] ≡ [] → ⊥
not-empty l x e = let a : length (l ++ x ∷ []) ≡ length l + 1 = length-append l (x ∷ []) in let b = ap length e in omega (arith, a, b)

module _ (range : Worked) (f g : Facts) (grows : Grows range f g) where
  is-kept : (s : Share) → s.query ≢ range.query → IsOf f s → IsOf g s
  is-kept s other is =
      let l = sym (grows.tuples-else s.query other) in
      record {
        some = subst (λ (x : List ℕ). 0 < length x) l is.some;
        worker = is.worker ∙ grows.worker;
        ranges = is.ranges ∙ ap length l;
        tuples = is.tuples ∙ ap sum l;
        ns = is.ns ∙ sym (grows.time-else s.query other);
        priority = is.priority ∙ sym (grows.priority-else s.query other);
      }

  long : length (g.tuples range.query) ≡ length (f.tuples range.query) + 1
  long = ap length grows.tuples ∙ length-append (f.tuples range.query) (range.tuples ∷ [])

  total : sum (g.tuples range.query) ≡ sum (f.tuples range.query) + range.tuples
  total = ap sum grows.tuples ∙ sum-push (f.tuples range.query) range.tuples

  -- the share of the query with so many ranges, tuples and nanoseconds before
  is-more : (s : Share) → s.query ≡ range.query → s.worker ≡ g.worker → s.ranges ≡ length (f.tuples range.query) → s.tuples ≡ sum (f.tuples range.query)
      → s.ns ≡ f.time range.query → IsOf g (with_range range s)
  is-more s same worker ranges tuples ns =
      let few = grows.few-ranges in
      let few' = grows.few-tuples in
      let few'' = grows.few-ns in
      let n = long in
      let t = total in
      let d = grows.time in
      let at-ranges : min (s.ranges + 1) (2 ^ 64 - 1) ≡ length (g.tuples range.query) = omega (arith, few, n, ranges) in
      let at-tuples : min (s.tuples + range.tuples) (2 ^ 64 - 1) ≡ sum (g.tuples range.query) = omega (arith, few', t, tuples) in
      let at-ns : min (s.ns + range.ns) (2 ^ 128 - 1) ≡ g.time range.query = omega (arith, few'', d, ns) in
      let some : 0 < length (g.tuples range.query) = omega (arith, n) in
      record {
        some = subst (λ q. 0 < length (g.tuples q)) (sym same) some;
        worker = worker;
        ranges = at-ranges ∙ ap (λ q. length (g.tuples q)) (sym same);
        tuples = at-tuples ∙ ap (λ q. sum (g.tuples q)) (sym same);
        ns = at-ns ∙ ap g.time (sym same);
        priority = sym grows.priority ∙ ap g.priority (sym same);
      }

  is-old : (s : Share) → s.query ≡ range.query → IsOf f s → IsOf g (with_range range s)
  is-old s same is =
      is-more s same (is.worker ∙ grows.worker) (is.ranges ∙ ap (λ q. length (f.tuples q)) same) (is.tuples ∙ ap (λ q. sum (f.tuples q)) same)
      (is.ns ∙ ap f.time same)

  tell-on : (xs : List Share) → Tell f xs → Tell g (counted range xs)
  tell-on xs tell = record {
    queries = max tell.queries (range.query + 1);
    up = counted-ascends range 0 (max tell.queries (range.query + 1)) xs (omega arith) (omega arith)
        (ascend-on 0 tell.queries (max tell.queries (range.query + 1)) xs (omega arith) tell.up);
    each = counted-each range (IsOf f) (IsOf g) is-kept is-old 0 tell.queries xs tell.up tell.each
        (λ others. let none = tell.none range.query others in
        is-more (no_share range) refl grows.owner (sym (ap length none)) (sym (ap sum none)) (sym (tell.zero-time range.query none)));
    none = λ q others. none-by q others (ℕ_discrete q range.query);
    zero-time = λ q none. zero-by q none (ℕ_discrete q range.query);
  } where
    none-by : (q : ℕ) → Each (Else q) (counted range xs) → Dec (q ≡ range.query) → g.tuples q ≡ []
    none-by q others (yes e) = absurd (counted-has range xs (subst (λ k. Each (Else k) (counted range xs)) e others))
    none-by q others (no n) = grows.tuples-else q n ∙ tell.none q (counted-else range q xs others)

    zero-by : (q : ℕ) → g.tuples q ≡ [] → Dec (q ≡ range.query) → g.time q ≡ 0
    zero-by q none (yes e) = absurd (not-empty (f.tuples range.query) range.tuples (sym grows.tuples ∙ ap g.tuples (sym e) ∙ none))
    zero-by q none (no n) = grows.time-else q n ∙ tell.zero-time q (sym (grows.tuples-else q n) ∙ none)

-- ---- by the moves

module _ (D : Desk Workload) (k from to t : ℕ) (ms : List Move) where
  grows-by : CountsFit D (Made (act.ClaimRange k from to) t ∷ ms)
      → Grows (range_done D from to t ms) (facts_by D ms) (facts_by D (Made (act.ClaimRange k from to) t ∷ ms))
  grows-by fits = record {
    worker = refl;
    owner = refl;
    tuples = ap (λ b. cond b (tuples_by D q ms ++ (to - from) ∷ []) (tuples_by D q ms)) (eq-eqb q q refl);
    time = ap (λ b. cond b (time_in D q ms + t) (time_in D q ms)) (eq-eqb q q refl);
    priority = refl;
    tuples-else = λ p n. ap (λ b. cond b (tuples_by D p ms ++ (to - from) ∷ []) (tuples_by D p ms)) (ne_eqb q p (λ e. n (sym e)));
    time-else = λ p n. later p n;
    priority-else = λ p n. ap (λ x. priority_after (params_of (D.subject.weight p)) (x / QUANTUM_NS)) (later p n);
    few-ranges = fits.ranges q;
    few-tuples = fits.tuples q;
    few-ns = fits.ns q;
  } where
    q : ℕ
    q = query_by D ms

    later : (p : ℕ) → p ≢ query_by D ms → cond (eqb (query_by D ms) p) (time_in D p ms + t) (time_in D p ms) ≡ time_in D p ms
    later p n = ap (λ b. cond b (time_in D p ms + t) (time_in D p ms)) (ne_eqb (query_by D ms) p (λ e. n (sym e)))

fewer : (b : Bool) (l : List ℕ) (x n : ℕ) → length (cond b (l ++ x ∷ []) l) < n → length l < n
fewer true l x n lt = let e : length (l ++ x ∷ []) ≡ length l + 1 = length-append l (x ∷ []) in omega (arith, e, lt)
fewer false l x n lt = lt

smaller : (b : Bool) (l : List ℕ) (x n : ℕ) → sum (cond b (l ++ x ∷ []) l) < n → sum l < n
smaller true l x n lt = let e : sum (l ++ x ∷ []) ≡ sum l + x = sum-push l x in omega (arith, e, lt)
smaller false l x n lt = lt

shorter : (b : Bool) (d t n : ℕ) → cond b (d + t) d < n → d < n
shorter true d t n lt = omega (arith, lt)
shorter false d t n lt = lt

fit-before : (D : Desk Workload) (k from to t : ℕ) (ms : List Move) → CountsFit D (Made (act.ClaimRange k from to) t ∷ ms) → CountsFit D ms
fit-before D k from to t ms fits = record {
  ranges = λ p. fewer (eqb (query_by D ms) p) (tuples_by D p ms) (to - from) (2 ^ 64) (fits.ranges p);
  tuples = λ p. smaller (eqb (query_by D ms) p) (tuples_by D p ms) (to - from) (2 ^ 64) (fits.tuples p);
  ns = λ p. shorter (eqb (query_by D ms) p) (time_in D p ms) t (2 ^ 128) (fits.ns p);
}

tell : (D : Desk Workload) (ms : List Move) → CountsFit D ms → Tell (facts_by D ms) (shares_by D ms)
tell D [] fits = record { queries = 0; up = tt; each = tt; none = λ q others. refl; zero-time = λ q none. refl }
tell D (Made (act.ClaimRange k from to) t ∷ ms) fits =
    tell-on (range_done D from to t ms) (facts_by D ms) (facts_by D (Made (act.ClaimRange k from to) t ∷ ms)) (grows-by D k from to t ms fits) (shares_by D ms)
    (tell D ms (fit-before D k from to t ms fits))
tell D (Made a t ∷ ms) fits = tell D ms (record { ranges = fits.ranges; tuples = fits.tuples; ns = fits.ns })
tell D (Exchanged ∷ ms) fits = tell D ms (record { ranges = fits.ranges; tuples = fits.tuples; ns = fits.ns })

all-by : (D : Desk Workload) (ms : List Move) (q : ℕ) → Tell (facts_by D ms) (shares_by D ms) → 0 < length (tuples_by D q ms)
    → Has (λ (share : Share). share.query ≡ q) (shares_by D ms) ⊎ Each (Else q) (shares_by D ms) → Has (λ (share : Share). share.query ≡ q) (shares_by D ms)
all-by D ms q t some (inl has) = has
all-by D ms q t some (inr others) = let e = ap length (t.none q others) in absurd (omega (arith, e, some))

share-of : (D : Desk Workload) (ms : List Move) (share : Share) → IsOf (facts_by D ms) share → IsShareOf D ms share
share-of D ms share is = record { some = is.some; worker = is.worker; ranges = is.ranges; tuples = is.tuples; ns = is.ns; priority = is.priority }

pub shares-are-of-ranges : SharesAreOfRanges
shares-are-of-ranges D ms fits =
    let t = tell D ms fits in
    record {
      each = λ i share got. share-of D ms share (each-get (IsOf (facts_by D ms)) (shares_by D ms) i share t.each got);
      all = λ q some. all-by D ms q t some (has-or q (shares_by D ms));
      ascend = λ i j x y lt gx gy. ascending-order 0 t.queries (shares_by D ms) i j x y t.up lt gx gy;
    }
