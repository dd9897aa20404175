-- Ranges of one id share no tuple, and each begins where those before ended or later.
use Rattle.std.proofs.Common.{◌≡◌, ℕ, zero, suc, ◌<◌, ◌≤◌, eqb, min, List, [], ◌∷◌, refl, sym, ap}
use Rattle.std.proofs.Common.{◌∙◌, subst, eq-eqb, eqb-true, arith}
use Rattle.std.specs.Prelude.{All, AllPairs}
use Rattle.std.proofs.lemmas.Bool.{cond_both}
use Rattle.std.proofs.lemmas.List.Elements.{All-nil, All-cons, All-head, All-tail}
use Rattle.slot_history.specs.declared.shape.Shape.{Shape}
use Rattle.slot_history.specs.declared.act.Act.{Act}
use Rattle.slot_history.specs.declared.act.Act.TheVariants.{ClaimRange}
use Rattle.slot_history.specs.declared.act.Entry.{Entry}
use Rattle.slot_history.specs.declared.place.Place.{Place}
use Rattle.slot_history.specs.declared.place.Place.TheVariants.{Inside}
use Rattle.slot_history.specs.States.{TaskSet, ObjectState, task_of, is_inside, has_own_cell}
use Rattle.slot_history.specs.Steps.{state_after}
use Rattle.slot_history.specs.Allowed.{IsAllowed}
use Rattle.slot_history.specs.Histories.{IsLegal, Morsel, Tiles, entry, place_of, claims_of}
use Rattle.slot_history.specs.Histories.{claims_after, ranges_by}
use Rattle.slot_history.specs.Laws.{ClaimsGoOn, RangesGoOn, AreApart}
use Rattle.slot_history.proofs.Own.{found-place, found-ranges}
use Rattle.slot_history.proofs.Table.{table}
use Rattle.slot_history.proofs.Book.{inside-task}
use Rattle.slot_history.proofs.Claims.{ranges-claims, tiles-cursor}

-- what tiles a number ends there or before
tiles-below : (ms : List Morsel) (total bound : ℕ) → Tiles ms total → total ≤ bound → All (λ (m : Morsel). m.to ≤ bound) ms
tiles-below [] total bound tiles le = All-nil (λ (m : Morsel). m.to ≤ bound)
tiles-below (m ∷ ms) total bound tiles le =
    let ends : m.to ≡ total = tiles.0 in
    let some : m.from < m.to = tiles.1 in
    All-cons (λ (k : Morsel). k.to ≤ bound) m ms (omega arith) (tiles-below ms m.from bound tiles.2 (omega arith))

-- the ranges of a worker end where all claims do, or before
ranges-below : (w bound : ℕ) (ms : List Morsel) → All (λ (m : Morsel). m.to ≤ bound) ms → All (λ (r : ℕ × ℕ). r.1 ≤ bound) (ranges_by w ms)
ranges-below w bound [] all = All-nil (λ (r : ℕ × ℕ). r.1 ≤ bound)
ranges-below w bound (m ∷ ms) all =
    let rest : All (λ (r : ℕ × ℕ). r.1 ≤ bound) (ranges_by w ms) = ranges-below w bound ms (All-tail (λ (k : Morsel). k.to ≤ bound) m ms all) in
    cond_both (eqb w m.worker) ((m.from, m.to) ∷ ranges_by w ms) (ranges_by w ms) (All (λ (r : ℕ × ℕ). r.1 ≤ bound))
    (λ t. All-cons (λ (r : ℕ × ℕ). r.1 ≤ bound) (m.from, m.to) (ranges_by w ms) (All-head (λ (k : Morsel). k.to ≤ bound) m ms all) rest)
    (λ t. rest)

pub claims-go-on : ClaimsGoOn
claims-go-on d w n from to s id h legal at =
    let S : ObjectState = state_after d h in
    let fine : IsAllowed d S w (ClaimRange n from to) = legal.1 in
    let t : TaskSet = task_of (S.slots fine.0) in
    let r = inside-task d S (table d h legal.2) w fine.0 id legal.0 (ap (λ p. has_own_cell p fine.0) fine.2 ∙ eq-eqb fine.0 fine.0 refl) (ap
    (λ p. is_inside p id) at ∙ eq-eqb id id refl) in
    let tiles : Tiles (claims_of d t.id h) (min t.cursor t.total) = (tiles-cursor d h legal.2 fine.0 r.0).1 in
    let start : from ≡ t.cursor = fine.5 in
    tiles-below (claims_of d id h) (min t.cursor t.total) from (subst (λ j. Tiles (claims_of d j h) (min t.cursor t.total)) r.1 tiles) (omega arith)

pub ranges-go-on : RangesGoOn
ranges-go-on d w n from to s id old new (h, is, begins, same, legal) at =
    let before : IsLegal d (entry w (ClaimRange n from to) ∷ h) = subst (IsLegal d) is legal in
    let all : All (λ (m : Morsel). m.to ≤ from) (claims_of d id h) = claims-go-on d w n from to s id h before (found-place d w old h same ∙ at) in
    subst (All (λ (r : ℕ × ℕ). r.1 ≤ from)) (sym (ranges-claims d w id h) ∙ found-ranges d w id old h same) (ranges-below w from (claims_of d id h) all)

-- ---- two ranges

-- one more before all others
pairs-cons : {X : Type 0} (R : X → X → Type 0) (x : X) (xs : List X) → All (R x) xs → AllPairs R xs → AllPairs R (x ∷ xs)
pairs-cons R x xs first rest zero zero e lt up = absurd (omega arith)
pairs-cons R x xs first rest zero (suc j) e lt up = first j e (omega arith)
pairs-cons R x xs first rest (suc i) zero e lt up = absurd (omega arith)
pairs-cons R x xs first rest (suc i) (suc j) e lt up = rest i j e (omega arith) (omega arith)

pairs-nil : {X : Type 0} (R : X → X → Type 0) → AllPairs R []
pairs-nil R i j e lt up = absurd (omega arith)

claims-apart-step : (w : ℕ) (a : Act) (p : Place) (id : ℕ) (ms : List Morsel)
    → ((n from to s : ℕ) → a ≡ ClaimRange n from to → p ≡ Inside s id → All (λ (m : Morsel). m.to ≤ from) ms)
    → ((n from to : ℕ) → a ≡ ClaimRange n from to → (s jd : ℕ) × (p ≡ Inside s jd))
    → AllPairs (λ (m k : Morsel). k.to ≤ m.from) ms → AllPairs (λ (m k : Morsel). k.to ≤ m.from) (claims_after w a p id ms)
claims-apart-step w (ClaimRange n from to) p id ms goes inside apart = let r = inside n from to refl in
    cond_both (is_inside p id) (record { worker = w; from = from; to = to } ∷ ms) ms (AllPairs (λ (m k : Morsel). k.to ≤ m.from))
    (λ t. pairs-cons (λ (m k : Morsel). k.to ≤ m.from) (record { worker = w; from = from; to = to }) ms
    (goes n from to r.0 refl (r.2 ∙ ap (Inside r.0) (eqb-true r.1 id (sym (ap (λ q. is_inside q id) r.2) ∙ t)))) apart)
    (λ f. apart)
claims-apart-step w _ p id ms goes inside apart = apart

claims-apart : (d : Shape) (id : ℕ) (h : List Entry) → IsLegal d h → AllPairs (λ (m k : Morsel). k.to ≤ m.from) (claims_of d id h)
claims-apart d id [] legal = pairs-nil (λ (m k : Morsel). k.to ≤ m.from)
claims-apart d id (e ∷ es) legal = claims-apart-step e.worker e.act (place_of d es e.worker) id (claims_of d id es)
    (λ n from to s is at. claims-go-on d e.worker n from to s id es (subst (λ a. IsLegal d (entry e.worker a ∷ es)) is legal) at)
    (λ n from to is. let k : IsAllowed d (state_after d es) e.worker (ClaimRange n from to) = subst (IsAllowed d (state_after d es) e.worker) is legal.1 in
    (k.0, k.1, k.2))
    (claims-apart d id es legal.2)

-- the ranges of a worker among claims that lie apart
ranges-pairs : (w : ℕ) (ms : List Morsel) → AllPairs (λ (m k : Morsel). k.to ≤ m.from) ms → AllPairs (λ (r q : ℕ × ℕ). q.1 ≤ r.0) (ranges_by w ms)
ranges-pairs w [] apart = pairs-nil (λ (r q : ℕ × ℕ). q.1 ≤ r.0)
ranges-pairs w (m ∷ ms) apart =
    let rest : AllPairs (λ (r q : ℕ × ℕ). q.1 ≤ r.0) (ranges_by w ms) = ranges-pairs w ms
    (λ i j e lt up. apart (suc i) (suc j) e (omega arith) (omega arith)) in
    let first : All (λ (k : Morsel). k.to ≤ m.from) ms = λ k e up. apart 0 (suc k) e (omega arith) (omega arith) in
    cond_both (eqb w m.worker) ((m.from, m.to) ∷ ranges_by w ms) (ranges_by w ms) (AllPairs (λ (r q : ℕ × ℕ). q.1 ≤ r.0))
    (λ t. pairs-cons (λ (r q : ℕ × ℕ). q.1 ≤ r.0) (m.from, m.to) (ranges_by w ms) (ranges-below w m.from ms first) rest)
    (λ t. rest)

pub ranges-apart : (d : Shape) (h : List Entry) → IsLegal d h → AreApart d h
ranges-apart d h legal = record {
  claims = λ id. claims-apart d id h legal;
  ranges = λ w id. subst (AllPairs (λ (r q : ℕ × ℕ). q.1 ≤ r.0)) (sym (ranges-claims d w id h)) (ranges-pairs w (claims_of d id h) (claims-apart d id h legal));
}
