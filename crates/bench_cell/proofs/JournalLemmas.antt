-- The claims of benches that fit claims: just these, the oldest first.
use Rattle.std.proofs.Common.{◌≡◌, ◌≢◌, ◌⊎◌, ◌&&◌, ◌++◌, ◌+◌, ◌<◌, ◌≤◌, ℕ, suc, Bool, true, false, All, List, [], ◌∷◌, Some, arith, cond, refl, ap}
use Rattle.std.proofs.Common.{eqb, subst, sym, ◌∙◌, inl, inr, length, map, reverse, slice_get, get_or, ⊎_elim}
use Rattle.std.specs.List.{flat_map, sum_by}
use Rattle.std.specs.List.Sorted.{IsSortedByKey}
use Rattle.std.specs.Ordering.{is_lt, nat_cmp}
use Rattle.std.proofs.lemmas.Bool.{cases_lt, eq-eqb, eqb-true}
use Rattle.std.proofs.lemmas.Bool.Decides.{eqb_tells}
use Rattle.std.proofs.lemmas.Cmp.{nat_cmp_total}
use Rattle.std.proofs.lemmas.List.{map-append, reverse-append}
use Rattle.std.proofs.lemmas.List.Elements.{All-head, All-tail}
use Rattle.std.proofs.lemmas.List.Sorted.{IsPermutation-map, IsPermutation-reverse, ranks_by, sorted_far, sum_by-IsPermutation}
use Rattle.std.proofs.lemmas.Map.Keys.{ge_from_not_lt}
use Rattle.std.proofs.lemmas.List.Sums.{sum_by-append, sum_by-cons}
use Rattle.plan_ast.proofs.CountedLemmas.{has_first, same_lists}
use Rattle.report_text.specs.declared.report.ClaimOf.{ClaimOf}
use Rattle.slot_history.specs.Histories.{Morsel, Tiles, ranges_by}
use Rattle.bench_cell.specs.Benches.{ranges_in}
use Rattle.bench_cell.specs.Gathering.{AreClaimsOf, IsWhole, claim_by, claims_in}
use Rattle.bench_cell.specs.Tilings.{FitClaims, claim_in, journal_of}
use Rattle.bench_cell.specs.declared.bench.Bench.{Bench}
use Rattle.bench_cell.specs.declared.plan.Plan.{Plan}
use Rattle.bench_cell.proofs.TilingLemmas.{both_true, fitted_ranges}

-- ---- how often a claim is in a list

abbrev same_claim : ClaimOf → ClaimOf → Bool
same_claim c d = eqb c.from d.from && (eqb c.to d.to && eqb c.worker d.worker)

abbrev one_if : Bool → ℕ
one_if b = cond b 1 0

abbrev weight : ClaimOf → ClaimOf → ℕ
weight c d = one_if (same_claim c d)

abbrev times : ClaimOf → List ClaimOf → ℕ
times c claims = sum_by (weight c) claims

weight_itself : (c : ClaimOf) → weight c c ≡ 1
weight_itself c =
    ap (λ b. one_if (b && (eqb c.to c.to && eqb c.worker c.worker))) (eq-eqb c.from c.from refl)
    ∙ ap (λ b. one_if (b && eqb c.worker c.worker)) (eq-eqb c.to c.to refl) ∙ ap one_if (eq-eqb c.worker c.worker refl)

none_if : (b : Bool) → (b ≡ true → ⊥) → one_if b ≡ 0
none_if true never = absurd (never refl)
none_if false never = refl

weight_other : (c d : ClaimOf) → (same_claim c d ≡ true → ⊥) → weight c d ≡ 0
weight_other c d never = none_if (same_claim c d) never

weight_some : (b : Bool) → 1 ≤ one_if b → b ≡ true
weight_some true some = refl
weight_some false some = absurd (omega (arith, some))

-- claims that are not told apart are equal
same_claims : (c d : ClaimOf) → same_claim c d ≡ true → c ≡ d
same_claims c d is =
    let parts = both_true (eqb c.from d.from) (eqb c.to d.to && eqb c.worker d.worker) is in
    let more = both_true (eqb c.to d.to) (eqb c.worker d.worker) parts.1 in
    let from : c.from ≡ d.from = eqb-true c.from d.from parts.0 in
    let to : c.to ≡ d.to = eqb-true c.to d.to more.0 in
    let worker : c.worker ≡ d.worker = eqb-true c.worker d.worker more.1 in
    ap (λ n. record { from = n; to = c.to; worker = c.worker }) from ∙ ap (λ n. record { from = d.from; to = n; worker = c.worker }) to
    ∙ ap (λ n. record { from = d.from; to = d.to; worker = n }) worker

from_same : (c d : ClaimOf) → same_claim c d ≡ true → c.from ≡ d.from
from_same c d is = eqb-true c.from d.from (both_true (eqb c.from d.from) (eqb c.to d.to && eqb c.worker d.worker) is).0

worker_same : (c d : ClaimOf) → same_claim c d ≡ true → c.worker ≡ d.worker
worker_same c d is =
    let rest = both_true (eqb c.from d.from) (eqb c.to d.to && eqb c.worker d.worker) is in
    eqb-true c.worker d.worker (both_true (eqb c.to d.to) (eqb c.worker d.worker) rest.1).1

times_first : (c : ClaimOf) (claims : List ClaimOf) → 1 ≤ times c (c ∷ claims)
times_first c claims = has_first weight c claims (weight_itself c)

-- ---- lists of claims that ascend

-- these begin at n or later
abbrev IsAbove : ℕ → List ClaimOf → Type 0
IsAbove n [] = Unit {0}
IsAbove n (c ∷ claims) = (n ≤ c.from) × IsAbove n claims

-- these begin before n
abbrev IsBelow : ℕ → List ClaimOf → Type 0
IsBelow n [] = Unit {0}
IsBelow n (c ∷ claims) = (c.from < n) × IsBelow n claims

abbrev Ascends : List ClaimOf → Type 0
Ascends [] = Unit {0}
Ascends (c ∷ claims) = IsAbove c.from claims × Ascends claims

-- no two begin at one tuple
abbrev AscendsApart : List ClaimOf → Type 0
AscendsApart [] = Unit {0}
AscendsApart (c ∷ claims) = IsAbove (suc c.from) claims × AscendsApart claims

times_none : (c : ClaimOf) (n : ℕ) (claims : List ClaimOf) → c.from < n → IsAbove n claims → times c claims ≡ 0
times_none c n [] less above = refl
times_none c n (d ∷ claims) less above =
    let this : weight c d ≡ 0 = weight_other c d (λ is. let same = from_same c d is in omega (arith, same, less, above.0)) in
    let rest = times_none c n claims less above.1 in
    let all = sum_by-cons (weight c) d claims in
    omega (arith, this, rest, all)

weaker : (n : ℕ) (claims : List ClaimOf) → IsAbove (suc n) claims → IsAbove n claims
weaker n [] above = tt
weaker n (c ∷ claims) above = (omega (arith, above.0), weaker n claims above.1)

first_claim : (c d : ClaimOf) (claims others : List ClaimOf) → AscendsApart (c ∷ claims) → Ascends (d ∷ others)
    → ((e : ClaimOf) → times e (c ∷ claims) ≡ times e (d ∷ others)) → c.from ≡ d.from → d ≡ c
first_claim c d claims others up above same from =
    let none = times_none d (suc c.from) claims (omega (arith, from)) up.0 in
    let some = times_first d others in
    let all = sum_by-cons (weight d) c claims in
    let both = same d in
    same_claims d c (weight_some (same_claim d c) (omega (arith, none, some, all, both)))

first_same : (c d : ClaimOf) (claims others : List ClaimOf) → AscendsApart (c ∷ claims) → Ascends (d ∷ others)
    → ((e : ClaimOf) → times e (c ∷ claims) ≡ times e (d ∷ others)) → c ≡ d
first_same c d claims others up above same =
    ⊎_elim
    (λ less. let none = times_none c d.from (d ∷ others) less (omega arith, above.0) in
    let some = times_first c claims in
    let both = same c in
    absurd (omega (arith, none, some, both)))
    (λ upto. ⊎_elim
    (λ less. let none = times_none d c.from (c ∷ claims) less (omega arith, weaker c.from claims up.0) in
    let some = times_first d others in
    let both = same d in
    absurd (omega (arith, none, some, both)))
    (λ back. sym (first_claim c d claims others up above same (omega (arith, upto, back))))
    (cases_lt d.from c.from))
    (cases_lt c.from d.from)

-- lists with the same claims that ascend are equal
one_order : (claims others : List ClaimOf) → AscendsApart claims → Ascends others → ((e : ClaimOf) → times e claims ≡ times e others) → claims ≡ others
one_order = same_lists weight AscendsApart Ascends weight_itself (λ c claims up. up.1) (λ d others above. above.1) first_same

-- ---- what a sort gives

above_far : (n : ℕ) (claims : List ClaimOf) → ((k : ℕ) (d : ClaimOf) → k < length claims → n ≤ (get_or claims k d).from) → IsAbove n claims
above_far n [] far = tt
above_far n (c ∷ claims) far = (far 0 c (omega arith), above_far n claims (λ k d within. far (suc k) d (omega arith)))

ascends_far : (claims : List ClaimOf) → ((i j : ℕ) (d : ClaimOf) → i ≤ j → j < length claims → (get_or claims i d).from ≤ (get_or claims j d).from)
    → Ascends claims
ascends_far [] far = tt
ascends_far (c ∷ claims) far = (
  above_far c.from claims (λ k d within. far 0 (suc k) d (omega arith) (omega arith)),
  ascends_far claims (λ i j d le within. far (suc i) (suc j) d (omega arith) (omega arith)),
)

ascends_sorted : (claims : List ClaimOf) → IsSortedByKey (λ (claim : ClaimOf). claim.from) nat_cmp claims → Ascends claims
ascends_sorted claims sorted = ascends_far claims (λ i j d le within. ge_from_not_lt (get_or claims j d).from (get_or claims i d).from
    (sorted_far (λ (x y : ClaimOf). is_lt (nat_cmp x.from y.from)) (ranks_by nat_cmp_total (λ (claim : ClaimOf). claim.from)) claims sorted i j d le within))

-- ---- the journal of claims that tile

above_more : (n : ℕ) (claims : List ClaimOf) (c : ClaimOf) → IsAbove n claims → n ≤ c.from → IsAbove n (claims ++ c ∷ [])
above_more n [] c above upto = (upto, tt)
above_more n (d ∷ claims) c above upto = (above.0, above_more n claims c above.1 upto)

below_more : (n m : ℕ) (claims : List ClaimOf) (c : ClaimOf) → IsBelow n claims → n ≤ m → c.from < m → IsBelow m (claims ++ c ∷ [])
below_more n m [] c below upto less = (less, tt)
below_more n m (d ∷ claims) c below upto less = (omega (arith, below.0, upto), below_more n m claims c below.1 upto less)

ascends_more : (claims : List ClaimOf) (c : ClaimOf) → AscendsApart claims → IsBelow c.from claims → AscendsApart (claims ++ c ∷ [])
ascends_more [] c up below = (tt, tt)
ascends_more (d ∷ claims) c up below = (above_more (suc d.from) claims c up.0 (omega (arith, below.0)), ascends_more claims c up.1 below.1)

journal_more : (claim : Morsel) (claims : List Morsel) → journal_of (claim ∷ claims) ≡ journal_of claims ++ claim_in claim ∷ []
journal_more claim claims = ap (map claim_in) (reverse-append (claim ∷ []) claims) ∙ map-append claim_in (reverse claims) (claim ∷ [])

journal_ascends : (claims : List Morsel) (total : ℕ) → Tiles claims total → AscendsApart (journal_of claims) × IsBelow total (journal_of claims)
journal_ascends [] total tiles = (tt, tt)
journal_ascends (claim ∷ claims) total tiles =
    let early = journal_ascends claims claim.from tiles.2 in (
      subst AscendsApart (sym (journal_more claim claims)) (ascends_more (journal_of claims) (claim_in claim) early.0 early.1),
      subst (IsBelow total) (sym (journal_more claim claims))
          (below_more claim.from total (journal_of claims) (claim_in claim) early.1 (omega (arith, tiles.0, tiles.1)) (omega (arith, tiles.0, tiles.1))),
    )

-- ---- how often a claim is among the claims of benches

-- a worker's ranges have no claim of another
times_stranger : (c : ClaimOf) (w : ℕ) (ranges : List (ℕ × ℕ)) → c.worker ≢ w → times c (map (claim_by w) ranges) ≡ 0
times_stranger c w [] apart = refl
times_stranger c w (range ∷ ranges) apart =
    let this : weight c (claim_by w range) ≡ 0 = weight_other c (claim_by w range) (λ is. apart (worker_same c (claim_by w range) is)) in
    let rest = times_stranger c w ranges apart in
    let all = sum_by-cons (weight c) (claim_by w range) (map (claim_by w) ranges) in
    omega (arith, this, rest, all)

own_if : Bool → Morsel → List Morsel → ℕ → List ClaimOf
own_if own claim claims w = map (claim_by w) (cond own ((claim.from, claim.to) ∷ ranges_by w claims) (ranges_by w claims))

-- they have its claims as often as all claims have them
times_own : (c : ClaimOf) (claims : List Morsel) → times c (map (claim_by c.worker) (ranges_by c.worker claims)) ≡ times c (map claim_in claims)
times_own c [] = refl
times_own c (claim ∷ claims) =
    let own : List (ℕ × ℕ) = ranges_by c.worker claims in
    let rest = times_own c claims in
    let all = sum_by-cons (weight c) (claim_in claim) (map claim_in claims) in
    ⊎_elim
    (λ same. let this = sum_by-cons (weight c) (claim_by c.worker (claim.from, claim.to)) (map (claim_by c.worker) own) in
    let alike : weight c (claim_by c.worker (claim.from, claim.to)) ≡ weight c (claim_in claim) =
    ap (λ n. weight c (record { from = claim.from; to = claim.to; worker = n })) same.1 in
    ap (λ b. times c (map (claim_by c.worker) (cond b ((claim.from, claim.to) ∷ own) own))) same.0 ∙ omega (arith, this, rest, all, alike))
    (λ other. let none : weight c (claim_in claim) ≡ 0 = weight_other c (claim_in claim) (λ is. other.1 (worker_same c (claim_in claim) is)) in
    ap (λ b. times c (map (claim_by c.worker) (cond b ((claim.from, claim.to) ∷ own) own))) other.0 ∙ omega (arith, rest, all, none))
    (eqb_tells c.worker claim.worker)

-- no claim of a worker that is none of these
times_foreign : (c : ClaimOf) (n : ℕ) (claims : List Morsel) → n ≤ c.worker → All (λ (claim : Morsel). claim.worker < n) claims
    → times c (map claim_in claims) ≡ 0
times_foreign c n [] past within = refl
times_foreign c n (claim ∷ claims) past within =
    let his : claim.worker < n = All-head (λ (m : Morsel). m.worker < n) claim claims within in
    let this : weight c (claim_in claim) ≡ 0 =
    weight_other c (claim_in claim) (λ is. let same = worker_same c (claim_in claim) is in omega (arith, same, past, his)) in
    let rest = times_foreign c n claims past (All-tail (λ (m : Morsel). m.worker < n) claim claims within) in
    let all = sum_by-cons (weight c) (claim_in claim) (map claim_in claims) in
    omega (arith, this, rest, all)

-- benches of the workers from k on have just the claims of these
abbrev NoteFrom : List Morsel → ℕ → List Bench → Type 0
NoteFrom claims k benches = (i : ℕ) (bench : Bench) → slice_get benches i ≡ Some bench → (c : ClaimOf)
    → times c (claims_in bench) ≡ times c (map (claim_by (k + i)) (ranges_by (k + i) claims))

note_rest : (claims : List Morsel) (k : ℕ) (bench : Bench) (benches : List Bench) → NoteFrom claims k (bench ∷ benches) → NoteFrom claims (suc k) benches
note_rest claims k bench benches note = λ i other at c. note (suc i) other at c ∙ ap (λ n. times c (map (claim_by n) (ranges_by n claims))) (omega arith)

note_first : (claims : List Morsel) (k : ℕ) (bench : Bench) (benches : List Bench) → NoteFrom claims k (bench ∷ benches) → (c : ClaimOf)
    → times c (claims_in bench) ≡ times c (map (claim_by k) (ranges_by k claims))
note_first claims k bench benches note c = note 0 bench refl c ∙ ap (λ n. times c (map (claim_by n) (ranges_by n claims))) (omega arith)

times_past : (claims : List Morsel) (k : ℕ) (benches : List Bench) (c : ClaimOf) → NoteFrom claims k benches → (c.worker < k) ⊎ (k + length benches ≤ c.worker)
    → times c (flat_map claims_in benches) ≡ 0
times_past claims k [] c note past = refl
times_past claims k (bench ∷ benches) c note past =
    let apart : c.worker ≢ k = λ same. ⊎_elim (λ less. omega (arith, same, less)) (λ more. omega (arith, same, more)) past in
    let this = note_first claims k bench benches note c ∙ times_stranger c k (ranges_by k claims) apart in
    let later : (c.worker < suc k) ⊎ (suc k + length benches ≤ c.worker) =
    ⊎_elim (λ less. inl (omega (arith, less))) (λ more. inr (omega (arith, more))) past in
    let rest = times_past claims (suc k) benches c (note_rest claims k bench benches note) later in
    let all = sum_by-append (weight c) (claims_in bench) (flat_map claims_in benches) in
    omega (arith, this, rest, all)

times_among : (claims : List Morsel) (k : ℕ) (benches : List Bench) (c : ClaimOf) → NoteFrom claims k benches → k ≤ c.worker → c.worker < k + length benches
    → times c (flat_map claims_in benches) ≡ times c (map claim_in claims)
times_among claims k [] c note low high = absurd (omega (arith, low, high))
times_among claims k (bench ∷ benches) c note low high =
    let more : NoteFrom claims (suc k) benches = note_rest claims k bench benches note in
    let all = sum_by-append (weight c) (claims_in bench) (flat_map claims_in benches) in
    ⊎_elim
    (λ later. let this = note_first claims k bench benches note c ∙ times_stranger c k (ranges_by k claims) (λ same. omega (arith, same, later)) in
    let rest = times_among claims (suc k) benches c more (omega (arith, later)) (omega (arith, high)) in
    omega (arith, this, rest, all))
    (λ upto. let same : k ≡ c.worker = omega (arith, low, upto) in
    let this = note_first claims k bench benches note c ∙ ap (λ n. times c (map (claim_by n) (ranges_by n claims))) same ∙ times_own c claims in
    let rest = times_past claims (suc k) benches c more (inl (omega (arith, upto))) in
    omega (arith, this, rest, all))
    (cases_lt k c.worker)

note_all : (plan : Plan) (id : ℕ) (claims : List Morsel) (benches : List Bench) → FitClaims plan id claims benches → All IsWhole benches
    → NoteFrom claims 0 benches
note_all plan id claims benches fit whole = λ i bench at c.
    let own : List (ℕ × ℕ) = ranges_by i claims in
    ap (λ n. times c (map (claim_by n) (ranges_in bench))) (fit.each i bench at).worker_is
    ∙ ap (λ (l : List (ℕ × ℕ)). times c (map (claim_by i) l)) (fitted_ranges plan id claims benches fit whole i bench at)
    ∙ sum_by-IsPermutation (weight c) (map (claim_by i) own) (map (claim_by i) (reverse own))
    (IsPermutation-map (claim_by i) own (reverse own) (IsPermutation-reverse own))
    ∙ ap (λ n. times c (map (claim_by n) (ranges_by n claims))) (omega arith)

times_all : (claims : List Morsel) (benches : List Bench) (c : ClaimOf) → NoteFrom claims 0 benches
    → All (λ (claim : Morsel). claim.worker < length benches) claims
    → times c (flat_map claims_in benches) ≡ times c (map claim_in claims)
times_all claims benches c note within =
    ⊎_elim (λ less. times_among claims 0 benches c note (omega arith) (omega (arith, less)))
    (λ past. times_past claims 0 benches c note (inr (omega (arith, past))) ∙ sym (times_foreign c (length benches) claims past within))
    (cases_lt c.worker (length benches))

-- the claims of benches that fit claims which tile a total are these, the oldest first
pub tiles_kept : (plan : Plan) (id total : ℕ) (claims : List Morsel) (benches : List Bench) → Tiles claims total → FitClaims plan id claims benches
    → All IsWhole benches → (kept : List ClaimOf) → AreClaimsOf benches kept → kept ≡ journal_of claims
tiles_kept plan id total claims benches tiles fit whole kept are =
    let turned : (c : ClaimOf) → times c (journal_of claims) ≡ times c (map claim_in claims) = λ c.
    sum_by-IsPermutation (weight c) (map claim_in claims) (map claim_in (reverse claims))
    (IsPermutation-map claim_in claims (reverse claims) (IsPermutation-reverse claims)) in
    let noted : (c : ClaimOf) → times c kept ≡ times c (map claim_in claims) = λ c.
    sum_by-IsPermutation (weight c) (flat_map claims_in benches) kept are.same
    ∙ times_all claims benches c (note_all plan id claims benches fit whole) fit.within in
    sym (one_order (journal_of claims) kept (journal_ascends claims total tiles).0 (ascends_sorted kept are.ascend) (λ c. turned c ∙ sym (noted c)))
