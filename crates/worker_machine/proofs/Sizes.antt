-- Sizers and the ends of ranges.
use Rattle.std.proofs.Common.{◌≡◌, ℕ, ◌<◌, ◌≤◌, List, length, slice_get, slice_set, Option, Some, None, sym, ap, ◌∙◌, subst, arith, unwrap_or}
use native.Mathlib.Decide.{ℕ_discrete}
use Rattle.std.proofs.lemmas.List.{length-set}
use Rattle.slot_station.specs.declared.reply.Claim.TheVariants as claim
use Rattle.slot_station.specs.Replies.{IsCutRange}
use Rattle.slot_station.proofs.Lists.{get-set_same, get-set_other}
use Rattle.bench_cell.specs.declared.plan.Plan.{Plan}
use Rattle.bench_cell.specs.Plans.{total_of}
use Rattle.worker_machine.specs.declared.kept.Known.{Known}
use Rattle.worker_machine.specs.Sized.{IsSized, AreSized}

some-same : {A : Type 0} (x y : A) → Some x ≡ Some y → x ≡ y
some-same x y e = ap (λ o. unwrap_or o x) e

pub sized-set : (plan : Plan) (ks : List Known) (s : ℕ) (k : Known) → s < length ks → AreSized plan ks → IsSized plan k → AreSized plan (slice_set ks s k)
sized-set plan ks s k low all this j x got = at (ℕ_discrete j s) where
  at : Dec (j ≡ s) → IsSized plan x
  at (yes e) = subst (IsSized plan) (some-same k x (sym (get-set_same ks s k low) ∙ ap (slice_get (slice_set ks s k)) (sym e) ∙ got)) this
  at (no n) = all j x (sym (get-set_other ks s j k n) ∙ got)

pub one-set : (ks : List Known) (s : ℕ) (k x : Known) (id : ℕ) → s < length ks → k.id ≡ Some id → slice_get (slice_set ks s k) s ≡ Some x → x.id ≡ Some id
one-set ks s k x id low is got = subst (λ (y : Known). y.id ≡ Some id) (some-same k x (sym (get-set_same ks s k low) ∙ got)) is

-- a range lies within the total, and is not empty
pub cut-end : (o : Option ℕ) (total from to n : ℕ) → IsCutRange o n (claim.Range from to) → o ≡ Some total → to ≤ total
cut-end (Some t) total from to n cut is = let e : t ≡ total = some-same t total is in omega (arith, e, cut.1)
cut-end None total from to n cut is = absurd (cc)

pub cut-some : (o : Option ℕ) (from to n : ℕ) → 0 < n → IsCutRange o n (claim.Range from to) → from < to
cut-some (Some t) from to n some cut = omega (arith, some, cut.0, cut.1)
cut-some None from to n some cut = absurd (cut)

-- after a range of the task set the sizer's end lies within it
pub range-sized : (plan : Plan) (k k' : Known) (id to : ℕ) → k.id ≡ Some id → k'.id ≡ k.id → k'.last_end ≡ to
    → ((total : ℕ) → total_of plan id ≡ Some total → to ≤ total) → IsSized plan k'
range-sized plan k k' id to is same end within =
    record {
      within = λ i total e f. let g : id ≡ i = some-same id i (sym is ∙ sym same ∙ e) in
          subst (λ m. m ≤ total) (sym end) (within total (ap (total_of plan) g ∙ f));
    }

-- a group that is forgotten changes no size
pub forget-one : (ks : List Known) (i : ℕ) (k : Known) (n : ℕ) → i < length ks → slice_get ks i ≡ Some k → length ks ≡ n
    → (length (slice_set ks i (record k { group = None })) ≡ n) ×
    ((plan : Plan) → AreSized plan ks → AreSized plan (slice_set ks i (record k { group = None })))
forget-one ks i k n low got len = (
  length-set ks i (record k { group = None }) ∙ len,
  λ plan all. sized-set plan ks i (record k { group = None }) low all (record { within = (all i k got).within }),
)
