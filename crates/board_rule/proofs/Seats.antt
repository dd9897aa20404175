-- Seats are split and joined.
use Rattle.std.proofs.Common.{◌≡◌, ℕ, zero, suc, ◌+◌, ◌<◌, ◌≤◌, ◌⊎◌, Bool, true, false, cond, eqb, leb, List, [], ◌∷◌, ◌++◌}
use Rattle.std.proofs.Common.{length, length-append, set, drop, Option, None, slice_index, refl, sym, ap, ◌∙◌, subst, inl, inr, ⊎_elim, le-leb, leb-true}
use Rattle.std.proofs.Common.{arith}
use mathlib.Core.Option.{some, some-injective, some-ne-none}
use mathlib.Core.Logic.{dite}
use native.Mathlib.Decide.{ℕ_discrete, dec_le}
use lib.ListN.{get_elem?}
use Rattle.atomic_table.specs.Table.{State, Splits, Joins}
use Rattle.atomic_table.proofs.Lists.{at_set, at_snoc}
use Rattle.slot_history.specs.declared.act.Entry.{Entry}
use Rattle.slot_history.specs.declared.place.Place.TheVariants.{Free}
use Rattle.slot_history.specs.Histories.{Begins, own_calls, place_of}
use Rattle.slot_history.proofs.Beginnings.{begins-empty, begins-nest, own-between}
use Rattle.slot_history.proofs.Own.{found-place}
use Rattle.slot_station.specs.declared.note.Note.TheVariants.{Loose}
use Rattle.board_rule.specs.declared.view.View.{View}
use Rattle.board_rule.specs.declared.view.Heard.{Heard}
use Rattle.board_rule.specs.Rule.{Terms, Knowledge, IsHeard, IsTrueOf, IsViewOf, RunningRule, total_over}
use Rattle.board_rule.specs.Views.{times, number, only_first, longer, kept_part, dealt_part, heard_of, joined, spent}
use Rattle.board_rule.proofs.Lists.{total-set, total-append, times-head, times-append, counts-not, cons-head, cons-tail}

-- the table with other views, which say what is so and have each number as often as before
with-views : {B Sub : Type 0} → (terms : Terms B Sub) (known : Knowledge) (st : State (Option B) (View Sub)) → IsTrueOf terms known st
    → (views : List (View Sub)) → ((m : ℕ) → total_over (λ (z : View Sub). times m z.numbers) views ≡ total_over (λ (z : View Sub). times m z.numbers) st.views)
    → ((i : ℕ) (v : View Sub) → get_elem? views i ≡ some v → IsViewOf terms known v) → IsTrueOf terms known (record st { views = views })
with-views terms known st ok views count each = record {
  words_are = ok.words_are;
  of_subject = ok.of_subject;
  numbers = λ m. count m ∙ ok.numbers m;
  views = each;
  cells = ok.cells;
  idle = ok.idle;
}

-- ---- a seat is split

module _ {B Sub : Type 0} (terms : Terms B Sub) (known : Knowledge) (v : View Sub) (w : ℕ) (ws : List ℕ) (nums : v.numbers ≡ w ∷ ws)
    (old : IsViewOf terms known v) where
  view-kept : IsViewOf terms known (kept_part v)
  view-kept =
      let e : only_first v.numbers ≡ w ∷ [] = ap only_first nums in record {
        shape = λ m ms k. old.shape w ws nums;
        subject_is = λ m ms k. old.subject_is w ws nums;
        begins = old.begins;
        own = λ m has. old.own m (let t : times m (only_first v.numbers) ≡ times m (w ∷ []) = ap (times m) e in
            let u : times m v.numbers ≡ times m (w ∷ ws) = ap (times m) nums in omega arith);
        notes = λ m ms k. old.notes m ws (nums ∙ ap (λ y. y ∷ ws) (cons-head (sym e ∙ k)));
        out = λ m ms k. old.out m ws (nums ∙ ap (λ y. y ∷ ws) (cons-head (sym e ∙ k)));
        further = λ m y ms k has. absurd (let t : ms ≡ [] = cons-tail (sym k ∙ e) in let z : times m ms ≡ 0 = ap (times m) t in omega arith);
        none = λ k. absurd (let t : w ∷ [] ≡ [] = sym e ∙ k in cc);
        heard = λ k x at. absurd (some-ne-none x (sym at));
      }

  view-dealt : v.trail ≡ [] → ((m : ℕ) → own_calls m known.trail ≡ [] → (known.outs m ≡ None) × ((u : ℕ) → known.notes m u ≡ Loose))
      → IsViewOf terms known (dealt_part v)
  view-dealt fresh idle =
      let e : drop 1 v.numbers ≡ ws = ap (drop 1) nums in
      let back : (m : ℕ) → 0 < times m (drop 1 v.numbers) → 0 < times m ws = λ m has. subst (λ l. 0 < times m l) e has in
      let more : (m : ℕ) → 0 < times m ws → 0 < times m v.numbers =
      λ m has. let u : times m v.numbers ≡ times m (w ∷ ws) = ap (times m) nums in omega arith in
      let none : (m : ℕ) → 0 < times m (drop 1 v.numbers) → own_calls m known.trail ≡ [] =
      λ m has. old.own m (more m (back m has)) ∙ ap (own_calls m) fresh in
      let first : (m : ℕ) (ms : List ℕ) → drop 1 v.numbers ≡ m ∷ ms → 0 < times m (drop 1 v.numbers) =
      λ m ms k. subst (λ l. 0 < times m l) (sym k) (times-head m ms) in record {
        shape = λ m ms k. old.shape w ws nums;
        subject_is = λ m ms k. old.subject_is w ws nums;
        begins = begins-empty known.trail;
        own = none;
        notes = λ m ms k u. (idle m (none m (first m ms k))).1 u;
        out = λ m ms k. (idle m (none m (first m ms k))).0;
        further = λ m y ms k has. old.further m w ws nums (back m (subst (λ l. 0 < times m l) (sym k) (omega arith)));
        none = λ k. refl;
        heard = λ k x at. absurd (some-ne-none x (sym at));
      }

module _ {B Sub : Type 0} (terms : Terms B Sub) where
  pub splits : (i : ℕ) (v : View Sub) (w : ℕ) (ws : List ℕ) → v.numbers ≡ w ∷ ws → v.trail ≡ []
      → Splits (RunningRule terms) i v (kept_part v) (dealt_part v)
  splits i v w ws nums fresh s (known, ok) at =
      let old = ok.views i v at in (
        known,
        with-views terms known s ok (set s.views i (kept_part v) ++ dealt_part v ∷ [])
            (λ m.
            let f : View Sub → ℕ = λ z. times m z.numbers in
            let t = total-set f s.views i v (kept_part v) at in
            let a = total-append f (set s.views i (kept_part v)) (dealt_part v) in
            let u : times m v.numbers ≡ times m (w ∷ ws) = ap (times m) nums in
            let k : times m (only_first v.numbers) ≡ times m (w ∷ []) = ap (λ l. times m (only_first l)) nums in
            let r : times m (drop 1 v.numbers) ≡ times m ws = ap (λ l. times m (drop 1 l)) nums in omega arith)
            (λ j u at_j. ⊎_elim
            (λ in_set. ⊎_elim
            (λ r. subst (IsViewOf terms known) r.1 (view-kept terms known v w ws nums old))
            (λ r. ok.views j u r.1)
            (at_set s.views i j (kept_part v) u in_set))
            (λ r. subst (IsViewOf terms known) r (view-dealt terms known v w ws nums old fresh ok.idle))
            (at_snoc (set s.views i (kept_part v)) (dealt_part v) u j at_j)),
      )

-- ---- the longer of two beginnings of a history

not-true : (x : Bool) → (x ≡ true → ⊥) → x ≡ false
not-true true n = absurd (n refl)
not-true false n = refl

shorter-begins : (one other : List Entry) → Begins one other ⊎ Begins other one → length one ≤ length other → Begins other one
shorter-begins one other (inr b) le = b
shorter-begins one other (inl ([], is)) le = ([], sym is)
shorter-begins one other (inl (m ∷ more, is)) le =
    absurd (let l : length one ≡ length (m ∷ (more ++ other)) = ap length is in let k = length-append more other in omega arith)

longer-begins : (h one other : List Entry) → Begins h one → Begins h other → Begins h (longer one other)
longer-begins h one other a b = elim (leb (length one) (length other)) as (λ c. Begins h (cond c other one)) [ true ↦ b | false ↦ a ]

longer-cases : (h one other : List Entry) (w : ℕ) → Begins h one → Begins h other
    → (own_calls w h ≡ own_calls w one) ⊎ (own_calls w h ≡ own_calls w other) → Dec (length one ≤ length other)
    → own_calls w h ≡ own_calls w (longer one other)
longer-cases h one other w a b e (yes le) = subst (λ c. own_calls w h ≡ own_calls w (cond c other one)) (sym (le-leb _ _ le))
    (⊎_elim (λ x. own-between w h other one b (shorter-begins one other (begins-nest h one other a b) le) x) (λ x. x) e)
longer-cases h one other w a b e (no gt) =
    subst (λ c. own_calls w h ≡ own_calls w (cond c other one)) (sym (not-true (leb (length one) (length other)) (λ t. gt (leb-true _ _ t))))
    (⊎_elim (λ x. x) (λ x. own-between w h one other a (shorter-begins other one (begins-nest h other one b a) (omega arith)) x) e)

longer-has : (h one other : List Entry) (w : ℕ) → Begins h one → Begins h other
    → (own_calls w h ≡ own_calls w one) ⊎ (own_calls w h ≡ own_calls w other) → own_calls w h ≡ own_calls w (longer one other)
longer-has h one other w a b e = longer-cases h one other w a b e (dec_le (length one) (length other))

-- ---- two seats are joined

at-either : {A : Type 0} → (l m : List A) (k : ℕ) (x : A) → get_elem? (l ++ m) k ≡ some x → (get_elem? l k ≡ some x) ⊎ ((j : ℕ) × (get_elem? m j ≡ some x))
at-either [] m k x e = inr (k, e)
at-either (y ∷ ys) m zero x e = inl e
at-either (y ∷ ys) m (suc k) x e = at-either ys m k x e

either-one : (m : ℕ) (ks ls : List ℕ) {P Q : Type 0} → (0 < times m ks → P) → (0 < times m ls → Q) → 0 < times m (ks ++ ls) → P ⊎ Q
either-one m ks ls f g has = dite (dec_le 1 (times m ks)) (λ h. inl (f h)) (λ n. inr (g (let t = times-append m ks ls in omega arith)))

head-there : {Sub : Type 0} → (v : View Sub) (w : ℕ) (ws : List ℕ) → v.numbers ≡ w ∷ ws → 0 < times (number v) v.numbers
head-there v w ws nums = subst (λ l. 0 < times (slice_index l 0) l) (sym nums) (times-head w ws)

view-spent : {B Sub : Type 0} → (terms : Terms B Sub) (known : Knowledge) → IsViewOf terms known spent
view-spent terms known = record {
  shape = λ m ms k. absurd (cc);
  subject_is = λ m ms k. absurd (cc);
  begins = begins-empty known.trail;
  own = λ m has. absurd (omega arith);
  notes = λ m ms k. absurd (cc);
  out = λ m ms k. absurd (cc);
  further = λ m y ms k has. absurd (cc);
  none = λ k. refl;
  heard = λ k x at. absurd (some-ne-none x (sym at));
}

module _ {B Sub : Type 0} (terms : Terms B Sub) (known : Knowledge) (v u : View Sub) (w x : ℕ) (ws xs : List ℕ)
    (nums : v.numbers ≡ w ∷ ws) (nums' : u.numbers ≡ x ∷ xs) (free : place_of terms.shape u.trail x ≡ Free)
    (one : IsViewOf terms known v) (two : IsViewOf terms known u) where
  abbrev h : List Entry
  h = known.trail

  further-one : (m : ℕ) → (0 < times m ws → place_of terms.shape h m ≡ Free) → (0 < times m xs → place_of terms.shape h m ≡ Free)
      → place_of terms.shape h x ≡ Free → 0 < times m (ws ++ u.numbers) → place_of terms.shape h m ≡ Free
  further-one m f g x_free has = dite (dec_le 1 (times m ws)) f (λ n. dite (ℕ_discrete x m) (λ q. ap (place_of terms.shape h) (sym q) ∙ x_free)
      (λ q. g (let t = times-append m ws u.numbers in let r : times m u.numbers ≡ cond {A = ℕ} (eqb x m) 1 0 + times m xs = ap (times m) nums' in
      let z = counts-not x m q in omega arith)))

  in-one : (m : ℕ) → 0 < times m v.numbers → 0 < times m (v.numbers ++ u.numbers)
  in-one m has = let t = times-append m v.numbers u.numbers in omega arith

  in-two : (m : ℕ) → 0 < times m u.numbers → 0 < times m (v.numbers ++ u.numbers)
  in-two m has = let t = times-append m v.numbers u.numbers in omega arith

  heard-more : (k : ℕ) (y : Heard) → get_elem? (heard_of v ∷ heard_of u ∷ (v.heard ++ u.heard)) k ≡ some y → IsHeard terms known (joined v u) y
  heard-more zero y at = subst (IsHeard terms known (joined v u)) (some-injective (heard_of v) y at)
      (record { begins = one.begins; own = one.own (number v) (head-there v w ws nums); there = in-one (number v) (head-there v w ws nums) })
  heard-more (suc zero) y at = subst (IsHeard terms known (joined v u)) (some-injective (heard_of u) y at)
      (record { begins = two.begins; own = two.own (number u) (head-there u x xs nums'); there = in-two (number u) (head-there u x xs nums') })
  heard-more (suc (suc k)) y at = ⊎_elim
      (λ r. let o = one.heard k y r in record { begins = o.begins; own = o.own; there = in-one y.worker o.there })
      (λ (j, r). let o = two.heard j y r in record { begins = o.begins; own = o.own; there = in-two y.worker o.there })
      (at-either v.heard u.heard k y at)

  view-joined : IsViewOf terms known (joined v u)
  view-joined =
      let e : v.numbers ++ u.numbers ≡ w ∷ (ws ++ u.numbers) = ap (λ l. l ++ u.numbers) nums in
      let x_here : 0 < times x u.numbers = subst (λ l. 0 < times x l) (sym nums') (times-head x xs) in
      let x_free : place_of terms.shape h x ≡ Free = found-place terms.shape x u.trail h (two.own x x_here) ∙ free in record {
        shape = λ m ms k. one.shape w ws nums;
        subject_is = λ m ms k. one.subject_is w ws nums;
        begins = longer-begins h v.trail u.trail one.begins two.begins;
        own = λ m has. longer-has h v.trail u.trail m one.begins two.begins (either-one m v.numbers u.numbers (one.own m) (two.own m) has);
        notes = λ m ms k. one.notes m ws (nums ∙ ap (λ y. y ∷ ws) (cons-head (sym e ∙ k)));
        out = λ m ms k. one.out m ws (nums ∙ ap (λ y. y ∷ ws) (cons-head (sym e ∙ k)));
        further = λ m y ms k has. further-one m (λ q. one.further m w ws nums q) (λ q. two.further m x xs nums' q) x_free
            (subst (λ l. 0 < times m l) (cons-tail (sym k ∙ e)) has);
        none = λ k. absurd (let t : w ∷ (ws ++ u.numbers) ≡ [] = sym e ∙ k in cc);
        heard = heard-more;
      }

module _ {B Sub : Type 0} (terms : Terms B Sub) where
  pub joins : (i : ℕ) (v : View Sub) (j : ℕ) (u : View Sub) (w x : ℕ) (ws xs : List ℕ) → v.numbers ≡ w ∷ ws → u.numbers ≡ x ∷ xs
      → place_of terms.shape u.trail x ≡ Free → Joins (RunningRule terms) i v j u (joined v u) spent
  joins i v j u w x ws xs nums nums' free s (known, ok) at ne at_j =
      let old_u : get_elem? s.views j ≡ some u = ⊎_elim (λ r. absurd (ne r.0)) (λ r. r.1) (at_set s.views i j (joined v u) u at_j) in (
        known,
        with-views terms known s ok (set (set s.views i (joined v u)) j spent)
            (λ m.
            let f : View Sub → ℕ = λ z. times m z.numbers in
            let t = total-set f s.views i v (joined v u) at in
            let r = total-set f (set s.views i (joined v u)) j u spent at_j in
            let k = times-append m v.numbers u.numbers in omega arith)
            (λ k z at_k. ⊎_elim
            (λ r. subst (IsViewOf terms known) r.1 (view-spent terms known))
            (λ r. ⊎_elim
            (λ q. subst (IsViewOf terms known) q.1 (view-joined terms known v u w x ws xs nums nums' free (ok.views i v at) (ok.views j u old_u)))
            (λ q. ok.views k z q.1)
            (at_set s.views i k (joined v u) z r.1))
            (at_set (set s.views i (joined v u)) j k spent z at_k)),
      )
