-- Beginnings of a history: legal, one within another, and the whole by all own calls.
use Rattle.std.proofs.Common.{◌≡◌, ◌≢◌, ℕ, ◌<◌, ◌⊎◌, List, [], ◌∷◌, ◌++◌, length, length-append}
use Rattle.std.proofs.Common.{drop, refl, sym, ap, ◌∙◌, subst, inl, inr, append-nil, append_assoc}
use Rattle.std.proofs.Common.{arith}
use native.Mathlib.Decide.{ℕ_discrete}
use Rattle.slot_history.specs.declared.shape.Shape.{Shape}
use Rattle.slot_history.specs.declared.act.Entry.{Entry}
use Rattle.slot_history.specs.Histories.{IsLegal, Begins, own_calls}
use Rattle.slot_history.specs.Beginnings.{BeginningsAreLegal, BeginningsNest, WholeByOwnCalls}
use Rattle.slot_history.specs.Beginnings.{OwnCallsBetween, OthersLeaveIt}
use Rattle.slot_history.proofs.Own.{own-mine, own-other, found-place, found-ranges, found-record}

pub legal-early : (d : Shape) (more early : List Entry) → IsLegal d (more ++ early) → IsLegal d early
legal-early d [] early legal = legal
legal-early d (e ∷ more) early legal = legal-early d more early legal.2

pub begins-legal : BeginningsAreLegal
begins-legal d h early legal b = legal-early d b.0 early (subst (IsLegal d) b.1 legal)

-- ---- beginnings of beginnings

pub begins-self : (h : List Entry) → Begins h h
begins-self h = ([], refl)

pub begins-empty : (h : List Entry) → Begins h []
begins-empty h = (h, sym (append-nil h))

pub begins-more : (e : Entry) (h early : List Entry) → Begins h early → Begins (e ∷ h) early
begins-more e h early b = (e ∷ b.0, ap (λ l. e ∷ l) b.1)

pub begins-less : (h early : List Entry) (e : Entry) → Begins h (e ∷ early) → Begins h early
begins-less h early e (more, is) = (more ++ e ∷ [], is ∙ sym (append_assoc more (e ∷ []) early))

pub begins-through : (h mid early : List Entry) → Begins h mid → Begins mid early → Begins h early
begins-through h mid early (more, is) (rest, was) = (more ++ rest, is ∙ ap (λ l. more ++ l) was ∙ sym (append_assoc more rest early))

-- a beginning is the whole, or begins what was before the last call
pub begins-cases : (e : Entry) (es early : List Entry) → Begins (e ∷ es) early → (early ≡ e ∷ es) ⊎ Begins es early
begins-cases e es early ([], is) = inl (sym is)
begins-cases e es early (m ∷ more, is) = inr (more, ap (drop 1) is)

nested : (more a extra b : List Entry) → more ++ a ≡ extra ++ b → Begins a b ⊎ Begins b a
nested [] a extra b e = inl (extra, e)
nested (m ∷ ms) a [] b e = inr (m ∷ ms, sym e)
nested (m ∷ ms) a (x ∷ xs) b e = nested ms a xs b (ap (drop 1) e)

pub begins-nest : BeginningsNest
begins-nest h a b (more, is) (extra, was) = nested more a extra b (sym is ∙ was)

-- ---- own calls

own-append-step : (w : ℕ) (x : Entry) (xs ys : List Entry) → own_calls w (xs ++ ys) ≡ own_calls w xs ++ own_calls w ys → Dec (w ≡ x.worker)
    → own_calls w (x ∷ (xs ++ ys)) ≡ own_calls w (x ∷ xs) ++ own_calls w ys
own-append-step w x xs ys ih (yes e) = own-mine x (xs ++ ys) w e ∙ ap (λ l. x ∷ l) ih ∙ sym (ap (λ l. l ++ own_calls w ys) (own-mine x xs w e))
own-append-step w x xs ys ih (no n) = own-other x (xs ++ ys) w n ∙ ih ∙ sym (ap (λ l. l ++ own_calls w ys) (own-other x xs w n))

-- the calls of one history after another
pub own-append : (w : ℕ) (xs ys : List Entry) → own_calls w (xs ++ ys) ≡ own_calls w xs ++ own_calls w ys
own-append w [] ys = refl
own-append w (x ∷ xs) ys = own-append-step w x xs ys (own-append w xs ys) (ℕ_discrete w x.worker)

-- where a worker made none of the calls that were added
pub own-still : (w : ℕ) (more early : List Entry) → own_calls w more ≡ [] → own_calls w (more ++ early) ≡ own_calls w early
own-still w more early none = own-append w more early ∙ ap (λ l. l ++ own_calls w early) none

pub others-leave-it : OthersLeaveIt
others-leave-it d w more early none = let same : own_calls w (more ++ early) ≡ own_calls w early = own-still w more early none in record {
  place = found-place d w early (more ++ early) same;
  ranges = λ id. found-ranges d w id early (more ++ early) same;
  records = λ s. found-record d w s early (more ++ early) same;
}

-- a worker whose own calls are all in the beginning made none since
nothing : {A : Type 0} → (l m : List A) → length (l ++ m) ≡ length m → l ≡ []
nothing [] m e = refl
nothing (x ∷ xs) m e = let r = length-append (x ∷ xs) m in absurd (omega arith)

pub none-since : (w : ℕ) (more early : List Entry) → own_calls w (more ++ early) ≡ own_calls w early → own_calls w more ≡ []
none-since w more early same = nothing (own_calls w more) (own_calls w early) (ap length (sym (own-append w more early) ∙ same))

-- and so the newest call is by another
pub newest-other : (w : ℕ) (e : Entry) (more early : List Entry) → own_calls w (e ∷ more ++ early) ≡ own_calls w early → w ≢ e.worker
newest-other w e more early same mine = let r : e ∷ own_calls w more ≡ [] = sym (own-mine e more w mine) ∙ none-since w (e ∷ more) early same in cc

first-empty : {A : Type 0} → (l m : List A) → l ++ m ≡ [] → l ≡ []
first-empty [] m e = refl
first-empty (x ∷ xs) m e = absurd (cc)

pub own-between : OwnCallsBetween
own-between w h mid early (more, is) (rest, was) same =
    let whole : h ≡ (more ++ rest) ++ early = is ∙ ap (λ l. more ++ l) was ∙ sym (append_assoc more rest early) in
    let none : own_calls w more ++ own_calls w rest ≡ [] = sym (own-append w more rest)
    ∙ none-since w (more ++ rest) early (sym (ap (own_calls w) whole) ∙ same) in
    ap (own_calls w) is ∙ own-still w more mid (first-empty (own_calls w more) (own_calls w rest) none)

whole-of : (d : Shape) (more early : List Entry) → IsLegal d (more ++ early) → ((w : ℕ) → w < d.workers → own_calls w (more ++ early) ≡ own_calls w early)
    → more ++ early ≡ early
whole-of d [] early legal same = refl
whole-of d (e ∷ more) early legal same = absurd (newest-other e.worker e more early (same e.worker legal.0) refl)

pub whole-by-own-calls : WholeByOwnCalls
whole-by-own-calls d h early legal (more, is) same =
    is ∙ whole-of d more early (subst (IsLegal d) is legal) (λ w low. sym (ap (own_calls w) is) ∙ same w low)
