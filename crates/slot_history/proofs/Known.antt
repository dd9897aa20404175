-- What a worker knows where nobody has an announcement left to make.
use Rattle.std.proofs.Common.{◌≡◌, ◌≢◌, ℕ, ◌/◌, Bool, true, false, cond, List, [], ◌∷◌, refl, sym}
use Rattle.std.proofs.Common.{ap, ◌∙◌, subst, inl, inr, eq-eqb, ⊎_elim}
use Rattle.std.proofs.lemmas.Bool.{cases_lt, cond_both}
use mathlib.Core.Logic.{dite}
use mathlib.Core.Bool.{true≢false}
use native.Mathlib.Decide.{ℕ_discrete}
use Rattle.slot_history.specs.declared.shape.Shape.{Shape}
use Rattle.slot_history.specs.declared.shape.TheConstants.{STAGES}
use Rattle.slot_history.specs.declared.act.Act.{Act}
use Rattle.slot_history.specs.declared.act.Act.TheVariants.{LookOpen, Announce, TakeReturn}
use Rattle.slot_history.specs.declared.act.Act.TheVariants.{TakeChange}
use Rattle.slot_history.specs.declared.act.Entry.{Entry}
use Rattle.slot_history.specs.declared.place.Place.{Place}
use Rattle.slot_history.specs.declared.place.Place.TheVariants.{Free, Announcing}
use Rattle.slot_history.specs.States.{ObjectState, slot_of, id_of, is_open}
use Rattle.slot_history.specs.Sets.{upd}
use Rattle.slot_history.specs.Steps.{is_in_part, taken, changes_after, returns_after, state_after}
use Rattle.slot_history.specs.Allowed.{IsAllowed}
use Rattle.slot_history.specs.Histories.{IsLegal}
use Rattle.slot_history.specs.Bounds.{IsWithin}
use Rattle.slot_history.specs.Notices.{IsUntold, MayBe}
use Rattle.slot_history.specs.LoneTurns.{IsLone, IsKnown, LookIsKnown, QuietIsKnown}
use Rattle.slot_history.specs.LoneTurns.{NoticesStayTaken}
use Rattle.slot_history.proofs.Sets.{upd-same, upd-cases}
use Rattle.slot_history.proofs.Within.{within}
use Rattle.slot_history.proofs.Growth.{open-has}
use Rattle.slot_history.proofs.Notices.{KnowsOpen, KnowsQuery, noticed}
use Rattle.slot_history.proofs.LoneTurns.{others-free}

-- nobody has an announcement left to make
abbrev NoneAnnounces : ObjectState → Type 0
NoneAnnounces S = (u s k : ℕ) (again : Bool) → S.places u ≢ Announcing s again k

-- beside a lone worker that does not announce nobody does
none-announces : (d : Shape) (S : ObjectState) (w : ℕ) → IsWithin d S → IsLone d S w → ((s k : ℕ) (again : Bool) → S.places w ≢ Announcing s again k)
    → NoneAnnounces S
none-announces d S w within lone mine u s k again at = dite (ℕ_discrete u w)
    (λ e. mine s k again (ap S.places (sym e) ∙ at))
    (λ n. let free : S.places u ≡ Free = others-free d S w u within lone n in absurd (cc))

-- and nothing is still to be told
none-untold : (S : ObjectState) (again : Bool) (s v : ℕ) → NoneAnnounces S → IsUntold S again s v → ⊥
none-untold S again s v none (u, told, at, le) = none u s told again at

-- the query of a slot where no change is pending
known-query : (S : ObjectState) (s v q : ℕ) → NoneAnnounces S → S.changes v s ≡ false → KnowsQuery S s v q → MayBe (S.records v s) q
known-query S s v q none clear (inl may) = may
known-query S s v q none clear (inr (inl pending)) = absurd (true≢false (sym pending ∙ clear))
known-query S s v q none clear (inr (inr untold)) = absurd (none-untold S false s v none untold)

-- an open slot where nobody announces
known : (S : ObjectState) (s v : ℕ) → NoneAnnounces S → KnowsOpen S s v (id_of (S.slots s) / STAGES) → IsKnown S s v
known S s v none (inl k) = inl k
known S s v none (inr (inl (inl pending))) = inr (inl pending)
known S s v none (inr (inl (inr untold))) = absurd (none-untold S false s v none untold)
known S s v none (inr (inr (inl pending, may))) = inr (inr (pending, may))
known S s v none (inr (inr (inr untold, may))) = absurd (none-untold S true s v none untold)

pub look-is-known : LookIsKnown
look-is-known d w id h legal lone clear =
    let S : ObjectState = state_after d h in
    let k : ℕ = slot_of (S.places w) in
    let fine : IsAllowed d S w (LookOpen id) = legal.1 in
    let here : k ≡ fine.0 = ap slot_of fine.1 in
    let o : is_open (S.slots k) ≡ true = ap (λ j. is_open (S.slots j)) here ∙ fine.2 in
    let none : NoneAnnounces S = none-announces d S w (within d h legal.2) lone (λ s j again at. absurd (cc)) in
    subst (λ j. MayBe (S.records w k) (j / STAGES)) (ap (λ j. id_of (S.slots j)) here ∙ sym fine.3)
    (known-query S k w _ none clear ((noticed d h legal.2 k w legal.0).group (open-has (S.slots k) (inl o))))

pub quiet-is-known : (d : Shape) (h : List Entry) → IsLegal d h → QuietIsKnown d (state_after d h)
quiet-is-known d h legal quiet s v low o =
    let S : ObjectState = state_after d h in
    let none : NoneAnnounces S = λ u t k again at. let free : S.places u ≡ Free = ⊎_elim (λ u_low. quiet u u_low)
    (λ high. (within d h legal).others u high) (cases_lt u d.workers) in absurd (cc) in
    known S s v none ((noticed d h legal s v low).open_slot o)

-- ---- notices that were taken

-- what the worker takes of a mask word is gone
taken-clear : (part : ℕ) (pending : ℕ → Bool) (s : ℕ) → pending s ≡ false → taken part pending s ≡ false
taken-clear part pending s h = cond_both (is_in_part part s) false (pending s) (λ b. b ≡ false) (λ t. refl) (λ t. h)

taken-gone : (pending : ℕ → Bool) (s : ℕ) → taken (s / 64) pending s ≡ false
taken-gone pending s = ap (λ b. cond b false (pending s)) (eq-eqb (s / 64) (s / 64) refl)

-- the notices of one kind after a call
abbrev notices_after : Bool → ℕ → Act → Place → (ℕ → ℕ → Bool) → ℕ → ℕ → Bool
notices_after true = returns_after
notices_after false = changes_after

stays-clear : (part w : ℕ) (f : ℕ → ℕ → Bool) (v s : ℕ) → f v s ≡ false → upd f w (taken part (f w)) v s ≡ false
stays-clear part w f v s h =
    upd-cases f w (taken part (f w)) v (λ g. g s ≡ false) (λ e. taken-clear part (f w) s (ap (λ j. f j s) (sym e) ∙ h)) (λ k. h)

notice-clear : (again : Bool) (a : Act) (w : ℕ) (p : Place) (f : ℕ → ℕ → Bool) (v s : ℕ) → a ≢ Announce → f v s ≡ false
    → notices_after again w a p f v s ≡ false
notice-clear again Announce w p f v s n h = absurd (n refl)
notice-clear true (TakeReturn part bits) w p f v s n h = stays-clear part w f v s h
notice-clear false (TakeChange part bits) w p f v s n h = stays-clear part w f v s h
notice-clear true _ w p f v s n h = h
notice-clear false _ w p f v s n h = h

pub notices-taken : NoticesStayTaken
notices-taken d true w bits s [] old quiet = ap (λ f. f s) (upd-same (state_after d old).returns w _) ∙ taken-gone ((state_after d old).returns w) s
notices-taken d false w bits s [] old quiet = ap (λ f. f s) (upd-same (state_after d old).changes w _) ∙ taken-gone ((state_after d old).changes w) s
notices-taken d true w bits s (e ∷ es) old quiet = notice-clear true e.act e.worker _ _ w s quiet.0 (notices-taken d true w bits s es old quiet.1)
notices-taken d false w bits s (e ∷ es) old quiet = notice-clear false e.act e.worker _ _ w s quiet.0 (notices-taken d false w bits s es old quiet.1)
