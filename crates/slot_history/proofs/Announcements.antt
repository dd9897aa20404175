-- What becomes of notices that are pending or still to be told.
use Rattle.std.proofs.Common.{◌≡◌, ◌≢◌, ℕ, ◌+◌, ◌<◌, ◌≤◌, ◌⊎◌, Bool, true, false, cond, None, refl}
use Rattle.std.proofs.Common.{sym, ap, ◌∙◌, subst, inl, inr, ne_eqb, ⊎_elim, arith}
use mathlib.Core.Logic.{dite}
use mathlib.Core.Bool.{true≢false}
use native.Mathlib.Decide.{ℕ_discrete}
use Rattle.std.proofs.lemmas.Bool.{cond_both, and_from}
use Rattle.slot_history.specs.declared.shape.Shape.{Shape}
use Rattle.slot_history.specs.declared.act.Act.{Act}
use Rattle.slot_history.specs.declared.act.Act.TheVariants.{ClaimRange, LeaveLeft, LeaveOwe}
use Rattle.slot_history.specs.declared.act.Act.TheVariants.{ReserveTaken, AdmitLost, Arrivals}
use Rattle.slot_history.specs.declared.act.Act.TheVariants.{Finished, Announce, TakeReturn}
use Rattle.slot_history.specs.declared.act.Act.TheVariants.{TakeChange}
use Rattle.slot_history.specs.declared.place.Place.{Place}
use Rattle.slot_history.specs.declared.place.Place.TheVariants.{Free, Announcing}
use Rattle.slot_history.specs.Sets.{upd}
use Rattle.slot_history.specs.States.{NoticeRecord, ObjectState, can_leave}
use Rattle.slot_history.specs.Steps.{moved, is_in_part, taken, told, joined_by_return}
use Rattle.slot_history.specs.Steps.{joined_by_change, next_at, next}
use Rattle.slot_history.specs.Allowed.{IsAllowed}
use Rattle.slot_history.specs.Notices.{notices_of, IsUntold}
use Rattle.slot_history.proofs.Sets.{upd-same, upd-else, upd-cases}

-- a worker that announces goes on with it, or makes a call that leaves its place as it is
announcing-stays : (d : Shape) (S : ObjectState) (w : ℕ) (a : Act) (s : ℕ) (again : Bool) (k : ℕ) → IsAllowed d S w a → S.places w ≡ Announcing s again k
    → (a ≡ Announce) ⊎ (moved d a (S.places w) ≡ S.places w)
announcing-stays d S w (ClaimRange n from to) s again k fine at = inr refl
announcing-stays d S w LeaveLeft s again k fine at = absurd (true≢false (sym fine.0 ∙ ap can_leave at))
announcing-stays d S w (LeaveOwe id) s again k fine at = absurd (true≢false (sym fine.0 ∙ ap can_leave at))
announcing-stays d S w (ReserveTaken t word) s again k fine at = inr refl
announcing-stays d S w (AdmitLost q now) s again k fine at = inr refl
announcing-stays d S w (Arrivals n) s again k fine at = inr refl
announcing-stays d S w (Finished n) s again k fine at = inr refl
announcing-stays d S w Announce s again k fine at = inl refl
announcing-stays d S w (TakeReturn part bits) s again k fine at = inr refl
announcing-stays d S w (TakeChange part bits) s again k fine at = inr refl
announcing-stays d S w _ s again k fine at = absurd (cc)

-- such a notice is pending, or still to be told
abbrev Comes : Bool → ObjectState → ℕ → ℕ → Type 0
Comes again S s v = (notices_of again S v s ≡ true) ⊎ IsUntold S again s v

-- the notice that an announcer tells is pending for the worker that it tells
told-pending : (again : Bool) (S : ObjectState) (d : Shape) (w s k : ℕ) → notices_of again (next_at d S w Announce (Announcing s again k)) k s ≡ true
told-pending true S d w s k = ap (λ f. f s) (upd-same S.returns k _) ∙ upd-same (S.returns k) s true
told-pending false S d w s k = ap (λ f. f s) (upd-same S.changes k _) ∙ upd-same (S.changes k) s true

-- who tells one more worker goes on to the others
tells-on : (d : Shape) (S : ObjectState) (w s : ℕ) (again : Bool) (k v : ℕ) → v < d.workers → k ≤ v
    → Comes again (next_at d S w Announce (Announcing s again k)) s v
tells-on d S w s again k v lt le = dite (ℕ_discrete v k)
    (λ e. inl (subst (λ j. notices_of again (next_at d S w Announce (Announcing s again k)) j s ≡ true) (sym e) (told-pending again S d w s k)))
    (λ n. let more : k + 1 ≢ d.workers = omega arith in
    inr (w, k + 1, upd-same S.places w _ ∙ ap (λ b. cond b Free (Announcing s again (k + 1))) (ne_eqb (k + 1) d.workers more), omega arith))

-- what is to be told is still to be told, or now pending
pub untold-next : (d : Shape) (S : ObjectState) (w : ℕ) (a : Act) (again : Bool) (s v : ℕ) → IsAllowed d S w a → v < d.workers → IsUntold S again s v
    → Comes again (next d S w a) s v
untold-next d S w a again s v fine lt (u, k, at, le) = dite (ℕ_discrete u w)
    (λ e. let here : S.places w ≡ Announcing s again k = ap S.places (sym e) ∙ at in
    ⊎_elim
    (λ tells. subst (λ b. Comes again (next d S w b) s v) (sym tells) (subst
    (λ p. Comes again (next_at d S w Announce p) s v) (sym here) (tells-on d S w s again k v lt le)))
    (λ stays. inr (w, k, upd-same S.places w _ ∙ stays ∙ here, le))
    (announcing-stays d S w a s again k fine here))
    (λ n. inr (u, k, upd-else S.places w _ u n ∙ at, le))

-- telling one makes no notice less pending
told-more : (t k : ℕ) (f : ℕ → ℕ → Bool) (v s : ℕ) → f v s ≡ true → upd f k (upd (f k) t true) v s ≡ true
told-more t k f v s h = upd-cases f k (upd (f k) t true) v (λ g. g s ≡ true)
    (λ e. upd-cases (f k) t true s (λ b. b ≡ true) (λ e'. refl) (λ n. ap (λ j. f j s) (sym e) ∙ h)) (λ n. h)

told-keeps : (again : Bool) (p : Place) (f : ℕ → ℕ → Bool) (v s : ℕ) → f v s ≡ true → told again p f v s ≡ true
told-keeps true (Announcing t true k) f v s h = told-more t k f v s h
told-keeps false (Announcing t false k) f v s h = told-more t k f v s h
told-keeps again p f v s h = h

-- a pending notice is left by a take, or is of its word
taken-or-left : (part : ℕ) (pending : ℕ → Bool) (s : ℕ) → pending s ≡ true → (taken part pending s ≡ true) ⊎ (is_in_part part s ≡ true)
taken-or-left part pending s h = cond_both (is_in_part part s) false (pending s) (λ b. (b ≡ true) ⊎ (is_in_part part s ≡ true)) (λ t. inr t) (λ t. inl h)

-- the record is active, with the group unknown
abbrev pub IsNew : NoticeRecord → Type 0
IsNew r = (r.active ≡ true) × (r.group ≡ None)

-- the record after a taken notice of this kind
abbrev pub IsJoined : Bool → NoticeRecord → Type 0
IsJoined true r = r.active ≡ true
IsJoined false r = IsNew r

-- the records after a take of this kind
abbrev joined_by : Bool → ℕ → (ℕ → Bool) → (ℕ → NoticeRecord) → ℕ → NoticeRecord
joined_by true = joined_by_return
joined_by false = joined_by_change

joins : (again : Bool) (part : ℕ) (pending : ℕ → Bool) (r : ℕ → NoticeRecord) (s : ℕ) → is_in_part part s ≡ true → pending s ≡ true
    → IsJoined again (joined_by again part pending r s)
joins true part pending r s in_part h =
    ap (λ b. (cond b (record (r s) { active = true }) (r s)).active) (and_from (is_in_part part s) (pending s) in_part h)
joins false part pending r s in_part h =
    subst IsNew (sym (ap (λ b. cond b (record { active = true; group = None }) (r s)) (and_from (is_in_part part s) (pending s) in_part h))) (refl, refl)

-- a pending notice that its worker does not take stays pending
take-next : (again : Bool) (f : ℕ → ℕ → Bool) (R : ℕ → ℕ → NoticeRecord) (w part s v : ℕ) → f v s ≡ true
    → (upd f w (taken part (f w)) v s ≡ true) ⊎ IsJoined again (upd R w (joined_by again part (f w) (R w)) v s)
take-next again f R w part s v h = dite (ℕ_discrete v w)
    (λ e. let mine : f w s ≡ true = ap (λ j. f j s) (sym e) ∙ h in
    ⊎_elim
    (λ left. inl (subst (λ j. upd f w (taken part (f w)) j s ≡ true) (sym e) (ap (λ g. g s) (upd-same f w _) ∙ left)))
    (λ in_part. inr (subst (λ j. IsJoined again (upd R w (joined_by again part (f w) (R w)) j s)) (sym e)
    (subst (λ g. IsJoined again (g s)) (sym (upd-same R w _)) (joins again part (f w) (R w) s in_part mine))))
    (taken-or-left part (f w) s mine))
    (λ n. inl (ap (λ g. g s) (upd-else f w _ v n) ∙ h))

-- a pending notice stays so, or the worker takes it
pub notice-next : (again : Bool) (d : Shape) (S : ObjectState) (w : ℕ) (a : Act) (s v : ℕ) → notices_of again S v s ≡ true
    → (notices_of again (next d S w a) v s ≡ true) ⊎ IsJoined again ((next d S w a).records v s)
notice-next true d S w Announce s v h = inl (told-keeps true (S.places w) S.returns v s h)
notice-next false d S w Announce s v h = inl (told-keeps false (S.places w) S.changes v s h)
notice-next true d S w (TakeReturn part bits) s v h = take-next true S.returns S.records w part s v h
notice-next false d S w (TakeChange part bits) s v h = take-next false S.changes S.records w part s v h
notice-next true d S w _ s v h = inl h
notice-next false d S w _ s v h = inl h
