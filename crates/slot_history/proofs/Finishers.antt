-- The worker that finalises a task set is the one whose call was answered Last.
use Rattle.std.proofs.Common.{◌≡◌, ◌≢◌, ℕ, ◌+◌, ◌*◌, ◌/◌, ◌%◌, ◌<◌, ◌≤◌, Bool, true, false, cond}
use Rattle.std.proofs.Common.{eqb, ◌&&◌, List, [], ◌∷◌, ◌++◌, Option, Some, None, refl, sym, ap}
use Rattle.std.proofs.Common.{◌∙◌, subst, eq-eqb, arith}
use mathlib.Core.Bool.{true≢false}
use mathlib.Core.Logic.{dite}
use native.Mathlib.Decide.{ℕ_discrete}
use Rattle.std.proofs.lemmas.Bool.{cond_both, false_from_ne_true}
use Rattle.slot_history.specs.declared.shape.Shape.{Shape}
use Rattle.slot_history.specs.declared.shape.TheConstants.{STAGES}
use Rattle.slot_history.specs.declared.act.Act.{Act}
use Rattle.slot_history.specs.declared.act.Act.TheVariants.{ClaimRange, LeaveLeft, PayLast}
use Rattle.slot_history.specs.declared.act.Act.TheVariants.{MarkMarked, MarkMissed, SweepLast}
use Rattle.slot_history.specs.declared.act.Act.TheVariants.{ReserveGot, ReserveTaken, AdmitGot}
use Rattle.slot_history.specs.declared.act.Act.TheVariants.{AdmitLost, Arrivals, Finished, NoteDone}
use Rattle.slot_history.specs.declared.act.Act.TheVariants.{SetTotal, Announce, TakeReturn}
use Rattle.slot_history.specs.declared.act.Act.TheVariants.{TakeChange}
use Rattle.slot_history.specs.declared.act.Entry.{Entry}
use Rattle.slot_history.specs.declared.place.Held.{Held}
use Rattle.slot_history.specs.declared.place.Place.{Place}
use Rattle.slot_history.specs.declared.place.Place.TheVariants.{Free, Leading, Announcing, Holding}
use Rattle.slot_history.specs.States.{id_at, held_at, reservation, finalisation, finalised_id}
use Rattle.slot_history.specs.Steps.{moved, left, told_one, state_after}
use Rattle.slot_history.specs.Allowed.{IsAllowed}
use Rattle.slot_history.specs.Histories.{IsLegal, place_of, is_last, lasts_of, finisher_of}
use Rattle.slot_history.specs.Bounds.{IsFinalisation, IsSlotSound}
use Rattle.slot_history.specs.Looks.{HasFinisher, HolderIsFinisher, FinisherStays}
use Rattle.slot_history.proofs.Sets.{pick}
use Rattle.slot_history.proofs.Own.{place-mine, place-other}
use Rattle.slot_history.proofs.Holdings.{slots-sound}
use Rattle.slot_history.proofs.Counts.{counts-most}
use Rattle.slot_history.proofs.Holders.{holder-finishes}

-- ---- a finisher stays

-- the call finalises the task set
abbrev ends : Shape → ℕ → Entry → List Entry → Bool
ends d id e es = is_last e.act && eqb (id_at (place_of d es e.worker)) id

finished-once : (d : Shape) (id : ℕ) (e : Entry) (es : List Entry) → IsLegal d (e ∷ es) → 0 < lasts_of d id es → ends d id e es ≡ false
finished-once d id e es legal past = false_from_ne_true (ends d id e es) (λ again.
    let one : cond {A = ℕ} (ends d id e es) 1 0 ≡ 1 = ap (λ b. cond b 1 0) again in
    let most : cond {A = ℕ} (ends d id e es) 1 0 + lasts_of d id es ≤ 1 = (counts-most d id (e ∷ es) legal).1 in omega arith)

has-last : (d : Shape) (id w : ℕ) (h : List Entry) → finisher_of d id h ≡ Some w → 0 < lasts_of d id h
has-last d id w [] = λ is. absurd (cc)
has-last d id w (e ∷ es) = cond_both (ends d id e es) (Some e.worker) (finisher_of d id es) (λ o. o ≡ Some w → 0 < lasts_of d id (e ∷ es))
    (λ this is. let one : cond {A = ℕ} (ends d id e es) 1 0 ≡ 1 = ap (λ b. cond b 1 0) this in omega arith)
    (λ other is. let was : 0 < lasts_of d id es = has-last d id w es is in omega arith)

still-finished : (d : Shape) (id w : ℕ) (e : Entry) (es : List Entry) → IsLegal d (e ∷ es) → finisher_of d id es ≡ Some w
    → finisher_of d id (e ∷ es) ≡ Some w
still-finished d id w e es legal is =
    ap (λ b. cond b (Some e.worker) (finisher_of d id es)) (finished-once d id e es legal (has-last d id w es is)) ∙ is

stays-finished : (d : Shape) (id w : ℕ) (more early : List Entry) → IsLegal d (more ++ early) → finisher_of d id early ≡ Some w
    → finisher_of d id (more ++ early) ≡ Some w
stays-finished d id w [] early legal is = is
stays-finished d id w (e ∷ more) early legal is = still-finished d id w e (more ++ early) legal (stays-finished d id w more early legal.2 is)

pub finisher-stays : FinisherStays
finisher-stays d h early id w legal (more, is) was =
    ap (finisher_of d id) is ∙ stays-finished d id w more early (subst (IsLegal d) is legal) was

pub has-finisher : (d : Shape) (h : List Entry) → IsLegal d h → HasFinisher d h
has-finisher d [] legal id = λ past. absurd (omega arith)
has-finisher d (e ∷ es) legal id = cond_both (ends d id e es) (Some e.worker) (finisher_of d id es)
    (λ o. 0 < lasts_of d id (e ∷ es) → (w : ℕ) × (w < d.workers) × (o ≡ Some w))
    (λ this past. (e.worker, legal.0, refl))
    (λ other past. has-finisher d es legal.2 id (let none : cond {A = ℕ} (ends d id e es) 1 0 ≡ 0 = ap (λ b. cond b 1 0) other in omega arith))

-- ---- the holder is the finisher

left-not-holding : (p : Place) (s : ℕ) (k : Held) → left p ≢ Holding s k
left-not-holding (Leading t id) s k = λ e. absurd (cc)
left-not-holding _ s k = λ e. absurd (cc)

told-not-holding : (d : Shape) (t told s : ℕ) (again : Bool) (k : Held) → told_one d (Announcing t again told) ≢ Holding s k
told-not-holding d t told s again k =
    pick (told + 1) d.workers Free (Announcing t again (told + 1)) (λ p. p ≢ Holding s k) (λ same e. absurd (cc)) (λ ne e. absurd (cc))

finalises-itself : (id : ℕ) → finalised_id (finalisation id) ≡ id
finalises-itself id = let whole : STAGES * (id / STAGES) + id % STAGES ≡ id = omega arith in whole

module _ (d : Shape) (w : ℕ) (es : List Entry) (legal : IsLegal d es) (low : w < d.workers)
    (before : (s : ℕ) (k : Held) → place_of d es w ≡ Holding s k → k.again ≡ true → finisher_of d (finalised_id k) es ≡ Some w) where
  abbrev p : Place
  p = place_of d es w

  -- of a holding after the call a of w
  abbrev IsFinisher : Act → Held → Type 0
  IsFinisher a k = cond (is_last a && eqb (id_at p) (finalised_id k)) (Some w) (finisher_of d (finalised_id k) es) ≡ Some w

  begins-holding : (k : Held) → finalisation (id_at p) ≡ k → (rest : Option ℕ) → cond (eqb (id_at p) (finalised_id k)) (Some w) rest ≡ Some w
  begins-holding k is rest = ap (λ b. cond b (Some w) rest) (eq-eqb (id_at p) (finalised_id k) (sym (finalises-itself (id_at p)) ∙ ap finalised_id is))

  goes-on : (s : ℕ) (k new : Held) → p ≡ Holding s k → k.again ≡ new.again → finalised_id k ≡ finalised_id new → new.again ≡ true
      → finisher_of d (finalised_id new) es ≡ Some w
  goes-on s k new at again same so = subst (λ id. finisher_of d id es ≡ Some w) same (before s k at (again ∙ so))

  -- a holder without a query is not one after a finalisation
  no-query : (s : ℕ) (k : Held) → p ≡ Holding s k → k.query ≡ None → k.again ≡ true → ⊥
  no-query s k at none again =
      let is = holder-finishes d w s k es legal low at again in
      let f : IsFinalisation (finalised_id k) k = subst IsSlotSound is (slots-sound d es legal s) in
      let r : None ≡ Some (finalised_id k / STAGES) = sym none ∙ f.query in cc

  own-call : (a : Act) (s : ℕ) (k : Held) → IsAllowed d (state_after d es) w a → moved d a p ≡ Holding s k → k.again ≡ true → IsFinisher a k
  own-call PayLast s k ok at again = begins-holding k (ap held_at at) (finisher_of d (finalised_id k) es)
  own-call SweepLast s k ok at again = begins-holding k (ap held_at at) (finisher_of d (finalised_id k) es)
  own-call (ReserveGot t) s k ok at again = absurd (let r : reservation ≡ k = ap held_at at in true≢false (sym again ∙ sym (ap (λ j. j.again) r)))
  own-call (AdmitGot q) s k ok at again = absurd (no-query ok.0 ok.1 ok.2 ok.3
      (ap (λ j. j.again) (ap held_at (sym (ap (moved d (AdmitGot q)) ok.2) ∙ at)) ∙ again))
  own-call (NoteDone n) s k ok at again = let is = ap held_at (sym (ap (moved d (NoteDone n)) ok.2) ∙ at) in
      goes-on ok.0 ok.1 k ok.2 (ap (λ j. j.again) is) (ap finalised_id is) again
  own-call (SetTotal n) s k ok at again = let is = ap held_at (sym (ap (moved d (SetTotal n)) ok.2) ∙ at) in
      goes-on ok.0 ok.1 k ok.2 (ap (λ j. j.again) is) (ap finalised_id is) again
  own-call LeaveLeft s k ok at again = absurd (left-not-holding p s k at)
  own-call MarkMarked s k ok at again = absurd (let r = sym (ap (moved d MarkMarked) ok.4) ∙ at in cc)
  own-call MarkMissed s k ok at again = absurd (let r = sym (ap (moved d MarkMissed) ok.4) ∙ at in cc)
  own-call Announce s k ok at again = absurd (told-not-holding d ok.0 ok.2 s ok.1 k (sym (ap (moved d Announce) ok.3) ∙ at))
  own-call (ClaimRange n from to) s k ok at again = before s k at again
  own-call (ReserveTaken t word) s k ok at again = before s k at again
  own-call (AdmitLost q now) s k ok at again = before s k at again
  own-call (Arrivals n) s k ok at again = before s k at again
  own-call (Finished n) s k ok at again = before s k at again
  own-call (TakeReturn part bits) s k ok at again = before s k at again
  own-call (TakeChange part bits) s k ok at again = before s k at again
  own-call _ s k ok at again = absurd (cc)

pub holder-is-finisher : (d : Shape) (h : List Entry) → IsLegal d h → HolderIsFinisher d h
holder-is-finisher d [] legal w s k low at again = absurd (cc)
holder-is-finisher d (e ∷ es) legal w s k low at again = dite (ℕ_discrete w e.worker)
    (λ mine.
    let now : moved d e.act (place_of d es w) ≡ Holding s k = sym (place-mine d e es w mine) ∙ at in
    let ok : IsAllowed d (state_after d es) w e.act = subst (λ v. IsAllowed d (state_after d es) v e.act) (sym mine) legal.1 in
    let is = own-call d w es legal.2 low (λ t j there so. holder-is-finisher d es legal.2 w t j low there so) e.act s k ok now again in
    subst (λ v. cond (is_last e.act && eqb (id_at (place_of d es v)) (finalised_id k)) (Some v) (finisher_of d (finalised_id k) es) ≡ Some w) mine is)
    (λ other. still-finished d (finalised_id k) w e es legal
    (holder-is-finisher d es legal.2 w s k low (sym (place-other d e es w other) ∙ at) again))
