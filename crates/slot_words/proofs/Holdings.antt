-- What the other calls read and write: those of a holder, of an announcer, of the two numbers and of the own masks.
use Rattle.std.proofs.Common.{◌≡◌, ◌≢◌, ℕ, ◌+◌, ◌/◌, ◌<◌, ◌≤◌, Bool, true, false, eqb, bit_or, refl}
use Rattle.std.proofs.Common.{sym, ap, ◌∙◌, subst, eq-eqb, ne_eqb, arith}
use Rattle.std.proofs.lemmas.Bool.{cond-true, cond-false}
use prog.Atomic.{either}
use Rattle.slot_history.specs.declared.shape.Shape.{Shape}
use Rattle.slot_history.specs.declared.shape.TheConstants.{STAGES}
use Rattle.slot_history.specs.declared.act.Act.TheVariants.{ReserveGot, ReserveTaken, AdmitGot}
use Rattle.slot_history.specs.declared.act.Act.TheVariants.{AdmitLost, Arrivals, Finished, NoteDone}
use Rattle.slot_history.specs.declared.act.Act.TheVariants.{SetTotal, Install, Release, Announce}
use Rattle.slot_history.specs.declared.act.Act.TheVariants.{TakeReturn, TakeChange}
use Rattle.slot_history.specs.declared.place.Held.{Held}
use Rattle.slot_history.specs.declared.place.Place.{Place}
use Rattle.slot_history.specs.declared.place.Place.TheVariants.{Free, Holding, Announcing}
use Rattle.slot_history.specs.Sets.{upd}
use Rattle.slot_history.specs.States.{Empty, ObjectState, slot_word, is_empty}
use Rattle.slot_history.specs.Steps.{slot_after, held_on, opened, taken}
use Rattle.slot_history.specs.Allowed.{IsMask, bit_of}
use Rattle.slot_history.proofs.Sets.{upd-same}
use Rattle.slot_history.proofs.SlotWords.{word-empty, word-full}
use Rattle.slot_history.proofs.Holdings.{holder-slot}
use Rattle.slot_history.proofs.Masks.{mask-only, mask-comes, mask-taken}
use Rattle.slot_words.specs.Encodings.{open_word, cursor_word}
use Rattle.slot_words.specs.Words.{IsCursor}
use Rattle.slot_words.specs.Steps.{added}
use Rattle.slot_words.proofs.Fit.{IsFit}
use Rattle.slot_words.proofs.SlotWords.{held-opens, held-totals}
use Rattle.slot_words.proofs.Readings.{Reads, state-after}

module _ (d : Shape) (S : ObjectState) (w : ℕ) (low : w < d.workers) (fit : IsFit d S) where
  abbrev p : Place
  p = S.places w

  -- ---- reservations

  pub gets : (s : ℕ) → is_empty (S.slots s) ≡ true → Reads d S w (ReserveGot s) Free
  gets s empty n h =
      let z : eqb n 0 ≡ true = eq-eqb n 0 (h ∙ word-empty (S.slots s) empty) in (
        cond-true (eqb n 0) (ReserveGot s) (ReserveTaken s n) z,
        ap (λ b. either b 1 n) z ∙ sym (ap slot_word (upd-same S.slots s (slot_after d w (ReserveGot s) (S.slots s)))),
      )

  pub finds : (s word : ℕ) → is_empty (S.slots s) ≡ false → word ≡ slot_word (S.slots s) → Reads d S w (ReserveTaken s word) Free
  finds s word full is n h =
      let no : eqb n 0 ≡ false = ne_eqb n 0 (λ z. word-full (S.slots s) full (sym h ∙ z)) in (
        cond-false (eqb n 0) (ReserveGot s) (ReserveTaken s n) no ∙ ap (ReserveTaken s) (h ∙ sym is),
        ap (λ b. either b 1 n) no ∙ state-after d S w s n (S.slots s) h,
      )

  -- ---- the two numbers

  pub admits : (q : ℕ) (k : Place) → S.admitted ≡ q → Reads d S w (AdmitGot q) k
  admits q k is n h =
      let z : eqb n q ≡ true = eq-eqb n q (h ∙ is) in
      (cond-true (eqb n q) (AdmitGot q) (AdmitLost q n) z, ap (λ b. either b (q + 1) n) z ∙ ap (λ m. m + 1) (sym is))

  pub comes-late : (q now : ℕ) (k : Place) → now ≡ S.admitted → now ≢ q → Reads d S w (AdmitLost q now) k
  comes-late q now k is other n h =
      let no : eqb n q ≡ false = ne_eqb n q (λ e. other (is ∙ sym h ∙ e)) in
      (cond-false (eqb n q) (AdmitGot q) (AdmitLost q n) no ∙ ap (AdmitLost q) (h ∙ sym is), ap (λ b. either b (q + 1) n) no ∙ h)

  pub asks-arrivals : (n : ℕ) (k : Place) → n ≡ S.admitted → Reads d S w (Arrivals n) k
  asks-arrivals n k is m h = (ap Arrivals (h ∙ sym is), h)

  pub asks-finished : (n : ℕ) (k : Place) → n ≡ S.finished → Reads d S w (Finished n) k
  asks-finished n k is m h = (ap Finished (h ∙ sym is), h)

  pub notes : (k : ℕ) (q : Place) → k ≤ STAGES → Reads d S w (NoteDone k) q
  notes k q few n h =
      let most = fit.finished in let is : n ≡ S.finished = h in
      (refl, (let z : added k n ≡ S.finished + k = omega arith in z))

  -- ---- holdings

  pub totals : (s t : ℕ) (h : Held) → p ≡ Holding s h → Reads d S w (SetTotal t) (Holding s h)
  totals s t h at n c =
      let held = holder-slot d S fit.table w s h low at in
      (refl, subst (λ x. IsCursor x (cursor_word t 0)) (sym (upd-same S.slots s (held_on (SetTotal t) (S.slots s)))) (held-totals w h t (S.slots s) held))

  pub installs : (s id : ℕ) (h : Held) → p ≡ Holding s h → Reads d S w (Install id) (Holding s h)
  installs s id h at n c =
      let held = holder-slot d S fit.table w s h low at in
      (refl, state-after d S w s (open_word id) (opened id (S.slots s)) (held-opens w h id (S.slots s) held))

  pub releases : (s : ℕ) (h : Held) → Reads d S w Release (Holding s h)
  releases s h n c = (refl, state-after d S w s 0 Empty refl)

  -- ---- notices

  pub tells : (s told_so : ℕ) (again : Bool) → Reads d S w Announce (Announcing s again told_so)
  tells s k true n m =
      (refl, subst (λ g. IsMask (s / 64) g (bit_or n (bit_of s))) (sym (upd-same S.returns k (upd (S.returns k) s true))) (mask-comes (S.returns k) n s m))
  tells s k false n m =
      (refl, subst (λ g. IsMask (s / 64) g (bit_or n (bit_of s))) (sym (upd-same S.changes k (upd (S.changes k) s true))) (mask-comes (S.changes k) n s m))

  pub takes-return : (part bits : ℕ) (k : Place) → IsMask part (S.returns w) bits → Reads d S w (TakeReturn part bits) k
  takes-return part bits k is n m = (
    ap (TakeReturn part) (mask-only part (S.returns w) n m ∙ sym (mask-only part (S.returns w) bits is)),
    subst (λ g. IsMask part g 0) (sym (upd-same S.returns w (taken part (S.returns w)))) (mask-taken (S.returns w) part),
  )

  pub takes-change : (part bits : ℕ) (k : Place) → IsMask part (S.changes w) bits → Reads d S w (TakeChange part bits) k
  takes-change part bits k is n m = (
    ap (TakeChange part) (mask-only part (S.changes w) n m ∙ sym (mask-only part (S.changes w) bits is)),
    subst (λ g. IsMask part g 0) (sym (upd-same S.changes w (taken part (S.changes w)))) (mask-taken (S.changes w) part),
  )
