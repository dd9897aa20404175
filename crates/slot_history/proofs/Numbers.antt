-- The numbers that a history names lie within its shape.
use Rattle.std.proofs.Common.{◌≡◌, ◌≢◌, ℕ, ◌*◌, ◌/◌, ◌<◌, true, cond, List, [], ◌∷◌, Some, refl}
use Rattle.std.proofs.Common.{sym, ap, ◌∙◌, subst, eq-eqb, arith}
use Rattle.std.specs.Prelude.{All, unwrap_or}
use Rattle.std.proofs.lemmas.Bool.{cond_both}
use Rattle.std.proofs.lemmas.List.Elements.{All-nil, All-cons}
use Rattle.slot_history.specs.declared.shape.Shape.{Shape}
use Rattle.slot_history.specs.declared.shape.TheConstants.{STAGES}
use Rattle.slot_history.specs.declared.act.Act.{Act}
use Rattle.slot_history.specs.declared.act.Act.TheVariants.{LookOpen, LeaveOwe, ClaimRange, Install}
use Rattle.slot_history.specs.declared.act.Entry.{Entry}
use Rattle.slot_history.specs.declared.place.Place.{Place}
use Rattle.slot_history.specs.declared.place.Place.TheVariants.{Inside, Used, Behind, Leading}
use Rattle.slot_history.specs.declared.place.Place.TheVariants.{Asking, Owing}
use Rattle.slot_history.specs.States.{SlotState, Open, Shut, Finishing, ObjectState, slot_of, id_at}
use Rattle.slot_history.specs.States.{id_of, has_id, is_open, owes, is_inside, has_own_cell}
use Rattle.slot_history.specs.Steps.{state_after}
use Rattle.slot_history.specs.Allowed.{IsAllowed}
use Rattle.slot_history.specs.Histories.{IsLegal, Morsel, entry, place_of, claims_of}
use Rattle.slot_history.specs.Histories.{claims_after, is_install, installs_of, slot_with}
use Rattle.slot_history.specs.Lives.{Book, book_of, Never, IsSlotBook, life_of}
use Rattle.slot_history.specs.Table.{IsTable}
use Rattle.slot_history.specs.Bounds.{IsPlaceWithin}
use Rattle.slot_history.specs.Numbers.{names_id, named_id, PlacesNameIds, AreIdsWithin}
use Rattle.slot_history.specs.Numbers.{AreInstallsWithin, AreClaimsWithin}
use Rattle.slot_history.proofs.Table.{table}
use Rattle.slot_history.proofs.Within.{within}
use Rattle.slot_history.proofs.Places.{inside-slots}
use Rattle.slot_history.proofs.Growth.{open-has}
use Rattle.slot_history.proofs.Book.{book, paying-slot, asking-slot}
use Rattle.slot_history.proofs.BookSteps.{running-low}
use Rattle.slot_history.proofs.Counts.{install-is, counts-as, lives-installed}
use Rattle.slot_history.proofs.Beginnings.{begins-legal}

-- ---- ids

some-life : (B : Book) (s : ℕ) (x : SlotState) → has_id x ≡ true → IsSlotBook B s x
    → B.life (id_of x) ≢ Never
some-life B s (Open t) has b = λ e. let r = sym b.lives ∙ e in cc
some-life B s (Shut t g) has b = λ e. let r = sym b.lives ∙ e in cc
some-life B s (Finishing id w h) has b = λ e. let r = sym b.1 ∙ e in cc
some-life B s _ has b = absurd (cc)

-- a task set that was installed is of a query of the shape
life-low : (d : Shape) (h : List Entry) → IsLegal d h → (id : ℕ) → life_of d id h ≢ Never → id < STAGES * d.queries
life-low d h legal id lives =
    let S : ObjectState = state_after d h in
    let low : id / STAGES < S.admitted = running-low (book_of d h) S.slots (book d h legal) id lives in
    let most = (within d h legal).admitted in omega arith

pub installed-low : (d : Shape) (h : List Entry) → IsLegal d h → (id : ℕ) → 0 < installs_of id h → id < STAGES * d.queries
installed-low d h legal id was = life-low d h legal id (λ never. let none : installs_of id h ≡ 0 = (counts-as d id h legal Never never).0 in omega arith)

-- the task set of a slot was installed
pub slot-id-installed : (d : Shape) (h : List Entry) → IsLegal d h → (s : ℕ) → has_id ((state_after d h).slots s) ≡ true
    → 0 < installs_of (id_of ((state_after d h).slots s)) h
slot-id-installed d h legal s has =
    let S : ObjectState = state_after d h in let id : ℕ = id_of (S.slots s) in
    lives-installed d id h legal (some-life (book_of d h) s (S.slots s) has ((book d h legal).slot s))

pub id-low : (d : Shape) (h : List Entry) → IsLegal d h → (s : ℕ) → has_id ((state_after d h).slots s) ≡ true
    → id_of ((state_after d h).slots s) < STAGES * d.queries
id-low d h legal s has = installed-low d h legal (id_of ((state_after d h).slots s)) (slot-id-installed d h legal s has)

pub open-id : (x : SlotState) → is_open x ≡ true → has_id x ≡ true
open-id (Open t) h = refl
open-id _ h = absurd (cc)

pub owing-id : (x : SlotState) (v : ℕ) → owes x v ≡ true → has_id x ≡ true
owing-id (Shut t e) v h = refl
owing-id _ v h = absurd (cc)

-- the id that a call or its answer names is of a task set that was installed
pub named-installed : (d : Shape) (w : ℕ) (a : Act) (h : List Entry) (id : ℕ) → IsLegal d (entry w a ∷ h) → named_id a ≡ Some id
    → 0 < installs_of id (entry w a ∷ h)
named-installed d w (LookOpen jd) h id (low, ok, legal) is = let X : ℕ → SlotState = (state_after d h).slots in
    let was : 0 < installs_of id h =
    subst (λ i. 0 < installs_of i h) (sym ok.3 ∙ ap (λ o. unwrap_or o 0) is) (slot-id-installed d h legal ok.0 (open-id (X ok.0) ok.2)) in omega arith
named-installed d w (LeaveOwe jd) h id (low, ok, legal) is = let s : ℕ = slot_of (place_of d h w) in
    let was : 0 < installs_of id h =
    subst (λ i. 0 < installs_of i h) (sym ok.2 ∙ ap (λ o. unwrap_or o 0) is) (slot-id-installed d h legal s (owing-id ((state_after d h).slots s) w ok.1)) in
    omega arith
named-installed d w (Install jd) h id legal is =
    let one : cond {A = ℕ} (is_install (Install jd) id) 1 0 ≡ 1 = ap (λ b. cond b 1 0) (eq-eqb jd id (ap (λ o. unwrap_or o 0) is)) in omega arith
named-installed d w _ h id legal is = absurd (cc)

pub named-low : (d : Shape) (w : ℕ) (a : Act) (h : List Entry) (id : ℕ) → IsLegal d (entry w a ∷ h) → named_id a ≡ Some id → id < STAGES * d.queries
named-low d w a h id legal is = installed-low d (entry w a ∷ h) legal id (named-installed d w a h id legal is)

-- ---- ids of places

inside-names : (d : Shape) (S : ObjectState) → IsTable d S → (w s id : ℕ) → w < d.workers → has_own_cell (S.places w) s ≡ true
    → is_inside (S.places w) id ≡ true
    → (has_id (S.slots s) ≡ true) × (id_of (S.slots s) ≡ id)
inside-names d S tab w s id low own inside = let r = inside-slots d S tab s w id low own inside in (open-has (S.slots s) r.0, r.1)

abbrev Names : ObjectState → Place → Type 0
Names S p = (has_id (S.slots (slot_of p)) ≡ true) × (id_of (S.slots (slot_of p)) ≡ id_at p)

own-names : (d : Shape) (S : ObjectState) → IsTable d S → (w : ℕ) → w < d.workers → (p : Place) → S.places w ≡ p → has_own_cell p (slot_of p) ≡ true
    → is_inside p (id_at p) ≡ true → Names S p
own-names d S tab w low p at own inside =
    inside-names d S tab w (slot_of p) (id_at p) low (ap (λ q. has_own_cell q (slot_of p)) at ∙ own) (ap (λ q. is_inside q (id_at p)) at ∙ inside)

names : (d : Shape) (S : ObjectState) → IsTable d S → (w : ℕ) → w < d.workers → (p : Place) → S.places w ≡ p → names_id p ≡ true → Names S p
names d S tab w low (Inside s id) at h = own-names d S tab w low (Inside s id) at (eq-eqb s s refl) (eq-eqb id id refl)
names d S tab w low (Used s id) at h = own-names d S tab w low (Used s id) at (eq-eqb s s refl) (eq-eqb id id refl)
names d S tab w low (Behind s id) at h = own-names d S tab w low (Behind s id) at (eq-eqb s s refl) (eq-eqb id id refl)
names d S tab w low (Leading s id) at h = own-names d S tab w low (Leading s id) at (eq-eqb s s refl) (eq-eqb id id refl)
names d S tab w low (Asking s id n m) at h = let r = asking-slot d S tab w s id n m low at in (ap has_id r.2, ap id_of r.2 ∙ r.3)
names d S tab w low (Owing s id) at h = let r = paying-slot d S tab w s id low at in (ap has_id r.2, ap id_of r.2 ∙ r.3)
names d S tab w low _ at h = absurd (cc)

pub places-name-ids : (d : Shape) (S : ObjectState) → IsTable d S → PlacesNameIds d S
places-name-ids d S tab w low h = names d S tab w low (S.places w) refl h

pub ids-within : (d : Shape) (h : List Entry) → IsLegal d h → AreIdsWithin d h
ids-within d h legal = record {
  slots = id-low d h legal;
  places = λ w low named. let r = places-name-ids d (state_after d h) (table d h legal) w low named in
      subst (λ i. i < STAGES * d.queries) r.1 (id-low d h legal (slot_of (place_of d h w)) r.0);
  installed = installed-low d h legal;
  named = λ e early id begins is. named-low d e.worker e.act early id (begins-legal d h (e ∷ early) legal begins) is;
}

-- ---- slots and workers

pub installs-within : (d : Shape) (h : List Entry) → IsLegal d h → AreInstallsWithin d h
installs-within d [] legal id s = λ is. absurd (cc)
installs-within d (e ∷ es) legal id s = let p : Place = place_of d es e.worker in
    cond_both (is_install e.act id) (Some (slot_of p)) (slot_with d id es) (λ o. o ≡ Some s → s < d.slots)
    (λ this is.
    let ok : IsAllowed d (state_after d es) e.worker (Install id) = subst (IsAllowed d (state_after d es) e.worker) (install-is e.act id this) legal.1 in
    let in_slot : ok.0 < d.slots = subst (IsPlaceWithin d) ok.2 ((within d es legal.2).places e.worker) in
    subst (λ k. k < d.slots) (sym (ap slot_of ok.2) ∙ ap (λ o. unwrap_or o 0) is) in_slot)
    (λ other. installs-within d es legal.2 id s)

claimed-within : (d : Shape) (w : ℕ) (a : Act) (p : Place) (id : ℕ) (ms : List Morsel) → w < d.workers → All (λ (m : Morsel). m.worker < d.workers) ms
    → All (λ (m : Morsel). m.worker < d.workers) (claims_after w a p id ms)
claimed-within d w (ClaimRange n from to) p id ms low all = let m : Morsel = record { worker = w; from = from; to = to } in
    cond_both (is_inside p id) (m ∷ ms) ms (All (λ (m : Morsel). m.worker < d.workers)) (λ t. All-cons (λ (m : Morsel). m.worker < d.workers) m ms low all)
    (λ f. all)
claimed-within d w _ p id ms low all = all

pub claims-within : (d : Shape) (h : List Entry) → IsLegal d h → AreClaimsWithin d h
claims-within d [] legal id = All-nil (λ (m : Morsel). m.worker < d.workers)
claims-within d (e ∷ es) legal id = claimed-within d e.worker e.act (place_of d es e.worker) id (claims_of d id es) legal.0 (claims-within d es legal.2 id)
