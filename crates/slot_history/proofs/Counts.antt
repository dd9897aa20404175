-- Each task set is installed once, and each query admitted once. It rules out a shut that two workers win.
use Rattle.std.proofs.Common.{◌≡◌, ◌≢◌, ℕ, ◌+◌, ◌<◌, ◌≤◌, Bool, true, false, cond, eqb, ◌&&◌, min}
use Rattle.std.proofs.Common.{List, [], ◌∷◌, Option, Some, None, refl, sym, ap, ◌∙◌, subst, ⊎_elim}
use Rattle.std.proofs.Common.{arith, eqb-true}
use Rattle.std.specs.Prelude.{unwrap_or, IsSome}
use Rattle.std.proofs.lemmas.Bool.{cases_Bool, cases_lt, and_parts, and_left}
use Rattle.slot_history.specs.declared.shape.Shape.{Shape}
use Rattle.slot_history.specs.declared.act.Act.{Act}
use Rattle.slot_history.specs.declared.act.Act.TheVariants.{PayLast, SweepLast, AdmitGot, Install}
use Rattle.slot_history.specs.declared.act.Entry.{Entry}
use Rattle.slot_history.specs.declared.place.Place.{Place}
use Rattle.slot_history.specs.States.{TaskSet, Ending, Shut, ObjectState, slot_of, id_at, held_at}
use Rattle.slot_history.specs.States.{task_of, is_shut}
use Rattle.slot_history.specs.Steps.{admitted_after, state_after}
use Rattle.slot_history.specs.Allowed.{IsAllowed}
use Rattle.slot_history.specs.Histories.{IsLegal, Tiles, claims_of, place_of, is_install}
use Rattle.slot_history.specs.Histories.{installs_of, is_admit, admits_of, is_last, lasts_of}
use Rattle.slot_history.specs.Histories.{total_of, slot_with}
use Rattle.slot_history.specs.Table.{IsTable}
use Rattle.slot_history.specs.Lives.{book_of, Life, Never, Runs, Done, Tally, done, life_of}
use Rattle.slot_history.specs.Lives.{tally_of, Counts, CountsOf, has_task, IsRunning, IsSlotBook}
use Rattle.slot_history.specs.Laws.{OnlyOnce}
use Rattle.slot_history.proofs.Sets.{pick, some-unwrapped}
use Rattle.slot_history.proofs.Table.{table}
use Rattle.slot_history.proofs.Cursors.{cursors}
use Rattle.slot_history.proofs.Holdings.{slots-sound}
use Rattle.slot_history.proofs.Book.{book, paying-slot, asking-slot, install-fresh}
use Rattle.slot_history.proofs.BookSteps.{running-life}

-- ---- the life of a task set, by the calls that make it

pub install-is : (a : Act) (id : ℕ) → is_install a id ≡ true → a ≡ Install id
install-is (Install jd) id h = ap Install (eqb-true jd id h)
install-is _ id h = absurd (cc)

install-not-last : (a : Act) (id : ℕ) → is_install a id ≡ true → is_last a ≡ false
install-not-last (Install jd) id h = refl
install-not-last _ id h = absurd (cc)

-- where an id is installed, it never was before, and the total is set
pub install-never : (d : Shape) (h : List Entry) (w : ℕ) (a : Act) (id : ℕ) → IsLegal d h → w < d.workers → IsAllowed d (state_after d h) w a
    → is_install a id ≡ true
    → (life_of d id h ≡ Never) × IsSome (held_at (place_of d h w)).total
install-never d h w a id legal low ok this = let S : ObjectState = state_after d h in
    subst (λ b. IsAllowed d S w b → (life_of d id h ≡ Never) × IsSome (held_at (S.places w)).total) (sym (install-is a id this))
    (λ fine. (
      (install-fresh d S w id (book_of d h) low (table d h legal) (slots-sound d h legal) fine (book d h legal)).never,
      subst (λ p. IsSome (held_at p).total) (sym fine.2) fine.3.has_total,
    )) ok

-- a task set that a slot has, runs there
pub slot-runs : (d : Shape) (h : List Entry) → IsLegal d h → (s : ℕ) → has_task ((state_after d h).slots s) ≡ true
    → let t = task_of ((state_after d h).slots s) in life_of d t.id h ≡ Runs s t.total
slot-runs d h legal s has = running-life (book_of d h) s ((state_after d h).slots s) has ((book d h legal).slot s)

-- where a call finalises an id, its task set is shut in the slot that its worker names
last-slot : (d : Shape) (S : ObjectState) (w : ℕ) (a : Act) → w < d.workers → IsTable d S → IsAllowed d S w a → is_last a ≡ true
    → (t : TaskSet) × (e : Ending) × (S.slots (slot_of (S.places w)) ≡ Shut t e) × (t.id ≡ id_at (S.places w))
last-slot d S w PayLast low tab ok this = subst (λ p. (t : TaskSet) × (e : Ending) × (S.slots (slot_of p) ≡ Shut t e) × (t.id ≡ id_at p)) (sym ok.2)
    (paying-slot d S tab w ok.0 ok.1 low ok.2)
last-slot d S w SweepLast low tab ok this = subst (λ p. (t : TaskSet) × (e : Ending) × (S.slots (slot_of p) ≡ Shut t e) × (t.id ≡ id_at p)) (sym ok.4)
    (asking-slot d S tab w ok.0 ok.1 ok.2 ok.3 low ok.4)
last-slot d S w _ low tab ok this = absurd (cc)

-- the task set that a call finalises ran, in the slot of the call, with what was claimed of it
pub last-runs : (d : Shape) (h : List Entry) (w : ℕ) (a : Act) (id : ℕ) → IsLegal d h → w < d.workers → IsAllowed d (state_after d h) w a → is_last a ≡ true
    → id_at (place_of d h w) ≡ id
    → (t : TaskSet) × (life_of d id h ≡ Runs (slot_of (place_of d h w)) t.total) × Tiles (claims_of d id h) (min t.cursor t.total) × (t.total ≤ t.cursor)
last-runs d h w a id legal low ok this at =
    let S : ObjectState = state_after d h in
    let r = last-slot d S w a low (table d h legal) ok this in
    let s : ℕ = slot_of (S.places w) in
    let t : TaskSet = r.0 in
    let k : IsRunning (book_of d h) s t =
    subst (IsSlotBook (book_of d h) s) r.2 ((book d h legal).slot s) in
    let is : t.id ≡ id = r.3 ∙ at in (
      t,
      ap (λ j. life_of d j h) (sym is) ∙ k.lives,
      subst (λ j. Tiles (claims_of d j h) (min t.cursor t.total)) is k.tiles,
      subst (λ x. (task_of x).total ≤ (task_of x).cursor) r.2 ((cursors d h legal).shut s (ap is_shut r.2)),
    )

-- ---- counts

counts-installed : (l : Life) (c : Tally) (s : ℕ) (o : Option ℕ) → l ≡ Never → IsSome o → Counts l c
    → Counts (Runs s (unwrap_or o 0)) (record { installs = 1 + c.installs; lasts = 0 + c.lasts; total = o; slot = Some s })
counts-installed l c s o new some_total k = let r : Counts Never c = subst (λ z. Counts z c) new k in
    (let e : c.installs ≡ 0 = r.0 in omega arith, let e : c.lasts ≡ 0 = r.1 in omega arith, some-unwrapped o 0 some_total, refl)

counts-last : (l : Life) (c : Tally) (s n : ℕ) → l ≡ Runs s n → Counts l c → Counts (done l) (record c { installs = 0 + c.installs; lasts = 1 + c.lasts })
counts-last l c s n runs k = let r : Counts (Runs s n) c = subst (λ z. Counts z c) runs k in
    subst (λ z. Counts (done z) (record c { installs = 0 + c.installs; lasts = 1 + c.lasts })) (sym runs)
    (let e : c.installs ≡ 1 = r.0 in omega arith, let e : c.lasts ≡ 0 = r.1 in omega arith, r.2, subst IsSome (sym r.3) refl)

counts-still : (l : Life) (c : Tally) → Counts l c → Counts l (record c { installs = 0 + c.installs; lasts = 0 + c.lasts })
counts-still Never c k = (let e : c.installs ≡ 0 = k.0 in omega arith, let e : c.lasts ≡ 0 = k.1 in omega arith, k.2, k.3)
counts-still (Runs s n) c k = (let e : c.installs ≡ 1 = k.0 in omega arith, let e : c.lasts ≡ 0 = k.1 in omega arith, k.2, k.3)
counts-still (Done n) c k = (let e : c.installs ≡ 1 = k.0 in omega arith, let e : c.lasts ≡ 1 = k.1 in omega arith, k.2, k.3)

-- after one more call, by whether it installs the id and whether it finalises it
abbrev tally_after : Place → Tally → Bool → Bool → Tally
tally_after p c installed last = record {
  installs = cond installed 1 0 + c.installs;
  lasts = cond last 1 0 + c.lasts;
  total = cond installed (held_at p).total c.total;
  slot = cond installed (Some (slot_of p)) c.slot;
}

abbrev CountsAfter : Place → Life → Tally → Bool → Bool → Type 0
CountsAfter p l c installed last =
    Counts (cond installed (Runs (slot_of p) (unwrap_or (held_at p).total 0)) (cond last (done l) l)) (tally_after p c installed last)

counts-next : (a : Act) (p : Place) (id : ℕ) (l : Life) (c : Tally)
    → (is_install a id ≡ true → (l ≡ Never) × IsSome (held_at p).total)
    → ((is_last a && eqb (id_at p) id) ≡ true → (s : ℕ) × (n : ℕ) × (l ≡ Runs s n))
    → Counts l c → CountsAfter p l c (is_install a id) (is_last a && eqb (id_at p) id)
counts-next a p id l c new runs k = ⊎_elim
    (λ this. let r = new this in
    let not_last : (is_last a && eqb (id_at p) id) ≡ false = and_left (is_last a) (eqb (id_at p) id) (install-not-last a id this) in
    subst (λ b. CountsAfter p l c b (is_last a && eqb (id_at p) id)) (sym this)
    (subst (CountsAfter p l c true) (sym not_last) (counts-installed l c (slot_of p) (held_at p).total r.0 r.1 k)))
    (λ other. subst (λ b. CountsAfter p l c b (is_last a && eqb (id_at p) id)) (sym other) (⊎_elim
    (λ last. let r = runs last in subst (CountsAfter p l c false) (sym last) (counts-last l c r.0 r.1 r.2 k))
    (λ none. subst (CountsAfter p l c false) (sym none) (counts-still l c k))
    (cases_Bool (is_last a && eqb (id_at p) id))))
    (cases_Bool (is_install a id))

pub counts : (d : Shape) (h : List Entry) → IsLegal d h → CountsOf d h
counts d [] legal id = (refl, refl, refl, refl)
counts d (e ∷ es) legal id = let p : Place = place_of d es e.worker in counts-next e.act p id (life_of d id es) (tally_of d id es)
    (λ this. install-never d es e.worker e.act id legal.2 legal.0 legal.1 this)
    (λ last. let both = and_parts (is_last e.act) (eqb (id_at p) id) last in
    let r = last-runs d es e.worker e.act id legal.2 legal.0 legal.1 both.0 (eqb-true (id_at p) id both.1) in
    (slot_of p, r.0.total, r.1))
    (counts d es legal.2 id)

-- ---- what counts say of a life, and a life of counts

most : (l : Life) (c : Tally) → Counts l c → (c.installs ≤ 1) × (c.lasts ≤ 1)
most Never c k = (let e : c.installs ≡ 0 = k.0 in omega arith, let e : c.lasts ≡ 0 = k.1 in omega arith)
most (Runs s n) c k = (let e : c.installs ≡ 1 = k.0 in omega arith, let e : c.lasts ≡ 0 = k.1 in omega arith)
most (Done n) c k = (let e : c.installs ≡ 1 = k.0 in omega arith, let e : c.lasts ≡ 1 = k.1 in omega arith)

done-by : (l : Life) (c : Tally) → Counts l c → 0 < c.lasts → (n : ℕ) × (l ≡ Done n) × (c.total ≡ Some n) × IsSome c.slot
done-by Never c k past = absurd (let e : c.lasts ≡ 0 = k.1 in omega arith)
done-by (Runs s n) c k past = absurd (let e : c.lasts ≡ 0 = k.1 in omega arith)
done-by (Done n) c k past = (n, refl, k.2, k.3)

runs-by : (l : Life) (c : Tally) (s : ℕ) → Counts l c → c.lasts ≡ 0 → c.slot ≡ Some s → (n : ℕ) × (l ≡ Runs s n)
runs-by Never c s k none at = absurd (let e : None ≡ Some s = sym k.3 ∙ at in cc)
runs-by (Runs r n) c s k none at = (n, let e : Some r ≡ Some s = sym k.3 ∙ at in ap (λ j. Runs j n) (cc))
runs-by (Done n) c s k none at = absurd (let e : c.lasts ≡ 1 = k.1 in let z : c.lasts ≡ 0 = none in omega arith)

-- a task set was never installed, or was so once, with a total
data IsInstalled (l : Life) (c : Tally) : Type 0 where
  never : l ≡ Never → c.installs ≡ 0 → c.total ≡ None → c.slot ≡ None → IsInstalled l c
  once : (n : ℕ) → l ≢ Never → c.installs ≡ 1 → c.total ≡ Some n → IsInstalled l c

installed-by : (l : Life) (c : Tally) → Counts l c → IsInstalled l c
installed-by Never c k = never refl k.0 k.2 k.3
installed-by (Runs s n) c k = once n (λ e. absurd (cc)) k.0 k.2
installed-by (Done n) c k = once n (λ e. absurd (cc)) k.0 k.2

module _ (d : Shape) (id : ℕ) (h : List Entry) (legal : IsLegal d h) where
  abbrev c : Tally
  c = tally_of d id h

  pub counts-most : (installs_of id h ≤ 1) × (lasts_of d id h ≤ 1)
  counts-most = most (life_of d id h) c (counts d h legal id)

  pub counts-done : 0 < lasts_of d id h → (n : ℕ) × (life_of d id h ≡ Done n) × (total_of d id h ≡ Some n) × IsSome (slot_with d id h)
  counts-done past = done-by (life_of d id h) c (counts d h legal id) past

  pub counts-runs : (s : ℕ) → lasts_of d id h ≡ 0 → slot_with d id h ≡ Some s → (n : ℕ) × (life_of d id h ≡ Runs s n)
  counts-runs s none at = runs-by (life_of d id h) c s (counts d h legal id) none at

  -- by the life of the task set
  pub counts-as : (l : Life) → life_of d id h ≡ l → Counts l c
  counts-as l is = subst (λ z. Counts z c) is (counts d h legal id)

  installed : IsInstalled (life_of d id h) c
  installed = installed-by (life_of d id h) c (counts d h legal id)

  pub counts-never : installs_of id h ≡ 0 → life_of d id h ≡ Never
  counts-never none = elim installed as (λ i. life_of d id h ≡ Never) [
    | never is none' total slot ↦ is
    | once n lives one total ↦ absurd (omega arith)
  ]

  pub lives-installed : life_of d id h ≢ Never → 0 < installs_of id h
  lives-installed lives = elim installed as (λ i. 0 < installs_of id h) [
    | never is none total slot ↦ absurd (lives is)
    | once n lives' one total ↦ omega arith
  ]

  pub total-installed : (n : ℕ) → total_of d id h ≡ Some n → 0 < installs_of id h
  total-installed n is = elim installed as (λ i. 0 < installs_of id h) [
    | never e none total slot ↦ absurd (let r : None ≡ Some n = sym total ∙ is in cc)
    | once m lives one total ↦ omega arith
  ]

  pub slot-installed : (s : ℕ) → slot_with d id h ≡ Some s → 0 < installs_of id h
  slot-installed s is = elim installed as (λ i. 0 < installs_of id h) [
    | never e none total slot ↦ absurd (let r : None ≡ Some s = sym slot ∙ is in cc)
    | once m lives one total ↦ omega arith
  ]

  pub installed-total : 0 < installs_of id h → (n : ℕ) × (total_of d id h ≡ Some n)
  installed-total was = elim installed as (λ i. (n : ℕ) × (total_of d id h ≡ Some n)) [
    | never e none total slot ↦ absurd (omega arith)
    | once n lives one total ↦ (n, total)
  ]

-- ---- each query is admitted once

-- where m queries were admitted, those below m were so once
abbrev Admits : ℕ → ℕ → ℕ → Type 0
Admits q m n = (q < m → n ≡ 1) × (m ≤ q → n ≡ 0)

admits-more : (p q m n : ℕ) → m ≡ p → Admits q m n → Admits q (m + 1) (cond (eqb p q) 1 0 + n)
admits-more p q m n at k = pick p q 1 0 (λ b. Admits q (m + 1) (b + n))
    (λ e. let z : n ≡ 0 = k.1 (omega arith) in (λ h. omega arith, λ h. omega arith))
    (λ ne. (λ h. let z : n ≡ 1 = k.0 (omega arith) in omega arith, λ h. let z : n ≡ 0 = k.1 (omega arith) in omega arith))

admits-same : (q m n : ℕ) → Admits q m n → Admits q m (0 + n)
admits-same q m n k = (λ h. let z : n ≡ 1 = k.0 h in omega arith, λ h. let z : n ≡ 0 = k.1 h in omega arith)

admits-next : (d : Shape) (S : ObjectState) (w : ℕ) (a : Act) (q n : ℕ) → IsAllowed d S w a → Admits q S.admitted n
    → Admits q (admitted_after a S.admitted) (cond (is_admit a q) 1 0 + n)
admits-next d S w (AdmitGot p) q n ok k = admits-more p q S.admitted n ok.5 k
admits-next d S w _ q n ok k = admits-same q S.admitted n k

admits : (d : Shape) (q : ℕ) (h : List Entry) → IsLegal d h → Admits q (state_after d h).admitted (admits_of q h)
admits d q [] legal = (λ h. absurd (omega arith), λ h. refl)
admits d q (e ∷ es) legal = admits-next d (state_after d es) e.worker e.act q (admits_of q es) legal.1 (admits d q es legal.2)

admits-most : (q m n : ℕ) → Admits q m n → n ≤ 1
admits-most q m n k = ⊎_elim (λ low. let e : n ≡ 1 = k.0 low in omega arith) (λ high. let e : n ≡ 0 = k.1 high in omega arith) (cases_lt q m)

pub only-once : (d : Shape) (h : List Entry) → IsLegal d h → OnlyOnce d h
only-once d h legal = (
  λ id. (counts-most d id h legal).0,
  λ q. admits-most q (state_after d h).admitted (admits_of q h) (admits d q h legal),
)
