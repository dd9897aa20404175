-- The book of task sets holds after every legal history. It rules out an id that is installed
-- twice, and a query that two slots serve.
use Rattle.std.proofs.Common.{◌≡◌, ℕ, ◌/◌, ◌<◌, ◌≤◌, true, List, [], ◌∷◌, Some, None, refl, sym, ap}
use Rattle.std.proofs.Common.{◌∙◌, subst, ⊎_elim, eq-eqb}
use Rattle.std.specs.Prelude.{unwrap_or}
use Rattle.slot_history.specs.declared.shape.Shape.{Shape}
use Rattle.slot_history.specs.declared.shape.TheConstants.{STAGES}
use Rattle.slot_history.specs.declared.act.Act.{Act}
use Rattle.slot_history.specs.declared.act.Act.TheVariants.{Enter, ClaimRange, ClaimUsed, ShutWon}
use Rattle.slot_history.specs.declared.act.Act.TheVariants.{PayLast, PayDone, MarkMarked}
use Rattle.slot_history.specs.declared.act.Act.TheVariants.{MarkMissed, SweepLast, SweepOthers}
use Rattle.slot_history.specs.declared.act.Act.TheVariants.{ReserveGot, ReserveTaken, AdmitGot}
use Rattle.slot_history.specs.declared.act.Act.TheVariants.{NoteDone, SetTotal, Install, Release}
use Rattle.slot_history.specs.declared.act.Entry.{Entry}
use Rattle.slot_history.specs.declared.place.Held.{Held}
use Rattle.slot_history.specs.declared.place.Place.{Place}
use Rattle.slot_history.specs.declared.place.Place.TheVariants.{Asking, Owing}
use Rattle.slot_history.specs.Sets.{upd}
use Rattle.slot_history.specs.States.{TaskSet, Ending, SlotState, Empty, Open, Shut, ObjectState}
use Rattle.slot_history.specs.States.{slot_of, task_of, id_of, has_own_cell, is_inside}
use Rattle.slot_history.specs.Steps.{site, slot_after, claimed, finalised_by, held_on, opened}
use Rattle.slot_history.specs.Steps.{admitted_after, state_after}
use Rattle.slot_history.specs.Allowed.{IsAllowed}
use Rattle.slot_history.specs.Histories.{IsLegal, claims_after}
use Rattle.slot_history.specs.Table.{duty_of, Meets, IsTable}
use Rattle.slot_history.specs.Bounds.{IsReservation, IsFinalisation, IsSlotSound, AreSlotsSound}
use Rattle.slot_history.specs.Lives.{life_after, has_task, Book, book_of, IsSlotBook, IsBook}
use Rattle.slot_history.specs.Lives.{IsBookOf}
use Rattle.slot_history.proofs.Duties.{asking-leads, leads-slot, owing-owes, owes-slot}
use Rattle.slot_history.proofs.Table.{table}
use Rattle.slot_history.proofs.Places.{inside-slots}
use Rattle.slot_history.proofs.Growth.{open-or-shut}
use Rattle.slot_history.proofs.Holdings.{holder-slot, slots-sound}
use Rattle.slot_history.proofs.BookSteps.{claimed_in, one_admitted, installed_in, ended_in}
use Rattle.slot_history.proofs.BookSteps.{alike-self, alike-shut, alike-ended, alike-held}
use Rattle.slot_history.proofs.BookSteps.{alike-used, alike-reserved, alike-released, book-alike}
use Rattle.slot_history.proofs.BookSteps.{book-range, running-low, book-admitted, IsFresh}
use Rattle.slot_history.proofs.BookSteps.{fresh-reserved, fresh-finishing, book-installed}
use Rattle.slot_history.proofs.BookSteps.{book-last}

-- ---- any call

-- the book after a call
abbrev book_after : ℕ → Act → Place → Book → Book
book_after w a p B = record {
  admitted = admitted_after a B.admitted;
  life = λ id. life_after a p id (B.life id);
  claims = λ id. claims_after w a p id (B.claims id);
}

abbrev Books : Shape → ObjectState → ℕ → Act → Book → Place → Type 0
Books d S w a B p = IsBook (book_after w a p B) (upd S.slots (site a p) (slot_after d w a (S.slots (site a p))))

pub task-id : (x : SlotState) → has_task x ≡ true → (task_of x).id ≡ id_of x
task-id (Open t) h = refl
task-id (Shut t e) h = refl
task-id _ h = absurd (cc)

-- the slot at which a worker is inside runs its task set
pub inside-task : (d : Shape) (S : ObjectState) → IsTable d S → (w s id : ℕ) → w < d.workers → has_own_cell (S.places w) s ≡ true
    → is_inside (S.places w) id ≡ true → (has_task (S.slots s) ≡ true) × ((task_of (S.slots s)).id ≡ id)
inside-task d S tab w s id low cell h = let r = inside-slots d S tab s w id low cell h in let t : has_task (S.slots s) ≡ true = open-or-shut (S.slots s) r.0 in
    (t, task-id (S.slots s) t ∙ r.1)

-- the slot of a worker that has to pay, and of a coordinator that asks, is shut with the id that
-- the worker names
pub paying-slot : (d : Shape) (S : ObjectState) → IsTable d S → (w s id : ℕ) → w < d.workers → S.places w ≡ Owing s id → (t : TaskSet) × (e : Ending)
    × (S.slots s ≡ Shut t e) × (t.id ≡ id)
paying-slot d S tab w s id low at = let r = owes-slot (S.slots s) w id
    (owing-owes d s id (duty_of (S.slots s) w) (subst (Meets d s (duty_of (S.slots s) w)) at (tab.duty s w low))) in (r.0, r.1, r.2, r.3)

pub asking-slot : (d : Shape) (S : ObjectState) → IsTable d S → (w s id n m : ℕ) → w < d.workers → S.places w ≡ Asking s id n m → (t : TaskSet)
    × (e : Ending) × (S.slots s ≡ Shut t e) × (t.id ≡ id)
asking-slot d S tab w s id n m low at =
    let k = asking-leads d s id n m (duty_of (S.slots s) w) (subst (Meets d s (duty_of (S.slots s) w)) at (tab.duty s w low)) in
    let r = leads-slot (S.slots s) w id k.0 k.1 in (r.0, k.0, r.1, r.2)

next-range : (d : Shape) (S : ObjectState) (w n from to : ℕ) (B : Book) → w < d.workers → IsTable d S → IsAllowed d S w (ClaimRange n from to)
    → IsBook B S.slots → Books d S w (ClaimRange n from to) B (S.places w)
next-range d S w n from to B low tab ok book =
    let s : ℕ = ok.0 in let id : ℕ = ok.1 in
    let r = inside-task d S tab w s id low (ap (λ p. has_own_cell p s) ok.2 ∙ eq-eqb s s refl) (ap (λ p. is_inside p id) ok.2 ∙ eq-eqb id id refl) in
    subst (Books d S w (ClaimRange n from to) B) (sym ok.2)
    (subst (λ j. IsBook (claimed_in B j (record { worker = w; from = from; to = to })) (upd S.slots s (claimed (S.slots s) n))) r.1
    (book-range B S.slots s w n from to r.0 ok.5 ok.6 ok.7 ok.3 book))

next-admitted : (d : Shape) (S : ObjectState) (w q : ℕ) (B : Book) → B.admitted ≡ S.admitted → w < d.workers → IsTable d S → AreSlotsSound d S
    → IsAllowed d S w (AdmitGot q) → IsBook B S.slots → Books d S w (AdmitGot q) B (S.places w)
next-admitted d S w q B same low tab sound ok book = let s : ℕ = ok.0 in let h : Held = ok.1 in
    subst (Books d S w (AdmitGot q) B) (sym ok.2)
    (subst (λ j. IsBook (one_admitted B) (upd S.slots s (held_on (AdmitGot j) (S.slots s)))) (same ∙ ok.5)
    (⊎_elim (λ e. book-admitted B S.slots s w h e ok.3 book)
    (λ r. absurd (let k : IsFinalisation r.0 h = subst IsSlotSound r.1 (sound s) in let f : None ≡ Some (r.0 / STAGES) = sym ok.3 ∙ k.query in cc))
    (holder-slot d S tab w s h low ok.2)))

pub install-fresh : (d : Shape) (S : ObjectState) (w id : ℕ) (B : Book) → w < d.workers → IsTable d S → AreSlotsSound d S
    → (ok : IsAllowed d S w (Install id)) → IsBook B S.slots → IsFresh B (S.slots ok.0) id
install-fresh d S w id B low tab sound ok book = let s : ℕ = ok.0 in let h : Held = ok.1 in ⊎_elim
    (λ e. let k : IsReservation h = subst IsSlotSound e (sound s) in
    subst (λ x. IsFresh B x id) (sym e) (fresh-reserved B s w id h ok.3 ok.4 k.again (subst (IsSlotBook B s) e (book.slot s))))
    (λ r. let k : IsFinalisation r.0 h = subst IsSlotSound r.1 (sound s) in
    subst (λ x. IsFresh B x id) (sym r.1)
    (fresh-finishing B s w id r.0 h ok.3 ok.4 k (running-low B S.slots book r.0) (subst (IsSlotBook B s) r.1 (book.slot s))))
    (holder-slot d S tab w s h low ok.2)

next-installed : (d : Shape) (S : ObjectState) (w id : ℕ) (B : Book) → w < d.workers → IsTable d S → AreSlotsSound d S → IsAllowed d S w (Install id)
    → IsBook B S.slots → Books d S w (Install id) B (S.places w)
next-installed d S w id B low tab sound ok book = let s : ℕ = ok.0 in let h : Held = ok.1 in
    let total : ℕ = unwrap_or h.total 0 in
    let new : SlotState = Open (record { id = id; total = total; cursor = 0 }) in
    let is : opened id (S.slots s) ≡ new = ⊎_elim (λ e. ap (opened id) e) (λ r. ap (opened id) r.1) (holder-slot d S tab w s h low ok.2) in
    subst (Books d S w (Install id) B) (sym ok.2)
    (subst (λ y. IsBook (installed_in B id s total) (upd S.slots s y)) (sym is)
    (book-installed B S.slots s id total (install-fresh d S w id B low tab sound ok book) book))

-- a call with the answer that the task set is finalised now, of a worker that names its slot and id
next-last : (S : ObjectState) (s w id : ℕ) (t : TaskSet) (e : Ending) (B : Book) → S.slots s ≡ Shut t e → t.id ≡ id → IsBook B S.slots
    → IsBook (ended_in B id) (upd S.slots s (finalised_by w (S.slots s)))
next-last S s w id t e B is same book = subst (λ i. IsBook (ended_in B i) (upd S.slots s (finalised_by w (S.slots s)))) same
    (book-last B S.slots s w t e is book)

pub book-next : (d : Shape) (S : ObjectState) (w : ℕ) (a : Act) (B : Book) → B.admitted ≡ S.admitted → w < d.workers → IsTable d S
    → AreSlotsSound d S → IsAllowed d S w a → IsBook B S.slots → Books d S w a B (S.places w)
book-next d S w (ClaimRange n from to) B same low tab sound ok book = next-range d S w n from to B low tab ok book
book-next d S w (ClaimUsed n) B same low tab sound ok book = let at : ok.0 ≡ slot_of (S.places w) = sym (ap slot_of ok.2) in
    book-alike B S.slots (slot_of (S.places w)) _
    (alike-used _ n (subst (λ j. (task_of (S.slots j)).total ≤ (task_of (S.slots j)).cursor) at ok.5)) book
book-next d S w ShutWon B same low tab sound ok book = book-alike B S.slots (slot_of (S.places w)) _ (alike-shut _ w) book
book-next d S w PayLast B same low tab sound ok book = subst (Books d S w PayLast B) (sym ok.2)
    (let r = paying-slot d S tab w ok.0 ok.1 low ok.2 in next-last S ok.0 w ok.1 r.0 r.1 B r.2 r.3 book)
book-next d S w SweepLast B same low tab sound ok book = subst (Books d S w SweepLast B) (sym ok.4)
    (let r = asking-slot d S tab w ok.0 ok.1 ok.2 ok.3 low ok.4 in next-last S ok.0 w ok.1 r.0 r.1 B r.2 r.3 book)
book-next d S w PayDone B same low tab sound ok book = book-alike B S.slots (slot_of (S.places w)) _ (alike-ended d w PayDone _) book
book-next d S w MarkMarked B same low tab sound ok book = book-alike B S.slots (slot_of (S.places w)) _ (alike-ended d w MarkMarked _) book
book-next d S w MarkMissed B same low tab sound ok book = book-alike B S.slots (slot_of (S.places w)) _ (alike-ended d w MarkMissed _) book
book-next d S w (SweepOthers n) B same low tab sound ok book = book-alike B S.slots (slot_of (S.places w)) _ (alike-ended d w (SweepOthers n) _) book
book-next d S w (ReserveGot s) B same low tab sound ok book = book-alike B S.slots s _ (alike-reserved (S.slots s) w ok.2) book
book-next d S w (AdmitGot q) B same low tab sound ok book = next-admitted d S w q B same low tab sound ok book
book-next d S w (NoteDone k) B same low tab sound ok book =
    book-alike B S.slots (slot_of (S.places w)) _ (alike-held (NoteDone k) _ (λ h. refl)) book
book-next d S w (SetTotal t) B same low tab sound ok book =
    book-alike B S.slots (slot_of (S.places w)) _ (alike-held (SetTotal t) _ (λ h. refl)) book
book-next d S w (Install id) B same low tab sound ok book = next-installed d S w id B low tab sound ok book
book-next d S w Release B same low tab sound ok book = subst (Books d S w Release B) (sym ok.2)
    (book-alike B S.slots ok.0 Empty (alike-released (S.slots ok.0) w ok.1 (holder-slot d S tab w ok.0 ok.1 low ok.2)) book)
book-next d S w (Enter s) B same low tab sound ok book = book-alike B S.slots s _ (alike-self _) book
book-next d S w (ReserveTaken s word) B same low tab sound ok book = book-alike B S.slots s _ (alike-self _) book
book-next d S w _ B same low tab sound ok book = book-alike B S.slots (slot_of (S.places w)) _ (alike-self _) book

pub book : (d : Shape) (h : List Entry) → IsLegal d h → IsBookOf d h
book d [] legal = record { slot = λ s. tt; runs = λ id s total h. absurd (cc); never = λ id h. refl; late = λ id h. refl; apart = λ s t q h g. absurd (cc) }
book d (e ∷ es) legal = book-next d (state_after d es) e.worker e.act (book_of d es) refl legal.0 (table d es legal.2) (slots-sound d es legal.2) legal.1
    (book d es legal.2)
