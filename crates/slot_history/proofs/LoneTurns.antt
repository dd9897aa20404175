-- What a worker meets that calls alone, while all others are free.
use Rattle.std.proofs.Common.{◌≡◌, ◌≢◌, ℕ, ◌<◌, Bool, true, false, List, [], ◌∷◌, ◌++◌, refl, sym}
use Rattle.std.proofs.Common.{ap, ◌∙◌, subst, inr, ⊎_elim}
use Rattle.std.proofs.lemmas.Bool.{cases_lt, false_from_ne_true}
use mathlib.Core.Logic.{dite}
use mathlib.Core.Bool.{true≢false}
use native.Mathlib.Decide.{ℕ_discrete}
use Rattle.slot_history.specs.declared.shape.Shape.{Shape}
use Rattle.slot_history.specs.declared.act.Act.{Act}
use Rattle.slot_history.specs.declared.act.Act.TheVariants.{ClaimRange, ClaimUsed, ShutWon}
use Rattle.slot_history.specs.declared.act.Act.TheVariants.{LookInvalid, ShutLost, LeaveOwe}
use Rattle.slot_history.specs.declared.act.Act.TheVariants.{PayLast, PayDone, MarkMarked}
use Rattle.slot_history.specs.declared.act.Act.TheVariants.{MarkMissed, SweepLast, SweepOthers}
use Rattle.slot_history.specs.declared.act.Act.TheVariants.{ReserveGot, AdmitGot, NoteDone}
use Rattle.slot_history.specs.declared.act.Act.TheVariants.{SetTotal, Install, Release}
use Rattle.slot_history.specs.declared.act.Entry.{Entry}
use Rattle.slot_history.specs.declared.place.Held.{Held}
use Rattle.slot_history.specs.declared.place.Place.{Place}
use Rattle.slot_history.specs.declared.place.Place.TheVariants.{Free, Entered, Used, Leading}
use Rattle.slot_history.specs.declared.place.Place.TheVariants.{Asking, Owing, Holding}
use Rattle.slot_history.specs.States.{TaskSet, Ending, SlotState, Reserved, Shut, Finishing}
use Rattle.slot_history.specs.States.{ObjectState, slot_of, id_of, is_shut, is_tagged, is_at, owes}
use Rattle.slot_history.specs.Steps.{site, next_asked, slot_after, ended, finalised_by, opened}
use Rattle.slot_history.specs.Steps.{next, state_after}
use Rattle.slot_history.specs.Allowed.{IsAllowed, debts, next_is_at}
use Rattle.slot_history.specs.Histories.{IsLegal, entry}
use Rattle.slot_history.specs.Bounds.{IsWithin}
use Rattle.slot_history.specs.Notices.{IsQuiet}
use Rattle.slot_history.specs.Table.{Leads, Owes, duty_of, Meets, IsLeading, IsChain, IsChainOf}
use Rattle.slot_history.specs.Table.{IsTable}
use Rattle.slot_history.specs.LoneTurns.{IsLone, needs_another, StaysLone, EndsQuiet, MeetsNobody}
use Rattle.slot_history.specs.LoneTurns.{RunMeetsNobody}
use Rattle.slot_history.proofs.Sets.{upd-else, upd-cases, some-counted}
use Rattle.slot_history.proofs.Duties.{end-leads, owes-duty, owing-owes, owes-slot, owes-claimed}
use Rattle.slot_history.proofs.Duties.{owes-shut, owes-held}
use Rattle.slot_history.proofs.Table.{table}
use Rattle.slot_history.proofs.Within.{within}
use Rattle.slot_history.proofs.Holdings.{holder-place}

-- ---- a lone worker

-- a free worker owes nothing
free-none : (d : Shape) (S : ObjectState) (s v : ℕ) → IsTable d S → v < d.workers → S.places v ≡ Free → owes (S.slots s) v ≡ true → ⊥
free-none d S s v ok low free owe =
    let m : Meets d s (Owes (id_of (S.slots s))) Free = subst
    (λ D. Meets d s D Free) (owes-duty d (S.slots s) v (ok.chain s) owe) (subst (Meets d s (duty_of (S.slots s) v)) free (ok.duty s v low)) in
    true≢false (sym m.1)

-- nor does anybody while one worker is alone
lone-none : (d : Shape) (S : ObjectState) (w s v : ℕ) → IsTable d S → IsLone d S w → v < d.workers → owes (S.slots s) v ≡ true → ⊥
lone-none d S w s v ok lone low owe = dite (ℕ_discrete v w)
    (λ e. true≢false (sym owe ∙ ap (owes (S.slots s)) e ∙ lone.unmarked s))
    (λ n. free-none d S s v ok low (lone.others v low n) owe)

-- a place of whoever shut a slot, until it has swept
abbrev leads : Place → Bool
leads (Leading s id) = true
leads (Asking s id asked marked) = true
leads _ = false

-- whoever meets the duty to lead is there
is-leading-leads : (d : Shape) (e : Ending) (p : Place) → IsLeading d e p → leads p ≡ true
is-leading-leads d e (Leading s id) h = refl
is-leading-leads d e (Asking s id asked marked) h = refl
is-leading-leads d e _ h = absurd h

-- whoever coordinates the end of a task set while one worker is alone is that worker
lone-ending : (d : Shape) (S : ObjectState) (w s : ℕ) (t : TaskSet) (e : Ending) → IsTable d S → IsLone d S w → S.slots s ≡ Shut t e → leads (S.places w) ≡ true
lone-ending d S w s t e ok lone is =
    let chain : IsChain d e = subst (IsChainOf d) is (ok.chain s) in
    elim (e.swept) as (λ b. e.swept ≡ b → leads (S.places w) ≡ true) [
      | true ↦ λ swept. let o = chain.one_owes swept in absurd (lone-none d S w s o.0 ok lone o.1 (ap (λ x. owes x o.0) is ∙ o.2))
      | false ↦ λ unswept.
          let c : ℕ = e.coordinator in
          let m : Meets d s (Leads t.id e) (S.places c) =
          subst (λ D. Meets d s D (S.places c)) (ap (λ x. duty_of x c) is ∙ end-leads t.id e c refl unswept) (ok.duty s c chain.coordinator) in
          dite (ℕ_discrete c w)
          (λ same. is-leading-leads d e (S.places w) (subst (λ u. IsLeading d e (S.places u)) same m.2))
          (λ other. absurd (subst (IsLeading d e) (lone.others c chain.coordinator other) m.2))
    ] refl

-- nor does another worker finalise a task set
lone-finishing : (d : Shape) (S : ObjectState) (w s id u : ℕ) (h : Held) → IsTable d S → IsLone d S w → S.slots s ≡ Finishing id u h → S.places w ≡ Holding s h
lone-finishing d S w s id u h ok lone is =
    let low : u < d.workers = subst (IsChainOf d) is (ok.chain s) in
    let at : S.places u ≡ Holding s h = holder-place d S ok s u h (inr (id, is)) in
    dite (ℕ_discrete u w) (λ e. ap S.places (sym e) ∙ at) (λ n. let free : S.places u ≡ Free = lone.others u low n in absurd (cc))

-- so a lone worker that has entered sees no task set that is shut or finalised
lone-look : (d : Shape) (S : ObjectState) (w s : ℕ) (x : SlotState) → IsTable d S → IsLone d S w → S.places w ≡ Entered s → S.slots s ≡ x → is_tagged x ≡ true
    → ⊥
lone-look d S w s (Shut t e) ok lone at is tagged = true≢false (sym (lone-ending d S w s t e ok lone is) ∙ ap leads at)
lone-look d S w s (Finishing id u h) ok lone at is tagged = let holds : S.places w ≡ Holding s h = lone-finishing d S w s id u h ok lone is in absurd (cc)
lone-look d S w s _ ok lone at is tagged = absurd (cc)

-- a lone worker comes to shut no task set that is shut
lone-shut : (d : Shape) (S : ObjectState) (w s id : ℕ) (x : SlotState) → IsTable d S → IsLone d S w → S.places w ≡ Used s id → S.slots s ≡ x → is_shut x ≡ true
    → ⊥
lone-shut d S w s id (Shut t e) ok lone at is shut = true≢false (sym (lone-ending d S w s t e ok lone is) ∙ ap leads at)
lone-shut d S w s id _ ok lone at is shut = absurd (cc)

-- it has nothing to pay
lone-owing : (d : Shape) (S : ObjectState) (w s id : ℕ) → IsTable d S → w < d.workers → IsLone d S w → S.places w ≡ Owing s id → ⊥
lone-owing d S w s id ok low lone at =
    let r = owes-slot (S.slots s) w id (owing-owes d s id _ (subst (Meets d s (duty_of (S.slots s) w)) at (ok.duty s w low))) in
    lone-none d S w s w ok lone low (ap (λ x. owes x w) r.2 ∙ r.6)

-- whoever is not the lone worker is free, and so at no slot
pub others-free : (d : Shape) (S : ObjectState) (w u : ℕ) → IsWithin d S → IsLone d S w → u ≢ w → S.places u ≡ Free
others-free d S w u within lone other = ⊎_elim (λ low. lone.others u low other) (λ high. within.others u high) (cases_lt u d.workers)

-- nobody is at a slot but the lone worker
lone-at : (d : Shape) (S : ObjectState) (w s v : ℕ) → IsWithin d S → IsLone d S w → is_at (S.places v) s ≡ true → is_at (S.places w) s ≡ true
lone-at d S w s v within lone there = dite (ℕ_discrete v w)
    (λ e. ap (λ u. is_at (S.places u) s) (sym e) ∙ there)
    (λ n. absurd (true≢false (sym there ∙ ap (λ p. is_at p s) (others-free d S w v within lone n))))

-- so the worker that is asked next is at the slot only if it is the one that asks
lone-asked : (d : Shape) (S : ObjectState) (w s : ℕ) (x : SlotState) → IsWithin d S → IsLone d S w → next_is_at d S s x ≡ true → is_at (S.places w) s ≡ true
lone-asked d S w s (Shut t e) within lone there = lone-at d S w s (next_asked d e) within lone there
lone-asked d S w s x within lone there = absurd (true≢false (sym there))

lone-answer : (d : Shape) (S : ObjectState) (w : ℕ) (a : Act) → IsTable d S → IsWithin d S → w < d.workers → IsLone d S w → IsAllowed d S w a
    → needs_another a ≡ false
lone-answer d S w LookInvalid ok within low lone fine = absurd (lone-look d S w fine.0 _ ok lone fine.1 refl fine.2)
lone-answer d S w ShutLost ok within low lone fine = absurd (lone-shut d S w fine.0 fine.1 _ ok lone fine.2 refl fine.3)
lone-answer d S w (LeaveOwe id) ok within low lone fine = absurd (true≢false (sym fine.1 ∙ lone.unmarked (slot_of (S.places w))))
lone-answer d S w PayLast ok within low lone fine = absurd (lone-owing d S w fine.0 fine.1 ok low lone fine.2)
lone-answer d S w PayDone ok within low lone fine = absurd (lone-owing d S w fine.0 fine.1 ok low lone fine.2)
lone-answer d S w MarkMarked ok within low lone fine = absurd
    (true≢false (sym (lone-asked d S w fine.0 _ within lone fine.6) ∙ ap (λ p. is_at p fine.0) fine.4))
lone-answer d S w (SweepOthers n) ok within low lone fine =
    let some : 0 < debts d (S.slots fine.0) = subst (λ k. 0 < k) fine.7 fine.6 in
    let r = some-counted d.workers (owes (S.slots fine.0)) some in absurd (lone-none d S w fine.0 r.0 ok lone r.1 r.2)
lone-answer d S w _ ok within low lone fine = refl

-- ---- runs of one worker

owes-finalised : (w : ℕ) (x : SlotState) (v : ℕ) → owes (finalised_by w x) v ≡ true → owes x v ≡ true
owes-finalised w (Shut t e) v h = absurd (true≢false (sym h))
owes-finalised w x v h = h

owes-missed : (d : Shape) (w : ℕ) (x : SlotState) (v : ℕ) → owes (ended d w MarkMissed x) v ≡ true → owes x v ≡ true
owes-missed d w (Shut t e) v h = h
owes-missed d w x v h = h

owes-opened : (id : ℕ) (x : SlotState) (v : ℕ) → owes (opened id x) v ≡ true → owes x v ≡ true
owes-opened id (Reserved u g) v h = h
owes-opened id (Finishing jd u g) v h = h
owes-opened id x v h = h

-- without meeting another, no call marks anybody
owes-after : (d : Shape) (w : ℕ) (a : Act) (x : SlotState) (v : ℕ) → needs_another a ≡ false → owes (slot_after d w a x) v ≡ true → owes x v ≡ true
owes-after d w (ClaimRange n from to) x v alone h = sym (owes-claimed x n v) ∙ h
owes-after d w (ClaimUsed n) x v alone h = sym (owes-claimed x n v) ∙ h
owes-after d w ShutWon x v alone h = sym (owes-shut w x v) ∙ h
owes-after d w PayLast x v alone h = absurd (true≢false alone)
owes-after d w PayDone x v alone h = absurd (true≢false alone)
owes-after d w MarkMarked x v alone h = absurd (true≢false alone)
owes-after d w MarkMissed x v alone h = owes-missed d w x v h
owes-after d w SweepLast x v alone h = owes-finalised w x v h
owes-after d w (SweepOthers n) x v alone h = absurd (true≢false alone)
owes-after d w (ReserveGot s) x v alone h = absurd (true≢false (sym h))
owes-after d w (AdmitGot q) x v alone h = sym (owes-held (AdmitGot q) x v) ∙ h
owes-after d w (NoteDone k) x v alone h = sym (owes-held (NoteDone k) x v) ∙ h
owes-after d w (SetTotal t) x v alone h = sym (owes-held (SetTotal t) x v) ∙ h
owes-after d w (Install id) x v alone h = owes-opened id x v h
owes-after d w Release x v alone h = absurd (true≢false (sym h))
owes-after d w _ x v alone h = h

-- a call of the lone worker leaves it so
lone-next : (d : Shape) (S : ObjectState) (w : ℕ) (a : Act) → needs_another a ≡ false → IsLone d S w → IsLone d (next d S w a) w
lone-next d S w a alone lone =
    let k : ℕ = site a (S.places w) in
    let y : SlotState = slot_after d w a (S.slots k) in record {
      others = λ v low n. upd-else S.places w _ v n ∙ lone.others v low n;
      unmarked = λ s. upd-cases S.slots k y s (λ x. owes x w ≡ false)
          (λ e. false_from_ne_true (owes y w) (λ h. true≢false (sym (owes-after d w a (S.slots k) w alone h) ∙ lone.unmarked k)))
          (λ n. lone.unmarked s);
    }

-- in a quiet state each worker is lone
quiet-lone : (d : Shape) (S : ObjectState) (w : ℕ) → IsTable d S → w < d.workers → IsQuiet d S → IsLone d S w
quiet-lone d S w ok low quiet = record {
  others = λ v v_low n. quiet v v_low;
  unmarked = λ s. false_from_ne_true (owes (S.slots s) w) (free-none d S s w ok low (quiet w low));
}

-- ---- after legal histories

pub meets-nobody : MeetsNobody
meets-nobody d w a h legal lone = lone-answer d (state_after d h) w a (table d h legal.2) (within d h legal.2) legal.0 lone legal.1

-- an entry of the worker, under its number
by-worker : (d : Shape) (w : ℕ) (e : Entry) (h : List Entry) → e.worker ≡ w → IsLegal d (e ∷ h) → IsLegal d (entry w e.act ∷ h)
by-worker d w e h own legal = subst (λ u. (u < d.workers) × IsAllowed d (state_after d h) u e.act × IsLegal d h) own legal

pub stays-lone : StaysLone
stays-lone d w [] old low legal quiet own = quiet-lone d (state_after d old) w (table d old legal) low quiet
stays-lone d w (e ∷ es) old low legal quiet own =
    let before : IsLone d (state_after d (es ++ old)) w = stays-lone d w es old low legal.2 quiet own.1 in
    let alone : needs_another e.act ≡ false = meets-nobody d w e.act (es ++ old) (by-worker d w e (es ++ old) own.0 legal) before in
    subst (λ u. IsLone d (next d (state_after d (es ++ old)) u e.act) w) (sym own.0) (lone-next d (state_after d (es ++ old)) w e.act alone before)

pub run-meets-nobody : RunMeetsNobody
run-meets-nobody d w [] old low legal quiet own = tt
run-meets-nobody d w (e ∷ es) old low legal quiet own = (
  meets-nobody d w e.act (es ++ old) (by-worker d w e (es ++ old) own.0 legal)
      (stays-lone d w es old low legal.2 quiet own.1),
  run-meets-nobody d w es old low legal.2 quiet own.1,
)

pub ends-quiet : EndsQuiet
ends-quiet d S w lone free v low = dite (ℕ_discrete v w) (λ e. ap S.places e ∙ free) (λ n. lone.others v low n)
