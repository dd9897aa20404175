-- What an object keeps follows its calls.
use Rattle.std.proofs.Common.{◌≡◌, ◌≢◌, ℕ, ◌<◌, Bool, List, ◌∷◌, set, get_or, slice_get, slice_set, Some, sym, ap, ◌∙◌, subst, arith}
use Rattle.std.proofs.lemmas.Option.{get_or_from_slice_get}
use mathlib.Core.Bool.{true≢false}
use Rattle.slot_history.specs.declared.shape.Shape.{Shape}
use Rattle.slot_history.specs.declared.act.Act.{Act}
use Rattle.slot_history.specs.declared.place.Place.{Place}
use Rattle.slot_history.specs.declared.place.Place.TheVariants.{Free}
use Rattle.slot_history.specs.Sets.{upd}
use Rattle.slot_history.specs.States.{ObjectState, slot_of, owes, can_leave}
use Rattle.slot_history.specs.Steps.{site, moved, slot_after, admitted_after, finished_after, next}
use Rattle.slot_history.specs.Allowed.{IsAllowed}
use Rattle.slot_history.specs.Calls.{Call, MayAt, Entering, Looking, Claiming, Shutting, Leaving, Paying, MarkingNext, Sweeping, Reserving, Admitting}
use Rattle.slot_history.specs.Calls.{AskingArrivals, AskingFinished, NotingDone, SettingTotal, Installing, Releasing, AnnouncingNext, TakingReturn}
use Rattle.slot_history.specs.Calls.{TakingChange}
use Rattle.slot_history.specs.Histories.{IsLegal}
use Rattle.slot_history.specs.Table.{IsTable}
use Rattle.slot_history.specs.Bounds.{IsWithin}
use Rattle.slot_history.proofs.Table.{table}
use Rattle.slot_history.proofs.Within.{within, within-slots}
use Rattle.slot_history.proofs.Sets.{upd-same}
use Rattle.plain_slots.specs.declared.object.PlainObject.TheInside.{Inside}
use Rattle.slot_station.specs.declared.log.Logged.{Logged}
use Rattle.plain_slots.specs.declared.slot.Slot.{Slot}
use Rattle.slot_station.specs.Log.{calls_of, call}
use Rattle.slot_station.specs.Places.{IsCounted}
use Rattle.slot_station.proofs.PlaceCounts as counts
use Rattle.plain_slots.specs.Slots.{shown, OfPlace}
use Rattle.one_thread.specs.Stories.{Story, MayMake, MakesCall, place_in, state_in}
use Rattle.plain_slots.specs.Objects.{HasSlots, HasDebts, HasMasks, Contents, IsObject, Calm, Still}
use Rattle.plain_slots.proofs.Objects.{contents_of, after-call, slots-kept, debts-kept}

-- an element that is known is the one that is read
pub read : {A : Type 0} (l : List A) (i : ℕ) (x r : A) → slice_get l i ≡ Some x → r ≡ get_or l i r → r ≡ x
read l i x r is e = e ∙ get_or_from_slice_get l i x r is

-- what an object keeps
abbrev pub contents : Inside → Contents
contents o = contents_of o.shape o.slots.items o.owing.items o.debts.items o.places.items o.returns.items o.changes.items o.admitted o.finished o.log

abbrev pub Kept : Inside → Type 0
Kept o = IsObject (contents o)

-- what its contracts show
abbrev pub story_of : Inside → Story
story_of o = record { shape = o.shape; log = o.log }

abbrev pub now_of : Inside → ObjectState
now_of o = state_in o.shape o.log

-- what a step writes into places and log
abbrev pub Wrote : Inside → ℕ → Act → List Place → List Logged → Type 0
Wrote o w a places log = OfPlace o.places.items w (λ p. places ≡ slice_set o.places.items w (moved o.shape a p)) × (log ≡ call w a ∷ o.log)

module _ (o : Inside) (ok : Kept o) where
  pub tabled : IsTable o.shape (now_of o)
  tabled = table o.shape (calls_of o.log) ok.legal

  pub bounded : IsWithin o.shape (now_of o)
  bounded = within o.shape (calls_of o.log) ok.legal

  module _ (w : ℕ) (low : w < o.shape.workers) where
    pub place-is : slice_get o.places.items w ≡ Some ((now_of o).places w)
    place-is = ok.places_are.are w low

    pub place-counted : IsCounted ((now_of o).places w)
    place-counted = counts.place-counted o.shape (calls_of o.log) w ok.shape ok.legal low

    -- for a step, the counts of the place that is read
    pub counted-at : (p : Place) → slice_get o.places.items w ≡ Some p → IsCounted p
    counted-at p is = let e : (now_of o).places w ≡ p = let t = place-is in cc in subst IsCounted e place-counted

    -- after a call, where the rest that is kept is that of the next state
    pub follow : (a a' : Act) → a' ≡ a → IsAllowed o.shape (now_of o) w a → (places : List Place) (log : List Logged) → Wrote o w a' places log
        → (slots : List Slot) (owing : List Bool) (counts returns changes : List ℕ) (admitted finished : ℕ)
        → (let S = next o.shape (now_of o) w a in HasSlots o.shape slots S.slots × HasDebts o.shape owing counts S.slots × HasMasks o.shape S.returns returns
        × HasMasks o.shape S.changes changes × (admitted ≡ S.admitted) × (finished ≡ S.finished))
        → IsObject (contents_of o.shape slots owing counts places returns changes admitted finished log)
    follow a a' is allowed places log wrote slots owing counts returns changes admitted finished new =
        let p = (now_of o).places w in
        let e : places ≡ set o.places.items w (moved o.shape a p) = wrote.0 p place-is ∙ ap (λ b. set o.places.items w (moved o.shape b p)) is in
        let f : log ≡ call w a ∷ o.log = wrote.1 ∙ ap (λ b. call w b ∷ o.log) is in
        let After : List Place → List Logged → Type 0 = λ q l. IsObject (contents_of o.shape slots owing counts q returns changes admitted finished l) in
        subst (λ q. After q log) (sym e) (subst (After (set o.places.items w (moved o.shape a p))) (sym f)
        (after-call (contents o) w a ok low allowed slots owing counts returns changes admitted finished new))

    -- notices and numbers after a call that changes none
    resting : (a : Act) → Calm a → (let S = next o.shape (now_of o) w a in
        HasMasks o.shape S.returns o.returns.items × HasMasks o.shape S.changes o.changes.items × (o.admitted ≡ S.admitted) × (o.finished ≡ S.finished))
    resting a calm = let S = now_of o in let p = S.places w in (
      subst (λ f. HasMasks o.shape f o.returns.items) (sym (calm.1 w p S.returns)) ok.returns_are,
      subst (λ f. HasMasks o.shape f o.changes.items) (sym (calm.0 w p S.changes)) ok.changes_are,
      ok.admitted_is ∙ sym (calm.2 S.admitted),
      ok.finished_is ∙ sym (calm.3 S.finished),
    )

    -- after a call that changes its worker's place and notices alone
    pub noticed : (returns changes : List ℕ) (a a' : Act) → a' ≡ a → IsAllowed o.shape (now_of o) w a → (places : List Place) (log : List Logged)
        → Wrote o w a' places log → Still a → ((n : ℕ) → admitted_after a n ≡ n) × ((n : ℕ) → finished_after a n ≡ n)
        → (let S = next o.shape (now_of o) w a in HasMasks o.shape S.returns returns × HasMasks o.shape S.changes changes)
        → IsObject (record (contents o) { places = places; returns = returns; changes = changes; log = log })
    noticed returns changes a a' is allowed places log wrote still numbers masks =
        let S = now_of o in
        let k = site a (S.places w) in
        let same : slot_after o.shape w a (S.slots k) ≡ S.slots k = still o.shape w (S.slots k) in
        follow a a' is allowed places log wrote o.slots.items o.owing.items o.debts.items returns changes o.admitted o.finished (
          slots-kept o.shape o.slots.items S.slots k (slot_after o.shape w a (S.slots k)) ok.slots_are (ap shown same),
          debts-kept o.shape o.owing.items o.debts.items S.slots k (slot_after o.shape w a (S.slots k)) ok.debts_are (λ v h. ap (λ x. owes x v) same),
          masks.0,
          masks.1,
          ok.admitted_is ∙ sym (numbers.0 S.admitted),
          ok.finished_is ∙ sym (numbers.1 S.finished),
        )

    -- after a call that changes its worker's place alone
    pub quiet : (a a' : Act) → a' ≡ a → IsAllowed o.shape (now_of o) w a → (places : List Place) (log : List Logged) → Wrote o w a' places log → Still a
        → Calm a
        → IsObject (record (contents o) { places = places; log = log })
    quiet a a' is allowed places log wrote still calm =
        let rest = resting a calm in
        noticed o.returns.items o.changes.items a a' is allowed places log wrote still (calm.2, calm.3) (rest.0, rest.1)

    -- after a call that changes no notices and no numbers, where the slot and the debts are those of the next state
    pub writes : (a a' : Act) → a' ≡ a → IsAllowed o.shape (now_of o) w a → (places : List Place) (log : List Logged) → Wrote o w a' places log → Calm a
        → (k : ℕ) → k ≡ site a ((now_of o).places w)
        → (slots : List Slot) (owing : List Bool) (counts : List ℕ) → (let S = now_of o in
        HasSlots o.shape slots (upd S.slots k (slot_after o.shape w a (S.slots k))) × HasDebts o.shape owing counts
        (upd S.slots k (slot_after o.shape w a (S.slots k))))
        → IsObject (record (contents o) { slots = slots; owing = owing; debts = counts; places = places; log = log })
    writes a a' is allowed places log wrote calm k at slots owing counts new =
        let S = now_of o in
        let rest = resting a calm in
        follow a a' is allowed places log wrote slots owing counts o.returns.items o.changes.items o.admitted o.finished (
          subst (λ j. HasSlots o.shape slots (upd S.slots j (slot_after o.shape w a (S.slots j)))) at new.0,
          subst (λ j. HasDebts o.shape owing counts (upd S.slots j (slot_after o.shape w a (S.slots j)))) at new.1,
          rest.0,
          rest.1,
          rest.2,
          rest.3,
        )

-- what the call ensures of the object
pub makes : (d : Shape) (log new : List Logged) (old : Story) (w : ℕ) (a a' : Act) → record { shape = d; log = log } ≡ old → a' ≡ a
    → new ≡ call w a' ∷ log → IsLegal d (calls_of new) → MakesCall old w a (record { shape = d; log = new })
makes d log new old w a a' view is wrote legal = record {
  story = ap (λ l. record { shape = d; log = l }) (wrote ∙ ap (λ b. call w b ∷ log) is) ∙ ap (λ (x : Story). record x { log = call w a ∷ x.log }) view;
  legal = legal;
}

-- ---- where a call works

-- a call that the contracts show to be allowed, by what is kept
pub may-make : (o : Inside) (old : Story) → story_of o ≡ old → (w : ℕ) (c : Call) → MayMake old w c → MayMake (story_of o) w c
may-make o old view w c may = subst (λ (x : Story). MayMake x w c) (sym view) may

-- for a step, the counts of the place of a worker that may make a call
pub counted-asks : (o : Inside) → Kept o → (old : Story) → story_of o ≡ old → (w : ℕ) (c : Call) → MayMake old w c → (p : Place)
    → slice_get o.places.items w ≡ Some p → IsCounted p
counted-asks o ok old view w c asks = counted-at o ok w (may-make o old view w c asks).below

-- a call that is about the slot at which its worker is
abbrev pub AtSlot : Call → Type 0
AtSlot Looking = Unit {0}
AtSlot (Claiming n) = Unit {0}
AtSlot Shutting = Unit {0}
AtSlot Leaving = Unit {0}
AtSlot Paying = Unit {0}
AtSlot MarkingNext = Unit {0}
AtSlot Sweeping = Unit {0}
AtSlot (Installing id) = Unit {0}
AtSlot Releasing = Unit {0}
AtSlot c = ⊥

busy : (d : Shape) (p : Place) (c : Call) → AtSlot c → MayAt d p c → p ≢ Free
busy d p Looking at may e = let h = may.1 in cc
busy d p (Claiming n) at may e = let h = may.2 in cc
busy d p Shutting at may e = let h = may.2 in cc
busy d p Leaving at may e = true≢false (sym may ∙ ap can_leave e)
busy d p Paying at may e = let h = may.2 in cc
busy d p MarkingNext at may e = let h = may.4 in cc
busy d p Sweeping at may e = let h = may.4 in cc
busy d p (Installing id) at may e = let h = may.2 in cc
busy d p Releasing at may e = let h = may.2 in cc
busy d p (Entering s) at may e = at
busy d p (Reserving s) at may e = at
busy d p (Admitting q) at may e = at
busy d p AskingArrivals at may e = at
busy d p AskingFinished at may e = at
busy d p (NotingDone n) at may e = at
busy d p (SettingTotal n) at may e = at
busy d p AnnouncingNext at may e = at
busy d p (TakingReturn part) at may e = at
busy d p (TakingChange part) at may e = at

-- a worker with a call, the place that was read for it, and the slot that this names
pub record Spot (o : Inside) (w : ℕ) (c : Call) (p : Place) (k : ℕ) : Type 0 where
  pub low : w < o.shape.workers
  pub is : p ≡ (now_of o).places w
  pub may : MayAt o.shape p c
  pub slot : k ≡ slot_of p
  pub in_slots : k < o.shape.slots
  pub index : k < o.slots.len

pub spot : (o : Inside) (ok : Kept o) (old : Story) → story_of o ≡ old → (w : ℕ) (c : Call) → AtSlot c → MayMake old w c → (p : Place)
    → p ≡ get_or o.places.items w p → (k : ℕ) → k ≡ slot_of p → Spot o w c p k
spot o ok old view w c at asks p is k slot =
    let may : MayMake (story_of o) w c = may-make o old view w c asks in
    let e : p ≡ (now_of o).places w = read o.places.items w ((now_of o).places w) p (place-is o ok w may.below) is in
    let in_k : k < o.shape.slots = subst (λ j. j < o.shape.slots) (sym (slot ∙ ap slot_of e))
    (within-slots o.shape ((now_of o).places w) ((bounded o ok).places w) (busy o.shape ((now_of o).places w) c at may.may)) in record {
      low = may.below;
      is = e;
      may = subst (λ q. MayAt o.shape q c) (sym e) may.may;
      slot = slot;
      in_slots = in_k;
      index = (let c = ok.slots_are.count in let l = o.slots.ok.0 in omega arith);
    }

-- what the slot shows that was read there
pub slot-read : (o : Inside) (ok : Kept o) (k : ℕ) → k < o.shape.slots → (x : Slot) → x ≡ get_or o.slots.items k x → x ≡ shown ((now_of o).slots k)
slot-read o ok k in_k x is = read o.slots.items k (shown ((now_of o).slots k)) x (ok.slots_are.are k in_k) is

-- where the worker is after its call
gone : (o : Inside) (w : ℕ) (a a' : Act) → a' ≡ a → (log : List Logged) → log ≡ call w a' ∷ o.log
    → (state_in o.shape log).places w ≡ moved o.shape a ((now_of o).places w)
gone o w a a' is log wrote = ap (λ l. (state_in o.shape l).places w) (wrote ∙ ap (λ b. call w b ∷ o.log) is) ∙ upd-same (now_of o).places w
    (moved o.shape a ((now_of o).places w))

-- what a reply brings, by the place to which its call moved the worker
pub moved-there : (o : Inside) (w : ℕ) {a a' : Act} → a' ≡ a → {log : List Logged} → log ≡ call w a' ∷ o.log
    → (X : Place → Type 0) → X (moved o.shape a ((now_of o).places w)) → X ((state_in o.shape log).places w)
moved-there o w {a = a} {a' = a'} is {log = log} wrote X h = subst X (sym (gone o w a a' is log wrote)) h

-- the same by the place that was read
pub brought : {o : Inside} {w : ℕ} {c : Call} {p : Place} {k : ℕ} → Spot o w c p k → {a a' : Act} → a' ≡ a → {log : List Logged}
    → log ≡ call w a' ∷ o.log → (X : Place → Type 0) → X (moved o.shape a p) → X ((state_in o.shape log).places w)
brought {o = o} {w = w} s {a = a} is wrote X h = moved-there o w is wrote X (subst (λ q. X (moved o.shape a q)) s.is h)

-- for a caller, the counts of its place
pub counted-then : (o : Inside) (ok : Kept o) (old : Story) → story_of o ≡ old → (w : ℕ) (c : Call) → MayMake old w c → IsCounted (place_in old w)
counted-then o ok old view w c asks =
    subst (λ (x : Story). IsCounted (place_in x w)) view (place-counted o ok w (may-make o old view w c asks).below)

pub place-index : (o : Inside) (ok : Kept o) (v : ℕ) → v < o.shape.workers → v < o.places.len
place-index o ok v low = let c = ok.places_are.count in let l = o.places.ok.0 in omega arith
