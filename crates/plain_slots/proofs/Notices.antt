-- The calls on notices keep what is kept of the object.
use Rattle.std.proofs.Common.{◌≡◌, ℕ, ◌+◌, ◌*◌, ◌/◌, ◌<◌, Bool, true, false, List, length, set, get_or, refl, sym, ap, ◌∙◌, subst, arith}
use Rattle.std.proofs.lemmas.Grind.{get_or_default_zero}
use Rattle.slot_history.specs.declared.shape.Shape.{Shape}
use Rattle.slot_history.specs.declared.shape.TheConstants.{PARTS}
use Rattle.slot_history.specs.declared.act.Act.TheVariants.{Announce, TakeReturn, TakeChange}
use Rattle.slot_history.specs.declared.place.Place.{Place}
use Rattle.slot_history.specs.declared.place.Place.TheVariants.{Announcing}
use Rattle.slot_history.specs.Sets.{upd}
use Rattle.slot_history.specs.Steps.{told, taken}
use Rattle.slot_history.specs.Allowed.{IsMask}
use Rattle.slot_history.specs.Calls.{AnnouncingNext, TakingReturn, TakingChange}
use Rattle.slot_history.specs.Bounds.{IsPlaceWithin}
use Rattle.plain_slots.specs.declared.object.PlainObject.TheInside.{Inside}
use Rattle.slot_station.specs.declared.log.Logged.{Logged}
use Rattle.one_thread.specs.Stories.{MayMake}
use Rattle.plain_slots.specs.Objects.{HasMasks, IsObject}
use Rattle.plain_slots.proofs.Masks.{masks-come, masks-taken}
use Rattle.plain_slots.specs.Slots.{words_told, CanTell}
use Rattle.plain_slots.proofs.Following.{Kept, Wrote, contents, story_of, now_of, bounded, noticed, read, place-is}

-- a mask word that is read
word-read : (d : Shape) (w : ℕ) → w < d.workers → (pending : ℕ → ℕ → Bool) (words : List ℕ) (part i n : ℕ) → HasMasks d pending words → part < PARTS
    → i ≡ w * PARTS + part → n ≡ get_or words i n → IsMask part (pending w) n
word-read d w low pending words part i n has in_ at is =
    let e : n ≡ get_or words (w * PARTS + part) 0 = is ∙ ap (λ j. get_or words j n) at ∙ get_or_default_zero words (w * PARTS + part) n
    (let c = has.count in omega arith) in
    subst (IsMask part (pending w)) (sym e) (has.masks w part low in_)

-- the mask words after one was taken
words-taken : (d : Shape) (w : ℕ) → w < d.workers → (pending : ℕ → ℕ → Bool) (words : List ℕ) (part i : ℕ) → HasMasks d pending words → part < PARTS
    → i ≡ w * PARTS + part → HasMasks d (upd pending w (taken part (pending w))) (set words i 0)
words-taken d w low pending words part i has in_ at =
    subst (λ j. HasMasks d (upd pending w (taken part (pending w))) (set words j 0)) (sym at) (masks-taken d pending words w part has low in_)

pub take-returns-after : (o : Inside) (ok : Kept o) (w part : ℕ) → MayMake (story_of o) w (TakingReturn part) → (i : ℕ) → i ≡ w * PARTS + part
    → (bits : ℕ) → bits ≡ get_or o.returns.items i bits → (places : List Place) (log : List Logged) → Wrote o w (TakeReturn part bits) places log
    → IsObject (record (contents o) { places = places; returns = set o.returns.items i 0; log = log })
take-returns-after o ok w part asks i at bits is places log wrote =
    let S = now_of o in
    noticed o ok w asks.below (set o.returns.items i 0) o.changes.items (TakeReturn part bits) (TakeReturn part bits) refl
    (asks.may, word-read o.shape w asks.below S.returns o.returns.items part i bits ok.returns_are asks.may at is) places log wrote
    (λ d v x. refl) (λ n. refl, λ n. refl) (words-taken o.shape w asks.below S.returns o.returns.items part i ok.returns_are asks.may at, ok.changes_are)

pub take-changes-after : (o : Inside) (ok : Kept o) (w part : ℕ) → MayMake (story_of o) w (TakingChange part) → (i : ℕ) → i ≡ w * PARTS + part
    → (bits : ℕ) → bits ≡ get_or o.changes.items i bits → (places : List Place) (log : List Logged) → Wrote o w (TakeChange part bits) places log
    → IsObject (record (contents o) { places = places; changes = set o.changes.items i 0; log = log })
take-changes-after o ok w part asks i at bits is places log wrote =
    let S = now_of o in
    noticed o ok w asks.below o.returns.items (set o.changes.items i 0) (TakeChange part bits) (TakeChange part bits) refl
    (asks.may, word-read o.shape w asks.below S.changes o.changes.items part i bits ok.changes_are asks.may at is) places log wrote
    (λ d v x. refl) (λ n. refl, λ n. refl) (ok.returns_are, words-taken o.shape w asks.below S.changes o.changes.items part i ok.changes_are asks.may at)

-- ---- announce

-- where an announcer's slot and the next worker lie
within-at : (o : Inside) (ok : Kept o) (w s k : ℕ) (again : Bool) → (now_of o).places w ≡ Announcing s again k → (s < o.shape.slots) × (k < o.shape.workers)
within-at o ok w s k again at = subst (IsPlaceWithin o.shape) at ((bounded o ok).places w)

-- the mask words of one kind after a notice
masks-told : (d : Shape) (kind : Bool) (pending : ℕ → ℕ → Bool) (words : List ℕ) (s k : ℕ) (again : Bool) → HasMasks d pending words → k < d.workers
    → s / 64 < PARTS → HasMasks d (told kind (Announcing s again k) pending) (words_told kind (Announcing s again k) words)
masks-told d true pending words s k true has low part = masks-come d pending words k s has low part
masks-told d true pending words s k false has low part = has
masks-told d false pending words s k true has low part = has
masks-told d false pending words s k false has low part = masks-come d pending words k s has low part

module _ (o : Inside) (ok : Kept o) (w : ℕ) (asks : MayMake (story_of o) w AnnouncingNext) (p : Place) (is : p ≡ get_or o.places.items w p) where
  here : p ≡ (now_of o).places w
  here = read o.places.items w ((now_of o).places w) p (place-is o ok w asks.below) is

  -- the announcer may tell the next worker, by words of every worker
  pub can-tell : (words : List ℕ) → length words ≡ o.shape.workers * PARTS → CanTell p (length words)
  can-tell words count =
      let (s, again, k, at) = asks.may in
      let r = within-at o ok w s k again at in
      let a = r.0 in let b = r.1 in
      let slots = ok.shape.slots.1 in let workers = ok.shape.workers.1 in
      (s, k, again, here ∙ at, omega arith, omega arith, omega arith)

  pub announce-after : (returns changes : List ℕ) → returns ≡ words_told true p o.returns.items → changes ≡ words_told false p o.changes.items
      → (places : List Place) (log : List Logged) → Wrote o w Announce places log
      → IsObject (record (contents o) { places = places; returns = returns; changes = changes; log = log })
  announce-after returns changes then_ else_ places log wrote =
      let S = now_of o in
      let (s, again, k, at) = asks.may in
      let r = within-at o ok w s k again at in
      let part : s / 64 < PARTS = let a = r.0 in let b = ok.shape.slots.1 in omega arith in
      noticed o ok w asks.below returns changes Announce Announce refl asks.may places log wrote (λ d v x. refl) (λ n. refl, λ n. refl) (
        subst (λ q. HasMasks o.shape (told true q S.returns) returns) (sym at)
            (subst (HasMasks o.shape (told true (Announcing s again k) S.returns)) (sym (then_ ∙ ap (λ q. words_told true q o.returns.items) (here ∙ at)))
            (masks-told o.shape true S.returns o.returns.items s k again ok.returns_are r.1 part)),
        subst (λ q. HasMasks o.shape (told false q S.changes) changes) (sym at)
            (subst (HasMasks o.shape (told false (Announcing s again k) S.changes)) (sym (else_ ∙ ap (λ q. words_told false q o.changes.items) (here ∙ at)))
            (masks-told o.shape false S.changes o.changes.items s k again ok.changes_are r.1 part)),
      )
