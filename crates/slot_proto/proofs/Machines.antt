-- One step of the machine of words, whatever the call.
use Rattle.std.proofs.Common.{◌≡◌, ℕ, ◌<◌, List, [], ◌∷◌, length, get_or, replicate, Some, slice_get, slice_index, slice_set, refl, sym, ap, ap₂, ◌∙◌, subst}
use Rattle.std.proofs.Common.{arith}
use Rattle.std.proofs.lemmas.List.{length-replicate}
use Rattle.std.proofs.lemmas.Option.{get_or_from_slice_get, slice_get-get_or}
use Rattle.slot_history.specs.declared.shape.Shape.{Shape}
use Rattle.slot_history.specs.declared.act.Act.{Act}
use Rattle.slot_history.specs.declared.place.Place.{Place}
use Rattle.slot_history.specs.declared.place.Place.TheVariants.{Free}
use Rattle.slot_history.specs.States.{ObjectState}
use Rattle.slot_history.specs.Steps.{moved}
use Rattle.slot_history.specs.Bounds.{IsShape, IsPlaceWithin}
use Rattle.slot_history.specs.Histories.{IsLegal, entry}
use Rattle.slot_history.specs.Calls.{Call}
use Rattle.slot_history.proofs.Sets.{upd-same}
use Rattle.slot_history.proofs.Within.{within}
use Rattle.slot_station.specs.declared.log.Logged.{Logged}
use Rattle.slot_station.specs.Log.{calls_of, call}
use Rattle.one_thread.specs.Stories.{Story, MayMake, MakesCall, state_in, place_in}
use Rattle.one_thread.proofs.Places.{places-set}
use Rattle.slot_station.specs.Places.{IsCounted}
use Rattle.slot_station.proofs.PlaceCounts as counts
use Rattle.slot_station.proofs.Lists.{get-replicate}
use Rattle.slot_words.specs.declared.address.Address.{Address}
use Rattle.slot_words.specs.Addresses.{index}
use Rattle.slot_words.specs.Steps.{address_of, change_of, answer_of}
use Rattle.slot_words.specs.Words.{StandsFor, AreFirst, word_at}
use Rattle.slot_words.specs.Numbers.{IsSmall}
use Rattle.slot_words.specs.Laws.{NextCall, IsLawful, stepped}
use Rattle.slot_proto.specs.declared.machine.Machine.TheInside.{Inside}
use Rattle.slot_words.proofs.Law.{law}
use Rattle.slot_words.proofs.Openings.{first-words-stand}
use Rattle.slot_proto.specs.Machines.{Running, WordStep, IsMachine, IsCallOn, IsStepOf, Calls, place_now, state_now, story_of}

-- what a reply brings, by the place to which its call moved the worker
pub brings : (old new : Running) (w : ℕ) (a b : Act) (X : Shape → Place → Type 0) → Calls old w b new → b ≡ a → (q : Place) → q ≡ place_now old w
    → X old.shape (moved old.shape a q) → X new.shape (place_now new w)
brings old new w a b X made is q here h =
    let then = upd-same (state_now old).places w (moved old.shape b (place_now old w)) in
    subst (λ (x : Story). X x.shape (place_in x w)) (sym made.story)
    (subst (X old.shape) (ap₂ (moved old.shape) (sym is) here ∙ sym then) h)

-- the step of a call
pub is-step : {r : Running} {w : ℕ} {c : Call} {a : Address} {new : ℕ} {act : Act} → MayMake (story_of r) w c → a ≡ address_of w c (place_now r w)
    → new ≡ change_of c (place_now r w) (word_at r.shape r.words a) → act ≡ answer_of c (place_now r w) (word_at r.shape r.words a)
    → IsStepOf r (record { worker = w; call = c; address = a; new = new; act = act })
is-step may on changes reads = record { call = record { may = may; on = on }; changes = changes; reads = reads }

-- of a machine that shows r
module _ (r : Running) (places : List Place) (ok : IsMachine r.shape r.words places r.log) (w : ℕ) where
  abbrev S : ObjectState
  S = state_in r.shape r.log

  abbrev p : Place
  p = place_now r w

  abbrev step_on : Call → Address → ℕ → Act → WordStep
  step_on c a new act = record { worker = w; call = c; address = a; new = new; act = act }

  pub place-got : w < r.shape.workers → slice_get places w ≡ Some p
  place-got low = ok.places_are.are w low

  pub place-within : IsPlaceWithin r.shape p
  place-within = (within r.shape (calls_of r.log) ok.words_are.legal).places w

  pub place-counted : w < r.shape.workers → IsCounted p
  place-counted low = counts.place-counted r.shape (calls_of r.log) w ok.words_are.shape ok.words_are.legal low

  abbrev next_call : Call → NextCall
  next_call c = record { shape = r.shape; history = calls_of r.log; worker = w; call = c }

  -- the law of the call
  pub lawful : (c : Call) (a : Address) → IsCallOn r w c a
      → IsLawful (next_call c) (record { address = a; change = change_of c p; answer = answer_of c p }) r.words
  lawful c a on =
      subst (λ b. IsLawful (next_call c) (record { address = b; change = change_of c p; answer = answer_of c p }) r.words) (sym on.on)
      (law c r.shape (calls_of r.log) w r.words ok.words_are on.may.below on.may.may)

  -- the words, the places and the log that the step leaves
  pub made : (c : Call) (a : Address) (new : ℕ) (act : Act) → IsStepOf r (step_on c a new act)
      → IsMachine r.shape (slice_set r.words (index r.shape a) new) (slice_set places w (moved r.shape act p)) (call w act ∷ r.log)
  made c a new act step =
      let l = lawful c a step.call in
      let low = step.call.may.below in
      let put = moved r.shape act p in record {
        words_are = record {
          shape = ok.words_are.shape;
          legal = subst (λ b. IsLegal r.shape (entry w b ∷ calls_of r.log)) (sym step.reads) l.legal;
          stands = subst (λ n. StandsFor r.shape (slice_set r.words (index r.shape a) n) (state_in r.shape (call w act ∷ r.log))) (sym step.changes)
              (subst (λ b. StandsFor r.shape (stepped r.shape r.words a (change_of c p)) (state_in r.shape (call w b ∷ r.log))) (sym step.reads) l.stands);
        };
        places_are = places-set r.shape places S.places w put ok.places_are low;
      }

-- of the machine o, which shows r
module _ (o : Inside) (ok : IsMachine o.shape o.words.items o.places.items o.log) (r : Running)
    (view : record { shape = o.shape; words = o.words.items; log = o.log } ≡ r) (w : ℕ) where
  abbrev step_of : Call → Address → ℕ → Act → WordStep
  step_of c a new act = record { worker = w; call = c; address = a; new = new; act = act }

  abbrev Kept : Running → Type 0
  Kept x = IsMachine x.shape x.words o.places.items x.log

  sound : Kept r
  sound = subst Kept view ok

  -- the place that is read is the worker's
  pub place-read : w < r.shape.workers → (q : Place) → q ≡ get_or o.places.items w q → q ≡ place_now r w
  place-read low q is = is ∙ get_or_from_slice_get o.places.items w (place_now r w) q (place-got r o.places.items sound w low)

  -- the word that is read is that at the address
  pub word-in : (c : Call) (a : Address) → IsCallOn r w c a → (at : ℕ) → at ≡ index o.shape a → at < length o.words.items
  word-in c a on at is =
      let low = (lawful r o.places.items sound w c a on).there in
      subst (λ i. i < length o.words.items) (sym is) (subst (λ (x : Running). index x.shape a < length x.words) (sym view) low)

  pub word-there : (c : Call) (a : Address) → IsCallOn r w c a → (at : ℕ) → at ≡ index o.shape a → at < o.words.len
  word-there c a on at is = let low = word-in c a on at is in let l = o.words.ok.0 in omega arith

  pub word-read : (c : Call) (a : Address) → IsCallOn r w c a → (at : ℕ) → at ≡ index o.shape a → (n : ℕ) → n ≡ get_or o.words.items at n
      → n ≡ word_at r.shape r.words a
  word-read c a on at is n reads =
      let got = slice_get-get_or o.words.items at 0 (word-in c a on at is) in
      let here : n ≡ slice_index o.words.items at = reads ∙ get_or_from_slice_get o.words.items at (get_or o.words.items at 0) n got in
      here ∙ ap (slice_index o.words.items) is ∙ ap (λ (x : Running). word_at x.shape x.words a) view

  pub answer-small : (c : Call) (a : Address) → IsCallOn r w c a → (n : ℕ) → n ≡ word_at r.shape r.words a → IsSmall (answer_of c (place_now r w) n)
  answer-small c a on n is = subst (λ k. IsSmall (answer_of c (place_now r w) k)) (sym is) (lawful r o.places.items sound w c a on).small

  -- what is kept after the step, of a word, a place and a log that became so
  pub kept : (c : Call) (a : Address) (new : ℕ) (act : Act) → IsStepOf r (step_of c a new act) → (at : ℕ) → at ≡ index o.shape a
      → (q put : Place) → q ≡ get_or o.places.items w q → put ≡ moved o.shape act q → (log : List Logged) → log ≡ call w act ∷ o.log
      → IsMachine o.shape (slice_set o.words.items at new) (slice_set o.places.items w put) log
  kept c a new act step at is q put reads moves log noted =
      let low = step.call.may.below in
      let After : Running → Type 0 =
      λ x. IsMachine x.shape (slice_set x.words (index x.shape a) new) (slice_set o.places.items w (moved x.shape act (place_now r w))) (call w act ∷ x.log) in
      let then : After (record { shape = o.shape; words = o.words.items; log = o.log }) =
      subst After (sym view) (made r o.places.items sound w c a new act step) in
      let moved_to : put ≡ moved o.shape act (place_now r w) = moves ∙ ap (moved o.shape act) (place-read low q reads) in
      let Now : ℕ → Place → List Logged → Type 0 =
      λ i z l. IsMachine o.shape (slice_set o.words.items i new) (slice_set o.places.items w z) l in
      let p : Place = moved o.shape act (place_now r w) in
      subst (λ l. Now at put l) (sym noted)
      (subst (λ z. Now at z (call w act ∷ o.log)) (sym moved_to) (subst (λ i. Now i p (call w act ∷ o.log)) (sym is) then))

  pub called : (c : Call) (a : Address) (new : ℕ) (act : Act) → IsStepOf r (step_of c a new act) → (log : List Logged) → log ≡ call w act ∷ o.log
      → MakesCall (story_of r) w act (record { shape = o.shape; log = log })
  called c a new act step log noted =
      let legal = (made r o.places.items sound w c a new act step).words_are.legal in
      let After : Running → Type 0 = λ x. MakesCall (story_of r) w act (record { shape = x.shape; log = call w act ∷ x.log }) in
      let then : After (record { shape = o.shape; words = o.words.items; log = o.log }) = subst After (sym view) (record { story = refl; legal = legal }) in
      subst (λ l. MakesCall (story_of r) w act (record { shape = o.shape; log = l })) (sym noted) then

  -- the place that is read lies within the shape, and its counts within the workers
  pub read-within : w < r.shape.workers → (q : Place) → q ≡ get_or o.places.items w q → IsPlaceWithin r.shape q
  read-within low q is = subst (IsPlaceWithin r.shape) (sym (place-read low q is)) (place-within r o.places.items sound w)

  pub read-counted : w < r.shape.workers → (q : Place) → q ≡ get_or o.places.items w q → IsCounted q
  read-counted low q is = subst IsCounted (sym (place-read low q is)) (place-counted r o.places.items sound w low)

-- a machine that nobody has used
pub opens : (d : Shape) (words : List ℕ) (places : List Place) (log : List Logged) → IsShape d → AreFirst d words → places ≡ replicate d.workers Free
    → log ≡ [] → IsMachine d words places log
opens d words places log shape first free none = rw (free, none) (record {
  words_are = first-words-stand d words shape first;
  places_are = record { count = length-replicate d.workers Free; are = λ w h. get-replicate d.workers w Free h };
})
