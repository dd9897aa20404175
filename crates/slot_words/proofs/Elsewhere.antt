-- A call leaves the words that it is not on: what they hold for a state they hold for the next one.
use Rattle.std.proofs.Common.{◌≡◌, ◌≢◌, ℕ, ◌/◌, ◌+◌, ◌<◌, Bool, true, false, cond, eqb, refl, sym}
use Rattle.std.proofs.Common.{ap, ap₂, ◌∙◌, subst}
use Rattle.std.proofs.lemmas.Bool.{cond_both}
use Rattle.slot_history.specs.declared.shape.Shape.{Shape}
use Rattle.slot_history.specs.declared.act.Act.{Act}
use Rattle.slot_history.specs.declared.act.Act.TheVariants.{Enter, LookOpen, LookInvalid}
use Rattle.slot_history.specs.declared.act.Act.TheVariants.{LookVacant, ClaimRange, ClaimUsed}
use Rattle.slot_history.specs.declared.act.Act.TheVariants.{ShutWon, ShutLost, LeaveLeft, LeaveOwe}
use Rattle.slot_history.specs.declared.act.Act.TheVariants.{PayLast, PayDone, MarkMarked}
use Rattle.slot_history.specs.declared.act.Act.TheVariants.{MarkMissed, SweepLast, SweepOthers}
use Rattle.slot_history.specs.declared.act.Act.TheVariants.{ReserveGot, ReserveTaken, AdmitGot}
use Rattle.slot_history.specs.declared.act.Act.TheVariants.{NoteDone, SetTotal, Install, Release}
use Rattle.slot_history.specs.declared.act.Act.TheVariants.{Announce, TakeReturn, TakeChange}
use Rattle.slot_history.specs.declared.place.Held.{Held}
use Rattle.slot_history.specs.declared.place.Place.{Place}
use Rattle.slot_history.specs.declared.place.Place.TheVariants.{Free, Asking, Owing, Holding}
use Rattle.slot_history.specs.declared.place.Place.TheVariants.{Announcing}
use Rattle.slot_history.specs.Sets.{upd}
use Rattle.slot_history.specs.States.{TaskSet, Ending, SlotState, Shut, ObjectState, slot_of}
use Rattle.slot_history.specs.States.{slot_word, is_at, is_swept, owes}
use Rattle.slot_history.specs.Steps.{site, moved, slot_after, next_asked, ended, told, taken}
use Rattle.slot_history.specs.Steps.{changes_after, returns_after, admitted_after, finished_after}
use Rattle.slot_history.specs.Steps.{next}
use Rattle.slot_history.specs.Allowed.{IsAllowed, IsMask}
use Rattle.slot_history.specs.Calls.{call_of}
use Rattle.slot_history.specs.Notices.{notices_of}
use Rattle.slot_history.specs.Table.{IsLed, IsTable, nth_other}
use Rattle.slot_history.proofs.Sets.{upd-same, upd-cases, none-counted}
use Rattle.slot_history.proofs.Duties.{IsHeldBy}
use Rattle.slot_history.proofs.Holdings.{holder-slot}
use Rattle.slot_history.proofs.Masks.{mask-stays, mask-left}
use Rattle.slot_history.proofs.Coordinators.{led}
use Rattle.slot_history.proofs.SlotWords.{word-claimed, word-ended, word-finalised, word-held}
use Rattle.slot_history.proofs.SlotWords.{owes-not-held, owes-not-empty, owes-paid-else}
use Rattle.slot_words.specs.declared.address.Address.{Address}
use Rattle.slot_words.specs.declared.address.Address.TheVariants.{Meeting, ArrivalsAt, FinishedAt}
use Rattle.slot_words.specs.declared.address.Address.TheVariants.{StateOf, CursorOf, CounterOf}
use Rattle.slot_words.specs.declared.address.Address.TheVariants.{WorkerOf, ReturnOf, ChangeOf}
use Rattle.slot_words.specs.Addresses.{IsThere}
use Rattle.slot_words.specs.Encodings.{at_word}
use Rattle.slot_words.specs.Words.{IsCursor, counter_of, mark_at, worker_word, Holds}
use Rattle.slot_words.specs.Steps.{asked_at, address_of}
use Rattle.slot_words.proofs.Slots.{cursor-shut, cursor-ended, cursor-finalised, cursor-held}
use Rattle.slot_words.proofs.Slots.{cursor-opened, counter-claimed, counter-shut, counter-marked}
use Rattle.slot_words.proofs.Slots.{counter-missed, counter-held, counter-opened, held-counter}
use Rattle.slot_words.proofs.Slots.{empty-counter, no-mark, mark-claimed, mark-shut, mark-paid}
use Rattle.slot_words.proofs.Slots.{mark-marked, mark-missed, mark-swept, mark-finalised, mark-held}
use Rattle.slot_words.proofs.Slots.{mark-opened}

module _ (d : Shape) (S : ObjectState) (w : ℕ) (low : w < d.workers) (tab : IsTable d S) where
  abbrev p : Place
  p = S.places w

  -- the slot of the call, before and after it
  abbrev x : Act → SlotState
  x a = S.slots (site a p)

  abbrev y : Act → SlotState
  y a = slot_after d w a (x a)

  -- the call is not on the word at b
  abbrev Spares : Act → Address → Type 0
  Spares a b = b ≢ address_of w (call_of a) p

  at-slot : (q : Place) → p ≡ q → S.slots (slot_of p) ≡ S.slots (slot_of q)
  at-slot q at = ap (λ r. S.slots (slot_of r)) at

  -- a holder's slot
  pub held : (s : ℕ) (h : Held) → p ≡ Holding s h → IsHeldBy w h (S.slots (slot_of p))
  held s h at = subst (λ q. IsHeldBy w h (S.slots (slot_of q))) (sym at) (holder-slot d S tab w s h low at)

  -- a coordinator's slot
  pub leads : (s id n m : ℕ) → p ≡ Asking s id n m → IsLed d (S.slots (slot_of p)) (record { worker = w; id = id; asked = n; marked = m })
  leads s id n m at = subst (λ q. IsLed d (S.slots (slot_of q)) (record { worker = w; id = id; asked = n; marked = m })) (sym at)
      (led d S tab w s id n m low at)

  -- ---- words of slots

  word-same : (a : Act) → Spares a (StateOf (site a p)) → slot_word (y a) ≡ slot_word (x a)
  word-same (ClaimRange n from to) far = word-claimed _ n
  word-same (ClaimUsed n) far = word-claimed _ n
  word-same ShutWon far = absurd (far refl)
  word-same PayLast far = word-finalised w _
  word-same PayDone far = word-ended d w PayDone _
  word-same MarkMarked far = word-ended d w MarkMarked _
  word-same MarkMissed far = word-ended d w MarkMissed _
  word-same SweepLast far = word-finalised w _
  word-same (SweepOthers n) far = word-ended d w (SweepOthers n) _
  word-same (ReserveGot s) far = absurd (far refl)
  word-same (AdmitGot q) far = word-held (AdmitGot q) _
  word-same (NoteDone k) far = word-held (NoteDone k) _
  word-same (SetTotal t) far = word-held (SetTotal t) _
  word-same (Install id) far = absurd (far refl)
  word-same Release far = absurd (far refl)
  word-same _ far = refl

  cursor-same : (a : Act) → IsAllowed d S w a → Spares a (CursorOf (site a p)) → (n : ℕ) → IsCursor (x a) n → IsCursor (y a) n
  cursor-same (ClaimRange k from to) ok far n c = absurd (far refl)
  cursor-same (ClaimUsed k) ok far n c = absurd (far refl)
  cursor-same ShutWon ok far n c = cursor-shut w _ n c
  cursor-same PayLast ok far n c = cursor-finalised w _ n c
  cursor-same PayDone ok far n c = cursor-ended d w PayDone _ n c
  cursor-same MarkMarked ok far n c = cursor-ended d w MarkMarked _ n c
  cursor-same MarkMissed ok far n c = cursor-ended d w MarkMissed _ n c
  cursor-same SweepLast ok far n c = cursor-finalised w _ n c
  cursor-same (SweepOthers k) ok far n c = cursor-ended d w (SweepOthers k) _ n c
  cursor-same (ReserveGot s) ok far n c = tt
  cursor-same (AdmitGot q) ok far n c = cursor-held (AdmitGot q) _ n (λ h. refl) c
  cursor-same (NoteDone k) ok far n c = cursor-held (NoteDone k) _ n (λ h. refl) c
  cursor-same (SetTotal t) ok far n c = absurd (far refl)
  cursor-same (Install id) ok far n c = cursor-opened w ok.1 id _ n (held ok.0 ok.1 ok.2) ok.3.has_total c
  cursor-same Release ok far n c = tt
  cursor-same _ ok far n c = c

  counter-same : (a : Act) → IsAllowed d S w a → Spares a (CounterOf (site a p)) → counter_of d (y a) ≡ counter_of d (x a)
  counter-same (ClaimRange k from to) ok far = counter-claimed d (x (ClaimRange k from to)) k
  counter-same (ClaimUsed k) ok far = counter-claimed d (x (ClaimUsed k)) k
  counter-same ShutWon ok far = counter-shut d w (x ShutWon)
  counter-same PayLast ok far = absurd (far refl)
  counter-same PayDone ok far = absurd (far refl)
  counter-same MarkMarked ok far = let l = leads ok.0 ok.1 ok.2 ok.3 ok.4 in counter-marked d w (x MarkMarked) (ap is_swept l.slot ∙ l.unswept)
  counter-same MarkMissed ok far = counter-missed d w (x MarkMissed)
  counter-same SweepLast ok far = absurd (far refl)
  counter-same (SweepOthers k) ok far = absurd (far refl)
  counter-same (ReserveGot s) ok far = sym (empty-counter d (S.slots s) ok.2)
  counter-same (AdmitGot q) ok far = counter-held d (AdmitGot q) (x (AdmitGot q))
  counter-same (NoteDone k) ok far = counter-held d (NoteDone k) (x (NoteDone k))
  counter-same (SetTotal t) ok far = counter-held d (SetTotal t) (x (SetTotal t))
  counter-same (Install id) ok far = counter-opened d id (x (Install id))
  counter-same Release ok far = sym (held-counter d w ok.1 (x Release) (held ok.0 ok.1 ok.2))
  counter-same _ ok far = refl

  -- ---- words of workers

  -- who is asked next
  asks : (s id n m : ℕ) → p ≡ Asking s id n m → n + 1 < d.workers → (t : TaskSet) (e : Ending) → S.slots (slot_of p) ≡ Shut t e
      → next_asked d e ≡ nth_other w (asked_at p)
  asks s id n m at more t e is =
      let l = leads s id n m at in
      let same : Shut l.task l.ending ≡ Shut t e = sym l.slot ∙ is in
      let k : l.ending ≡ e = cc in
      ap (next_asked d) (sym k) ∙ l.next more ∙ ap (λ q. nth_other w (asked_at q)) (sym at)

  mark-same : (a : Act) → IsAllowed d S w a → (v : ℕ) → v < d.workers → v ≢ w → Spares a (WorkerOf v) → mark_at (y a) v ≡ mark_at (x a) v
  mark-same (ClaimRange k from to) ok v in_v other far = mark-claimed (x (ClaimRange k from to)) k v
  mark-same (ClaimUsed k) ok v in_v other far = mark-claimed (x (ClaimUsed k)) k v
  mark-same ShutWon ok v in_v other far = mark-shut w (x ShutWon) v
  mark-same PayLast ok v in_v other far =
      let none = none-counted d.workers (owes (ended d w PayDone (S.slots ok.0))) ok.4 v in_v in
      let here = ap (λ z. owes (ended d w PayDone z) v) (at-slot (Owing ok.0 ok.1) ok.2) in
      mark-finalised w (x PayLast) v (sym (owes-paid-else d w (x PayLast) v other) ∙ here ∙ none)
  mark-same PayDone ok v in_v other far = mark-paid d w (x PayDone) v other
  mark-same MarkMarked ok v in_v other far =
      mark-marked d w (x MarkMarked) v (λ t e is same. far (ap WorkerOf (same ∙ asks ok.0 ok.1 ok.2 ok.3 ok.4 ok.5 t e is)))
  mark-same MarkMissed ok v in_v other far = mark-missed d w (x MarkMissed) v
  mark-same SweepLast ok v in_v other far =
      let none = none-counted d.workers (owes (S.slots ok.0)) ok.6 v in_v in
      mark-finalised w (x SweepLast) v (ap (λ z. owes z v) (at-slot (Asking ok.0 ok.1 ok.2 ok.3) ok.4) ∙ none)
  mark-same (SweepOthers k) ok v in_v other far = mark-swept d w k (x (SweepOthers k)) v
  mark-same (ReserveGot s) ok v in_v other far = sym (no-mark (S.slots s) v (owes-not-empty (S.slots s) v ok.2))
  mark-same (AdmitGot q) ok v in_v other far = mark-held (AdmitGot q) (x (AdmitGot q)) v
  mark-same (NoteDone k) ok v in_v other far = mark-held (NoteDone k) (x (NoteDone k)) v
  mark-same (SetTotal t) ok v in_v other far = mark-held (SetTotal t) (x (SetTotal t)) v
  mark-same (Install id) ok v in_v other far = mark-opened id (x (Install id)) v
  mark-same Release ok v in_v other far = sym (no-mark (x Release) v (owes-not-held w ok.1 (x Release) v (held ok.0 ok.1 ok.2)))
  mark-same _ ok v in_v other far = refl

  -- the word of another worker at q
  theirs : (a : Act) → IsAllowed d S w a → (v : ℕ) → v < d.workers → v ≢ w → Spares a (WorkerOf v) → (q : Place)
      → worker_word (upd S.slots (site a p) (y a) (slot_of q)) v q ≡ worker_word (S.slots (slot_of q)) v q
  theirs a ok v in_v other far q = ap (λ m. cond (is_at q (slot_of q)) (at_word (slot_of q) + m) 0)
      (upd-cases S.slots (site a p) (y a) (slot_of q) (λ z. mark_at z v ≡ mark_at (S.slots (slot_of q)) v)
      (λ e. mark-same a ok v in_v other far ∙ ap (λ k. mark_at (S.slots k) v) (sym e)) (λ n. refl))

  -- the own word after the call, by the place before it
  abbrev Own : Act → Place → Type 0
  Own a q = let s = site a q in let r = moved d a q in
      worker_word (upd S.slots s (slot_after d w a (S.slots s)) (slot_of r)) w r ≡ worker_word (S.slots (slot_of q)) w q

  still : (s : ℕ) (z : SlotState) → mark_at z w ≡ mark_at (S.slots s) w
      → cond (eqb s s) (at_word s + mark_at (upd S.slots s z s) w) 0 ≡ cond (eqb s s) (at_word s + mark_at (S.slots s) w) 0
  still s z same = ap (λ m. cond (eqb s s) (at_word s + m) 0) (ap (λ u. mark_at u w) (upd-same S.slots s z) ∙ same)

  same-place : (q : Place) → worker_word (upd S.slots (slot_of q) (S.slots (slot_of q)) (slot_of q)) w q ≡ worker_word (S.slots (slot_of q)) w q
  same-place q = ap (λ u. worker_word u w q) (upd-same S.slots (slot_of q) (S.slots (slot_of q)))

  own : (a : Act) → IsAllowed d S w a → Spares a (WorkerOf w) → Own a p
  own (Enter s) ok far = absurd (far refl)
  own (LookOpen id) ok far = subst (Own (LookOpen id)) (sym ok.1) (still ok.0 _ refl)
  own LookInvalid ok far = subst (Own LookInvalid) (sym ok.1) (still ok.0 _ refl)
  own LookVacant ok far = subst (Own LookVacant) (sym ok.1) (still ok.0 _ refl)
  own (ClaimRange n from to) ok far = subst (Own (ClaimRange n from to)) (sym ok.2) (still ok.0 _ (mark-claimed (S.slots ok.0) n w))
  own (ClaimUsed n) ok far = subst (Own (ClaimUsed n)) (sym ok.2) (still ok.0 _ (mark-claimed (S.slots ok.0) n w))
  own ShutWon ok far = subst (Own ShutWon) (sym ok.2) (still ok.0 _ (mark-shut w (S.slots ok.0) w))
  own ShutLost ok far = subst (Own ShutLost) (sym ok.2) (still ok.0 _ refl)
  own LeaveLeft ok far = absurd (far refl)
  own (LeaveOwe id) ok far = absurd (far refl)
  own PayLast ok far = subst (Own PayLast) (sym ok.2) refl
  own PayDone ok far = subst (Own PayDone) (sym ok.2) refl
  own MarkMarked ok far = subst (Own MarkMarked) (sym ok.4) refl
  own MarkMissed ok far = subst (Own MarkMissed) (sym ok.4) refl
  own SweepLast ok far = subst (Own SweepLast) (sym ok.4) refl
  own (SweepOthers n) ok far = subst (Own (SweepOthers n)) (sym ok.4) refl
  own (ReserveGot s) ok far = subst (Own (ReserveGot s)) (sym ok.0) refl
  own (ReserveTaken s word) ok far = subst (Own (ReserveTaken s word)) (sym ok.0) refl
  own (AdmitGot q) ok far = subst (Own (AdmitGot q)) (sym ok.2) refl
  own (NoteDone k) ok far = subst (Own (NoteDone k)) (sym ok.2) refl
  own (SetTotal t) ok far = subst (Own (SetTotal t)) (sym ok.2) refl
  own (Install id) ok far = subst (Own (Install id)) (sym ok.2) refl
  own Release ok far = subst (Own Release) (sym ok.2) refl
  own Announce ok far = subst (Own Announce) (sym ok.3) (cond_both (eqb (ok.2 + 1) d.workers) Free (Announcing ok.0 ok.1 (ok.2 + 1))
      (λ q. worker_word (upd S.slots ok.0 (S.slots ok.0) (slot_of q)) w q ≡ 0) (λ h. refl) (λ h. refl))
  own _ ok far = same-place p

  abbrev word_of : ℕ → ℕ
  word_of v = worker_word (S.slots (slot_of (S.places v))) v (S.places v)

  worker-same : (a : Act) → IsAllowed d S w a → (v : ℕ) → v < d.workers → Spares a (WorkerOf v)
      → let T = next d S w a in worker_word (T.slots (slot_of (T.places v))) v (T.places v) ≡ word_of v
  worker-same a ok v in_v far =
      let f : ℕ → SlotState = upd S.slots (site a p) (y a) in
      let r : Place = moved d a p in
      let word_after : (ℕ → ℕ) = λ u. worker_word (f (slot_of r)) u r in
      let mine : (v ≡ w → word_after w ≡ word_of w) = λ e. own a ok (subst (λ u. Spares a (WorkerOf u)) e far) in
      upd-cases S.places w r v (λ q. worker_word (f (slot_of q)) v q ≡ word_of v)
      (λ e. subst (λ u. word_after u ≡ word_of u) (sym e) (mine e)) (λ ne. theirs a ok v in_v ne far (S.places v))

  -- ---- masks

  -- the word of another worker or part, of one kind of notices f, when a slot's notice comes and when a part is taken
  told-same : (Of : ℕ → ℕ → Address) (f : ℕ → ℕ → Bool) (s k v part n : ℕ) → Of v part ≢ Of k (s / 64) → IsMask part (f v) n
      → IsMask part (upd f k (upd (f k) s true) v) n
  told-same Of f s k v part n far m =
      upd-cases f k (upd (f k) s true) v (λ g. IsMask part g n)
      (λ e. mask-stays (f k) part n s (λ q. far (ap₂ Of e q)) (subst (λ u. IsMask part (f u) n) e m)) (λ ne. m)

  taken-same : (Of : ℕ → ℕ → Address) (f : ℕ → ℕ → Bool) (k v part n : ℕ) → Of v part ≢ Of w k → IsMask part (f v) n
      → IsMask part (upd f w (taken k (f w)) v) n
  taken-same Of f k v part n far m =
      upd-cases f w (taken k (f w)) v (λ g. IsMask part g n)
      (λ e. mask-left (f w) k part n (λ q. far (ap₂ Of e q)) (subst (λ u. IsMask part (f u) n) e m)) (λ ne. m)

  -- the mask words of one kind of notices, and the notices after a call
  abbrev mask_word : Bool → ℕ → ℕ → Address
  mask_word true = ReturnOf
  mask_word false = ChangeOf

  abbrev notices_after : Bool → Act → ℕ → ℕ → Bool
  notices_after true a = returns_after w a p S.returns
  notices_after false a = changes_after w a p S.changes

  -- what is told by a worker at this place
  told-there : (again : Bool) (s k : ℕ) (kind : Bool) (v part n : ℕ) → (mask_word again v part ≢ address_of w (call_of Announce) (Announcing s kind k))
      → IsMask part (notices_of again S v) n → IsMask part (told again (Announcing s kind k) (notices_of again S) v) n
  told-there true s k true v part n far m = told-same ReturnOf S.returns s k v part n far m
  told-there false s k false v part n far m = told-same ChangeOf S.changes s k v part n far m
  told-there true s k false v part n far m = m
  told-there false s k true v part n far m = m

  told-mask : (again : Bool) → IsAllowed d S w Announce → (v part n : ℕ) → Spares Announce (mask_word again v part)
      → IsMask part (notices_of again S v) n → IsMask part (told again p (notices_of again S) v) n
  told-mask again ok v part n far m =
      subst (λ q. mask_word again v part ≢ address_of w (call_of Announce) q → IsMask part (told again q (notices_of again S) v) n) (sym ok.3)
      (λ spared. told-there again ok.0 ok.2 ok.1 v part n spared m) far

  mask-same : (again : Bool) (a : Act) → IsAllowed d S w a → (v part n : ℕ) → Spares a (mask_word again v part)
      → IsMask part (notices_of again S v) n → IsMask part (notices_after again a v) n
  mask-same true Announce ok v part n far m = told-mask true ok v part n far m
  mask-same false Announce ok v part n far m = told-mask false ok v part n far m
  mask-same true (TakeReturn k bits) ok v part n far m = taken-same ReturnOf S.returns k v part n far m
  mask-same false (TakeChange k bits) ok v part n far m = taken-same ChangeOf S.changes k v part n far m
  mask-same true _ ok v part n far m = m
  mask-same false _ ok v part n far m = m

  -- ---- the two numbers

  admitted-same : (a : Act) → Spares a ArrivalsAt → admitted_after a S.admitted ≡ S.admitted
  admitted-same (AdmitGot q) far = absurd (far refl)
  admitted-same _ far = refl

  finished-same : (a : Act) → Spares a FinishedAt → finished_after a S.finished ≡ S.finished
  finished-same (NoteDone k) far = absurd (far refl)
  finished-same _ far = refl

  -- ---- every word

  pub elsewhere : (a : Act) → IsAllowed d S w a → (b : Address) → IsThere d b → Spares a b → (n : ℕ) → Holds d S b n → Holds d (next d S w a) b n
  elsewhere a ok Meeting in_b far n h = h
  elsewhere a ok ArrivalsAt in_b far n h = h ∙ sym (admitted-same a far)
  elsewhere a ok FinishedAt in_b far n h = h ∙ sym (finished-same a far)
  elsewhere a ok (StateOf s) in_b far n h = upd-cases S.slots (site a p) (y a) s (λ z. n ≡ slot_word z)
      (λ e. h ∙ ap (λ k. slot_word (S.slots k)) e ∙ sym (word-same a (subst (λ k. Spares a (StateOf k)) e far))) (λ ne. h)
  elsewhere a ok (CursorOf s) in_b far n h = upd-cases S.slots (site a p) (y a) s (λ z. IsCursor z n)
      (λ e. cursor-same a ok (subst (λ k. Spares a (CursorOf k)) e far) n (subst (λ k. IsCursor (S.slots k) n) e h)) (λ ne. h)
  elsewhere a ok (CounterOf s) in_b far n h = upd-cases S.slots (site a p) (y a) s (λ z. n ≡ counter_of d z)
      (λ e. h ∙ ap (λ k. counter_of d (S.slots k)) e ∙ sym (counter-same a ok (subst (λ k. Spares a (CounterOf k)) e far))) (λ ne. h)
  elsewhere a ok (WorkerOf v) in_b far n h = h ∙ sym (worker-same a ok v in_b far)
  elsewhere a ok (ReturnOf v part) in_b far n h = mask-same true a ok v part n far h
  elsewhere a ok (ChangeOf v part) in_b far n h = mask-same false a ok v part n far h
