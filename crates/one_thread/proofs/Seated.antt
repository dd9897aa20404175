-- A call over a seat of a table.
use Rattle.std.proofs.Common.{◌≡◌, ℕ, ◌+◌, ◌<◌, false, cond, ◌&&◌, List, ◌∷◌, All, Option, Some, None, slice_get, refl, sym, ap, ap₂, ◌∙◌, subst, eq-eqb}
use Rattle.std.proofs.lemmas.Option.{get_or_from_slice_get, slice_get_within}
use Rattle.slot_history.specs.declared.shape.Shape.{Shape}
use Rattle.slot_history.specs.declared.act.Act.{Act}
use Rattle.slot_history.specs.declared.act.Act.TheVariants.{Announce}
use Rattle.slot_history.specs.declared.act.Entry.{Entry}
use Rattle.slot_history.specs.declared.place.Place.{Place}
use Rattle.slot_history.specs.declared.place.Place.TheVariants.{Free, Announcing}
use Rattle.slot_history.specs.States.{held_at, slot_of}
use Rattle.slot_history.specs.Steps.{moved}
use Rattle.slot_history.specs.Calls.{Call, Leaving, MayAt}
use Rattle.slot_history.specs.Histories.{IsLegal, IsOfTotals, Called, Begins, own_calls, entry, place_of}
use Rattle.slot_history.proofs.Sets.{upd-same}
use Rattle.slot_history.proofs.Own.{place-mine}
use Rattle.slot_station.specs.declared.token.Announcer.{Announcer}
use Rattle.slot_station.specs.declared.reply.Look.{Look}
use Rattle.slot_station.specs.declared.reply.Look.TheVariants as look
use Rattle.slot_station.specs.declared.reply.Leave.{Leave}
use Rattle.slot_station.specs.declared.reply.Leave.TheVariants as leave
use Rattle.slot_station.specs.declared.reply.Claim.{Claim}
use Rattle.slot_station.specs.declared.reply.Claim.TheVariants as claim
use Rattle.slot_station.specs.declared.reply.Shut.{Shut as Shutting}
use Rattle.slot_station.specs.declared.reply.Shut.TheVariants as shut
use Rattle.slot_station.specs.declared.reply.Mark.{Mark}
use Rattle.slot_station.specs.declared.reply.Mark.TheVariants as mark
use Rattle.slot_station.specs.declared.reply.Sweep.{Sweep}
use Rattle.slot_station.specs.declared.reply.Sweep.TheVariants as sweep
use Rattle.slot_station.specs.declared.reply.Pay.{Pay}
use Rattle.slot_station.specs.declared.reply.Pay.TheVariants as pay
use Rattle.slot_station.specs.declared.reply.Reserve.{Reserve}
use Rattle.slot_station.specs.declared.reply.Reserve.TheVariants as reserve
use Rattle.slot_station.specs.declared.reply.Admit.{Admit}
use Rattle.slot_station.specs.declared.reply.Admit.TheVariants as admit
use Rattle.slot_station.specs.declared.log.Logged.{Logged}
use Rattle.slot_station.specs.declared.station.Fits.{Ghosts}
use Rattle.one_thread.specs.declared.object.SlotObject as core
use Rattle.one_thread.specs.declared.seat.OneSeat.{OneSeat}
use Rattle.one_thread.specs.declared.table.OneTable.TheInside.{Inside}
use Rattle.slot_station.specs.Cells.{noted}
use Rattle.slot_station.specs.Replies.{look_act, leave_act, claim_act, shut_act, mark_act, sweep_act, pay_act, reserve_act, admit_act}
use Rattle.slot_station.specs.Desks.{Desk, Seen, own_place, caller_of, totals_of, Makes}
use Rattle.slot_station.specs.Exchanges.{IsSeenAt}
use Rattle.slot_station.specs.Log.{calls_of, moment_of, note_in, call}
use Rattle.one_thread.specs.Tables.{TableStory, IsTableKept, table_of}
use Rattle.one_thread.specs.Stories.{Story, MayMake, MakesCall, place_in, state_in}
use Rattle.slot_station.specs.Tokens.{IsAnnouncer, IsDone, last_opened}
use Rattle.slot_station.proofs.TokensKept.{announcer-opened}
use Rattle.one_thread.specs.Seats.{desk_over, trail_in, seen_by, shown_by}
use Rattle.one_thread.proofs.Trails.{own-trail, place-trail, begins}
use Rattle.slot_station.specs.Cells.{Caller, CellsAllow, NotesAllow, LeavesKept}
use Rattle.one_thread.proofs.TablesKept.{table-call}

-- a call of w is the last that its trail has
pub trail-call : (w : ℕ) (a : Act) (h : List Entry) → trail_in w (entry w a ∷ h) ≡ entry w a ∷ h
trail-call w a h = ap (λ b. cond b (entry w a ∷ h) (trail_in w h)) (eq-eqb w w refl)

pub called : (d : Shape) (w : ℕ) (a : Act) (h : List Entry) → IsLegal d (entry w a ∷ h) → Called d (entry w a) (trail_in w h) (trail_in w (entry w a ∷ h))
called d w a h legal = (h, trail-call w a h, begins w h, sym (own-trail w h), subst (IsLegal d) (sym (trail-call w a h)) legal)

-- what a call makes of what the seat shows
pub made : {O Sub : Type 0} (o : O) (total : Sub → ℕ → Option ℕ) (D : Desk Sub) (a : Act) (log : List Logged)
    → IsLegal D.shape (calls_of (call D.worker a ∷ log)) → IsOfTotals (total D.subject) D.shape (calls_of (call D.worker a ∷ log))
    → Makes total a (seen_by o D log) (seen_by o D (call D.worker a ∷ log))
made o total D a log legal of_totals = record {
  origin = refl;
  desk = refl;
  called = called D.shape D.worker a (calls_of log) legal;
  of_subject = subst (IsOfTotals (total D.subject) D.shape) (sym (trail-call D.worker a (calls_of log))) of_totals;
  notes = λ v h. ap (λ b. cond b (noted a D.worker v (note_in log D.worker v)) (note_in log D.worker v)) (eq-eqb D.worker D.worker refl);
}

-- ---- calls that ask nothing of notes, whatever they answer

abbrev pub IsFree : Act → Type 0
IsFree a = (totals : ℕ → Option ℕ) (caller : Caller) → NotesAllow totals caller a

pub looks : (r : Look) → IsFree (look_act r)
looks (look.Open id) totals caller = tt
looks look.Invalid totals caller = tt
looks look.Vacant totals caller = tt

pub claims : (n : ℕ) (r : Claim) → IsFree (claim_act n r)
claims n (claim.Range from to) totals caller = tt
claims n (claim.Exhausted y) totals caller = tt

pub shuts : (r : Shutting) → IsFree (shut_act r)
shuts (shut.Won y) totals caller = tt
shuts shut.Lost totals caller = tt

pub marks : (r : Mark) → IsFree (mark_act r)
marks mark.Marked totals caller = tt
marks mark.Missed totals caller = tt

pub sweeps : (r : Sweep) → IsFree (sweep_act r)
sweeps (sweep.Last y) totals caller = tt
sweeps (sweep.Others n) totals caller = tt

pub pays : (r : Pay) → IsFree (pay_act r)
pays (pay.Last y) totals caller = tt
pays pay.Done totals caller = tt

pub reserves : (s : ℕ) (r : Reserve) → IsFree (reserve_act s r)
reserves s (reserve.Got y) totals caller = tt
reserves s (reserve.Taken word) totals caller = tt

pub admits : (q : ℕ) (r : Admit) → IsFree (admit_act q r)
admits q admit.Got totals caller = tt
admits q (admit.Lost at) totals caller = tt

-- ---- a seat, and what is in its table

-- a seat before a call, in plain data: its table shows what the table holds, which is as a table's invariant says
pub record Seat {B Sub : Type 0} (b : Ghosts B Sub) : Type 0 where
  pub worker : ℕ
  pub start : TableStory Sub
  pub now : TableStory Sub
  pub object : Story
  pub subject : Sub
  pub cells : List (Option B)
  pub below : worker < now.shape.workers
  pub same_shape : now.shape ≡ start.shape
  pub same_subject : now.subject ≡ start.subject
  pub view : table_of object subject ≡ now
  pub kept : IsTableKept b (table_of object subject) cells

-- of a seat over any object
abbrev pub seat : {B O Sub : Type 0} {b : Ghosts B Sub} {k : core.Ghosts O} (s : OneSeat B O Sub b k) (t : Inside B O Sub)
    → table_of (k.story t.object) t.subject.value ≡ s.table.now → IsTableKept b (table_of (k.story t.object) t.subject.value) t.cells.items → Seat b
seat {k = k} s t view kept = record {
  worker = s.worker;
  start = s.start.value;
  now = s.table.now;
  object = k.story t.object;
  subject = t.subject.value;
  cells = t.cells.items;
  below = s.below;
  same_shape = s.shape;
  same_subject = s.subject;
  view = view;
  kept = kept;
}

module _ {B Sub : Type 0} {b : Ghosts B Sub} (x : Seat b) where
  abbrev object : Story
  object = x.object

  abbrev subject : Sub
  subject = x.subject

  abbrev start : TableStory Sub
  start = x.start

  abbrev now : TableStory Sub
  now = x.now

  abbrev worker : ℕ
  worker = x.worker

  -- the desk, trail and place that its contracts speak of
  abbrev desk : Desk Sub
  desk = desk_over start worker

  abbrev trail : List Entry
  trail = trail_in worker (calls_of now.log)

  -- what the seat shows, but for its origin
  abbrev shown : Seen (Unit {0}) Sub
  shown = shown_by desk now.log

  abbrev place : Place
  place = own_place shown

  pub object-shape : object.shape ≡ start.shape
  object-shape = ap (λ (t : TableStory Sub). t.shape) x.view ∙ x.same_shape

  pub table-subject : subject ≡ start.subject
  table-subject = ap (λ (t : TableStory Sub). t.subject) x.view ∙ x.same_subject

  -- a fact of the place that the trail gives, of the object's
  pub place-for : (P : Place → Type 0) → P place → P (place_in object worker)
  place-for P h =
      let at : P (place_of start.shape (calls_of now.log) worker) = subst P (place-trail start.shape worker (calls_of now.log)) h in
      let here : P (place_of now.shape (calls_of now.log) worker) = subst (λ d. P (place_of d (calls_of now.log) worker)) (sym x.same_shape) at in
      subst (λ (t : TableStory Sub). P (place_of t.shape (calls_of t.log) worker)) (sym x.view) here

  -- where the worker is, by the object and by its trail
  pub place-of : place_in object worker ≡ place
  place-of = sym (place-for (λ p. place ≡ p) refl)

  pub own-below : worker < object.shape.workers
  own-below = subst (λ (t : TableStory Sub). worker < t.shape.workers) (sym x.view) x.below

  -- a fact of the seat's desk, of the object
  pub shape-for : (P : Shape → Type 0) → P start.shape → P object.shape
  shape-for P h = subst P (sym object-shape) h

  -- a token, by the place before the call
  pub token-old : (X : Shape → Place → Type 0) → X start.shape place → X object.shape (place_in object worker)
  token-old X h = place-for (λ p. X object.shape p) (subst (λ d. X d place) (sym object-shape) h)

  -- a call that the seat's place allows, of the object's worker
  pub may-make : (c : Call) → MayAt start.shape place c → MayMake object worker c
  may-make c h = record { below = own-below; may = token-old (λ d p. MayAt d p c) h }

  log-same : object.log ≡ now.log
  log-same = ap (λ (t : TableStory Sub). t.log) x.view

  -- what the seat shows, the object's log gives
  pub seen-at : IsLegal object.shape (calls_of object.log) → IsSeenAt (moment_of object.shape object.log) shown
  seen-at legal = record {
    legal = legal;
    shape_is = sym object-shape;
    below = own-below;
    begins = subst (λ l. Begins (calls_of object.log) (trail_in worker (calls_of l))) log-same (begins worker (calls_of object.log));
    own = sym (own-trail worker (calls_of object.log)) ∙ ap (λ l. own_calls worker (trail_in worker (calls_of l))) log-same;
    notes = λ v. ap (λ l. note_in l worker v) log-same;
  }

  -- ---- what the notes and the subject allow

  -- the object's worker, as one that calls
  abbrev caller : Caller
  caller = caller_of (shown_by (record { worker = worker; shape = object.shape; subject = subject }) object.log)

  abbrev pub Allows : Act → Type 0
  Allows a = NotesAllow (b.total subject) caller a

  pub call-allows : (c : Call) → CellsAllow (totals_of b.total shown) (caller_of shown) c → CellsAllow (b.total subject) caller c
  call-allows c h =
      let P : Desk Sub → List Logged → Type 0 = λ D l. CellsAllow (b.total D.subject) (caller_of (shown_by D l)) c in
      let desk-same : desk_over now worker ≡ desk = ap₂ (λ (d : Shape) (u : Sub). let D : Desk Sub = record { worker = worker; shape = d; subject = u } in D)
      x.same_shape x.same_subject in
      subst (λ (t : TableStory Sub). P (desk_over t worker) t.log) (sym x.view) (subst (λ D. P D now.log) (sym desk-same) h)

  pub leave-allows : (l : Leave) → LeavesKept (caller_of shown) → Allows (leave_act l)
  leave-allows leave.Left = call-allows Leaving
  leave-allows (leave.Owe y) = call-allows Leaving

  -- ---- what a call makes of the seat

  module _ {a : Act} {new : Story} (m : MakesCall object worker a new) where
    -- the table after a call that its worker's notes allow
    pub table-after : Allows a → IsTableKept b (table_of new subject) x.cells
    table-after allow =
        let P : Story → Type 0 = λ y. IsTableKept b (table_of y subject) x.cells in
        let legal : IsLegal object.shape (calls_of (call worker a ∷ object.log)) = subst
        (λ (y : Story). IsLegal y.shape (calls_of y.log)) m.story m.legal in
        subst P (sym m.story) (table-call b object.shape subject object.log x.cells worker a legal allow x.kept)

    -- where the worker is after the call
    pub new-place : place_in new worker ≡ moved object.shape a (place_in object worker)
    new-place = ap (λ (y : Story). place_in y worker) m.story ∙ upd-same (state_in object.shape object.log).places worker
        (moved object.shape a (place_in object worker))

    new-shape : new.shape ≡ start.shape
    new-shape = ap (λ (y : Story). y.shape) m.story ∙ object-shape

    grows : new.log ≡ call worker a ∷ now.log
    grows = ap (λ (y : Story). y.log) m.story ∙ ap (λ (t : TableStory Sub). call worker a ∷ t.log) x.view

    -- what the reply brings, by the place after the call
    pub brought : (X : Shape → Place → Type 0) → X new.shape (place_in new worker) → X start.shape (own_place (shown_by desk new.log))
    brought X h =
        let at = ap (λ d. place_of d (calls_of new.log) worker) new-shape ∙ sym (place-trail start.shape worker (calls_of new.log)) in
        subst (X start.shape) at (subst (λ d. X d (place_in new worker)) new-shape h)

    -- a token that the call keeps
    pub token-for : (X : Shape → Place → Type 0) → X object.shape (place_in new worker) → X start.shape (own_place (shown_by desk new.log))
    token-for X h = brought X (subst (λ d. X d (place_in new worker)) (object-shape ∙ sym new-shape) h)

    -- a token that the call keeps, or makes of another
    pub token-goes : (X Y : Shape → Place → Type 0) → ((d : Shape) (p : Place) → X d p → Y d (moved d a p)) → X start.shape place
        → Y start.shape (own_place (shown_by desk new.log))
    token-goes X Y goes h = token-for Y (subst (Y object.shape) (sym new-place) (goes object.shape (place_in object worker) (token-old X h)))

    -- what the call makes of what the seat shows
    pub seat-makes : {O : Type 0} {o : O} → Allows a → Makes b.total a (seen_by o desk now.log) (seen_by o desk new.log)
    seat-makes {o = o} allow =
        let d = start.shape in
        let totals = b.total start.subject in
        let legal : IsLegal d (calls_of (call worker a ∷ now.log)) = subst (λ l. IsLegal d (calls_of l)) grows
        (subst (λ e. IsLegal e (calls_of new.log)) new-shape m.legal) in
        let of : IsOfTotals totals d (calls_of (call worker a ∷ now.log)) =
        subst (λ l. IsOfTotals totals d (calls_of l)) grows
        (subst (λ e. IsOfTotals totals e (calls_of new.log)) new-shape
        (subst (λ u. IsOfTotals (b.total u) new.shape (calls_of new.log)) table-subject (table-after allow).of_subject)) in
        subst (λ l. Makes b.total a (seen_by o desk now.log) (seen_by o desk l)) (sym grows)
        (made o b.total desk a now.log legal of)

    -- the same where the call asks nothing of notes
    free : IsFree a → Allows a
    free f = f (b.total subject) caller

    pub keeps : IsFree a → IsTableKept b (table_of new subject) x.cells
    keeps f = table-after (free f)

    pub makes : {O : Type 0} {o : O} → IsFree a → Makes b.total a (seen_by o desk now.log) (seen_by o desk new.log)
    makes f = seat-makes (free f)

-- ---- the cells of a new table

-- an element of a list whose elements are None
pub none-of : {A : Type 0} (l : List (Option A)) → All (λ x. x ≡ None) l → (i : ℕ) (x : Option A) → slice_get l i ≡ Some x → x ≡ None
none-of l all i x is = sym (get_or_from_slice_get l i x x is) ∙ all i x (slice_get_within l i x is)

-- ---- tokens after a call

-- an announcer that told every worker
pub tell-done : {O Sub : Type 0} (o : O) (D : Desk Sub) (log : List Logged) (x : Announcer) → let d = D.shape in let w = D.worker in let h = calls_of log in
    IsAnnouncer d w (own_place (seen_by o D log)) x → x.told + 1 ≡ d.workers → IsDone (seen_by o D (call w Announce ∷ log)) (record x { told = x.told + 1 })
tell-done o D log x ok all =
    let d = D.shape in
    let w = D.worker in
    let h = calls_of log in
    let at : place_of d h w ≡ Announcing x.slot x.again x.told = sym (place-trail d w h) ∙ ok.place in record {
      worker = ok.worker;
      workers = ok.workers;
      told = all;
      free = place-trail d w (entry w Announce ∷ h) ∙ place-mine d (entry w Announce) h w refl ∙ ap (moved d Announce) at
          ∙ ap (λ b. cond b Free (Announcing x.slot x.again (x.told + 1))) (eq-eqb (x.told + 1) d.workers all);
      opened = ap (last_opened d w) (trail-call w Announce h)
          ∙ ap (λ b. cond (b && false) (Some (slot_of (place_of d h w), (held_at (place_of d h w)).again)) (last_opened d w h)) (eq-eqb w w refl)
          ∙ announcer-opened d w x.slot x.again h x.told at;
    }

pub seat-done : {O B Sub : Type 0} {o : O} {b : Ghosts B Sub} (s : Seat b) {new : Story} → MakesCall (object s) (worker s) Announce new → (x : Announcer)
    → IsAnnouncer (start s).shape (worker s) (place s) x → x.told + 1 ≡ (start s).shape.workers
    → IsDone (seen_by o (desk s) new.log) (record x { told = x.told + 1 })
seat-done {o = o} s m x ok all = subst (λ l. IsDone (seen_by o (desk s) l) (record x { told = x.told + 1 })) (sym (grows s m))
    (tell-done o (desk s) (now s).log x ok all)
