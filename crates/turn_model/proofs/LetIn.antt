-- One decay and one sizer for each slot are enough.
use Rattle.std.proofs.Common.{◌≡◌, ◌⊎◌, inl, inr, ⊎_elim, ℕ, ◌+◌, ◌-◌, ◌/◌, ◌<◌, ◌≤◌, Bool}
use Rattle.std.proofs.Common.{true, false, ◌&&◌, cond, eqb, List, [], ◌∷◌, ◌++◌, Option, Some}
use Rattle.std.proofs.Common.{refl, sym, ap, ◌∙◌, subst, eq-eqb, eqb-true, arith}
use Rattle.std.specs.Prelude.{unwrap_or}
use Rattle.std.specs.Option.{option_map}
use native.Mathlib.Decide.{ℕ_discrete}
use Rattle.slot_history.specs.declared.shape.Shape.{Shape}
use Rattle.slot_history.specs.declared.shape.TheConstants.{STAGES}
use Rattle.slot_history.specs.declared.act.Act.{Act}
use Rattle.slot_history.specs.declared.act.Act.TheVariants.{LookOpen, ClaimRange}
use Rattle.slot_history.specs.declared.act.Entry.{Entry}
use Rattle.slot_history.specs.declared.place.Place.TheVariants.{Entered}
use Rattle.slot_history.specs.States.{slot_of, id_at}
use Rattle.slot_history.specs.Histories.{IsLegal, Begins, entry, own_calls, place_of, installs_of, task_in}
use Rattle.slot_history.proofs.Own.{own-mine, own-other}
use Rattle.slot_history.proofs.Beginnings.{begins-legal, begins-self, begins-more, begins-less, begins-through, begins-cases, begins-nest}
use Rattle.slot_history.proofs.Looks.{look-serves, serving-installed, one-slot-seen, same-query-seen, task-keeps-slot}
use Rattle.slot_history.proofs.TaskSetsKept.{installs-grow}
use Rattle.slot_station.specs.Desks.{Desk}
use Rattle.turn_model.specs.Workloads.{Workload}
use Rattle.turn_model.specs.Moves.{Move, Made, Exchanged, entries}
use Rattle.turn_model.specs.Learned.{place_by, slot_by, task_by, query_by, lets_in, let_in_by, time_in, taken_by, last_end}
use Rattle.turn_model.specs.Driven.{AreDriven}
use Rattle.turn_model.specs.OneSlot.{query_let_in, LooksFit, OneSlotLetsIn}
use Rattle.turn_model.proofs.OwnMoves.{moves-tell}
use Rattle.turn_model.proofs.PointsSay.{IsLetIn, look-made-at, claim-made-at}

pub some-same : {A : Type 0} (x y : A) → Some x ≡ Some y → x ≡ y
some-same x y e = ap (λ o. unwrap_or o x) e

-- ---- where own calls lie in a history

abbrev first_of : Entry → List Entry → Entry
first_of e [] = e
first_of e (x ∷ xs) = x

abbrev rest_of : List Entry → List Entry
rest_of [] = []
rest_of (x ∷ xs) = xs

-- the newest own call of a history, and what was before it
pub record OwnAt (w : ℕ) (e : Entry) (ys h : List Entry) : Type 0 where
  pub early : List Entry
  pub begins : Begins h (e ∷ early)
  pub mine : own_calls w early ≡ ys

own-next : (w : ℕ) (e x : Entry) (ys es : List Entry) → (own_calls w es ≡ e ∷ ys → OwnAt w e ys es) → own_calls w (x ∷ es) ≡ e ∷ ys → Dec (w ≡ x.worker)
    → OwnAt w e ys (x ∷ es)
own-next w e x ys es before is (yes same) =
    let eq : x ∷ own_calls w es ≡ e ∷ ys = sym (own-mine x es w same) ∙ is in
    record { early = es; begins = subst (λ y. Begins (x ∷ es) (y ∷ es)) (ap (first_of x) eq) (begins-self (x ∷ es)); mine = ap rest_of eq }
own-next w e x ys es before is (no other) =
    let r = before (sym (own-other x es w other) ∙ is) in
    record { early = r.early; begins = begins-more x es (e ∷ r.early) r.begins; mine = r.mine }

own-first : (w : ℕ) (e : Entry) (ys h : List Entry) → own_calls w h ≡ e ∷ ys → OwnAt w e ys h
own-first w e ys [] is = absurd (cc)
own-first w e ys (x ∷ es) is = own-next w e x ys es (own-first w e ys es) is (ℕ_discrete w x.worker)

-- ---- looks that let the worker in

abbrev IsLookAt : Desk Workload → ℕ → ℕ → Act → List Move → Type 0
IsLookAt D s id (LookOpen jd) ms = (jd ≡ id) × (place_by D ms ≡ Entered s) × (lets_in D ms (jd / STAGES) ≡ true)
IsLookAt D s id a ms = ⊥

-- a look at the slot let the worker in to the task set
abbrev Saw : Desk Workload → ℕ → ℕ → List Move → Type 0
Saw D s id [] = ⊥
Saw D s id (Made a t ∷ ms) = IsLookAt D s id a ms ⊎ Saw D s id ms
Saw D s id (Exchanged ∷ ms) = Saw D s id ms

-- such a look in a history
record SawIn (d : Shape) (w s id : ℕ) (h : List Entry) : Type 0 where
  pub early : List Entry
  pub begins : Begins h (entry w (LookOpen id) ∷ early)
  pub place : place_of d early w ≡ Entered s

look-is : (D : Desk Workload) (s id : ℕ) (a : Act) (ms : List Move) → IsLookAt D s id a ms → (a ≡ LookOpen id) × (place_by D ms ≡ Entered s)
look-is D s id (LookOpen jd) ms l = (ap LookOpen l.0, l.1)
look-is D s id a ms l = absurd l

find : (D : Desk Workload) (s id : ℕ) (ms : List Move) (h : List Entry) → own_calls D.worker h ≡ entries D.worker ms → Saw D s id ms
    → SawIn D.shape D.worker s id h
find D s id [] h mine saw = absurd saw
find D s id (Made a t ∷ ms) h mine saw =
    let r = own-first D.worker (entry D.worker a) (entries D.worker ms) h mine in
    ⊎_elim
    (λ here. let l = look-is D s id a ms here in record {
      early = r.early;
      begins = subst (λ b. Begins h (entry D.worker b ∷ r.early)) l.0 r.begins;
      place = (moves-tell D r.early ms r.mine).place ∙ l.1;
    })
    (λ before. let f = find D s id ms r.early r.mine before in record {
      early = f.early;
      begins = begins-through h r.early _ (begins-less h r.early (entry D.worker a) r.begins) f.begins;
      place = f.place;
    })
    saw
find D s id (Exchanged ∷ ms) h mine saw = find D s id ms h mine saw

saw-here : (D : Desk Workload) (s id jd : ℕ) (ms : List Move) (b c : Bool) → eqb (slot_by D ms) s ≡ b → lets_in D ms (jd / STAGES) ≡ c
    → ((k : ℕ) × (place_by D ms ≡ Entered k)) → (let_in_by D s ms ≡ Some id → Saw D s id ms)
    → cond (b && c) (Some jd) (let_in_by D s ms) ≡ Some id → IsLookAt D s id (LookOpen jd) ms ⊎ Saw D s id ms
saw-here D s id jd ms true true at lets place before e =
    let k : place.0 ≡ s = ap slot_of (sym place.1) ∙ eqb-true (slot_by D ms) s at in
    inl (some-same jd id e, place.1 ∙ ap Entered k, lets)
saw-here D s id jd ms true false at lets place before e = inr (before e)
saw-here D s id jd ms false c at lets place before e = inr (before e)

saw-let-in : (D : Desk Workload) (s id : ℕ) (ms : List Move) → AreDriven D ms → let_in_by D s ms ≡ Some id → Saw D s id ms
saw-let-in D s id [] driven e = absurd (cc)
saw-let-in D s id (Made (LookOpen jd) t ∷ ms) driven e =
    saw-here D s id jd ms (eqb (slot_by D ms) s) (lets_in D ms (jd / STAGES)) refl refl (look-made-at D ms jd driven.1 driven.0)
    (saw-let-in D s id ms driven.1) e
saw-let-in D s id (Made a t ∷ ms) driven e = inr (saw-let-in D s id ms driven.1 e)
saw-let-in D s id (Exchanged ∷ ms) driven e = saw-let-in D s id ms driven.1 e

-- ---- two slots

module _ (d : Shape) (w s other id jd : ℕ) (same : jd / STAGES ≡ id / STAGES) (ea eb : List Entry)
    (here : place_of d ea w ≡ Entered s) (there : place_of d eb w ≡ Entered other) where
  one-after : IsLegal d (entry w (LookOpen id) ∷ ea) → Begins (entry w (LookOpen id) ∷ ea) (entry w (LookOpen jd) ∷ eb) → s ≡ other
  one-after legal begins = ⊎_elim
      (λ e. ap slot_of (sym here ∙ ap (λ h. place_of d h w) (sym (ap rest_of e)) ∙ there))
      (λ before. one-slot-seen d w w s other id jd ea eb legal before here there same)
      (begins-cases (entry w (LookOpen id)) ea (entry w (LookOpen jd) ∷ eb) begins)

pub one-slot-lets-in : OneSlotLetsIn
one-slot-lets-in D h ms s other id jd moves here there same =
    let a = find D s id ms h moves.mine (saw-let-in D s id ms moves.driven here) in
    let b = find D other jd ms h moves.mine (saw-let-in D other jd ms moves.driven there) in
    ⊎_elim
    (λ begins. one-after D.shape D.worker s other id jd same a.early b.early a.place b.place (begins-legal D.shape h _ moves.legal a.begins) begins)
    (λ begins. sym (one-after D.shape D.worker other s jd id (sym same) b.early a.early b.place a.place (begins-legal D.shape h _ moves.legal b.begins) begins))
    (begins-nest h _ _ a.begins b.begins)

-- ---- a look of the same slot later

-- a look that let the worker in was at a task set that was installed
installed : (D : Desk Workload) (s id : ℕ) (ms : List Move) (h : List Entry) → IsLegal D.shape h → own_calls D.worker h ≡ entries D.worker ms → Saw D s id ms
    → 0 < installs_of id h
installed D s id ms h legal mine saw =
    let f = find D s id ms h mine saw in
    let old = begins-legal D.shape h _ legal f.begins in
    let some : 0 < installs_of id f.early = serving-installed D.shape f.early s id old.2 (look-serves D.shape D.worker s id f.early old f.place) in
    let began : Begins h f.early = begins-less h f.early (entry D.worker (LookOpen id)) f.begins in
    let grows : installs_of id f.early ≤ installs_of id h = subst (λ x. installs_of id f.early ≤ installs_of id x) (sym began.1)
    (installs-grow id began.0 f.early) in
    omega (arith, some, grows)

-- The last look at the slot that let the worker in was at a task set that is P, if one of them was of this id and each later one that
-- follows an install of this id is P too.
module _ (D : Desk Workload) (h : List Entry) (legal : IsLegal D.shape h) (s id : ℕ) (P : ℕ → Type 0) (was : P id)
    (again : (kd : ℕ) (mid : List Entry) → Begins h (entry D.worker (LookOpen kd) ∷ mid) → place_of D.shape mid D.worker ≡ Entered s
    → 0 < installs_of id mid → P kd) where
  record LetIn (o : Option ℕ) : Type 0 where
    pub id_is : ℕ
    pub is : o ≡ Some id_is
    pub fits : P id_is

  stays-here : (jd : ℕ) (ms : List Move) (mid : List Entry) (b c : Bool) → eqb (slot_by D ms) s ≡ b → lets_in D ms (jd / STAGES) ≡ c
      → Begins h (entry D.worker (LookOpen jd) ∷ mid) → own_calls D.worker mid ≡ entries D.worker ms
      → ((k : ℕ) × (place_by D ms ≡ Entered k)) → (Saw D s id ms → LetIn (let_in_by D s ms))
      → (IsLookAt D s id (LookOpen jd) ms ⊎ Saw D s id ms) → LetIn (cond (b && c) (Some jd) (let_in_by D s ms))
  stays-here jd ms mid true true at lets begins mine place before saw =
      let k : place.0 ≡ s = ap slot_of (sym place.1) ∙ eqb-true (slot_by D ms) s at in
      let here : place_of D.shape mid D.worker ≡ Entered s = (moves-tell D mid ms mine).place ∙ place.1 ∙ ap Entered k in
      record {
        id_is = jd;
        is = refl;
        fits = ⊎_elim
            (λ l. subst P (sym l.0) was)
            (λ l. again jd mid begins here
            (installed D s id ms mid (begins-legal D.shape h mid legal (begins-less h mid (entry D.worker (LookOpen jd)) begins)) mine l))
            saw;
      }
  stays-here jd ms mid true false at lets begins mine place before saw = ⊎_elim (λ l. absurd (lets-not lets l.2)) before saw where
    lets-not : lets_in D ms (jd / STAGES) ≡ false → lets_in D ms (jd / STAGES) ≡ true → ⊥
    lets-not was is = cc
  stays-here jd ms mid false c at lets begins mine place before saw = ⊎_elim
      (λ l. absurd (not-there at (eq-eqb (slot_by D ms) s (ap slot_of l.1)))) before saw where
        not-there : eqb (slot_by D ms) s ≡ false → eqb (slot_by D ms) s ≡ true → ⊥
        not-there was is = cc

  stays : (ms : List Move) (g : List Entry) → Begins h g → own_calls D.worker g ≡ entries D.worker ms → AreDriven D ms → Saw D s id ms
      → LetIn (let_in_by D s ms)
  stays [] g begins mine driven saw = absurd saw
  stays (Made (LookOpen jd) t ∷ ms) g begins mine driven saw =
      let r = own-first D.worker (entry D.worker (LookOpen jd)) (entries D.worker ms) g mine in
      let there = begins-through h g _ begins r.begins in
      stays-here jd ms r.early (eqb (slot_by D ms) s) (lets_in D ms (jd / STAGES)) refl refl there r.mine (look-made-at D ms jd driven.1 driven.0)
      (stays ms r.early (begins-less h r.early (entry D.worker (LookOpen jd)) there) r.mine driven.1) saw
  stays (Made a t ∷ ms) g begins mine driven saw =
      let r = own-first D.worker (entry D.worker a) (entries D.worker ms) g mine in
      ⊎_elim (λ l. absurd l) (stays ms r.early (begins-less h r.early (entry D.worker a) (begins-through h g _ begins r.begins)) r.mine driven.1) saw
  stays (Exchanged ∷ ms) g begins mine driven saw = stays ms g begins mine driven.1 saw

-- ---- ranges come after looks

record SawQuery (D : Desk Workload) (q : ℕ) (ms : List Move) : Type 0 where
  pub slot : ℕ
  pub id : ℕ
  pub saw : Saw D slot id ms
  pub query : id / STAGES ≡ q

saw-claim : (D : Desk Workload) (ms : List Move) (n from to t : ℕ) → AreDriven D (Made (ClaimRange n from to) t ∷ ms) → SawQuery D (query_by D ms) ms
saw-claim D ms n from to t driven =
    let l : IsLetIn D ms = claim-made-at D ms n from to driven.1 driven.0 in
    record { slot = l.slot; id = l.id; saw = saw-let-in D l.slot l.id ms driven.1 l.let_in; query = ap (λ p. id_at p / STAGES) (sym l.place) }

time-here : (D : Desk Workload) (q : ℕ) (ms : List Move) (x t : ℕ) (a : Act) (b : Bool) → eqb (query_by D ms) q ≡ b → SawQuery D (query_by D ms) ms
    → ((x ≡ 0) ⊎ SawQuery D q ms) → ((cond b (x + t) x) ≡ 0) ⊎ SawQuery D q (Made a t ∷ ms)
time-here D q ms x t a true at here before =
    inr (record { slot = here.slot; id = here.id; saw = inr here.saw; query = here.query ∙ eqb-true (query_by D ms) q at })
time-here D q ms x t a false at here before =
    ⊎_elim inl (λ r. inr (record { slot = r.slot; id = r.id; saw = inr r.saw; query = r.query })) before

time-saw : (D : Desk Workload) (q : ℕ) (ms : List Move) → AreDriven D ms → (time_in D q ms ≡ 0) ⊎ SawQuery D q ms
time-saw D q [] driven = inl refl
time-saw D q (Made (ClaimRange n from to) t ∷ ms) driven =
    time-here D q ms (time_in D q ms) t (ClaimRange n from to) (eqb (query_by D ms) q) refl (saw-claim D ms n from to t driven) (time-saw D q ms driven.1)
time-saw D q (Made a t ∷ ms) driven =
    ⊎_elim inl (λ r. inr (record { slot = r.slot; id = r.id; saw = inr r.saw; query = r.query })) (time-saw D q ms driven.1)
time-saw D q (Exchanged ∷ ms) driven =
    ⊎_elim inl (λ r. inr (record { slot = r.slot; id = r.id; saw = r.saw; query = r.query })) (time-saw D q ms driven.1)

abbrev NoRanges : Desk Workload → ℕ → List Move → Type 0
NoRanges D id ms = (taken_by D id ms ≡ []) × (last_end D id ms ≡ 0)

abbrev SawTask : Desk Workload → ℕ → List Move → Type 0
SawTask D id ms = (s : ℕ) × Saw D s id ms

taken-here : (D : Desk Workload) (id : ℕ) (ms : List Move) (xs : List (ℕ × ℕ)) (e to n t : ℕ) (a : Act) (b : Bool) → eqb (task_by D ms) id ≡ b
    → IsLetIn D ms → AreDriven D ms
    → (((xs ≡ []) × (e ≡ 0)) ⊎ SawTask D id ms)
    → ((cond b (xs ++ (n, t) ∷ []) xs ≡ []) × (cond b to e ≡ 0)) ⊎ SawTask D id (Made a t ∷ ms)
taken-here D id ms xs e to n t a true at here driven before =
    let same : here.id ≡ id = ap id_at (sym here.place) ∙ eqb-true (task_by D ms) id at in
    inr (here.slot, inr (saw-let-in D here.slot id ms driven (here.let_in ∙ ap Some same)))
taken-here D id ms xs e to n t a false at here driven before = ⊎_elim inl (λ r. inr (r.0, inr r.1)) before

taken-saw : (D : Desk Workload) (id : ℕ) (ms : List Move) → AreDriven D ms → NoRanges D id ms ⊎ SawTask D id ms
taken-saw D id [] driven = inl (refl, refl)
taken-saw D id (Made (ClaimRange n from to) t ∷ ms) driven =
    taken-here D id ms (taken_by D id ms) (last_end D id ms) to (to - from) t (ClaimRange n from to) (eqb (task_by D ms) id) refl
    (claim-made-at D ms n from to driven.1 driven.0) driven.1 (taken-saw D id ms driven.1)
taken-saw D id (Made a t ∷ ms) driven = ⊎_elim inl (λ r. inr (r.0, inr r.1)) (taken-saw D id ms driven.1)
taken-saw D id (Exchanged ∷ ms) driven = taken-saw D id ms driven.1

-- ---- a look

pub looks-fit : LooksFit
looks-fit D h ms id moves legal = record {
  query = ⊎_elim inl (λ r. inr (query-stays r)) (time-saw D q ms moves.driven);
  task = ⊎_elim inl (λ r. inr (task-stays r.0 r.1)) (taken-saw D id ms moves.driven);
} where
  w : ℕ
  w = D.worker

  q : ℕ
  q = id / STAGES

  at : place_of D.shape h w ≡ Entered legal.1.0
  at = legal.1.1

  slot : slot_by D ms ≡ legal.1.0
  slot = ap slot_of (sym (moves-tell D h ms moves.mine).place ∙ at)

  newer : (x : List Entry) → Begins h x → Begins (entry w (LookOpen id) ∷ h) x
  newer x b = begins-more (entry w (LookOpen id)) h x b

  query-stays : SawQuery D q ms → query_let_in D (slot_by D ms) ms ≡ Some q
  query-stays r =
      let f = find D r.slot r.id ms h moves.mine r.saw in
      let one : legal.1.0 ≡ r.slot = one-slot-seen D.shape w w legal.1.0 r.slot id r.id h f.early legal f.begins at f.place r.query in
      let l = stays D h moves.legal r.slot r.id (λ k. k / STAGES ≡ q) r.query
      (λ kd mid begins here some. same-query-seen D.shape w w r.slot id r.id kd h mid legal begins (at ∙ ap Entered one) here r.query some)
      ms h (begins-self h) moves.mine moves.driven r.saw in
      ap (λ k. query_let_in D k ms) (slot ∙ one) ∙ ap (option_map (λ k. k / STAGES)) l.is ∙ ap Some l.fits

  task-stays : (s : ℕ) → Saw D s id ms → let_in_by D (slot_by D ms) ms ≡ Some id
  task-stays s saw =
      let f = find D s id ms h moves.mine saw in
      let one : legal.1.0 ≡ s = one-slot-seen D.shape w w legal.1.0 s id id h f.early legal f.begins at f.place refl in
      let serves : task_in D.shape s h ≡ Some id = look-serves D.shape w s id h legal (at ∙ ap Entered one) in
      let l = stays D h moves.legal s id (λ k. k ≡ id) refl
      (λ kd mid begins here some.
      let old = begins-legal D.shape h _ moves.legal begins in
      let before : Begins h mid = begins-less h mid (entry w (LookOpen kd)) begins in
      some-same kd id (sym (look-serves D.shape w s kd mid old here) ∙ task-keeps-slot D.shape h mid s id moves.legal serves before some))
      ms h (begins-self h) moves.mine moves.driven saw in
      ap (λ k. let_in_by D k ms) (slot ∙ one) ∙ l.is ∙ ap Some l.fits
