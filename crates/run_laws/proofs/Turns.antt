-- A turn that a worker makes while all workers are free acts, and lowers the numbers, or ends.
use Rattle.std.proofs.Common.{◌≡◌, ◌⊎◌, inl, inr, ℕ, ◌+◌, ◌/◌, ◌<◌, ◌≤◌, true, false, cond, ltb}
use Rattle.std.proofs.Common.{List, [], ◌∷◌, ◌++◌, Option, Some, None, refl, sym, ap, ap₂, ◌∙◌, subst, arith}
use Rattle.std.proofs.lemmas.Bool.{true≢false, cond_both, ltb-false, le-ltb}
use Rattle.slot_history.specs.declared.shape.Shape.{Shape}
use Rattle.slot_history.specs.declared.shape.TheConstants.{STAGES, PARTS}
use Rattle.slot_history.specs.declared.act.Act.{Act}
use Rattle.slot_history.specs.declared.act.Act.TheVariants.{Enter, LookOpen, LookInvalid, LookVacant, ClaimRange, ClaimUsed, ShutWon, ShutLost, LeaveLeft}
use Rattle.slot_history.specs.declared.act.Act.TheVariants.{LeaveOwe, MarkMarked, MarkMissed, SweepLast, SweepOthers, ReserveGot}
use Rattle.slot_history.specs.declared.act.Act.TheVariants.{ReserveTaken, AdmitGot, AdmitLost, Arrivals, Finished, NoteDone, SetTotal, Install, Release}
use Rattle.slot_history.specs.declared.act.Act.TheVariants.{Announce, TakeReturn, TakeChange}
use Rattle.slot_history.specs.declared.act.Entry.{Entry}
use Rattle.slot_history.specs.declared.place.Place.{Place}
use Rattle.slot_history.specs.declared.place.Place.TheVariants.{Free, Inside, Leading, Asking, Announcing}
use Rattle.slot_history.specs.States.{ObjectState, NoticeRecord, slot_of, id_at, held_at, task_of, is_open, is_empty}
use Rattle.slot_history.specs.Steps.{moved, left, asked_one, claimed, dropped, state_after}
use Rattle.slot_history.specs.Allowed.{IsAllowed}
use Rattle.slot_history.specs.Histories.{IsLegal, entry, own_calls}
use Rattle.slot_history.specs.Notices.{IsQuiet}
use Rattle.slot_history.specs.Bounds.{IsPlaceWithin}
use Rattle.slot_history.specs.LoneTurns.{IsOnlyBy, IsLone, AreTakes, needs_another}
use Rattle.slot_history.proofs.Sets.{upd-same}
use Rattle.slot_history.proofs.Own.{own-mine}
use Rattle.slot_history.proofs.Table.{table}
use Rattle.slot_history.proofs.Places.{quiet-slots}
use Rattle.slot_history.proofs.Within.{within}
use Rattle.slot_history.proofs.Cursors.{cursors}
use Rattle.slot_history.proofs.OwnRecords.{own-records}
use Rattle.slot_history.proofs.LoneTurns.{stays-lone, meets-nobody, ends-quiet}
use Rattle.stride_set.specs.Strides.{choice_of}
use Rattle.slot_station.specs.Desks.{Desk}
use Rattle.turn_model.specs.declared.turn.Turn.{Turn}
use Rattle.turn_model.specs.declared.turn.Turn.TheVariants.{Acted, Idle, Over}
use Rattle.turn_model.specs.Workloads.{Workload, sets_of}
use Rattle.turn_model.specs.Moves.{Move, Made, Exchanged, entries}
use Rattle.turn_model.specs.Learned.{place_by, slot_by, record_by, allows, lets_in, finished_by, arrived_by, strides_by}
use Rattle.turn_model.specs.Points.{Point, Ready, Return, Change, Count, Arrive, Scan, Admit, Fill, Opens, Tells, FreeIt, Enters, Look, Early, Take, Claim}
use Rattle.turn_model.specs.Points.{Shut, Back, Leave, Ask, Sweep, Pay, Fetch, has_ended, ended_as, picked, asked, told, is_due, goes_on}
use Rattle.turn_model.specs.Points.{after, exchanged, point_by}
use Rattle.turn_model.specs.Driven.{MayCall, MayExchange, May, AreDriven, GoesOn, IsTurn}
use Rattle.turn_model.specs.Runs.{desk_at}
use Rattle.turn_model.specs.Measure.{Falls}
use Rattle.turn_model.proofs.OwnMoves.{moves-tell}
use Rattle.run_laws.specs.Ends.{IsWork, IsKept}
use Rattle.run_laws.proofs.OrdersDrive.{goes-driven}
use Rattle.run_laws.proofs.Made.{AreMade}
use Rattle.run_laws.proofs.PointsStand.{Stands, points-stand}
use Rattle.run_laws.proofs.Account.{history-account}
use Rattle.run_laws.proofs.Numbers.{kept-self, kept-then, kept-falls, falls-then, HasRisen, risen-falls, risen-next}
use Rattle.run_laws.proofs.Numbers.{left_at, left-empty, left-used, left-shut, left-ended}
use Rattle.run_laws.proofs.Numbers.{left-last, left-claimed, kept-return, kept-change, IsPlain, LeavesTuples, kept-plain, falls-dropped}
use Rattle.run_laws.proofs.Numbers.{falls-claimed, dropped-active, looked-active, looked-barred}
use Rattle.run_laws.proofs.Alone.{chosen-active, unchosen-active, TookAll, took-more, took-next, took-all, OpenAreActive, taken-active, active-stays}
use Rattle.run_laws.proofs.Alone.{all-empty, all-done, none-due, finished-low, open-low}

module _ (d : Shape) (load : Workload) (work : IsWork d load) (w : ℕ) (low : w < d.workers) (old : List Entry) (ms0 : List Move)
    (quiet : IsQuiet d (state_after d old)) (driven : AreDriven (desk_at d load w) ms0) (mine : own_calls w old ≡ entries w ms0) where
  abbrev D : Desk Workload
  D = desk_at d load w

  abbrev first : ObjectState
  first = state_after d old

  -- the state after these entries more
  abbrev now : List Entry → ObjectState
  now es = state_after d (es ++ old)

  -- so far the numbers are as before the turn, but for notices that were taken and records that were dropped
  abbrev Keeps : List Entry → Type 0
  Keeps es = IsKept d first (now es)

  -- whether the record of a slot is active
  abbrev IsActive : ℕ → List Move → Type 0
  IsActive s ms = (s < d.slots) × ((record_by D s ms).active ≡ true)

  -- what holds at the points of such a turn, by the entries of the turn and all moves of the worker
  abbrev Inv : Point → List Entry → List Move → Type 0
  Inv (Ready turn) es ms = ((turn ≡ Acted) × Falls d load first (now es)) ⊎ ((turn ≡ Over) × Keeps es)
  Inv (Return k) es ms = Keeps es × AreTakes es × TookAll true w k es
  Inv (Change k) es ms = Keeps es × AreTakes es × TookAll true w PARTS es × TookAll false w k es
  Inv Count es ms = Keeps es × OpenAreActive (now es) w
  Inv Arrive es ms = Keeps es × OpenAreActive (now es) w × (finished_by D ms ≡ (now es).finished)
  Inv (Scan s) es ms = Keeps es × OpenAreActive (now es) w × (arrived_by D ms ≡ (now es).admitted)
  Inv Admit es ms = Keeps es × (arrived_by D ms ≡ (now es).admitted)
  Inv (Enters s) es ms = Keeps es × IsActive s ms
  Inv Look es ms = Keeps es × IsActive (slot_by D ms) ms
  Inv Early es ms = Falls d load first (now es)
  Inv Back es ms = (Falls d load first (now es) × ((s id : ℕ) × (place_by D ms ≡ Inside s id)))
      ⊎ (Keeps es × ((s id : ℕ) × (place_by D ms ≡ Leading s id)))
  Inv Leave es ms = (Falls d load first (now es) × ((s id : ℕ) × (place_by D ms ≡ Inside s id)))
      ⊎ (Keeps es × ((s id : ℕ) × (place_by D ms ≡ Leading s id)))
  Inv (Fill v) es ms = HasRisen first (now es)
  Inv Opens es ms = HasRisen first (now es)
  Inv Tells es ms = HasRisen first (now es)
  Inv FreeIt es ms = HasRisen first (now es)
  Inv Pay es ms = ⊥
  Inv x es ms = Keeps es

  -- a moment of the turn, by its entries and all moves of the worker
  record Moment (es : List Entry) (ms : List Move) : Type 0 where
    legal : IsLegal d (es ++ old)
    lone : IsLone d (now es) w
    place : (now es).places w ≡ place_by D ms
    records : (s : ℕ) → (now es).records w s ≡ record_by D s ms

  -- after one call more
  record Goes (a : Act) (es : List Entry) : Type 0 where
    legal : IsLegal d (entry w a ∷ es ++ old)
    made : AreMade d load (entry w a ∷ es ++ old)

  abbrev Then : Act → List Entry → List Entry
  Then a es = entry w a ∷ es

  risen-ends : (a : Act) (es : List Entry) → Goes a es → HasRisen first (now (Then a es)) → Falls d load first (now (Then a es))
  risen-ends a es goes risen =
      let most = (within d (entry w a ∷ es ++ old) goes.legal).admitted in
      risen-falls d load first (now (Then a es)) risen most
      (finished-low d load (now (Then a es)) (history-account d load work.some (entry w a ∷ es ++ old) goes.legal goes.made) most)

  told-inv : (es : List Entry) (ms : List Move) (p : Place) → HasRisen first (now es) → Falls d load first (now es) → Inv (told p) es ms
  told-inv es ms (Announcing s again n) risen falls = risen
  told-inv es ms p risen falls = inl (refl, falls)

  asked-inv : (es : List Entry) (ms : List Move) (s id n k : ℕ) → Keeps es → Inv (asked d.workers (Asking s id n k)) es ms
  asked-inv es ms s id n k kept = cond_both (ltb (n + 1) d.workers) Ask Sweep (λ x. Inv x es ms) (λ t. kept) (λ t. kept)

  module _ (es : List Entry) (ms : List Move) (m : Moment es ms) where
    -- a plain call keeps the numbers
    keeps : (a : Act) → IsPlain d (now es) w a → LeavesTuples d (now es) w a → Keeps es → Keeps (Then a es)
    keeps a plain same kept = kept-then d first (now es) (now (Then a es)) kept (kept-plain d load (now es) w a plain same)

    alone : (a : Act) → Goes a es → needs_another a ≡ false
    alone a goes = meets-nobody d w a (es ++ old) goes.legal m.lone

    -- the slot of the worker, and its record there
    slot-is : slot_of ((now es).places w) ≡ slot_by D ms
    slot-is = ap slot_of m.place

    slot-low : IsActive (slot_by D ms) ms → slot_of ((now es).places w) < d.slots
    slot-low at = subst (λ s. s < d.slots) (sym slot-is) at.0

    slot-active : IsActive (slot_by D ms) ms → ((now es).records w (slot_of ((now es).places w))).active ≡ true
    slot-active at = ap (λ s. ((now es).records w s).active) slot-is ∙ ap (λ (r : NoticeRecord). r.active) (m.records (slot_by D ms)) ∙ at.1

    -- ---- takes

    return-inv : (k part bits t : ℕ) → part ≡ k → Keeps es → AreTakes es → TookAll true w k es
        → Inv (cond (ltb (k + 1) PARTS) (Return (k + 1)) (Change 0)) (Then (TakeReturn part bits) es) (Made (TakeReturn part bits) t ∷ ms)
    return-inv k part bits t at kept takes took =
        let new : List Entry = Then (TakeReturn part bits) es in
        let kept_then : Keeps new = kept-then d first (now es) (now new) kept (kept-return d (now es) w part bits low) in
        let took_then : TookAll true w (k + 1) new = took-next true w k part bits es at took in
        cond_both (ltb (k + 1) PARTS) (Return (k + 1)) (Change 0) (λ x. Inv x new (Made (TakeReturn part bits) t ∷ ms))
        (λ more. (kept_then, (refl, takes), took_then))
        (λ last. (kept_then, (refl, takes), took-all true w (k + 1) new (ltb-false (k + 1) PARTS last) took_then, λ j none. absurd (omega (arith, none))))

    change-inv : (k part bits t : ℕ) → Goes (TakeChange part bits) es → part ≡ k → Keeps es → AreTakes es → TookAll true w PARTS es → TookAll false w k es
        → Inv (cond (ltb (k + 1) PARTS) (Change (k + 1)) Count) (Then (TakeChange part bits) es) (Made (TakeChange part bits) t ∷ ms)
    change-inv k part bits t goes at kept takes returns took =
        let new : List Entry = Then (TakeChange part bits) es in
        let kept_then : Keeps new = kept-then d first (now es) (now new) kept (kept-change d (now es) w part bits low) in
        let returns_then : TookAll true w PARTS new = λ j j_low. took-more true w j (entry w (TakeChange part bits)) es (returns j j_low) in
        let took_then : TookAll false w (k + 1) new = took-next false w k part bits es at took in
        cond_both (ltb (k + 1) PARTS) (Change (k + 1)) Count (λ x. Inv x new (Made (TakeChange part bits) t ∷ ms))
        (λ more. (kept_then, (refl, takes), returns_then, took_then))
        (λ last. (
          kept_then,
          taken-active d w new old work.shape low goes.legal quiet (refl, takes) returns_then
              (took-all false w (k + 1) new (ltb-false (k + 1) PARTS last) took_then),
        ))

    -- ---- the choice

    -- with no choice no slot is open
    none-open : choice_of (strides_by D ms) ≡ None → OpenAreActive (now es) w → (s : ℕ) → is_open ((now es).slots s) ≡ true → ⊥
    none-open none active s o =
        let off = unchosen-active D ms s none (open-low d (now es) s (within d (es ++ old) m.legal) o) in
        true≢false (sym (active s o) ∙ ap (λ (r : NoticeRecord). r.active) (m.records s) ∙ off)

    none-there : choice_of (strides_by D ms) ≡ None → OpenAreActive (now es) w → place_by D ms ≡ Free → (s : ℕ) → is_empty ((now es).slots s) ≡ true
    none-there none active free = all-empty d (now es)
        (quiet-slots d (now es) (table d (es ++ old) m.legal) (ends-quiet d (now es) w m.lone (m.place ∙ free)))
        (none-open none active)

    arrive-inv : (n t : ℕ) → Goes (Arrivals n) es → place_by D ms ≡ Free → Inv Arrive es ms
        → Inv (after D ms Arrive (Arrivals n)) (Then (Arrivals n) es) (Made (Arrivals n) t ∷ ms)
    arrive-inv n t goes free inv =
        let new : List Entry = Then (Arrivals n) es in
        let kept : Keeps new = keeps (Arrivals n) (record { admitted = refl; finished = refl; changes = refl; returns = refl; active = λ s h. h }) refl inv.0 in
        let is : n ≡ (now es).admitted = goes.legal.1 in
        cond_both (is_due D n (finished_by D ms)) (Scan 0) (picked (choice_of (strides_by D ms)) (ended_as (finished_by D ms) (sets_of d load)))
        (λ x. Inv x new (Made (Arrivals n) t ∷ ms))
        (λ due. (kept, active-stays d (now es) w (Arrivals n) refl refl inv.1, is))
        (λ undue. pick (choice_of (strides_by D ms)) refl kept
        (λ none. let done = all-done d load (now es) (history-account d load work.some (es ++ old) m.legal goes.made.1) (none-there none inv.1 free) in
        let all : sets_of d load ≤ (now es).finished = none-due d load (now es) work.in_time (within d (es ++ old) m.legal).admitted done
        (ap₂ (λ i f. is_due D i f) (sym is) (sym inv.2) ∙ undue) in
        (ap (λ f. ended_as f (sets_of d load)) inv.2 ∙ ap (λ b. cond b Idle Over) (le-ltb (now es).finished (sets_of d load) all))))
      where
        pick : (o : Option ℕ) → choice_of (strides_by D ms) ≡ o → Keeps (Then (Arrivals n) es)
            → (choice_of (strides_by D ms) ≡ None → ended_as (finished_by D ms) (sets_of d load) ≡ Over)
            → Inv (picked o (ended_as (finished_by D ms) (sets_of d load))) (Then (Arrivals n) es) (Made (Arrivals n) t ∷ ms)
        pick None is kept over = inr (over is, kept)
        pick (Some s) is kept over = (kept, chosen-active D ms s is)

    taken-inv : (s k word t : ℕ) → Goes (ReserveTaken k word) es → place_by D ms ≡ Free → Inv (Scan s) es ms
        → Inv (after D ms (Scan s) (ReserveTaken k word)) (Then (ReserveTaken k word) es) (Made (ReserveTaken k word) t ∷ ms)
    taken-inv s k word t goes free inv =
        let new : List Entry = Then (ReserveTaken k word) es in
        let kept : Keeps new =
        keeps (ReserveTaken k word) (record { admitted = refl; finished = refl; changes = refl; returns = refl; active = λ s h. h }) refl inv.0 in
        cond_both (ltb (s + 1) d.slots) (Scan (s + 1)) (picked (choice_of (strides_by D ms)) (ended_as (finished_by D ms) (sets_of d load)))
        (λ x. Inv x new (Made (ReserveTaken k word) t ∷ ms))
        (λ more. (kept, active-stays d (now es) w (ReserveTaken k word) refl refl inv.1, inv.2))
        (λ last. pick (choice_of (strides_by D ms)) refl kept)
      where
        pick : (o : Option ℕ) → choice_of (strides_by D ms) ≡ o → Keeps (Then (ReserveTaken k word) es)
            → Inv (picked o (ended_as (finished_by D ms) (sets_of d load))) (Then (ReserveTaken k word) es) (Made (ReserveTaken k word) t ∷ ms)
        pick None is kept = let fine : IsAllowed d (now es) w (ReserveTaken k word) = goes.legal.1 in
            absurd (true≢false (sym (none-there is inv.1 free k) ∙ fine.2))
        pick (Some j) is kept = (kept, chosen-active D ms j is)

    -- ---- looks and ranges

    look-plain : (id : ℕ) → IsPlain d (now es) w (LookOpen id)
    look-plain id = record {
      admitted = refl;
      finished = refl;
      changes = refl;
      returns = refl;
      active = looked-active ((now es).records w) (id / STAGES) (slot_of ((now es).places w));
    }

    look-inv : (id t : ℕ) → Inv Look es ms → Inv (after D ms Look (LookOpen id)) (Then (LookOpen id) es) (Made (LookOpen id) t ∷ ms)
    look-inv id t inv = let k : ℕ = slot_of ((now es).places w) in
        cond_both (lets_in D ms (id / STAGES)) Take Early (λ x. Inv x (Then (LookOpen id) es) (Made (LookOpen id) t ∷ ms))
        (λ lets. keeps (LookOpen id) (look-plain id) refl inv.0)
        (λ barred. kept-falls d load first (now es) (now (Then (LookOpen id) es)) inv.0
        (falls-dropped d load (now es) w (LookOpen id) (look-plain id) refl low k (slot-low inv.1) (slot-active inv.1)
        (looked-barred ((now es).records w) (id / STAGES) k
        (ap (λ s. allows ((now es).records w s).group (id / STAGES)) slot-is
        ∙ ap (λ (r : NoticeRecord). allows r.group (id / STAGES)) (m.records (slot_by D ms)) ∙ barred))))

    vacant-inv : Inv Look es ms → Falls d load first (now (Then LookVacant es))
    vacant-inv inv = let k : ℕ = slot_of ((now es).places w) in
        kept-falls d load first (now es) (now (Then LookVacant es)) inv.0
        (falls-dropped d load (now es) w LookVacant
        (record { admitted = refl; finished = refl; changes = refl; returns = refl; active = dropped-active ((now es).records w) k })
        refl low k (slot-low inv.1) (slot-active inv.1)
        (ap (λ (r : NoticeRecord). r.active) (upd-same ((now es).records w) k (dropped ((now es).records w k)))))

    range-falls : (n from to : ℕ) → Goes (ClaimRange n from to) es → Keeps es → Falls d load first (now (Then (ClaimRange n from to) es))
    range-falls n from to goes kept =
        let fine : IsAllowed d (now es) w (ClaimRange n from to) = goes.legal.1 in
        let at : fine.0 ≡ slot_of ((now es).places w) = sym (ap slot_of fine.2) in
        let here : fine.0 < d.slots = subst (IsPlaceWithin d) fine.2 ((within d (es ++ old) m.legal).places w) in
        let some : 0 < n = fine.3 in
        let from_is : from ≡ (task_of ((now es).slots fine.0)).cursor = fine.5 in
        let more : from < (task_of ((now es).slots fine.0)).total = fine.6 in
        kept-falls d load first (now es) (now (Then (ClaimRange n from to) es)) kept
        (falls-claimed d load (now es) w (ClaimRange n from to)
        (record { admitted = refl; finished = refl; changes = refl; returns = refl; active = λ s h. h })
        (subst (λ s. s < d.slots) at here)
        (subst (λ s. left_at (claimed ((now es).slots s) n) < left_at ((now es).slots s)) at
        (left-claimed ((now es).slots fine.0) n some (omega (arith, from_is, more)))))

    used-keeps : (n : ℕ) → Goes (ClaimUsed n) es → Keeps es → Keeps (Then (ClaimUsed n) es)
    used-keeps n goes kept =
        let fine : IsAllowed d (now es) w (ClaimUsed n) = goes.legal.1 in
        let at : fine.0 ≡ slot_of ((now es).places w) = sym (ap slot_of fine.2) in
        keeps (ClaimUsed n) (record { admitted = refl; finished = refl; changes = refl; returns = refl; active = λ s h. h })
        (subst (λ s. left_at (claimed ((now es).slots s) n) ≡ left_at ((now es).slots s)) at (left-used ((now es).slots fine.0) n fine.5)) kept

    -- ---- the end of a visit

    shut-keeps : Keeps es → Keeps (Then ShutWon es)
    shut-keeps = let k : ℕ = slot_of ((now es).places w) in
        keeps ShutWon (record { admitted = refl; finished = refl; changes = refl; returns = refl; active = dropped-active ((now es).records w) k })
        (left-shut w ((now es).slots k))

    leave-keeps : IsKept d (now es) (now (Then LeaveLeft es))
    leave-keeps =
        kept-plain d load (now es) w LeaveLeft (record { admitted = refl; finished = refl; changes = refl; returns = refl; active = λ s h. h }) refl

    leave-inv : (t : ℕ) → Inv Leave es ms → Inv (asked d.workers (left (place_by D ms))) (Then LeaveLeft es) (Made LeaveLeft t ∷ ms)
    leave-inv t (inl (falls, (s, id, at))) = subst (λ p. Inv (asked d.workers (left p)) (Then LeaveLeft es) (Made LeaveLeft t ∷ ms)) (sym at)
        (inl (refl, falls-then d load first (now es) (now (Then LeaveLeft es)) falls leave-keeps))
    leave-inv t (inr (kept, (s, id, at))) = subst (λ p. Inv (asked d.workers (left p)) (Then LeaveLeft es) (Made LeaveLeft t ∷ ms)) (sym at)
        (asked-inv (Then LeaveLeft es) (Made LeaveLeft t ∷ ms) s id 0 0 (kept-then d first (now es) (now (Then LeaveLeft es)) kept leave-keeps))

    missed-inv : (t : ℕ) → ((s id n k : ℕ) × (place_by D ms ≡ Asking s id n k)) → Keeps es
        → Inv (asked d.workers (asked_one (place_by D ms) 0)) (Then MarkMissed es) (Made MarkMissed t ∷ ms)
    missed-inv t (s, id, n, k, at) kept =
        subst (λ p. Inv (asked d.workers (asked_one p 0)) (Then MarkMissed es) (Made MarkMissed t ∷ ms)) (sym at)
        (asked-inv (Then MarkMissed es) (Made MarkMissed t ∷ ms) s id (n + 1) (k + 0)
        (keeps MarkMissed (record { admitted = refl; finished = refl; changes = refl; returns = refl; active = λ s h. h })
        (left-ended d w MarkMissed ((now es).slots (slot_of ((now es).places w)))) kept))

    last-keeps : Keeps es → Keeps (Then SweepLast es)
    last-keeps = let k : ℕ = slot_of ((now es).places w) in
        keeps SweepLast (record { admitted = refl; finished = refl; changes = refl; returns = refl; active = λ s h. h })
        (left-last w ((now es).slots k) (λ shut. (cursors d (es ++ old) m.legal).shut k shut))

    noted-risen : (n : ℕ) → Goes (NoteDone n) es → Keeps es → HasRisen first (now (Then (NoteDone n) es))
    noted-risen n goes kept =
        let fine : IsAllowed d (now es) w (NoteDone n) = goes.legal.1 in
        let some : 0 < n = fine.5 in
        let same : (now es).finished ≡ first.finished = kept.finished in
        inr (kept.admitted, omega (arith, some, same))

    -- ---- all calls

    call-inv : (x : Point) (a : Act) (t : ℕ) → Goes a es → has_ended x ≡ false → MayCall D ms x a → Stands load x (place_by D ms) → Inv x es ms
        → Inv (after D ms x a) (Then a es) (Made a t ∷ ms)
    call-inv (Ready e) a t goes on may p inv = absurd (true≢false on)
    call-inv (Return k) (TakeReturn part bits) t goes on may p inv = return-inv k part bits t may inv.0 inv.1 inv.2
    call-inv (Change k) (TakeChange part bits) t goes on may p inv = change-inv k part bits t goes may inv.0 inv.1 inv.2 inv.3
    call-inv Count (Finished n) t goes on may p inv = (
      keeps (Finished n) (record { admitted = refl; finished = refl; changes = refl; returns = refl; active = λ s h. h }) refl inv.0,
      active-stays d (now es) w (Finished n) refl refl inv.1,
      goes.legal.1,
    )
    call-inv Arrive (Arrivals n) t goes on may p inv = arrive-inv n t goes p inv
    call-inv (Scan s) (ReserveGot k) t goes on may p inv = (
      keeps (ReserveGot k) (record { admitted = refl; finished = refl; changes = refl; returns = refl; active = λ s h. h })
          (left-empty ((now es).slots k) goes.legal.1.2) inv.0,
      inv.2,
    )
    call-inv (Scan s) (ReserveTaken k word) t goes on may p inv = taken-inv s k word t goes p inv
    call-inv Admit (AdmitGot q) t goes on may p inv = inl (let same : (now es).admitted ≡ first.admitted = inv.0.admitted in omega (arith, same))
    call-inv Admit (AdmitLost q late) t goes on may p inv = let fine : IsAllowed d (now es) w (AdmitLost q late) = goes.legal.1 in
        absurd (fine.6 (fine.5 ∙ sym inv.1 ∙ sym may))
    call-inv (Fill v) (SetTotal n) t goes on may p inv = risen-next d first (now es) w (SetTotal n) inv
    call-inv (Fill v) (NoteDone n) t goes on may p inv = risen-next d first (now es) w (NoteDone n) inv
    call-inv Opens (Install id) t goes on may p inv = risen-next d first (now es) w (Install id) inv
    call-inv Tells Announce t goes on may p inv = let risen = risen-next d first (now es) w Announce inv in
        told-inv (Then Announce es) (Made Announce t ∷ ms) (moved d Announce (place_by D ms)) risen (risen-ends Announce es goes risen)
    call-inv FreeIt Release t goes on may p inv = inl (refl, risen-ends Release es goes (risen-next d first (now es) w Release inv))
    call-inv (Enters s) (Enter k) t goes on may p inv = (
      keeps (Enter k) (record { admitted = refl; finished = refl; changes = refl; returns = refl; active = λ s h. h }) refl inv.0,
      subst (λ j. IsActive j ms) (sym may) inv.1,
    )
    call-inv Look (LookOpen id) t goes on may p inv = look-inv id t inv
    call-inv Look LookInvalid t goes on may p inv = absurd (true≢false (alone LookInvalid goes))
    call-inv Look LookVacant t goes on may p inv = vacant-inv inv
    call-inv Early LeaveLeft t goes on may p inv = inl (refl, falls-then d load first (now es) (now (Then LeaveLeft es)) inv leave-keeps)
    call-inv Early (LeaveOwe id) t goes on may p inv = absurd (true≢false (alone (LeaveOwe id) goes))
    call-inv Claim (ClaimRange n from to) t goes on may p inv = inl (range-falls n from to goes inv, p)
    call-inv Claim (ClaimUsed n) t goes on may p inv = used-keeps n goes inv
    call-inv Shut ShutWon t goes on may p inv = inr (shut-keeps inv, (slot_by D ms, id_at (place_by D ms), refl))
    call-inv Shut ShutLost t goes on may p inv = absurd (true≢false (alone ShutLost goes))
    call-inv Leave LeaveLeft t goes on may p inv = leave-inv t inv
    call-inv Leave (LeaveOwe id) t goes on may p inv = absurd (true≢false (alone (LeaveOwe id) goes))
    call-inv Ask MarkMarked t goes on may p inv = absurd (true≢false (alone MarkMarked goes))
    call-inv Ask MarkMissed t goes on may p inv = missed-inv t p inv
    call-inv Sweep SweepLast t goes on may p inv = last-keeps inv
    call-inv Sweep (SweepOthers n) t goes on may p inv = absurd (true≢false (alone (SweepOthers n) goes))
    call-inv Pay a t goes on may p inv = absurd inv
    call-inv (Fetch v) (NoteDone n) t goes on may p inv = let risen = noted-risen n goes inv in
        cond_both (goes_on load (held_at (place_by D ms)) n) (Fill 0) FreeIt (λ x. Inv x (Then (NoteDone n) es) (Made (NoteDone n) t ∷ ms))
        (λ y. risen) (λ y. risen)
    call-inv x a t goes on may p inv = absurd may

  exchange-inv : (es : List Entry) (ms : List Move) (x : Point) → MayExchange D x → Inv x es ms → Inv (exchanged x) es (Exchanged ∷ ms)
  exchange-inv es ms (Fill v) may inv = inv
  exchange-inv es ms Take may inv = inv
  exchange-inv es ms Back may inv = inv
  exchange-inv es ms (Fetch v) may inv = inv
  exchange-inv es ms x may inv = absurd may

  -- ---- the moves of a turn

  only-by : (more : List Move) → IsOnlyBy w (entries w more)
  only-by [] = tt
  only-by (Made a t ∷ more) = (refl, only-by more)
  only-by (Exchanged ∷ more) = only-by more

  all-mine : (more : List Move) → own_calls w (entries w more ++ old) ≡ entries w (more ++ ms0)
  all-mine [] = mine
  all-mine (Made a t ∷ more) = own-mine (entry w a) (entries w more ++ old) w refl ∙ ap (λ l. entry w a ∷ l) (all-mine more)
  all-mine (Exchanged ∷ more) = all-mine more

  moment : (more : List Move) → IsLegal d (entries w more ++ old) → Moment (entries w more) (more ++ ms0)
  moment more legal =
      let tells = moves-tell D (entries w more ++ old) (more ++ ms0) (all-mine more) in
      record {
        legal = legal;
        lone = stays-lone d w (entries w more) old low legal quiet (only-by more);
        place = tells.place;
        records = λ s. own-records d (entries w more ++ old) legal w s ∙ tells.records s;
      }

  legal-less : (m : Move) (more : List Move) → IsLegal d (entries w (m ∷ more) ++ old) → IsLegal d (entries w more ++ old)
  legal-less (Made a t) more legal = legal.2
  legal-less Exchanged more legal = legal

  made-less : (m : Move) (more : List Move) → AreMade d load (entries w (m ∷ more) ++ old) → AreMade d load (entries w more ++ old)
  made-less (Made a t) more made = made.1
  made-less Exchanged more made = made

  begin-inv : (x : Point) (a : Act) (t : ℕ) → Moment [] ms0 → has_ended x ≡ true → MayCall D ms0 x a → Inv (after D ms0 x a) (Then a []) (Made a t ∷ ms0)
  begin-inv (Ready e) (TakeReturn part bits) t m ended may =
      return-inv [] ms0 m 0 part bits t may (kept-self d first) tt (λ j none. absurd (omega (arith, none)))
  begin-inv (Ready e) a t m ended may = absurd may
  begin-inv x a t m ended may = absurd (true≢false (sym ended))

  begin-exchange : (x : Point) → has_ended x ≡ true → MayExchange D x → ⊥
  begin-exchange (Ready e) ended may = may
  begin-exchange x ended may = true≢false (sym ended)

  first-inv : (m : Move) → May D ms0 m → has_ended (point_by D ms0) ≡ true → IsLegal d (entries w (m ∷ []) ++ old)
      → Inv (point_by D (m ∷ ms0)) (entries w (m ∷ [])) (m ∷ ms0)
  first-inv (Made a t) may ended legal = begin-inv (point_by D ms0) a t (moment [] legal.2) ended may
  first-inv Exchanged may ended legal = absurd (begin-exchange (point_by D ms0) ended may)

  step-inv : (m : Move) (more : List Move) → May D (more ++ ms0) m → GoesOn D more ms0 → has_ended (point_by D (more ++ ms0)) ≡ false
      → IsLegal d (entries w (m ∷ more) ++ old) → AreMade d load (entries w (m ∷ more) ++ old)
      → Inv (point_by D (more ++ ms0)) (entries w more) (more ++ ms0)
      → Inv (point_by D (m ∷ more ++ ms0)) (entries w (m ∷ more)) (m ∷ more ++ ms0)
  step-inv (Made a t) more may goes on legal made inv =
      call-inv (entries w more) (more ++ ms0) (moment more legal.2) (point_by D (more ++ ms0)) a t (record { legal = legal; made = made }) on may
      (points-stand D (more ++ ms0) (goes-driven D more ms0 goes driven)) inv
  step-inv Exchanged more may goes on legal made inv = exchange-inv (entries w more) (more ++ ms0) (point_by D (more ++ ms0)) may inv

  way-inv : (m : Move) (more : List Move) → May D (more ++ ms0) m → GoesOn D more ms0 → has_ended (point_by D ms0) ≡ true
      → IsLegal d (entries w (m ∷ more) ++ old) → AreMade d load (entries w (m ∷ more) ++ old)
      → Inv (point_by D (m ∷ more ++ ms0)) (entries w (m ∷ more)) (m ∷ more ++ ms0)
  way-inv m [] may goes begins legal made = first-inv m may begins legal
  way-inv m (n ∷ more) may goes begins legal made = step-inv m (n ∷ more) may goes goes.1 legal made
      (way-inv n more goes.0 goes.2 begins (legal-less m (n ∷ more) legal) (made-less m (n ∷ more) made))

  pub turn-inv : (more : List Move) (turn : Turn) → IsTurn D more ms0 turn → IsLegal d (entries w more ++ old) → AreMade d load (entries w more ++ old)
      → ((turn ≡ Acted) × Falls d load first (now (entries w more))) ⊎ ((turn ≡ Over) × Keeps (entries w more))
  turn-inv more turn is legal made =
      let e = is.turns in
      let legal_last : IsLegal d (entries w (e.last ∷ e.before) ++ old) = subst (λ l. IsLegal d (entries w l ++ old)) e.all legal in
      let made_last : AreMade d load (entries w (e.last ∷ e.before) ++ old) = subst (λ l. AreMade d load (entries w l ++ old)) e.all made in
      let inv = way-inv e.last e.before e.may e.way is.begins legal_last made_last in
      let all : Inv (point_by D (more ++ ms0)) (entries w more) (more ++ ms0) =
      subst (λ l. Inv (point_by D (l ++ ms0)) (entries w l) (l ++ ms0)) (sym e.all) inv in
      subst (λ x. Inv x (entries w more) (more ++ ms0)) e.ends all

  -- and all workers are free again
  pub turn-quiet : (more : List Move) (turn : Turn) → IsTurn D more ms0 turn → AreDriven D (more ++ ms0) → IsLegal d (entries w more ++ old)
      → IsQuiet d (now (entries w more))
  turn-quiet more turn is all legal =
      let m = moment more legal in
      let free : place_by D (more ++ ms0) ≡ Free =
      subst (λ x. Stands load x (place_by D (more ++ ms0))) is.turns.ends (points-stand D (more ++ ms0) all) in
      ends-quiet d (now (entries w more)) w m.lone (m.place ∙ free)
