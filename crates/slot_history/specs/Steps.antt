-- What a call changes.
use Rattle.std.specs.Prelude.{ℕ, ◌+◌, ◌/◌, Bool, true, false, cond, eqb, not, ◌&&◌, List, [], ◌∷◌}
use Rattle.std.specs.Prelude.{Option, Some, None, unwrap_or}
use Rattle.slot_history.specs.declared.shape.Shape.{Shape}
use Rattle.slot_history.specs.declared.shape.TheConstants.{STAGES}
use Rattle.slot_history.specs.declared.act.Act.{Act}
use Rattle.slot_history.specs.declared.act.Act.TheVariants.{Enter, LookOpen, LookInvalid}
use Rattle.slot_history.specs.declared.act.Act.TheVariants.{LookVacant, ClaimRange, ClaimUsed}
use Rattle.slot_history.specs.declared.act.Act.TheVariants.{ShutWon, ShutLost, LeaveLeft, LeaveOwe}
use Rattle.slot_history.specs.declared.act.Act.TheVariants.{PayLast, PayDone, MarkMarked}
use Rattle.slot_history.specs.declared.act.Act.TheVariants.{MarkMissed, SweepLast, SweepOthers}
use Rattle.slot_history.specs.declared.act.Act.TheVariants.{ReserveGot, ReserveTaken, AdmitGot}
use Rattle.slot_history.specs.declared.act.Act.TheVariants.{NoteDone, SetTotal, Install, Release}
use Rattle.slot_history.specs.declared.act.Act.TheVariants.{Announce, TakeReturn, TakeChange}
use Rattle.slot_history.specs.declared.act.Entry.{Entry}
use Rattle.slot_history.specs.declared.place.Held.{Held}
use Rattle.slot_history.specs.declared.place.Place.{Place}
use Rattle.slot_history.specs.declared.place.Place.TheVariants.{Free, Entered, Astray, Inside, Used}
use Rattle.slot_history.specs.declared.place.Place.TheVariants.{Behind, Leading, Asking, Owing}
use Rattle.slot_history.specs.declared.place.Place.TheVariants.{Holding, Announcing}
use Rattle.slot_history.specs.Sets.{upd, least}
use Rattle.slot_history.specs.States.{TaskSet, Ending, SlotState, Empty, Reserved, Open, Shut}
use Rattle.slot_history.specs.States.{Finishing, NoticeRecord, ObjectState, opening, slot_of, id_at}
use Rattle.slot_history.specs.States.{reservation, finalisation, held_at}

-- the slot that a call is about
abbrev pub site : Act → Place → ℕ
site (Enter s) p = s
site (ReserveGot s) p = s
site (ReserveTaken s word) p = s
site _ p = slot_of p

-- what a holder has in hand after a call
abbrev pub held_after : Act → Held → Held
held_after (AdmitGot q) held = record held { query = Some q }
held_after (NoteDone n) held = record held { noted = n }
held_after (SetTotal n) held = record held { total = Some n }
held_after _ held = held

-- ---- the place of the worker that calls

-- after a leave: whoever shut the task set asks the others, and any other worker is free
abbrev pub left : Place → Place
left (Leading s id) = Asking s id 0 0
left _ = Free

-- the coordinator asked one more worker, and marked n more, 0 or 1
abbrev pub asked_one : Place → ℕ → Place
asked_one (Asking s id asked marked) n = Asking s id (asked + 1) (marked + n)
asked_one p n = p

abbrev pub holding_after : Act → Place → Place
holding_after a (Holding s held) = Holding s (held_after a held)
holding_after a p = p

-- an announcer told one more worker; once it has told all, it is free
abbrev pub told_one : Shape → Place → Place
told_one d (Announcing s again told) =
    cond (eqb (told + 1) d.workers) Free (Announcing s again (told + 1))
told_one d p = p

-- the worker's place after its call, by its place before; calls that are not named don't move it
abbrev pub moved : Shape → Act → Place → Place
moved d (Enter s) p = Entered s
moved d (LookOpen id) p = Inside (slot_of p) id
moved d LookInvalid p = Astray (slot_of p)
moved d LookVacant p = Astray (slot_of p)
moved d (ClaimUsed n) p = Used (slot_of p) (id_at p)
moved d ShutWon p = Leading (slot_of p) (id_at p)
moved d ShutLost p = Behind (slot_of p) (id_at p)
moved d LeaveLeft p = left p
moved d (LeaveOwe id) p = Owing (slot_of p) id
moved d PayLast p = Holding (slot_of p) (finalisation (id_at p))
moved d PayDone p = Free
moved d MarkMarked p = asked_one p 1
moved d MarkMissed p = asked_one p 0
moved d SweepLast p = Holding (slot_of p) (finalisation (id_at p))
moved d (SweepOthers n) p = Free
moved d (ReserveGot s) p = Holding s reservation
moved d (AdmitGot q) p = holding_after (AdmitGot q) p
moved d (NoteDone n) p = holding_after (NoteDone n) p
moved d (SetTotal n) p = holding_after (SetTotal n) p
moved d (Install id) p = Announcing (slot_of p) (held_at p).again 0
moved d Release p = Free
moved d Announce p = told_one d p
moved d _ p = p

-- ---- the slot that the call is about

abbrev pub grown : TaskSet → ℕ → TaskSet
grown t n = record t { cursor = t.cursor + n }

-- n more tuples were asked for
abbrev pub claimed : SlotState → ℕ → SlotState
claimed (Open t) n = Open (grown t n)
claimed (Shut t end) n = Shut (grown t n) end
claimed x n = x

-- the end of a task set that w just shut: nobody was asked yet
abbrev pub first_ending : ℕ → Ending
first_ending w = record {
  coordinator = w;
  asked = λ v. false;
  marked = λ v. false;
  paid = λ v. false;
  swept = false;
}

abbrev pub shut_by : ℕ → SlotState → SlotState
shut_by w (Open t) = Shut t (first_ending w)
shut_by w x = x

-- the worker that a coordinator asks next: the least that is neither asked nor the coordinator
abbrev pub next_asked : Shape → Ending → ℕ
next_asked d end = least d.workers (λ v. not (end.asked v) && not (eqb v end.coordinator))

-- the end of a task set after a call of w about it
abbrev pub ending_after : Shape → ℕ → Act → Ending → Ending
ending_after d w MarkMarked end = record end {
  asked = upd end.asked (next_asked d end) true;
  marked = upd end.marked (next_asked d end) true;
}
ending_after d w MarkMissed end = record end { asked = upd end.asked (next_asked d end) true }
ending_after d w (SweepOthers n) end = record end { swept = true }
ending_after d w PayDone end = record end { paid = upd end.paid w true }
ending_after d w _ end = end

abbrev pub ended : Shape → ℕ → Act → SlotState → SlotState
ended d w a (Shut t end) = Shut t (ending_after d w a end)
ended d w a x = x

abbrev pub finalised_by : ℕ → SlotState → SlotState
finalised_by w (Shut t end) = Finishing t.id w (finalisation t.id)
finalised_by w x = x

abbrev pub held_on : Act → SlotState → SlotState
held_on a (Reserved w held) = Reserved w (held_after a held)
held_on a (Finishing id w held) = Finishing id w (held_after a held)
held_on a x = x

-- the task set of an id with the total that its holder set
abbrev pub first_of : ℕ → Held → TaskSet
first_of id held = record { id = id; total = unwrap_or held.total 0; cursor = 0 }

-- the slot opens with this task set
abbrev pub opened : ℕ → SlotState → SlotState
opened id (Reserved w held) = Open (first_of id held)
opened id (Finishing jd w held) = Open (first_of id held)
opened id x = x

-- the slot after a call of w that is about it; calls that are not named don't change it
abbrev pub slot_after : Shape → ℕ → Act → SlotState → SlotState
slot_after d w (ClaimRange n from to) x = claimed x n
slot_after d w (ClaimUsed n) x = claimed x n
slot_after d w ShutWon x = shut_by w x
slot_after d w PayLast x = finalised_by w x
slot_after d w PayDone x = ended d w PayDone x
slot_after d w MarkMarked x = ended d w MarkMarked x
slot_after d w MarkMissed x = ended d w MarkMissed x
slot_after d w SweepLast x = finalised_by w x
slot_after d w (SweepOthers n) x = ended d w (SweepOthers n) x
slot_after d w (ReserveGot s) x = Reserved w reservation
slot_after d w (AdmitGot q) x = held_on (AdmitGot q) x
slot_after d w (NoteDone n) x = held_on (NoteDone n) x
slot_after d w (SetTotal n) x = held_on (SetTotal n) x
slot_after d w (Install id) x = opened id x
slot_after d w Release x = Empty
slot_after d w _ x = x

-- ---- notices

-- the notices of one kind after an announcer at this place told one more worker; `again` is the
-- kind
abbrev pub told : Bool → Place → (ℕ → ℕ → Bool) → ℕ → ℕ → Bool
told true (Announcing s true v) notices = upd notices v (upd (notices v) s true)
told false (Announcing s false v) notices = upd notices v (upd (notices v) s true)
told again p notices = notices

-- whether a slot is one of the 64 of a mask word
abbrev pub is_in_part : ℕ → ℕ → Bool
is_in_part part s = eqb (s / 64) part

-- the notices of a worker with those of one mask word gone
abbrev pub taken : ℕ → (ℕ → Bool) → ℕ → Bool
taken part pending s = cond (is_in_part part s) false (pending s)

abbrev pub changes_after : ℕ → Act → Place → (ℕ → ℕ → Bool) → ℕ → ℕ → Bool
changes_after w Announce p changes = told false p changes
changes_after w (TakeChange part bits) p changes = upd changes w (taken part (changes w))
changes_after w _ p changes = changes

abbrev pub returns_after : ℕ → Act → Place → (ℕ → ℕ → Bool) → ℕ → ℕ → Bool
returns_after w Announce p returns = told true p returns
returns_after w (TakeReturn part bits) p returns = upd returns w (taken part (returns w))
returns_after w _ p returns = returns

-- ---- notice records

abbrev pub dropped : NoticeRecord → NoticeRecord
dropped r = record r { active = false }

-- a look that found a task set of query q: an unknown group becomes q, and a record of another
-- group is dropped
abbrev pub looked_group : Option ℕ → ℕ → NoticeRecord → NoticeRecord
looked_group None q r = record r { group = Some q }
looked_group (Some group) q r = cond (eqb group q) r (dropped r)

abbrev pub looked : ℕ → NoticeRecord → NoticeRecord
looked q r = looked_group r.group q r

-- the records after a taken return notice and after a taken change notice, of the slots whose
-- notice was pending
abbrev pub joined_by_return : ℕ → (ℕ → Bool) → (ℕ → NoticeRecord) → ℕ → NoticeRecord
joined_by_return part pending records s = let r = records s in
    cond (is_in_part part s && pending s) (record r { active = true }) r

abbrev pub joined_by_change : ℕ → (ℕ → Bool) → (ℕ → NoticeRecord) → ℕ → NoticeRecord
joined_by_change part pending records s =
    cond (is_in_part part s && pending s) (record { active = true; group = None }) (records s)

-- the records, of which that of the place's slot is dropped
abbrev pub dropped_at : Place → (ℕ → NoticeRecord) → ℕ → NoticeRecord
dropped_at p records = upd records (slot_of p) (dropped (records (slot_of p)))

-- the records of the worker that calls; the pending notices are those before the call
abbrev pub records_after : Act → Place → (ℕ → Bool) → (ℕ → Bool)
    → (ℕ → NoticeRecord) → ℕ → NoticeRecord
records_after (LookOpen id) place changes returns records =
    upd records (slot_of place) (looked (id / STAGES) (records (slot_of place)))
records_after LookInvalid place changes returns records = dropped_at place records
records_after LookVacant place changes returns records = dropped_at place records
records_after ShutWon place changes returns records = dropped_at place records
records_after ShutLost place changes returns records = dropped_at place records
records_after (TakeReturn part bits) place changes returns records =
    joined_by_return part returns records
records_after (TakeChange part bits) place changes returns records =
    joined_by_change part changes records
records_after _ place changes returns records = records

-- ---- the whole object

abbrev pub admitted_after : Act → ℕ → ℕ
admitted_after (AdmitGot q) n = n + 1
admitted_after _ n = n

abbrev pub finished_after : Act → ℕ → ℕ
finished_after (NoteDone more) n = n + more
finished_after _ n = n

-- The state after a call of the worker, which is at this place. One slot changes, one place, one
-- worker's records, and the notices of one worker. What is not named here stays.
abbrev pub next_at : Shape → ObjectState → ℕ → Act → Place → ObjectState
next_at shape state worker act place = record {
  slots = upd state.slots (site act place)
      (slot_after shape worker act (state.slots (site act place)));
  places = upd state.places worker (moved shape act place);
  changes = changes_after worker act place state.changes;
  returns = returns_after worker act place state.returns;
  records = upd state.records worker (records_after act place (state.changes worker)
      (state.returns worker) (state.records worker));
  admitted = admitted_after act state.admitted;
  finished = finished_after act state.finished;
}

abbrev pub next : Shape → ObjectState → ℕ → Act → ObjectState
next d S w a = next_at d S w a (S.places w)

-- the state that a history leaves; a history has its newest entry first
abbrev pub state_after : Shape → List Entry → ObjectState
state_after d [] = opening
state_after d (e ∷ es) = next d (state_after d es) e.worker e.act
