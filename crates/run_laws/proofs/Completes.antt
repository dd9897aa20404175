-- Once every worker is over, all is done.
use Rattle.std.proofs.Common.{◌≡◌, ◌≢◌, ⊎_elim, ℕ, zero, suc, ◌+◌, ◌-◌, ◌/◌, ◌%◌, ◌<◌, ◌≤◌, Bool, true, false, cond, ltb}
use Rattle.std.proofs.Common.{List, [], ◌∷◌, Option, Some, None, refl, sym, ap, ◌∙◌, subst, arith}
use Rattle.std.specs.Prelude.{unwrap_or, IsSome}
use Rattle.std.proofs.lemmas.Bool.{true≢false, cases_lt, ltb-false}
use mathlib.Core.Logic.{dite}
use native.Mathlib.Decide.{ℕ_discrete}
use Rattle.slot_history.specs.declared.shape.Shape.{Shape}
use Rattle.slot_history.specs.declared.shape.TheConstants.{STAGES, PARTS}
use Rattle.slot_history.specs.declared.act.Act.{Act}
use Rattle.slot_history.specs.declared.act.Act.TheVariants.{Enter, LookOpen, LookInvalid, LookVacant, ClaimRange, ClaimUsed, ShutWon, ShutLost, LeaveLeft}
use Rattle.slot_history.specs.declared.act.Act.TheVariants.{LeaveOwe, PayLast, PayDone, MarkMarked, MarkMissed, SweepLast, SweepOthers, ReserveGot}
use Rattle.slot_history.specs.declared.act.Act.TheVariants.{ReserveTaken, AdmitGot, AdmitLost, Arrivals, Finished, NoteDone, SetTotal, Install, Release}
use Rattle.slot_history.specs.declared.act.Act.TheVariants.{Announce, TakeReturn, TakeChange}
use Rattle.slot_history.specs.declared.act.Entry.{Entry}
use Rattle.slot_history.specs.declared.place.Place.{Place}
use Rattle.slot_history.specs.declared.place.Place.TheVariants.{Asking, Announcing}
use Rattle.slot_history.specs.Sets.{sum_below}
use Rattle.slot_history.specs.States.{SlotState, Empty, Open, ObjectState, held_at, is_empty, is_open}
use Rattle.slot_history.specs.Steps.{moved, state_after, finished_after}
use Rattle.slot_history.specs.Allowed.{IsAllowed}
use Rattle.slot_history.specs.Histories.{IsLegal, own_calls, installs_of, lasts_of, slot_with}
use Rattle.slot_history.specs.Lives.{query_in, has_task, book_of, IsSlotBook, Life, Never, Runs, Done, life_of, tally_of, Counts}
use Rattle.slot_history.specs.Notices.{IsQuiet}
use Rattle.slot_history.proofs.Own.{own-mine, own-other}
use Rattle.slot_history.proofs.Sets.{some-unwrapped}
use Rattle.slot_history.proofs.Table.{table}
use Rattle.slot_history.proofs.Places.{quiet-slots}
use Rattle.slot_history.proofs.Within.{within}
use Rattle.slot_history.proofs.Book.{book}
use Rattle.slot_history.proofs.BookSteps.{running-low}
use Rattle.slot_history.proofs.Counts.{counts}
use Rattle.slot_history.proofs.Looks.{stage-before}
use Rattle.stride_set.specs.Strides.{choice_of}
use Rattle.slot_station.specs.Desks.{Desk}
use Rattle.turn_model.specs.declared.turn.Turn.{Turn}
use Rattle.turn_model.specs.declared.turn.Turn.TheVariants.{Idle, Over}
use Rattle.turn_model.specs.Workloads.{Workload, sets_of}
use Rattle.turn_model.specs.Moves.{Move, Made, Exchanged, entries}
use Rattle.turn_model.specs.Learned as learned
use Rattle.turn_model.specs.Learned.{place_by, lets_in, finished_by, strides_by}
use Rattle.turn_model.specs.Points.{Point, Ready, Return, Change, Count, Arrive, Scan, Admit, Fill, Opens, Tells, FreeIt, Enters, Look, Early, Take, Claim}
use Rattle.turn_model.specs.Points.{Shut as Shuts, Back, Leave, Ask, Sweep, Pay, Fetch, ended_as, picked, asked, told, is_due, goes_on, after}
use Rattle.turn_model.specs.Points.{exchanged, point_by, has_ended}
use Rattle.turn_model.specs.Driven.{MayCall, MayExchange, AreDriven}
use Rattle.turn_model.specs.Runs.{desk_at}
use Rattle.turn_model.specs.Measure.{done_in, done_of, IsAccount}
use Rattle.run_laws.specs.Ends.{IsWork}
use Rattle.run_laws.specs.Completes.{releases_of, OverIsDone, StagesBefore}
use Rattle.run_laws.proofs.Least.{sum-most, sum-longer, sum-less}
use Rattle.run_laws.proofs.Numbers.{finished-grows}
use Rattle.run_laws.proofs.Made.{first_of, rest_of, AreMade, played-made}
use Rattle.run_laws.proofs.Serving.{empty-query, served}
use Rattle.run_laws.proofs.Fits.{Fits}
use Rattle.run_laws.proofs.Account.{counted}
use Rattle.run_laws.proofs.Alone.{all-empty, finished-low, open-low}
use Rattle.run_laws.proofs.Releases.{released, serves, serves-none}
use Rattle.run_laws.proofs.EndsWell.{ended-are-free}

-- ---- a worker that is over was told that all task sets are done

module _ (D : Desk Workload) where
  abbrev TurnSays : List Move → Turn → Type 0
  TurnSays ms Over = sets_of D.shape D.subject ≤ finished_by D ms
  TurnSays ms turn = Unit {0}

  abbrev OverSays : List Move → Point → Type 0
  OverSays ms (Ready turn) = TurnSays ms turn
  OverSays ms x = Unit {0}

  says-cond : (ms : List Move) (b : Bool) (x y : Point) → OverSays ms x → OverSays ms y → OverSays ms (cond b x y)
  says-cond ms true x y p q = p
  says-cond ms false x y p q = q

  says-ended : (ms : List Move) (b : Bool) → ltb (finished_by D ms) (sets_of D.shape D.subject) ≡ b → TurnSays ms (cond b Idle Over)
  says-ended ms true is = tt
  says-ended ms false is = ltb-false (finished_by D ms) (sets_of D.shape D.subject) is

  says-picked : (ms : List Move) (o : Option ℕ) → OverSays ms (picked o (ended_as (finished_by D ms) (sets_of D.shape D.subject)))
  says-picked ms None = says-ended ms (ltb (finished_by D ms) (sets_of D.shape D.subject)) refl
  says-picked ms (Some s) = tt

  says-asked : (ms : List Move) (n : ℕ) (p : Place) → OverSays ms (asked n p)
  says-asked ms n (Asking s id i k) = says-cond ms (ltb (i + 1) n) Ask Sweep tt tt
  says-asked ms n p = tt

  says-told : (ms : List Move) (p : Place) → OverSays ms (told p)
  says-told ms (Announcing s again k) = tt
  says-told ms p = tt

  call-says : (ms : List Move) (x : Point) (a : Act) (t : ℕ) → MayCall D ms x a → OverSays (Made a t ∷ ms) (after D ms x a)
  call-says ms (Ready e) (TakeReturn part bits) t m = tt
  call-says ms (Return k) (TakeReturn part bits) t m = says-cond (Made (TakeReturn part bits) t ∷ ms) (ltb (k + 1) PARTS) (Return (k + 1)) (Change 0) tt tt
  call-says ms (Change k) (TakeChange part bits) t m = says-cond (Made (TakeChange part bits) t ∷ ms) (ltb (k + 1) PARTS) (Change (k + 1)) Count tt tt
  call-says ms Arrive (Arrivals n) t m =
      says-cond (Made (Arrivals n) t ∷ ms) (is_due D n (finished_by D ms)) (Scan 0)
      (picked (choice_of (strides_by D ms)) (ended_as (finished_by D ms) (sets_of D.shape D.subject))) tt
      (says-picked (Made (Arrivals n) t ∷ ms) (choice_of (strides_by D ms)))
  call-says ms (Scan s) (ReserveTaken k word) t m =
      says-cond (Made (ReserveTaken k word) t ∷ ms) (ltb (s + 1) D.shape.slots) (Scan (s + 1))
      (picked (choice_of (strides_by D ms)) (ended_as (finished_by D ms) (sets_of D.shape D.subject))) tt
      (says-picked (Made (ReserveTaken k word) t ∷ ms) (choice_of (strides_by D ms)))
  call-says ms Tells Announce t m = says-told (Made Announce t ∷ ms) (moved D.shape Announce (place_by D ms))
  call-says ms Look (LookOpen id) t m = says-cond (Made (LookOpen id) t ∷ ms) (lets_in D ms (id / STAGES)) Take Early tt tt
  call-says ms Leave LeaveLeft t m = says-asked (Made LeaveLeft t ∷ ms) D.shape.workers (moved D.shape LeaveLeft (place_by D ms))
  call-says ms Ask MarkMarked t m = says-asked (Made MarkMarked t ∷ ms) D.shape.workers (moved D.shape MarkMarked (place_by D ms))
  call-says ms Ask MarkMissed t m = says-asked (Made MarkMissed t ∷ ms) D.shape.workers (moved D.shape MarkMissed (place_by D ms))
  call-says ms (Fetch v) (NoteDone n) t m = says-cond (Made (NoteDone n) t ∷ ms) (goes_on D.subject (held_at (place_by D ms)) n) (Fill 0) FreeIt tt tt
  call-says ms Count (Finished n) t m = tt
  call-says ms (Scan s) (ReserveGot k) t m = tt
  call-says ms Admit (AdmitGot q) t m = tt
  call-says ms Admit (AdmitLost q now) t m = tt
  call-says ms (Fill v) (SetTotal n) t m = tt
  call-says ms (Fill v) (NoteDone n) t m = tt
  call-says ms Opens (Install id) t m = tt
  call-says ms FreeIt Release t m = tt
  call-says ms (Enters s) (Enter k) t m = tt
  call-says ms Look LookInvalid t m = tt
  call-says ms Look LookVacant t m = tt
  call-says ms Early LeaveLeft t m = tt
  call-says ms Early (LeaveOwe id) t m = tt
  call-says ms Claim (ClaimRange n from to) t m = tt
  call-says ms Claim (ClaimUsed n) t m = tt
  call-says ms Shuts ShutWon t m = tt
  call-says ms Shuts ShutLost t m = tt
  call-says ms Leave (LeaveOwe id) t m = tt
  call-says ms Sweep SweepLast t m = tt
  call-says ms Sweep (SweepOthers n) t m = tt
  call-says ms Pay PayLast t m = tt
  call-says ms Pay PayDone t m = tt
  call-says ms x a t m = absurd m

  exchange-says : (ms : List Move) (x : Point) → MayExchange D x → OverSays (Exchanged ∷ ms) (exchanged x)
  exchange-says ms (Fill v) m = tt
  exchange-says ms Take m = tt
  exchange-says ms Back m = tt
  exchange-says ms (Fetch v) m = tt
  exchange-says ms x m = absurd m

  over-says : (ms : List Move) → AreDriven D ms → OverSays ms (point_by D ms)
  over-says [] driven = tt
  over-says (Made a t ∷ ms) driven = call-says ms (point_by D ms) a t driven.0
  over-says (Exchanged ∷ ms) driven = exchange-says ms (point_by D ms) driven.0

-- ---- what it was told is no more than what is done

told-less : (d : Shape) (S : ObjectState) (w : ℕ) (a : Act) (f : ℕ) → IsAllowed d S w a → f ≤ S.finished
    → learned.finished_after a f ≤ finished_after a S.finished
told-less d S w (Finished n) f ok less = let is : n ≡ S.finished = ok in omega (arith, is)
told-less d S w (NoteDone k) f ok less = omega (arith, less)
told-less d S w _ f ok less = less

module _ (D : Desk Workload) where
  abbrev ToldLess : List Entry → List Move → Type 0
  ToldLess h ms = finished_by D ms ≤ (state_after D.shape h).finished

  told-mine : (e : Entry) (es : List Entry) → e.worker ≡ D.worker → IsLegal D.shape (e ∷ es)
      → ((ms : List Move) → own_calls D.worker es ≡ entries D.worker ms → ToldLess es ms)
      → (ms : List Move) → e ∷ own_calls D.worker es ≡ entries D.worker ms → ToldLess (e ∷ es) ms
  told-mine e es same legal before [] is = absurd (cc)
  told-mine e es same legal before (Made a t ∷ ms) is =
      let act : e.act ≡ a = ap (λ l. (first_of e l).act) is in
      subst (λ b. learned.finished_after b (finished_by D ms) ≤ finished_after e.act (state_after D.shape es).finished) act
      (told-less D.shape (state_after D.shape es) e.worker e.act (finished_by D ms) legal.1 (before ms (ap rest_of is)))
  told-mine e es same legal before (Exchanged ∷ ms) is = told-mine e es same legal before ms is

  told-at-most : (h : List Entry) → IsLegal D.shape h → (ms : List Move) → own_calls D.worker h ≡ entries D.worker ms → ToldLess h ms
  told-at-most [] legal [] mine = omega arith
  told-at-most [] legal (Made a t ∷ ms) mine = absurd (cc)
  told-at-most [] legal (Exchanged ∷ ms) mine = told-at-most [] legal ms mine
  told-at-most (e ∷ es) legal ms mine = dite (ℕ_discrete D.worker e.worker)
      (λ same. told-mine e es (sym same) legal (told-at-most es legal.2) ms (sym (own-mine e es D.worker same) ∙ mine))
      (λ other. let before : finished_by D ms ≤ (state_after D.shape es).finished = told-at-most es legal.2 ms (sym (own-other e es D.worker other) ∙ mine) in
      let more : (state_after D.shape es).finished ≤ finished_after e.act (state_after D.shape es).finished =
      finished-grows e.act (state_after D.shape es).finished in omega (arith, before, more))

-- ---- all is done

-- a task set that was installed was finalised, if no slot runs one
finalised-by : (life : Life) (installs lasts : ℕ) (total slot : Option ℕ)
    → Counts life (record { installs = installs; lasts = lasts; total = total; slot = slot })
    → ((s n : ℕ) → life ≡ Runs s n → ⊥) → 0 < installs → lasts ≡ 1
finalised-by Never installs lasts total slot c none some = let z : installs ≡ 0 = c.0 in absurd (omega (arith, z, some))
finalised-by (Runs s n) installs lasts total slot c none some = absurd (none s n refl)
finalised-by (Done n) installs lasts total slot c none some = c.1

no-task : (x : SlotState) → is_empty x ≡ true → has_task x ≡ true → ⊥
no-task Empty e h = true≢false (sym h)
no-task _ e h = true≢false (sym e)

module _ (d : Shape) (load : Workload) (work : IsWork d load) (h : List Entry) (legal : IsLegal d h) (made : AreMade d load h)
    (quiet : IsQuiet d (state_after d h)) (full : sets_of d load ≤ (state_after d h).finished) where
  abbrev S : ObjectState
  S = state_after d h

  account : IsAccount d load S
  account = (counted d load work.some h legal made).account

  most : S.admitted ≤ d.queries
  most = (within d h legal).admitted

  below : sum_below S.admitted (done_of d load S) ≤ sum_below S.admitted load.stages
  below = sum-most S.admitted (done_of d load S) load.stages account.within

  all-admitted : S.admitted ≡ d.queries
  all-admitted = ⊎_elim
      (λ less.
      let some : 0 < load.stages S.admitted = work.some S.admitted less in
      let sum : S.finished ≡ sum_below S.admitted (done_of d load S) = account.sum in
      let longer : sum_below (suc S.admitted) load.stages ≤ sum_below d.queries load.stages =
      sum-longer (suc S.admitted) d.queries load.stages (omega (arith, less)) in
      let b = below in
      absurd (omega (arith, some, sum, longer, b, full)))
      (λ more. let m = most in omega (arith, more, m)) (cases_lt S.admitted d.queries)

  -- no slot is open: its query would have a stage left
  none-open : (x : SlotState) (s : ℕ) → S.slots s ≡ x → is_open x ≡ true → ⊥
  none-open (Open t) s is o =
      let b = book d h legal in
      let q : ℕ = t.id / STAGES in
      let serves_it : query_in (S.slots s) ≡ Some q = ap query_in is in
      let runs = subst (IsSlotBook (book_of d h) s) is (b.slot s) in
      let admitted : q < S.admitted = running-low (book_of d h) S.slots b t.id (λ never. not-never t.id s t.total (sym runs.lives ∙ never)) in
      let s_low : s < d.slots = open-low d S s (within d h legal) (ap is_open is ∙ o) in
      let done : done_of d load S q ≡ done_in (S.slots s) = served d load S s q s_low (b.apart) serves_it in
      let at : done_in (S.slots s) ≡ t.id % STAGES = ap done_in is in
      let left : t.id % STAGES < load.stages q = subst (Fits load) is ((counted d load work.some h legal made).fits s) in
      let sum : S.finished ≡ sum_below S.admitted (done_of d load S) = account.sum in
      let less : sum_below S.admitted (done_of d load S) < sum_below S.admitted load.stages =
      sum-less S.admitted q (done_of d load S) load.stages admitted (omega (arith, done, at, left)) account.within in
      let longer : sum_below S.admitted load.stages ≤ sum_below d.queries load.stages = sum-longer S.admitted d.queries load.stages most in
      omega (arith, sum, less, longer, full)
    where
      not-never : (id s total : ℕ) → Runs s total ≡ Never → ⊥
      not-never id s total e = cc
  none-open _ s is o = true≢false (sym o)

  all-slots-empty : (s : ℕ) → is_empty (S.slots s) ≡ true
  all-slots-empty = all-empty d S (quiet-slots d S (table d h legal) quiet) (λ s o. none-open (S.slots s) s refl o)

  all-finished : S.finished ≡ sets_of d load
  all-finished = let low = finished-low d load S account most in omega (arith, low, full)

  all-finalised : (id : ℕ) → 0 < installs_of id h → lasts_of d id h ≡ 1
  all-finalised id some = finalised-by (life_of d id h) (installs_of id h) (lasts_of d id h) (tally_of d id h).total (tally_of d id h).slot
      (counts d h legal id)
      (λ s n lives. no-task (S.slots s) (all-slots-empty s) ((book d h legal).runs id s n lives).0) some

  all-released : (q : ℕ) → q < d.queries → releases_of d q h ≡ 1
  all-released q low =
      let one : releases_of d q h + serves d S q ≡ 1 = (released d load h q legal made).some (let a = all-admitted in omega (arith, low, a)) in
      let none : serves d S q ≡ 0 = serves-none d S q (λ s. empty-query (S.slots s) q (all-slots-empty s)) in
      omega (arith, one, none)

pub over-is-done : OverIsDone
over-is-done d load run work played over =
    let made = played-made d load run played in
    let first : 0 < d.workers = work.shape.workers.0 in
    let quiet : IsQuiet d (state_after d run.history) = ended-are-free d load run played (λ w low. ap has_ended (over w low)) in
    let D : Desk Workload = desk_at d load 0 in
    let told_all : sets_of d load ≤ finished_by D (run.team 0) =
    subst (OverSays D (run.team 0)) (over 0 first) (over-says D (run.team 0) (played.driven 0 first)) in
    let no_more : finished_by D (run.team 0) ≤ (state_after d run.history).finished =
    told-at-most D run.history played.legal (run.team 0) (played.mine 0 first) in
    let full : sets_of d load ≤ (state_after d run.history).finished = omega (arith, told_all, no_more) in
    record {
      admitted = all-admitted d load work run.history played.legal made quiet full;
      released = all-released d load work run.history played.legal made quiet full;
      finished = all-finished d load work run.history played.legal made quiet full;
      finalised = all-finalised d load work run.history played.legal made quiet full;
      empty = all-slots-empty d load work run.history played.legal made quiet full;
    }

-- ---- the stages before

-- a task set that was finalised was installed in a slot
was-installed : (life : Life) (installs lasts : ℕ) (total slot : Option ℕ)
    → Counts life (record { installs = installs; lasts = lasts; total = total; slot = slot }) → 0 < lasts → IsSome slot × (lasts ≡ 1)
was-installed Never installs lasts total slot c some = let z : lasts ≡ 0 = c.1 in absurd (omega (arith, z, some))
was-installed (Runs s n) installs lasts total slot c some = let z : lasts ≡ 0 = c.1 in absurd (omega (arith, z, some))
was-installed (Done n) installs lasts total slot c some = (c.3, c.1)

stage-back : (d : Shape) (h : List Entry) (id : ℕ) → IsLegal d h → 0 < lasts_of d (id + 1) h → (id + 1) % STAGES ≢ 0 → lasts_of d id h ≡ 1
stage-back d h id legal some later =
    let t = tally_of d (id + 1) h in
    let was = was-installed (life_of d (id + 1) h) t.installs t.lasts t.total t.slot (counts d h legal (id + 1)) some in
    (stage-before d h legal id (unwrap_or (slot_with d (id + 1) h) 0) (some-unwrapped (slot_with d (id + 1) h) 0 was.0) later).0

stages-down : (d : Shape) (h : List Entry) (n jd : ℕ) → IsLegal d h → lasts_of d (jd + n) h ≡ 1 → (jd + n) / STAGES ≡ jd / STAGES → lasts_of d jd h ≡ 1
stages-down d h zero jd legal last of = subst (λ k. lasts_of d k h ≡ 1) (let r : jd + 0 ≡ jd = omega arith in r) last
stages-down d h (suc n) jd legal last of =
    let same : jd + suc n ≡ jd + n + 1 = omega arith in
    let later : (jd + n + 1) % STAGES ≢ 0 = λ z. omega (arith, z, of) in
    let one : lasts_of d (jd + n + 1) h ≡ 1 = subst (λ k. lasts_of d k h ≡ 1) same last in
    stages-down d h n jd legal (stage-back d h (jd + n) legal (omega (arith, one)) later) (omega (arith, of))

pub stages-before : StagesBefore
stages-before d h id jd legal some low of =
    let t = tally_of d id h in
    let one = (was-installed (life_of d id h) t.installs t.lasts t.total t.slot (counts d h legal id) some).1 in
    let same : jd + (id - jd) ≡ id = omega (arith, low) in
    stages-down d h (id - jd) jd legal (subst (λ k. lasts_of d k h ≡ 1) (sym same) one) (ap (λ k. k / STAGES) same ∙ sym of)
