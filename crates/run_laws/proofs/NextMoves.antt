-- The next move of a worker is determined by its moves so far, the history and the times of ranges, unless a query is given up.
use Rattle.std.proofs.Common.{◌≡◌, ℕ, zero, suc, ◌-◌, ◌^◌, ◌<◌, Bool, true, false, cond, ltb, List, [], ◌∷◌, ◌++◌, length}
use Rattle.std.proofs.Common.{refl, sym, ap, ◌∙◌, subst, lt-ltb, le-ltb, ⊎_elim, arith}
use Rattle.std.specs.Prelude.{max, min, unwrap_or}
use Rattle.std.proofs.lemmas.Bool.{cases_lt}
use mathlib.Core.Bool.{true≢false}
use Rattle.slot_history.specs.declared.act.Act.{Act}
use Rattle.slot_history.specs.declared.act.Act.TheVariants.{Enter, LookOpen, LookInvalid, LookVacant, ClaimRange, ClaimUsed, ShutWon, ShutLost, LeaveLeft}
use Rattle.slot_history.specs.declared.act.Act.TheVariants.{LeaveOwe, PayLast, PayDone, MarkMarked, MarkMissed, SweepLast, SweepOthers, ReserveGot}
use Rattle.slot_history.specs.declared.act.Act.TheVariants.{ReserveTaken, AdmitGot, AdmitLost, Arrivals, Finished, NoteDone, SetTotal, Install, Release}
use Rattle.slot_history.specs.declared.act.Act.TheVariants.{Announce, TakeReturn, TakeChange}
use Rattle.slot_history.specs.declared.act.Entry.{Entry}
use Rattle.slot_history.specs.States.{next_id}
use Rattle.slot_history.specs.Steps.{state_after}
use Rattle.slot_history.specs.Allowed.{IsAllowed}
use Rattle.slot_history.specs.Histories.{IsLegal}
use Rattle.slot_history.specs.Calls.{Call, Entering, Looking, Claiming, Shutting, Leaving, Paying, MarkingNext, Sweeping, Reserving, Admitting}
use Rattle.slot_history.specs.Calls.{AskingArrivals, AskingFinished, NotingDone, SettingTotal, Installing, Releasing, AnnouncingNext}
use Rattle.slot_history.specs.Calls.{TakingReturn, TakingChange}
use Rattle.slot_history.specs.Calls.{call_of, reply_of}
use Rattle.slot_history.proofs.OneAnswer.{only-answer}
use Rattle.slot_station.specs.Desks.{Desk}
use Rattle.turn_model.specs.declared.turn.Turn.{Turn}
use Rattle.turn_model.specs.Workloads.{Workload}
use Rattle.turn_model.specs.Moves.{Move, Made, Exchanged, entries}
use Rattle.turn_model.specs.Learned.{query_by, arrived_by}
use Rattle.turn_model.specs.Points.{Point, Ready, Return, Change, Count, Arrive, Scan, Admit, Fill, Opens, Tells, FreeIt, Enters, Look, Early, Take, Claim}
use Rattle.turn_model.specs.Points.{Shut, Back, Leave, Ask, Sweep, Pay, Fetch, has_ended, point_by}
use Rattle.turn_model.specs.Driven.{size_by, held_by, MayCall, MayExchange, AreDriven, GoesOn, EndsTurn}
use Rattle.turn_model.specs.Runs.{IsTimedCall, AreTimed}
use Rattle.run_laws.specs.Agreeing.{takes, NotesOne, GivesNoneUp}

-- ---- one move

module _ (D : Desk Workload) (ms : List Move) where
  -- the call that comes at a point, if a call comes there
  abbrev next_call : Point → Call
  next_call (Ready turn) = TakingReturn 0
  next_call (Return k) = TakingReturn k
  next_call (Change k) = TakingChange k
  next_call Count = AskingFinished
  next_call Arrive = AskingArrivals
  next_call (Scan s) = Reserving s
  next_call Admit = Admitting (arrived_by D ms)
  next_call (Fill v) = SettingTotal (unwrap_or (D.subject.total (next_id (held_by D ms))) 0)
  next_call Opens = Installing (next_id (held_by D ms))
  next_call Tells = AnnouncingNext
  next_call FreeIt = Releasing
  next_call (Enters s) = Entering s
  next_call Look = Looking
  next_call Early = Leaving
  next_call Claim = Claiming (size_by D ms)
  next_call Shut = Shutting
  next_call Leave = Leaving
  next_call Ask = MarkingNext
  next_call Sweep = Sweeping
  next_call Pay = Paying
  next_call (Fetch v) = NotingDone 1
  next_call Take = Looking
  next_call Back = Looking

  abbrev exchanges : Point → Bool
  exchanges (Fill v) = ltb v D.shape.workers
  exchanges Take = true
  exchanges Back = true
  exchanges (Fetch v) = ltb v D.shape.workers
  exchanges x = false

  call-is : (x : Point) (a : Act) → MayCall D ms x a → NotesOne x a → call_of a ≡ next_call x
  call-is (Ready e) (TakeReturn part bits) m n = ap TakingReturn m
  call-is (Return k) (TakeReturn part bits) m n = ap TakingReturn m
  call-is (Change k) (TakeChange part bits) m n = ap TakingChange m
  call-is Count (Finished k) m n = refl
  call-is Arrive (Arrivals k) m n = refl
  call-is (Scan s) (ReserveGot k) m n = ap Reserving m
  call-is (Scan s) (ReserveTaken k word) m n = ap Reserving m
  call-is Admit (AdmitGot q) m n = ap Admitting m
  call-is Admit (AdmitLost q now) m n = ap Admitting m
  call-is (Fill v) (SetTotal k) m n = ap (λ o. SettingTotal (unwrap_or o 0)) (sym m.1)
  call-is (Fill v) (NoteDone k) m n = absurd n
  call-is Opens (Install id) m n = ap Installing m
  call-is Tells Announce m n = refl
  call-is FreeIt Release m n = refl
  call-is (Enters s) (Enter k) m n = ap Entering m
  call-is Look (LookOpen id) m n = refl
  call-is Look LookInvalid m n = refl
  call-is Look LookVacant m n = refl
  call-is Early LeaveLeft m n = refl
  call-is Early (LeaveOwe id) m n = refl
  call-is Claim (ClaimRange k from to) m n = ap Claiming m
  call-is Claim (ClaimUsed k) m n = ap Claiming m
  call-is Shut ShutWon m n = refl
  call-is Shut ShutLost m n = refl
  call-is Leave LeaveLeft m n = refl
  call-is Leave (LeaveOwe id) m n = refl
  call-is Ask MarkMarked m n = refl
  call-is Ask MarkMissed m n = refl
  call-is Sweep SweepLast m n = refl
  call-is Sweep (SweepOthers k) m n = refl
  call-is Pay PayLast m n = refl
  call-is Pay PayDone m n = refl
  call-is (Fetch v) (NoteDone k) m n = ap NotingDone n
  call-is x a m n = absurd m

  not-below : (v n : ℕ) → v ≡ n → ltb v n ≡ false
  not-below v n e = le-ltb v n (omega (arith, e))

  -- no cell is exchanged at a point of a call
  no-exchange : (x : Point) (a : Act) → MayCall D ms x a → NotesOne x a → exchanges x ≡ false
  no-exchange (Fill v) (SetTotal k) m n = not-below v D.shape.workers m.0
  no-exchange (Fill v) (NoteDone k) m n = absurd n
  no-exchange (Fill v) a m n = absurd m
  no-exchange Take a m n = absurd m
  no-exchange Back a m n = absurd m
  no-exchange (Fetch v) (NoteDone k) m n = not-below v D.shape.workers m.0
  no-exchange (Fetch v) a m n = absurd m
  no-exchange x a m n = refl

  exchange-is : (x : Point) → MayExchange D x → exchanges x ≡ true
  exchange-is (Fill v) m = lt-ltb v D.shape.workers m
  exchange-is Take m = refl
  exchange-is Back m = refl
  exchange-is (Fetch v) m = lt-ltb v D.shape.workers m
  exchange-is x m = absurd m

module _ (time : ℕ → ℕ → ℕ) (D : Desk Workload) where
  -- how long the call takes
  abbrev time_for : ℕ → Act → ℕ
  time_for q (ClaimRange n from to) = max 1 (min (time (to - from) (D.subject.cost q)) (2 ^ 36))
  time_for q a = 0

  time-is : (q : ℕ) (a : Act) (t : ℕ) → IsTimedCall (takes time) D.subject q a t → t ≡ time_for q a
  time-is q (ClaimRange n from to) t timed = timed.2 ∙ ap (λ k. max 1 (min k (2 ^ 36))) timed.1
  time-is q a t timed = timed

  abbrev made : List Move → Act → Move
  made ms a = Made a (time_for (query_by D ms) a)

  -- the move that the worker makes after these moves and this history
  abbrev next_move : List Entry → List Move → Move
  next_move h ms = cond (exchanges D ms (point_by D ms)) Exchanged
      (made ms (reply_of D.shape (state_after D.shape h) D.worker (next_call D ms (point_by D ms))))

  call-next : (h : List Entry) (ms : List Move) (a : Act) (t : ℕ) → MayCall D ms (point_by D ms) a → NotesOne (point_by D ms) a
      → IsAllowed D.shape (state_after D.shape h) D.worker a → IsTimedCall (takes time) D.subject (query_by D ms) a t → Made a t ≡ next_move h ms
  call-next h ms a t may one allowed timed =
      let only : a ≡ reply_of D.shape (state_after D.shape h) D.worker (next_call D ms (point_by D ms)) =
      only-answer D.shape (state_after D.shape h) D.worker a allowed
      ∙ ap (reply_of D.shape (state_after D.shape h) D.worker) (call-is D ms (point_by D ms) a may one) in
      ap (Made a) (time-is (query_by D ms) a t timed) ∙ ap (made ms) only
      ∙ ap (λ b. cond b Exchanged (made ms (reply_of D.shape (state_after D.shape h) D.worker (next_call D ms (point_by D ms)))))
      (sym (no-exchange D ms (point_by D ms) a may one))

  exchange-next : (h : List Entry) (ms : List Move) → MayExchange D (point_by D ms) → Exchanged ≡ next_move h ms
  exchange-next h ms may = ap (λ b. cond b Exchanged (made ms (reply_of D.shape (state_after D.shape h) D.worker (next_call D ms (point_by D ms)))))
      (sym (exchange-is D ms (point_by D ms) may))

  -- ---- several moves

  -- the next n moves
  abbrev pub next_moves : List Entry → List Move → ℕ → List Move
  next_moves h ms zero = []
  next_moves h ms (suc n) = let more = next_moves h ms n in next_move (entries D.worker more ++ h) (more ++ ms) ∷ more

  -- the worker makes the moves, in times that the meter answers, and gives no query up
  pub record ArePlain (ms : List Move) : Type 0 where
    pub driven : AreDriven D ms
    pub timed : AreTimed (takes time) D ms
    pub none : GivesNoneUp D ms

  plain-rest : (m : Move) (ms : List Move) → ArePlain (m ∷ ms) → ArePlain ms
  plain-rest (Made a t) ms plain = record { driven = plain.driven.1; timed = plain.timed.1; none = plain.none.1 }
  plain-rest Exchanged ms plain = record { driven = plain.driven.1; timed = plain.timed.1; none = plain.none }

  pub plain-before : (more ms : List Move) → ArePlain (more ++ ms) → ArePlain ms
  plain-before [] ms plain = plain
  plain-before (m ∷ more) ms plain = plain-before more ms (plain-rest m (more ++ ms) plain)

  one-more : (h : List Entry) (ms : List Move) (m : Move) → ArePlain (m ∷ ms) → IsLegal D.shape (entries D.worker (m ∷ []) ++ h) → m ≡ next_move h ms
  one-more h ms (Made a t) plain legal = call-next h ms a t plain.driven.0 plain.none.0 legal.1 plain.timed.0
  one-more h ms Exchanged plain legal = exchange-next h ms plain.driven.0

  legal-rest : (m : Move) (more : List Move) (h : List Entry) → IsLegal D.shape (entries D.worker (m ∷ more) ++ h)
      → IsLegal D.shape (entries D.worker more ++ h)
  legal-rest (Made a t) more h legal = legal.2
  legal-rest Exchanged more h legal = legal

  legal-one : (m : Move) (more : List Move) (h : List Entry) → IsLegal D.shape (entries D.worker (m ∷ more) ++ h)
      → IsLegal D.shape (entries D.worker (m ∷ []) ++ (entries D.worker more ++ h))
  legal-one (Made a t) more h legal = legal
  legal-one Exchanged more h legal = legal

  -- moves that the worker makes are the next moves
  pub are-next : (h : List Entry) (ms more : List Move) → ArePlain (more ++ ms) → IsLegal D.shape (entries D.worker more ++ h)
      → more ≡ next_moves h ms (length more)
  are-next h ms [] plain legal = refl
  are-next h ms (m ∷ more) plain legal =
      let before : more ≡ next_moves h ms (length more) = are-next h ms more (plain-rest m (more ++ ms) plain) (legal-rest m more h legal) in
      let this : m ≡ next_move (entries D.worker more ++ h) (more ++ ms) =
      one-more (entries D.worker more ++ h) (more ++ ms) m plain (legal-one m more h legal) in
      ap (λ k. k ∷ more) this ∙ ap (λ l. next_move (entries D.worker l ++ h) (l ++ ms) ∷ l) before

  -- ---- the moves that end a turn

  -- while the turn goes on, it has not ended
  not-ended : (h : List Entry) (ms : List Move) (n k : ℕ) → GoesOn D (next_moves h ms n) ms → k < n
      → has_ended (point_by D (next_moves h ms (suc k) ++ ms)) ≡ false
  not-ended h ms zero k goes less = absurd (omega (arith, less))
  not-ended h ms (suc n) k goes less = ⊎_elim
      (λ below. not-ended h ms n k goes.2 below)
      (λ above. let same : n ≡ k = omega (arith, less, above) in
      subst (λ j. has_ended (point_by D (next_moves h ms (suc j) ++ ms)) ≡ false) same goes.1)
      (cases_lt k n)

  -- a turn doesn't end sooner than another that begins like it
  no-sooner : (h : List Entry) (ms one other : List Move) (turn last : Turn) → EndsTurn D one ms turn → EndsTurn D other ms last
      → ArePlain (one ++ ms) → ArePlain (other ++ ms) → IsLegal D.shape (entries D.worker one ++ h) → IsLegal D.shape (entries D.worker other ++ h)
      → length one < length other → ⊥
  no-sooner h ms one other turn last e f plain_one plain_other legal_one legal_other less =
      let some : length one ≡ suc (length e.before) = ap length e.all in
      let long : length other ≡ suc (length f.before) = ap length f.all in
      let other_is : ArePlain (f.last ∷ f.before ++ ms) = subst (λ l. ArePlain (l ++ ms)) f.all plain_other in
      let legal_is : IsLegal D.shape (entries D.worker (f.last ∷ f.before) ++ h) = subst (λ l. IsLegal D.shape (entries D.worker l ++ h)) f.all legal_other in
      let before : f.before ≡ next_moves h ms (length f.before) =
      are-next h ms f.before (plain-rest f.last (f.before ++ ms) other_is) (legal-rest f.last f.before h legal_is) in
      let going : has_ended (point_by D (next_moves h ms (suc (length e.before)) ++ ms)) ≡ false =
      not-ended h ms (length f.before) (length e.before) (subst (λ l. GoesOn D l ms) before f.way) (omega (arith, some, long, less)) in
      let this : one ≡ next_moves h ms (suc (length e.before)) = are-next h ms one plain_one legal_one ∙ ap (next_moves h ms) some in
      let over : has_ended (point_by D (one ++ ms)) ≡ true = ap has_ended e.ends in
      true≢false (sym over ∙ ap (λ l. has_ended (point_by D (l ++ ms))) this ∙ going)

  pub one-end : (h : List Entry) (ms one other : List Move) (turn last : Turn) → EndsTurn D one ms turn → EndsTurn D other ms last
      → ArePlain (one ++ ms) → ArePlain (other ++ ms) → IsLegal D.shape (entries D.worker one ++ h) → IsLegal D.shape (entries D.worker other ++ h)
      → one ≡ other
  one-end h ms one other turn last e f p q l m =
      let by : length one ≡ length other = ⊎_elim
      (λ less. absurd (no-sooner h ms one other turn last e f p q l m less))
      (λ more. ⊎_elim (λ less. absurd (no-sooner h ms other one last turn f e q p m l less)) (λ low. omega (arith, more, low))
      (cases_lt (length other) (length one))) (cases_lt (length one) (length other)) in
      are-next h ms one p l ∙ ap (next_moves h ms) by ∙ sym (are-next h ms other q m)
