-- Each call's one step is lawful on words that stand for a state that a legal history leaves.
use Rattle.std.proofs.Common.{◌∷◌, ◌≡◌, ◌≢◌, ℕ, ◌+◌, ◌/◌, ◌<◌, ◌≤◌, Bool, true, false, List, sym}
use Rattle.std.proofs.Common.{subst, arith}
use Rattle.slot_history.specs.declared.shape.Shape.{Shape}
use Rattle.slot_history.specs.declared.shape.TheConstants.{PARTS}
use Rattle.slot_history.specs.declared.act.Act.{Act}
use Rattle.slot_history.specs.declared.act.Act.TheVariants.{Enter, LookOpen, LookInvalid}
use Rattle.slot_history.specs.declared.act.Act.TheVariants.{LookVacant, ClaimRange, ClaimUsed}
use Rattle.slot_history.specs.declared.act.Act.TheVariants.{ShutWon, ShutLost, LeaveLeft, LeaveOwe}
use Rattle.slot_history.specs.declared.act.Act.TheVariants.{PayLast, PayDone, MarkMarked}
use Rattle.slot_history.specs.declared.act.Act.TheVariants.{MarkMissed, SweepLast, SweepOthers}
use Rattle.slot_history.specs.declared.act.Act.TheVariants.{ReserveGot, ReserveTaken, AdmitGot}
use Rattle.slot_history.specs.declared.act.Act.TheVariants.{AdmitLost, Arrivals, Finished, NoteDone}
use Rattle.slot_history.specs.declared.act.Act.TheVariants.{SetTotal, Install, Release, Announce}
use Rattle.slot_history.specs.declared.act.Act.TheVariants.{TakeReturn, TakeChange}
use Rattle.slot_history.specs.declared.act.Entry.{Entry}
use Rattle.slot_history.specs.declared.place.Place.{Place}
use Rattle.slot_history.specs.declared.place.Place.TheVariants.{Free, Entered, Inside, Used, Asking}
use Rattle.slot_history.specs.declared.place.Place.TheVariants.{Owing, Holding, Announcing}
use Rattle.slot_history.specs.States.{ObjectState, slot_of}
use Rattle.slot_history.specs.Steps.{state_after, next}
use Rattle.slot_history.specs.Allowed.{IsAllowed}
use Rattle.slot_history.specs.Histories.{IsLegal, entry}
use Rattle.slot_history.specs.Bounds.{IsShape, IsPlaceWithin}
use Rattle.slot_history.specs.Calls.{Call, Entering, Looking, Claiming, Shutting, Leaving, Paying}
use Rattle.slot_history.specs.Calls.{MarkingNext, Sweeping, Reserving, Admitting, AskingArrivals}
use Rattle.slot_history.specs.Calls.{AskingFinished, NotingDone, SettingTotal, Installing}
use Rattle.slot_history.specs.Calls.{Releasing, AnnouncingNext, TakingReturn, TakingChange, call_of}
use Rattle.slot_history.specs.Calls.{MayCall, reply_of}
use Rattle.slot_history.proofs.Table.{table}
use Rattle.slot_history.proofs.Within.{within-slots}
use Rattle.slot_history.proofs.Others.{nth-other-within}
use Rattle.slot_history.proofs.OneAnswer.{is-answered}
use Rattle.slot_words.specs.declared.address.Address.{Address}
use Rattle.slot_words.specs.Addresses.{IsThere}
use Rattle.slot_words.specs.Words.{Holds, StandsFor, word_at}
use Rattle.slot_words.specs.Steps.{mask_told, address_of, change_of, answer_of}
use Rattle.slot_words.specs.Laws.{stepped, IsLaw}
use Rattle.slot_words.proofs.Addresses.{index-low, stands-set}
use Rattle.slot_words.proofs.Elsewhere.{elsewhere}
use Rattle.slot_words.proofs.Numbers.{small}
use Rattle.slot_words.proofs.Fit.{IsFit, fit-of}
use Rattle.slot_words.proofs.SlotWords as slot
use Rattle.slot_words.proofs.Readings.{Reads}
use Rattle.slot_words.proofs.Visits.{enters, looks-open, looks-invalid, looks-vacant, claims, uses}
use Rattle.slot_words.proofs.Visits.{leaves, owes-it}
use Rattle.slot_words.proofs.Endings.{wins, loses, pays-last, pays-one, sweeps-last, sweeps-on}
use Rattle.slot_words.proofs.Endings.{marks-it, misses}
use Rattle.slot_words.proofs.Holdings.{gets, finds, admits, comes-late, asks-arrivals}
use Rattle.slot_words.proofs.Holdings.{asks-finished, notes, totals, installs, releases, tells}
use Rattle.slot_words.proofs.Holdings.{takes-return, takes-change}

-- The step of a call of w in this state: it is on a word that is there. Whatever this word holds
-- for the state, the call answers what the definition does, and the word then holds for the next
-- state. So does each other word as it was.
pub record IsStep (d : Shape) (S : ObjectState) (w : ℕ) (c : Call) : Type 0 where
  pub there : IsThere d (address_of w c (S.places w))
  pub answer : (n : ℕ) → Holds d S (address_of w c (S.places w)) n
      → answer_of c (S.places w) n ≡ reply_of d S w c
  pub here : (n : ℕ) → Holds d S (address_of w c (S.places w)) n
      → let p = S.places w in
      Holds d (next d S w (reply_of d S w c)) (address_of w c p) (change_of c p n)
  pub elsewhere : (b : Address) → IsThere d b → b ≢ address_of w c (S.places w)
      → (n : ℕ) → Holds d S b n → Holds d (next d S w (reply_of d S w c)) b n

module _ (d : Shape) (S : ObjectState) (w : ℕ) (low : w < d.workers) (fit : IsFit d S) where
  abbrev p : Place
  p = S.places w

  abbrev At : Act → Place → Type 0
  At = Reads d S w

  reads : (a : Act) → IsAllowed d S w a → At a p
  reads (Enter s) ok = subst (At (Enter s)) (sym ok.0) (enters d S w low fit s ok.0)
  reads (LookOpen id) ok =
      let look = slot.looks-open (S.slots ok.0) id ok.2 ok.3 in subst (At (LookOpen id)) (sym ok.1) (looks-open d S w low fit ok.0 id look)
  reads LookInvalid ok = subst (At LookInvalid) (sym ok.1) (looks-invalid d S w low fit ok.0 (slot.looks-invalid (S.slots ok.0) ok.2))
  reads LookVacant ok = subst (At LookVacant) (sym ok.1) (looks-vacant d S w low fit ok.0 (slot.looks-vacant (S.slots ok.0) ok.2))
  reads (ClaimRange k from to) ok =
      subst (At (ClaimRange k from to)) (sym ok.2) (claims d S w low fit ok.0 ok.1 k from to ok.2 ok.4 ok.5 ok.6 ok.7)
  reads (ClaimUsed k) ok = subst (At (ClaimUsed k)) (sym ok.2) (uses d S w low fit ok.0 ok.1 k ok.2 ok.4 ok.5)
  reads ShutWon ok = subst (At ShutWon) (sym ok.2) (wins d S w low fit ok.0 ok.1 ok.3)
  reads ShutLost ok = subst (At ShutLost) (sym ok.2) (loses d S w low fit ok.0 ok.1 ok.3)
  reads LeaveLeft ok = leaves d S w low fit ok.0 ok.1
  reads (LeaveOwe id) ok = owes-it d S w low fit id ok.0 ok.1 ok.2
  reads PayLast ok = subst (At PayLast) (sym ok.2) (pays-last d S w low fit ok.0 ok.1 ok.2 ok.3 ok.4)
  reads PayDone ok = subst (At PayDone) (sym ok.2) (pays-one d S w low fit ok.0 ok.1 ok.2 ok.3)
  reads MarkMarked ok = subst (At MarkMarked) (sym ok.4) (marks-it d S w low fit ok.0 ok.1 ok.2 ok.3 ok.4 ok.5 ok.6)
  reads MarkMissed ok = subst (At MarkMissed) (sym ok.4) (misses d S w low fit ok.0 ok.1 ok.2 ok.3 ok.4 ok.5 ok.6)
  reads SweepLast ok = subst (At SweepLast) (sym ok.4) (sweeps-last d S w low fit ok.0 ok.1 ok.2 ok.3 ok.4 ok.6)
  reads (SweepOthers n) ok = subst (At (SweepOthers n)) (sym ok.4) (sweeps-on d S w low fit ok.0 ok.1 ok.2 ok.3 n ok.4 ok.6 ok.7)
  reads (ReserveGot s) ok = subst (At (ReserveGot s)) (sym ok.0) (gets d S w low fit s ok.2)
  reads (ReserveTaken s word) ok = subst (At (ReserveTaken s word)) (sym ok.0) (finds d S w low fit s word ok.2 ok.3)
  reads (AdmitGot q) ok = admits d S w low fit q p ok.5
  reads (AdmitLost q now) ok = comes-late d S w low fit q now p ok.5 ok.6
  reads (Arrivals n) ok = asks-arrivals d S w low fit n p ok
  reads (Finished n) ok = asks-finished d S w low fit n p ok
  reads (NoteDone k) ok = notes d S w low fit k p (let few : ok.1.stage + k ≤ 8 = ok.6 in omega arith)
  reads (SetTotal t) ok = subst (At (SetTotal t)) (sym ok.2) (totals d S w low fit ok.0 t ok.1 ok.2)
  reads (Install id) ok = subst (At (Install id)) (sym ok.2) (installs d S w low fit ok.0 id ok.1 ok.2)
  reads Release ok = subst (At Release) (sym ok.2) (releases d S w low fit ok.0 ok.1)
  reads Announce ok = subst (At Announce) (sym ok.3) (tells d S w low fit ok.0 ok.2 ok.1)
  reads (TakeReturn part bits) ok = takes-return d S w low fit part bits p ok.1
  reads (TakeChange part bits) ok = takes-change d S w low fit part bits p ok.1

  slot-there : (q : Place) → p ≡ q → q ≢ Free → slot_of q < d.slots
  slot-there q at busy = within-slots d q (subst (IsPlaceWithin d) at (fit.within.places w)) busy

  part-there : (s : ℕ) → s < d.slots → s / 64 < PARTS
  part-there s in_s = let most = fit.shape.slots.1 in omega arith

  tells-there : (s told : ℕ) (again : Bool) → p ≡ Announcing s again told → IsThere d (mask_told (Announcing s again told))
  tells-there s told true at = let r : (s < d.slots) × (told < d.workers) = subst (IsPlaceWithin d) at (fit.within.places w) in (r.1, part-there s r.0)
  tells-there s told false at = let r : (s < d.slots) × (told < d.workers) = subst (IsPlaceWithin d) at (fit.within.places w) in (r.1, part-there s r.0)

  abbrev There : Call → Place → Type 0
  There c q = IsThere d (address_of w c q)

  there : (c : Call) → MayCall d S w c → There c p
  there (Entering s) ok = low
  there Looking ok = subst (There Looking) (sym ok.1) (slot-there (Entered ok.0) ok.1 (λ e. cc))
  there (Claiming n) ok = subst (There (Claiming n)) (sym ok.2) (slot-there (Inside ok.0 ok.1) ok.2 (λ e. cc))
  there Shutting ok = subst (There Shutting) (sym ok.2) (slot-there (Used ok.0 ok.1) ok.2 (λ e. cc))
  there Leaving ok = low
  there Paying ok = subst (There Paying) (sym ok.2) (slot-there (Owing ok.0 ok.1) ok.2 (λ e. cc))
  there MarkingNext ok = subst (There MarkingNext) (sym ok.4) (nth-other-within w ok.2 d.workers low ok.5)
  there Sweeping ok = subst (There Sweeping) (sym ok.4) (slot-there (Asking ok.0 ok.1 ok.2 ok.3) ok.4 (λ e. cc))
  there (Reserving s) ok = ok.1
  there (Admitting q) ok = tt
  there AskingArrivals ok = tt
  there AskingFinished ok = tt
  there (NotingDone k) ok = tt
  there (SettingTotal t) ok = subst (There (SettingTotal t)) (sym ok.2) (slot-there (Holding ok.0 ok.1) ok.2 (λ e. cc))
  there (Installing id) ok = subst (There (Installing id)) (sym ok.2) (slot-there (Holding ok.0 ok.1) ok.2 (λ e. cc))
  there Releasing ok = subst (There Releasing) (sym ok.2) (slot-there (Holding ok.0 ok.1) ok.2 (λ e. cc))
  there AnnouncingNext ok = subst (There AnnouncingNext) (sym ok.3) (tells-there ok.0 ok.2 ok.1 ok.3)
  there (TakingReturn part) ok = (low, ok)
  there (TakingChange part) ok = (low, ok)

  pub step : (c : Call) → MayCall d S w c → IsStep d S w c
  step c may =
      let a : Act = reply_of d S w c in
      let T : ObjectState = next d S w a in
      let answered = is-answered d S fit.table in
      let ok : IsAllowed d S w a = answered.always w c low may in
      let of : call_of a ≡ c = answered.of_call w c in record {
        there = there c may;
        answer = subst (λ k. (n : ℕ) → Holds d S (address_of w k p) n → answer_of k p n ≡ a) of (λ n h. (reads a ok n h).0);
        here = subst (λ k. (n : ℕ) → Holds d S (address_of w k p) n → Holds d T (address_of w k p) (change_of k p n)) of (λ n h. (reads a ok n h).1);
        elsewhere = subst (λ k. (b : Address) → IsThere d b → b ≢ address_of w k p → (n : ℕ) → Holds d S b n → Holds d T b n) of (λ b in_b far.
            elsewhere d S w low fit.table a ok b in_b far);
      }

-- the step of every call, in a state that a legal history leaves
pub step-of : (d : Shape) (h : List Entry) → IsShape d → IsLegal d h → (w : ℕ) → w < d.workers → (c : Call)
    → MayCall d (state_after d h) w c → IsStep d (state_after d h) w c
step-of d h shape legal w low c may = step d (state_after d h) w low (fit-of d h shape legal) c may

-- the law of every call
pub law : (c : Call) → IsLaw c (λ w p. address_of w c p) (λ p n. change_of c p n) (λ p n. answer_of c p n)
law c d h w words are low may =
    let S : ObjectState = state_after d h in
    let p : Place = S.places w in
    let a : Address = address_of w c p in
    let n : ℕ = word_at d words a in
    let s = step-of d h are.shape are.legal w low c may in
    let held : Holds d S a n = are.stands.each a s.there in
    let reads : answer_of c p n ≡ reply_of d S w c = s.answer n held in
    let in_words = index-low d a s.there in
    let count = are.stands.count in
    let ok : IsAllowed d S w (answer_of c p n) = subst (IsAllowed d S w) (sym reads) ((is-answered d S (table d h are.legal)).always w c low may) in
    let legal : IsLegal d (entry w (answer_of c p n) ∷ h) = (low, ok, are.legal) in
    let T : ObjectState = next d S w (reply_of d S w c) in
    let stands = stands-set d words S T a (change_of c p n) are.stands s.there (s.here n held) (λ b in_b far m k. s.elsewhere b in_b far m k) in record {
      there = omega arith;
      reply = reads;
      legal = legal;
      small = small d h w (answer_of c p n) are.shape legal;
      stands = subst (λ k. StandsFor d (stepped d words a (change_of c p)) (next d S w k)) (sym reads) stands;
    }
