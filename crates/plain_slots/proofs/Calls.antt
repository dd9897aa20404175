-- Each call of the object keeps what is kept of it.
use Rattle.std.proofs.Common.{◌≡◌, ◌≢◌, ℕ, ◌+◌, ◌*◌, ◌<◌, ◌≤◌, ◌⊎◌, Bool, true, false, cond, eqb, List, set, get_or, slice_get, Option, Some, None, refl, sym}
use Rattle.std.proofs.Common.{ap, ◌∙◌, subst, eq-eqb, eqb-true, arith}
use mathlib.Core.Bool.{true≢false}
use Rattle.slot_history.specs.declared.shape.Shape.{Shape}
use Rattle.slot_history.specs.declared.shape.TheConstants.{MOST_CLAIM}
use Rattle.slot_history.specs.declared.act.Act.{Act}
use Rattle.slot_history.specs.declared.act.Act.TheVariants.{SetTotal, NoteDone, AdmitGot, AdmitLost}
use Rattle.slot_history.specs.declared.place.Place.{Place}
use Rattle.slot_history.specs.declared.place.Place.TheVariants.{Free, Entered, Inside as At, Used, Owing}
use Rattle.slot_history.specs.Sets.{upd}
use Rattle.slot_history.specs.States.{SlotState, Empty, Reserved, Open, Shut, Finishing, ObjectState, slot_of, id_of, owes, can_leave, is_open, is_shut}
use Rattle.slot_history.specs.States.{is_empty, is_inside, reservation, has_own_cell}
use Rattle.slot_history.specs.Steps.{site, slot_after, moved, claimed, shut_by, held_on}
use Rattle.slot_history.specs.Allowed.{IsAllowed, debts}
use Rattle.slot_history.specs.Calls.{Looking, Claiming, Shutting, Leaving, Admitting, NotingDone, SettingTotal}
use Rattle.one_thread.specs.Stories.{MayMake}
use Rattle.slot_history.proofs.Places.{inside-slots}
use Rattle.slot_history.proofs.Duties.{owes-claimed, owes-shut, owes-held}
use Rattle.slot_history.proofs.Growth.{open-shut-cases}
use Rattle.plain_slots.specs.declared.object.PlainObject.TheInside.{Inside}
use Rattle.slot_station.specs.declared.reply.Look.{Look}
use Rattle.slot_station.specs.declared.reply.Look.TheVariants as look
use Rattle.slot_station.specs.declared.reply.Claim.{Claim}
use Rattle.slot_station.specs.declared.reply.Claim.TheVariants as claim
use Rattle.slot_station.specs.declared.reply.Shut.{Shut as ShutReply}
use Rattle.slot_station.specs.declared.reply.Shut.TheVariants as shut
use Rattle.slot_station.specs.declared.reply.Leave.{Leave}
use Rattle.slot_station.specs.declared.reply.Leave.TheVariants as leave
use Rattle.slot_station.specs.declared.reply.Reserve.{Reserve}
use Rattle.slot_station.specs.declared.reply.Reserve.TheVariants as reserve
use Rattle.slot_station.specs.declared.reply.Admit.{Admit}
use Rattle.slot_station.specs.declared.reply.Admit.TheVariants as admit
use Rattle.slot_station.specs.declared.log.Logged.{Logged}
use Rattle.plain_slots.specs.declared.slot.Slot.{Slot}
use Rattle.slot_station.specs.Answers.{claim_of, shut_of, leave_of, reserve_of, admit_of}
use Rattle.plain_slots.specs.Slots.{shown, look_of, has_work, ClaimFrom}
use Rattle.plain_slots.specs.Objects.{HasSlots, IsObject, Calm, Still}
use Rattle.slot_station.specs.Replies.{look_act, claim_act, shut_act, leave_act, reserve_act, admit_act}
use Rattle.slot_station.specs.Tokens.{ClaimGives, ShutGives, LeaveGives, ReserveGives}
use Rattle.slot_station.proofs.Lists.{pair-within}
use Rattle.plain_slots.proofs.Objects.{slots-set, slots-kept, debts-kept}
use Rattle.plain_slots.proofs.Following.{Kept, Wrote, Spot, contents, story_of, now_of, read, tabled, follow, quiet, writes}

-- ---- look

look-still : (l : Look) → Still (look_act l)
look-still (look.Open id) d w x = refl
look-still look.Invalid d w x = refl
look-still look.Vacant d w x = refl

look-calm : (l : Look) → Calm (look_act l)
look-calm (look.Open id) = (λ w p f. refl, λ w p f. refl, λ n. refl, λ n. refl)
look-calm look.Invalid = (λ w p f. refl, λ w p f. refl, λ n. refl, λ n. refl)
look-calm look.Vacant = (λ w p f. refl, λ w p f. refl, λ n. refl, λ n. refl)

look-fine : (d : Shape) (S : ObjectState) (w s : ℕ) (x : SlotState) → S.places w ≡ Entered s → S.slots s ≡ x
    → IsAllowed d S w (look_act (look_of (shown x)))
look-fine d S w s Empty at is = (s, at, rw is refl)
look-fine d S w s (Reserved u h) at is = (s, at, rw is refl)
look-fine d S w s (Open t) at is = (s, at, rw is refl, rw is refl)
look-fine d S w s (Shut t e) at is = (s, at, rw is refl)
look-fine d S w s (Finishing id u h) at is = (s, at, rw is refl)

pub look-after : (o : Inside) (ok : Kept o) (w : ℕ) (p : Place) (k : ℕ) → Spot o w Looking p k → (l : Look)
    → l ≡ look_of (shown ((now_of o).slots k)) → (a' : Act) → a' ≡ look_act l
    → (places : List Place) (log : List Logged) → Wrote o w a' places log
    → IsObject (record (contents o) { places = places; log = log })
look-after o ok w p k s l seen a' is places log wrote =
    let (j, at) = s.may in
    let there : (now_of o).places w ≡ Entered k = sym s.is ∙ at ∙ ap Entered (sym (s.slot ∙ ap slot_of at)) in
    quiet o ok w s.low (look_act l) a' is (subst (λ m. IsAllowed o.shape (now_of o) w (look_act m)) (sym seen)
    (look-fine o.shape (now_of o) w k ((now_of o).slots k) there refl)) places log wrote (look-still l) (look-calm l)

-- ---- leave

leave-still : (l : Leave) → Still (leave_act l)
leave-still leave.Left d w x = refl
leave-still (leave.Owe y) d w x = refl

leave-calm : (l : Leave) → Calm (leave_act l)
leave-calm leave.Left = (λ w p f. refl, λ w p f. refl, λ n. refl, λ n. refl)
leave-calm (leave.Owe y) = (λ w p f. refl, λ w p f. refl, λ n. refl, λ n. refl)

leave-fine : (d : Shape) (S : ObjectState) (w s id : ℕ) (b : Bool) → can_leave (S.places w) ≡ true → slot_of (S.places w) ≡ s → b ≡ owes (S.slots s) w
    → id ≡ id_of (S.slots s) → IsAllowed d S w (leave_act (leave_of w s id b))
leave-fine d S w s id true can at owed is = (can, ap (λ k. owes (S.slots k) w) at ∙ sym owed, is ∙ ap (λ k. id_of (S.slots k)) (sym at))
leave-fine d S w s id false can at owed is = (can, ap (λ k. owes (S.slots k) w) at ∙ sym owed)

-- the debt that is read is that of the slot
pub debt-read : (o : Inside) (ok : Kept o) (k v : ℕ) → k < o.shape.slots → v < o.shape.workers → (i : ℕ) → i ≡ k * o.shape.workers + v → (b : Bool)
    → b ≡ get_or o.owing.items i b → b ≡ owes ((now_of o).slots k) v
debt-read o ok k v in_k in_v i at b is = read o.owing.items i (owes ((now_of o).slots k) v) b
    (ap (slice_get o.owing.items) at ∙ ok.debts_are.are k v in_k in_v) is

pub debt-index : (o : Inside) (ok : Kept o) (k v : ℕ) → k < o.shape.slots → v < o.shape.workers → (i : ℕ) → i ≡ k * o.shape.workers + v → i < o.owing.len
debt-index o ok k v in_k in_v i at = let c = ok.debts_are.count in let l = o.owing.ok.0 in
    let p = pair-within o.shape.slots o.shape.workers k v in_k in_v in omega arith

-- the number that is read is that of the slot's debts
pub count-read : (o : Inside) (ok : Kept o) (k : ℕ) → k < o.shape.slots → (c : ℕ) → c ≡ get_or o.debts.items k c → c ≡ debts o.shape ((now_of o).slots k)
count-read o ok k in_k c is = read o.debts.items k (debts o.shape ((now_of o).slots k)) c (ok.debts_are.counted k in_k) is

pub count-index : (o : Inside) (ok : Kept o) (k : ℕ) → k < o.shape.slots → k < o.debts.len
count-index o ok k in_k = let c = ok.debts_are.counts_are in let l = o.debts.ok.0 in omega arith

pub leave-after : (o : Inside) (ok : Kept o) (w : ℕ) (p : Place) (k : ℕ) → Spot o w Leaving p k → (b : Bool) → b ≡ owes ((now_of o).slots k) w
    → (id : ℕ) → id ≡ id_of ((now_of o).slots k) → (l : Leave) → l ≡ leave_of w k id b → (a' : Act) → a' ≡ leave_act l
    → (places : List Place) (log : List Logged) → Wrote o w a' places log
    → IsObject (record (contents o) { places = places; log = log })
leave-after o ok w p k s b owed id named l answers a' is places log wrote =
    quiet o ok w s.low (leave_act l) a' is
    (subst (λ m. IsAllowed o.shape (now_of o) w (leave_act m)) (sym answers)
    (leave-fine o.shape (now_of o) w k id b (subst (λ q. can_leave q ≡ true) s.is s.may) (ap slot_of (sym s.is) ∙ sym s.slot) owed named))
    places log wrote (leave-still l) (leave-calm l)

-- the token that a leave brings
pub leave-gives : (d : Shape) (w k id : ℕ) (b : Bool) (p : Place) (l : Leave) → l ≡ leave_of w k id b → k ≡ slot_of p
    → LeaveGives d w (moved d (leave_act l) p) l
leave-gives d w k id true p l is at = subst (λ m. LeaveGives d w (moved d (leave_act m) p) m) (sym is)
    (record { worker = refl; place = ap (λ s. Owing s id) (sym at) })
leave-gives d w k id false p l is at = subst (λ m. LeaveGives d w (moved d (leave_act m) p) m) (sym is) tt

-- ---- reserve

reserve-calm : (s : ℕ) (r : Reserve) → Calm (reserve_act s r)
reserve-calm s (reserve.Got h) = (λ w p f. refl, λ w p f. refl, λ n. refl, λ n. refl)
reserve-calm s (reserve.Taken word) = (λ w p f. refl, λ w p f. refl, λ n. refl, λ n. refl)

reserve-site : (s : ℕ) (r : Reserve) (p : Place) → s ≡ site (reserve_act s r) p
reserve-site s (reserve.Got h) p = refl
reserve-site s (reserve.Taken word) p = refl

reserve-fine : (d : Shape) (S : ObjectState) (w s : ℕ) (x : SlotState) → S.places w ≡ Free → s < d.slots → S.slots s ≡ x
    → IsAllowed d S w (reserve_act s (reserve_of w s x))
reserve-fine d S w s Empty free low is = (free, low, rw is refl)
reserve-fine d S w s (Reserved u h) free low is = (free, low, rw is refl, rw is refl)
reserve-fine d S w s (Open t) free low is = (free, low, rw is refl, rw is refl)
reserve-fine d S w s (Shut t e) free low is = (free, low, rw is refl, rw is refl)
reserve-fine d S w s (Finishing id u h) free low is = (free, low, rw is refl, rw is refl)

reserve-shown : (d : Shape) (w s : ℕ) (x : SlotState) → cond (is_empty x) (shown (Reserved w reservation)) (shown x) ≡ shown
    (slot_after d w (reserve_act s (reserve_of w s x)) x)
reserve-shown d w s Empty = refl
reserve-shown d w s (Reserved u h) = refl
reserve-shown d w s (Open t) = refl
reserve-shown d w s (Shut t e) = refl
reserve-shown d w s (Finishing id u h) = refl

reserve-debts : (d : Shape) (w s : ℕ) (x : SlotState) (v : ℕ) → owes (slot_after d w (reserve_act s (reserve_of w s x)) x) v ≡ owes x v
reserve-debts d w s Empty v = refl
reserve-debts d w s (Reserved u h) v = refl
reserve-debts d w s (Open t) v = refl
reserve-debts d w s (Shut t e) v = refl
reserve-debts d w s (Finishing id u h) v = refl

pub reserve-after : (o : Inside) (ok : Kept o) (w : ℕ) → w < o.shape.workers → (s : ℕ) → (now_of o).places w ≡ Free → s < o.shape.slots → (r : Reserve)
    → r ≡ reserve_of w s ((now_of o).slots s) → (a' : Act) → a' ≡ reserve_act s r
    → (places : List Place) (log : List Logged) → Wrote o w a' places log → (y : Slot)
    → y ≡ cond (is_empty ((now_of o).slots s)) (shown (Reserved w reservation)) (shown ((now_of o).slots s))
    → IsObject (record (contents o) { slots = set o.slots.items s y; places = places; log = log })
reserve-after o ok w low s free in_s r answers a' is places log wrote y holds =
    let d = o.shape in let S = now_of o in let x = S.slots s in
    let a : Act = reserve_act s (reserve_of w s x) in
    writes o ok w low a a' (is ∙ ap (reserve_act s) answers) (reserve-fine d S w s x free in_s refl) places log wrote (reserve-calm s (reserve_of w s x)) s
    (reserve-site s (reserve_of w s x) (S.places w)) (set o.slots.items s y) o.owing.items o.debts.items (
      subst (λ z. HasSlots d (set o.slots.items s z) (upd S.slots s (slot_after d w a x))) (sym (holds ∙ reserve-shown d w s x))
          (slots-set d o.slots.items S.slots s (slot_after d w a x) ok.slots_are in_s),
      debts-kept d o.owing.items o.debts.items S.slots s (slot_after d w a x) ok.debts_are (λ v h. reserve-debts d w s x v),
    )

reserve-holds : (d : Shape) (w s : ℕ) (x : SlotState) (p : Place) → ReserveGives d w (moved d (reserve_act s (reserve_of w s x)) p) (reserve_of w s x)
reserve-holds d w s Empty p = record { worker = refl; noted = 0; total = None; place = refl }
reserve-holds d w s (Reserved u h) p = tt
reserve-holds d w s (Open t) p = tt
reserve-holds d w s (Shut t e) p = tt
reserve-holds d w s (Finishing id u h) p = tt

pub reserve-gives : (d : Shape) (w s : ℕ) (x : SlotState) (p : Place) (r : Reserve) → r ≡ reserve_of w s x → ReserveGives d w (moved d (reserve_act s r) p) r
reserve-gives d w s x p r is = subst (λ m. ReserveGives d w (moved d (reserve_act s m) p) m) (sym is) (reserve-holds d w s x p)

-- ---- claim

claim-calm : (n : ℕ) (c : Claim) → Calm (claim_act n c)
claim-calm n (claim.Range from to) = (λ w p f. refl, λ w p f. refl, λ n. refl, λ n. refl)
claim-calm n (claim.Exhausted y) = (λ w p f. refl, λ w p f. refl, λ n. refl, λ n. refl)

claim-site : (n : ℕ) (c : Claim) (p : Place) → slot_of p ≡ site (claim_act n c) p
claim-site n (claim.Range from to) p = refl
claim-site n (claim.Exhausted y) p = refl

claim-slot : (d : Shape) (w n : ℕ) (c : Claim) (x : SlotState) → slot_after d w (claim_act n c) x ≡ claimed x n
claim-slot d w n (claim.Range from to) x = refl
claim-slot d w n (claim.Exhausted y) x = refl

claim-fine : (d : Shape) (S : ObjectState) (w n s id : ℕ) (p : Place) (r : Option (ℕ × ℕ)) → S.places w ≡ At s id → 0 < n → n ≤ MOST_CLAIM
    → ClaimFrom (S.slots s) n r → IsAllowed d S w (claim_act n (claim_of w p r))
claim-fine d S w n s id p None at some most f = (s, id, at, some, most, f)
claim-fine d S w n s id p (Some r) at some most f = (s, id, at, some, most, f.0, f.1, f.2)

-- a slot that is open or shut may be claimed from
works-on : (x : SlotState) → (is_open x ≡ true) ⊎ (is_shut x ≡ true) → has_work (shown x) ≡ true
works-on x = open-shut-cases x (λ y. has_work (shown y) ≡ true) (λ t. refl) (λ t e. refl)

-- the slot of a worker that is inside with an id is open or shut with it
inside-work : (o : Inside) (ok : Kept o) (w n : ℕ) (p : Place) (k id : ℕ) → Spot o w (Claiming n) p k → has_own_cell p k ≡ true → is_inside p id ≡ true
    → has_work (shown ((now_of o).slots k)) ≡ true
inside-work o ok w n p k id s cell in_ =
    let r = inside-slots o.shape (now_of o) (tabled o ok) k w id s.low (subst (λ q. has_own_cell q k ≡ true) s.is cell)
    (subst (λ q. is_inside q id ≡ true) s.is in_) in works-on ((now_of o).slots k) r.0

pub claim-after : (o : Inside) (ok : Kept o) (w : ℕ) (p : Place) (k n : ℕ) → Spot o w (Claiming n) p k
    → (r : Option (ℕ × ℕ)) (y : Slot) → ClaimFrom ((now_of o).slots k) n r × (shown (claimed ((now_of o).slots k) n) ≡ y)
    → (c : Claim) → c ≡ claim_of w p r → (a' : Act) → a' ≡ claim_act n c → (places : List Place) (log : List Logged) → Wrote o w a' places log
    → IsObject (record (contents o) { slots = set o.slots.items k y; places = places; log = log })
claim-after o ok w p k n s r y got c answers a' is places log wrote =
    let d = o.shape in let S = now_of o in let x = S.slots k in
    let (j, id, is_at, some, most) = s.may in
    let at : p ≡ At k id = is_at ∙ ap (λ i. At i id) (sym (s.slot ∙ ap slot_of is_at)) in
    let a : Act = claim_act n c in
    let after : slot_after d w a x ≡ claimed x n = claim-slot d w n c x in
    writes o ok w s.low a a' is (subst (λ m. IsAllowed d S w (claim_act n m)) (sym answers) (claim-fine d S w n k id p r (sym s.is ∙ at) some most got.0))
    places log wrote (claim-calm n c) k
    (s.slot ∙ ap slot_of s.is ∙ claim-site n c (S.places w)) (set o.slots.items k y) o.owing.items o.debts.items (
      subst (λ z. HasSlots d (set o.slots.items k z) (upd S.slots k (slot_after d w a x))) (ap shown after ∙ got.1)
          (slots-set d o.slots.items S.slots k (slot_after d w a x) ok.slots_are s.in_slots),
      debts-kept d o.owing.items o.debts.items S.slots k (slot_after d w a x) ok.debts_are (λ v h. ap (λ z. owes z v) after ∙ owes-claimed x n v),
    )

claim-holds : (d : Shape) (w n : ℕ) (p : Place) (r : Option (ℕ × ℕ)) → ClaimGives d w (moved d (claim_act n (claim_of w p r)) p) (claim_of w p r)
claim-holds d w n p None = record { worker = refl; place = refl }
claim-holds d w n p (Some r) = tt

pub claim-gives : (d : Shape) (w n : ℕ) (p : Place) (r : Option (ℕ × ℕ)) (c : Claim) → c ≡ claim_of w p r → ClaimGives d w (moved d (claim_act n c) p) c
claim-gives d w n p r c is = subst (λ m. ClaimGives d w (moved d (claim_act n m) p) m) (sym is) (claim-holds d w n p r)

-- ---- shut

shut-calm : (r : ShutReply) → Calm (shut_act r)
shut-calm (shut.Won y) = (λ w p f. refl, λ w p f. refl, λ n. refl, λ n. refl)
shut-calm shut.Lost = (λ w p f. refl, λ w p f. refl, λ n. refl, λ n. refl)

shut-site : (r : ShutReply) (p : Place) → slot_of p ≡ site (shut_act r) p
shut-site (shut.Won y) p = refl
shut-site shut.Lost p = refl

shut-fine : (d : Shape) (S : ObjectState) (w s id : ℕ) (p : Place) (x : SlotState) → S.places w ≡ Used s id → S.slots s ≡ x
    → (is_open x ≡ true) ⊎ (is_shut x ≡ true) → IsAllowed d S w (shut_act (shut_of w p d (is_open x)))
shut-fine d S w s id p x at is k = open-shut-cases x (λ y. S.slots s ≡ y → IsAllowed d S w (shut_act (shut_of w p d (is_open y))))
    (λ t is. (s, id, at, rw is refl)) (λ t e is. (s, id, at, rw is refl)) k is

shut-slot : (d : Shape) (w : ℕ) (p : Place) (x : SlotState) → slot_after d w (shut_act (shut_of w p d (is_open x))) x ≡ shut_by w x
shut-slot d w p Empty = refl
shut-slot d w p (Reserved u h) = refl
shut-slot d w p (Open t) = refl
shut-slot d w p (Shut t e) = refl
shut-slot d w p (Finishing jd u h) = refl

pub shut-after : (o : Inside) (ok : Kept o) (w : ℕ) (p : Place) (k : ℕ) → Spot o w Shutting p k → (b : Bool) (y : Slot)
    → (b ≡ is_open ((now_of o).slots k)) × (shown (shut_by w ((now_of o).slots k)) ≡ y)
    → (r : ShutReply) → r ≡ shut_of w p o.shape b → (a' : Act) → a' ≡ shut_act r → (places : List Place) (log : List Logged) → Wrote o w a' places log
    → IsObject (record (contents o) { slots = set o.slots.items k y; places = places; log = log })
shut-after o ok w p k s b y got r answers a' is places log wrote =
    let d = o.shape in let S = now_of o in let x = S.slots k in
    let (j, id, is_at) = s.may in
    let at : p ≡ Used k id = is_at ∙ ap (λ i. Used i id) (sym (s.slot ∙ ap slot_of is_at)) in
    let was = inside-slots d S (tabled o ok) k w id s.low (subst (λ q. has_own_cell q k ≡ true) (sym at ∙ s.is) (eq-eqb k k refl))
    (subst (λ q. is_inside q id ≡ true) (sym at ∙ s.is) (eq-eqb id id refl)) in
    let a : Act = shut_act (shut_of w p d (is_open x)) in
    let after : slot_after d w a x ≡ shut_by w x = shut-slot d w p x in
    writes o ok w s.low a a' (is ∙ ap shut_act (answers ∙ ap (shut_of w p d) got.0)) (shut-fine d S w k id p x (sym s.is ∙ at) refl was.0) places log wrote
    (shut-calm (shut_of w p d (is_open x))) k
    (s.slot ∙ ap slot_of s.is ∙ shut-site (shut_of w p d (is_open x)) (S.places w)) (set o.slots.items k y) o.owing.items o.debts.items (
      subst (λ z. HasSlots d (set o.slots.items k z) (upd S.slots k (slot_after d w a x))) (ap shown after ∙ got.1)
          (slots-set d o.slots.items S.slots k (slot_after d w a x) ok.slots_are s.in_slots),
      debts-kept d o.owing.items o.debts.items S.slots k (slot_after d w a x) ok.debts_are (λ v h. ap (λ z. owes z v) after ∙ owes-shut w x v),
    )

shut-holds : (d : Shape) (w : ℕ) (p : Place) (b : Bool) → ShutGives d w (moved d (shut_act (shut_of w p d b)) p) (shut_of w p d b)
shut-holds d w p true = record { worker = refl; workers = refl; place = refl; asked = refl; marked = refl }
shut-holds d w p false = tt

pub shut-gives : (d : Shape) (w : ℕ) (p : Place) (b : Bool) (r : ShutReply) → r ≡ shut_of w p d b → ShutGives d w (moved d (shut_act r) p) r
shut-gives d w p b r is = subst (λ m. ShutGives d w (moved d (shut_act m) p) m) (sym is) (shut-holds d w p b)

-- the slot of a worker that is inside may be claimed from
pub inside-spot : (o : Inside) (ok : Kept o) (w n : ℕ) (p : Place) (k : ℕ) → Spot o w (Claiming n) p k → has_work (shown ((now_of o).slots k)) ≡ true
inside-spot o ok w n p k s =
    let (j, id, is, some, most) = s.may in
    let e : p ≡ At k id = is ∙ ap (λ i. At i id) (sym (s.slot ∙ ap slot_of is)) in
    inside-work o ok w n p k id s (subst (λ q. has_own_cell q k ≡ true) (sym e) (eq-eqb k k refl))
    (subst (λ q. is_inside q id ≡ true) (sym e) (eq-eqb id id refl))

-- ---- what a holder notes

held-shown : (a : Act) (x : SlotState) → shown (held_on a x) ≡ shown x
held-shown a Empty = refl
held-shown a (Reserved u h) = refl
held-shown a (Open t) = refl
held-shown a (Shut t e) = refl
held-shown a (Finishing id u h) = refl

pub total-after : (o : Inside) (ok : Kept o) (w t : ℕ) → MayMake (story_of o) w (SettingTotal t) → (places : List Place) (log : List Logged)
    → Wrote o w (SetTotal t) places log
    → IsObject (record (contents o) { places = places; log = log })
total-after o ok w t asks places log wrote =
    let S = now_of o in let k = slot_of (S.places w) in
    writes o ok w asks.below (SetTotal t) (SetTotal t) refl asks.may places log wrote
    (λ v p f. refl, λ v p f. refl, λ n. refl, λ n. refl) k refl o.slots.items o.owing.items o.debts.items (
      slots-kept o.shape o.slots.items S.slots k (held_on (SetTotal t) (S.slots k)) ok.slots_are (held-shown (SetTotal t) (S.slots k)),
      debts-kept o.shape o.owing.items o.debts.items S.slots k (held_on (SetTotal t) (S.slots k)) ok.debts_are (λ v h. owes-held (SetTotal t) (S.slots k) v),
    )

pub note-after : (o : Inside) (ok : Kept o) (w n : ℕ) → MayMake (story_of o) w (NotingDone n)
    → (places : List Place) (log : List Logged) → Wrote o w (NoteDone n) places log
    → IsObject (record (contents o) { places = places; finished = o.finished + n; log = log })
note-after o ok w n asks places log wrote =
    let S = now_of o in let k = slot_of (S.places w) in
    follow o ok w asks.below (NoteDone n) (NoteDone n) refl asks.may places log wrote o.slots.items o.owing.items o.debts.items o.returns.items
    o.changes.items o.admitted (o.finished + n) (
      slots-kept o.shape o.slots.items S.slots k (held_on (NoteDone n) (S.slots k)) ok.slots_are (held-shown (NoteDone n) (S.slots k)),
      debts-kept o.shape o.owing.items o.debts.items S.slots k (held_on (NoteDone n) (S.slots k)) ok.debts_are (λ v h. owes-held (NoteDone n) (S.slots k) v),
      ok.returns_are,
      ok.changes_are,
      ok.admitted_is,
      ap (λ j. j + n) ok.finished_is,
    )

admit-cases : (o : Inside) (ok : Kept o) (w q : ℕ) → MayMake (story_of o) w (Admitting q) → (b : Bool) → eqb o.admitted q ≡ b
    → (r : Admit) → r ≡ cond b admit.Got (admit.Lost o.admitted) → (n : ℕ) → n ≡ cond b (o.admitted + 1) o.admitted → (a' : Act) → a' ≡ admit_act q r
    → (places : List Place) (log : List Logged) → Wrote o w a' places log
    → IsObject (record (contents o) { places = places; admitted = n; log = log })
admit-cases o ok w q asks true same r answers n counts a' is places log wrote =
    let S = now_of o in let k = slot_of (S.places w) in
    let e : S.admitted ≡ q = sym ok.admitted_is ∙ eqb-true o.admitted q same in
    let (s, h, at, none, few) = asks.may in
    follow o ok w asks.below (AdmitGot q) a' (is ∙ ap (admit_act q) answers)
    (s, h, at, none, few, e) places log wrote o.slots.items o.owing.items o.debts.items o.returns.items o.changes.items n o.finished (
      slots-kept o.shape o.slots.items S.slots k (held_on (AdmitGot q) (S.slots k)) ok.slots_are (held-shown (AdmitGot q) (S.slots k)),
      debts-kept o.shape o.owing.items o.debts.items S.slots k (held_on (AdmitGot q) (S.slots k)) ok.debts_are (λ v h. owes-held (AdmitGot q) (S.slots k) v),
      ok.returns_are,
      ok.changes_are,
      counts ∙ ap (λ j. j + 1) ok.admitted_is,
      ok.finished_is,
    )
admit-cases o ok w q asks false other r answers n counts a' is places log wrote =
    let ne : o.admitted ≢ q = λ e. true≢false (sym (eq-eqb o.admitted q e) ∙ other) in
    let (s, h, at, none, few) = asks.may in
    subst (λ j. IsObject (record (contents o) { places = places; admitted = j; log = log })) (sym counts)
    (quiet o ok w asks.below (AdmitLost q o.admitted) a' (is ∙ ap (admit_act q) answers) (s, h, at, none, few, ok.admitted_is, ne) places log wrote
    (λ d v x. refl) (λ v p f. refl, λ v p f. refl, λ n. refl, λ n. refl))

pub admit-after : (o : Inside) (ok : Kept o) (w q : ℕ) → MayMake (story_of o) w (Admitting q)
    → (r : Admit) → r ≡ admit_of q o.admitted → (n : ℕ) → n ≡ cond (eqb o.admitted q) (o.admitted + 1) o.admitted → (a' : Act) → a' ≡ admit_act q r
    → (places : List Place) (log : List Logged) → Wrote o w a' places log
    → IsObject (record (contents o) { places = places; admitted = n; log = log })
admit-after o ok w q asks r answers n counts a' is places log wrote =
    admit-cases o ok w q asks (eqb o.admitted q) refl r answers n counts a' is places log wrote
