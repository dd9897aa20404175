-- What a claim, an admission, an install and a last call make of the book of task sets.
use Rattle.std.proofs.Common.{◌≡◌, ◌≢◌, ℕ, ◌+◌, ◌*◌, ◌/◌, ◌%◌, ◌<◌, ◌≤◌, true, false, cond, eqb}
use Rattle.std.proofs.Common.{min, List, [], ◌∷◌, Some, None, refl, sym, ap, ap₂, ◌∙◌, subst}
use Rattle.std.proofs.Common.{⊎_elim, arith, eq-eqb, ne_eqb}
use Rattle.std.specs.Prelude.{unwrap_or}
use mathlib.Core.Bool.{true≢false}
use Rattle.std.proofs.lemmas.Bool.{cases_lt}
use Rattle.slot_history.specs.declared.shape.Shape.{Shape}
use Rattle.slot_history.specs.declared.shape.TheConstants.{STAGES}
use Rattle.slot_history.specs.declared.act.Act.{Act}
use Rattle.slot_history.specs.declared.act.Act.TheVariants.{AdmitGot}
use Rattle.slot_history.specs.declared.place.Held.{Held}
use Rattle.slot_history.specs.Sets.{upd}
use Rattle.slot_history.specs.States.{TaskSet, Ending, SlotState, Empty, Reserved, Open, Shut}
use Rattle.slot_history.specs.States.{Finishing, task_of, reservation, finalisation, next_id}
use Rattle.slot_history.specs.States.{is_empty}
use Rattle.slot_history.specs.Steps.{claimed, grown, shut_by, ended, finalised_by, held_on}
use Rattle.slot_history.specs.Steps.{held_after}
use Rattle.slot_history.specs.Allowed.{IsReady}
use Rattle.slot_history.specs.Histories.{Morsel, Tiles}
use Rattle.slot_history.specs.Bounds.{IsFinalisation}
use Rattle.slot_history.specs.Lives.{Life, Never, Runs, Done, done, has_task, query_in}
use Rattle.slot_history.specs.Lives.{AreLaterNever, Book, IsRunning, IsSlotBook, IsBook}
use Rattle.slot_history.proofs.Duties.{IsHeldBy}
use Rattle.slot_history.proofs.Sets.{pick, upd-cases, upd-same, some-unwrapped}

-- ---- the book after a call

abbrev pub with_claims : Book → (ℕ → List Morsel) → Book
with_claims B more = record B { claims = more }

-- one more claim of a task set
abbrev pub claimed_in : Book → ℕ → Morsel → Book
claimed_in B jd new = with_claims B (λ id. cond (eqb jd id) (new ∷ B.claims id) (B.claims id))

-- one more query is admitted
abbrev pub one_admitted : Book → Book
one_admitted B = record B { admitted = B.admitted + 1 }

-- the task set of an id is installed in the slot s with a total
abbrev pub installed_in : Book → ℕ → ℕ → ℕ → Book
installed_in B id s total = record B { life = λ j. cond (eqb id j) (Runs s total) (B.life j) }

-- and it is finalised
abbrev pub ended_in : Book → ℕ → Book
ended_in B id = record B { life = λ j. cond (eqb id j) (done (B.life j)) (B.life j) }

-- ---- a slot that knows no more than before

pub record Alike (x y : SlotState) : Type 0 where
  pub book : (B : Book) (s : ℕ) → IsSlotBook B s x → IsSlotBook B s y
  pub query : (q : ℕ) → query_in y ≡ Some q → query_in x ≡ Some q
  pub task : has_task x ≡ true → (has_task y ≡ true) × ((task_of y).id ≡ (task_of x).id)

pub alike-self : (x : SlotState) → Alike x x
alike-self x = record { book = λ B s k. k; query = λ q k. k; task = λ k. (k, refl) }

pub alike-shut : (x : SlotState) (w : ℕ) → Alike x (shut_by w x)
alike-shut (Open t) w = record { book = λ B s k. k; query = λ q k. k; task = λ k. (refl, refl) }
alike-shut x w = alike-self x

pub alike-ended : (d : Shape) (w : ℕ) (a : Act) (x : SlotState) → Alike x (ended d w a x)
alike-ended d w a (Shut t e) = record { book = λ B s k. k; query = λ q k. k; task = λ k. (refl, refl) }
alike-ended d w a x = alike-self x

pub alike-held : (a : Act) (x : SlotState) → ((h : Held) → (held_after a h).query ≡ h.query) → Alike x (held_on a x)
alike-held a (Reserved u h) same = record { book = λ B s k q e. k q (sym (same h) ∙ e); query = λ q e. sym (same h) ∙ e; task = λ k. absurd (cc) }
alike-held a (Finishing id u h) same = record { book = λ B s k. k; query = λ q e. e; task = λ k. absurd (cc) }
alike-held a x same = alike-self x

-- past its total, the cursor says nothing new
pub tiles-spent : (ms : List Morsel) (c total n : ℕ) → total ≤ c → total ≡ n → Tiles ms (min c total) → Tiles ms n
tiles-spent ms c total n spent same k = subst (Tiles ms) (let r : min c total ≡ n = omega arith in r) k

running-used : (B : Book) (s n : ℕ) (t : TaskSet) → t.total ≤ t.cursor → IsRunning B s t → IsRunning B s (grown t n)
running-used B s n t spent k = record {
  lives = k.lives;
  tiles = tiles-spent (B.claims t.id) t.cursor t.total (min (t.cursor + n) t.total) spent (omega arith) k.tiles;
  later = k.later;
}

pub alike-used : (x : SlotState) (n : ℕ) → (task_of x).total ≤ (task_of x).cursor → Alike x (claimed x n)
alike-used (Open t) n spent = record { book = λ B s. running-used B s n t spent; query = λ q k. k; task = λ k. (refl, refl) }
alike-used (Shut t e) n spent = record { book = λ B s. running-used B s n t spent; query = λ q k. k; task = λ k. (refl, refl) }
alike-used x n spent = alike-self x

pub alike-reserved : (x : SlotState) (w : ℕ) → is_empty x ≡ true → Alike x (Reserved w reservation)
alike-reserved Empty w h = record { book = λ B s k q e. absurd (cc); query = λ q e. e; task = λ k. absurd (cc) }
alike-reserved _ w h = absurd (cc)

pub alike-released : (x : SlotState) (w : ℕ) (h : Held) → IsHeldBy w h x → Alike x Empty
alike-released x w h how = ⊎_elim
    (λ e. record { book = λ B s k. tt; query = λ q k. absurd (cc); task = λ k. absurd (true≢false (sym k ∙ ap has_task e)) })
    (λ r. record { book = λ B s k. tt; query = λ q k. absurd (cc); task = λ k. absurd (true≢false (sym k ∙ ap has_task r.1)) }) how

pub book-alike : (B : Book) (slots : ℕ → SlotState) (k : ℕ) (y : SlotState) → Alike (slots k) y → IsBook B slots → IsBook B (upd slots k y)
book-alike B slots k y same ok =
    let back : (j q : ℕ) → query_in (upd slots k y j) ≡ Some q → query_in (slots j) ≡ Some q =
    λ j q. upd-cases slots k y j (λ z. query_in z ≡ Some q → query_in (slots j) ≡ Some q) (λ e h. ap (λ i. query_in (slots i)) e ∙ same.query q h)
    (λ n h. h) in record {
      slot = λ s. upd-cases slots k y s (IsSlotBook B s)
          (λ e. same.book B s (subst (λ j. IsSlotBook B s (slots j)) e (ok.slot s))) (λ n. ok.slot s);
      runs = λ id s total h. let r = ok.runs id s total h in upd-cases slots k y s (λ z. (has_task z ≡ true) × ((task_of z).id ≡ id))
          (λ e. let t = same.task (ap (λ j. has_task (slots j)) (sym e) ∙ r.0) in (t.0, t.1 ∙ ap (λ j. (task_of (slots j)).id) (sym e) ∙ r.1)) (λ n. r);
      never = ok.never;
      late = ok.late;
      apart = λ s t q h g. ok.apart s t q (back s q h) (back t q g);
    }

-- ---- a claim that got a range

-- claims of other task sets than those that run in this slot do not matter to it
running-claims : (B : Book) (more : ℕ → List Morsel) (s : ℕ) (t : TaskSet) → ((id total : ℕ) → B.life id ≡ Runs s total → more id ≡ B.claims id)
    → IsRunning B s t → IsRunning (with_claims B more) s t
running-claims B more s t same k = record {
  lives = k.lives;
  tiles = subst (λ ms. Tiles ms (min t.cursor t.total)) (sym (same t.id t.total k.lives)) k.tiles;
  later = k.later;
}

book-claims : (B : Book) (more : ℕ → List Morsel) (s : ℕ) (x : SlotState) → ((id total : ℕ) → B.life id ≡ Runs s total → more id ≡ B.claims id)
    → IsSlotBook B s x → IsSlotBook (with_claims B more) s x
book-claims B more s (Open t) same k = running-claims B more s t same k
book-claims B more s (Shut t e) same k = running-claims B more s t same k
book-claims B more s _ same k = k

-- one more claim, which begins at the cursor
tiles-more : (B : Book) (more : ℕ → List Morsel) (s w n from to : ℕ) (t : TaskSet) → from ≡ t.cursor → from < t.total → to ≡ min t.total (from + n)
    → 0 < n → more t.id ≡ (record { worker = w; from = from; to = to }) ∷ B.claims t.id → IsRunning B s t
    → IsRunning (with_claims B more) s (grown t n)
tiles-more B more s w n from to t at below upto some_tuples is k =
    let c : ℕ = t.cursor in let m : ℕ = t.total in
    let a : from ≡ c = at in let b : from < m = below in let e : to ≡ min m (from + n) = upto in record {
      lives = k.lives;
      tiles = subst (λ ms. Tiles ms (min (c + n) m)) (sym is) (
        let r : to ≡ min (c + n) m = omega arith in r,
        let r : from < to = omega arith in r,
        subst (Tiles (B.claims t.id)) (let r : min c m ≡ from = omega arith in r) k.tiles,
      );
      later = k.later;
    }

slot-more : (B : Book) (more : ℕ → List Morsel) (s w n from to : ℕ) (x : SlotState) → has_task x ≡ true → from ≡ (task_of x).cursor
    → from < (task_of x).total → to ≡ min (task_of x).total (from + n) → 0 < n
    → more (task_of x).id ≡ (record { worker = w; from = from; to = to }) ∷ B.claims (task_of x).id → IsSlotBook B s x
    → IsSlotBook (with_claims B more) s (claimed x n)
slot-more B more s w n from to (Open t) has at below upto some_tuples is k =
    tiles-more B more s w n from to t at below upto some_tuples is k
slot-more B more s w n from to (Shut t e) has at below upto some_tuples is k =
    tiles-more B more s w n from to t at below upto some_tuples is k
slot-more B more s w n from to _ has at below upto some_tuples is k = absurd (cc)

claimed-query : (x : SlotState) (n : ℕ) → query_in (claimed x n) ≡ query_in x
claimed-query Empty n = refl
claimed-query _ n = refl

claimed-task : (x : SlotState) (n : ℕ) → (has_task (claimed x n) ≡ has_task x) × ((task_of (claimed x n)).id ≡ (task_of x).id)
claimed-task Empty n = (refl, refl)
claimed-task _ n = (refl, refl)

-- a slot that has a task set knows its life
pub running-life : (B : Book) (s : ℕ) (x : SlotState) → has_task x ≡ true → IsSlotBook B s x → B.life (task_of x).id ≡ Runs s (task_of x).total
running-life B s (Open t) has k = k.lives
running-life B s (Shut t e) has k = k.lives
running-life B s _ has k = absurd (cc)

pub book-range : (B : Book) (slots : ℕ → SlotState) (k w n from to : ℕ) → has_task (slots k) ≡ true → from ≡ (task_of (slots k)).cursor
    → from < (task_of (slots k)).total → to ≡ min (task_of (slots k)).total (from + n) → 0 < n → IsBook B slots
    → IsBook (claimed_in B (task_of (slots k)).id (record { worker = w; from = from; to = to })) (upd slots k (claimed (slots k) n))
book-range B slots k w n from to has at below upto some_tuples ok =
    let x : SlotState = slots k in
    let jd : ℕ = (task_of x).id in
    let new : Morsel = record { worker = w; from = from; to = to } in
    let more : ℕ → List Morsel = λ id. cond (eqb jd id) (new ∷ B.claims id) (B.claims id) in
    let lives : B.life jd ≡ Runs k (task_of x).total = running-life B k x has (ok.slot k) in
    let here : more jd ≡ new ∷ B.claims jd = ap (λ b. cond b (new ∷ B.claims jd) (B.claims jd)) (eq-eqb jd jd refl) in
    let else_ : (id : ℕ) → jd ≢ id → more id ≡ B.claims id = λ id n. ap (λ b. cond b (new ∷ B.claims id) (B.claims id)) (ne_eqb jd id n) in
    let back : (j q : ℕ) → query_in (upd slots k (claimed x n) j) ≡ Some q → query_in (slots j) ≡ Some q =
    λ j q. upd-cases slots k (claimed x n) j (λ z. query_in z ≡ Some q → query_in (slots j) ≡ Some q)
    (λ e h. ap (λ i. query_in (slots i)) e ∙ sym (claimed-query x n) ∙ h) (λ n h. h) in record {
      slot = λ s. upd-cases slots k (claimed x n) s (IsSlotBook (with_claims B more) s)
          (λ e. subst (λ j. IsSlotBook (with_claims B more) j (claimed x n)) (sym e)
          (slot-more B more k w n from to x has at below upto some_tuples here (ok.slot k)))
          (λ far. book-claims B more s (slots s)
          (λ id total h. else_ id (λ i. far (let r : Runs k (task_of x).total ≡ Runs s total = sym lives ∙ ap B.life i ∙ h in let q : k ≡ s = cc in sym q)))
          (ok.slot s));
      runs = λ id s total h. let r = ok.runs id s total h in let t = claimed-task x n in upd-cases slots k (claimed x n) s
          (λ z. (has_task z ≡ true) × ((task_of z).id ≡ id))
          (λ e. (t.0 ∙ ap (λ j. has_task (slots j)) (sym e) ∙ r.0, t.1 ∙ ap (λ j. (task_of (slots j)).id) (sym e) ∙ r.1)) (λ n. r);
      never = λ id h. else_ id (λ i. let r : Runs k (task_of x).total ≡ Never = sym lives ∙ ap B.life i ∙ h in absurd (cc)) ∙ ok.never id h;
      late = ok.late;
      apart = λ s t q h g. ok.apart s t q (back s q h) (back t q g);
    }

-- ---- an admission

running-admitted : (B : Book) (s : ℕ) (t : TaskSet) → IsRunning B s t → IsRunning (one_admitted B) s t
running-admitted B s t k = record { lives = k.lives; tiles = k.tiles; later = k.later }

book-more : (B : Book) (s : ℕ) (x : SlotState) → IsSlotBook B s x → IsSlotBook (one_admitted B) s x
book-more B s (Reserved w h) k = λ q e. let r = k q e in (let a : q < B.admitted = r.0 in omega arith, r.1)
book-more B s (Open t) k = running-admitted B s t k
book-more B s (Shut t e) k = running-admitted B s t k
book-more B s _ k = k

-- a task set that was installed is of an admitted query
pub running-low : (B : Book) (slots : ℕ → SlotState) → IsBook B slots → (id : ℕ) → B.life id ≢ Never → id / STAGES < B.admitted
running-low B slots ok id was = ⊎_elim (λ h. h) (λ h. absurd (was (ok.late id h))) (cases_lt (id / STAGES) B.admitted)

lives-low : (B : Book) (slots : ℕ → SlotState) → IsBook B slots → (id q : ℕ) → id / STAGES ≡ q → B.life id ≢ Never → q < B.admitted
lives-low B slots ok id q same lives = subst (λ j. j < B.admitted) same (running-low B slots ok id lives)

-- the query of a slot was admitted
query-admitted : (B : Book) (slots : ℕ → SlotState) → IsBook B slots → (s : ℕ) (x : SlotState) (q : ℕ) → IsSlotBook B s x → query_in x ≡ Some q
    → q < B.admitted
query-admitted B slots ok s Empty q k e = absurd (cc)
query-admitted B slots ok s (Reserved w h) q k e = (k q e).0
query-admitted B slots ok s (Open t) q k e = lives-low B slots ok t.id q (cc) (λ n. let r = sym k.lives ∙ n in cc)
query-admitted B slots ok s (Shut t g) q k e = lives-low B slots ok t.id q (cc) (λ n. let r = sym k.lives ∙ n in cc)
query-admitted B slots ok s (Finishing id w h) q k e = lives-low B slots ok id q (cc) (λ n. let r = sym k.1 ∙ n in cc)

pub book-admitted : (B : Book) (slots : ℕ → SlotState) (k w : ℕ) (h : Held) → slots k ≡ Reserved w h → h.query ≡ None → IsBook B slots
    → IsBook (one_admitted B) (upd slots k (held_on (AdmitGot B.admitted) (slots k)))
book-admitted B slots k w h is none ok =
    let g : Held = held_after (AdmitGot B.admitted) h in
    let y : SlotState = Reserved w g in
    let low : (j q : ℕ) → query_in (slots j) ≡ Some q → q < B.admitted = λ j q e. query-admitted B slots ok j (slots j) q (ok.slot j) e in
    subst (λ z. IsBook (one_admitted B) (upd slots k (held_on (AdmitGot B.admitted) z))) (sym is) (record {
      slot = λ s. upd-cases slots k y s (IsSlotBook (one_admitted B) s)
          (λ e q f. let r : B.admitted ≡ q = cc in (
            let b : q < B.admitted + 1 = omega arith in
                b,
            λ id i. ok.late id (let b : B.admitted ≤ id / STAGES = omega arith in b),
          ))
          (λ n. book-more B s (slots s) (ok.slot s));
      runs = λ id s total l. let r = ok.runs id s total l in upd-cases slots k y s (λ z. (has_task z ≡ true) × ((task_of z).id ≡ id))
          (λ e. absurd (true≢false (sym r.0 ∙ ap (λ j. has_task (slots j)) e ∙ ap has_task is))) (λ n. r);
      never = ok.never;
      late = λ id l. ok.late id (omega arith);
      apart = λ s t q. upd-cases slots k y s (λ z. query_in z ≡ Some q → query_in (upd slots k y t) ≡ Some q → s ≡ t)
          (λ e f. upd-cases slots k y t (λ z. query_in z ≡ Some q → s ≡ t) (λ i j. e ∙ sym i)
          (λ n j. absurd (let a : q < B.admitted = low t q j in let b : B.admitted ≡ q = cc in omega arith)))
          (λ n f. upd-cases slots k y t (λ z. query_in z ≡ Some q → s ≡ t)
          (λ i j. absurd (let a : q < B.admitted = low s q f in let b : B.admitted ≡ q = cc in omega arith))
          (λ n' j. ok.apart s t q f j));
    })

-- ---- an install

-- what the book says of the next id of a holder: it was never installed, nor was a later one of its
-- query, which is the query of the slot
pub record IsFresh (B : Book) (x : SlotState) (id : ℕ) : Type 0 where
  pub never : B.life id ≡ Never
  pub later : AreLaterNever B id
  pub query : query_in x ≡ Some (id / STAGES)
  pub low : id / STAGES < B.admitted
  pub idle : has_task x ≡ false

fresh-after : (q id : ℕ) → id ≡ STAGES * q → id / STAGES ≡ q
fresh-after q id e = omega arith

pub fresh-reserved : (B : Book) (k w id : ℕ) (h : Held) → IsReady h → id ≡ next_id h → h.again ≡ false → IsSlotBook B k (Reserved w h)
    → IsFresh B (Reserved w h) id
fresh-reserved B k w id h ready next_one first ok =
    let q : ℕ = unwrap_or h.query 0 in
    let some_query : h.query ≡ Some q = some-unwrapped h.query 0 ready.has_query in
    let is : id ≡ STAGES * q = let r : id ≡ STAGES * q + cond {A = ℕ} h.again (h.stage + 1) 0 = next_one in let z : cond {A = ℕ} h.again (h.stage + 1) 0 ≡ 0 =
    ap (λ b. cond b (h.stage + 1) 0) first in omega arith in
    let of : id / STAGES ≡ q = fresh-after q id is in
    let r = ok q some_query in record {
      never = r.1 id of;
      later = λ j above same. r.1 j (same ∙ of);
      query = some_query ∙ ap Some (sym of);
      low = let a : q < B.admitted = r.0 in omega arith;
      idle = refl;
    }

pub fresh-finishing : (B : Book) (k w id jd : ℕ) (h : Held) → IsReady h → id ≡ next_id h → IsFinalisation jd h
    → (B.life jd ≢ Never → jd / STAGES < B.admitted) → IsSlotBook B k (Finishing jd w h) → IsFresh B (Finishing jd w h) id
fresh-finishing B k w id jd h ready next_one sound low ok =
    let last = (ready.next_stage sound.again).1 in
    let s : h.stage ≡ jd % STAGES = sound.stage in
    let is : id ≡ STAGES * (jd / STAGES) + (h.stage + 1) = next_one ∙ ap₂
    (λ q b. STAGES * q + b) (ap (λ o. unwrap_or o 0) sound.query) (ap (λ b. cond b (h.stage + 1) 0) sound.again) in
    let more : h.stage + 1 < STAGES = last in
    let above : jd < id = omega arith in
    let same : id / STAGES ≡ jd / STAGES = omega arith in record {
      never = ok.2 id above same;
      later = λ j up of. ok.2 j (omega arith) (of ∙ same);
      query = ap Some (sym same);
      low = let a : jd / STAGES < B.admitted = low (λ n. let r : Done ok.0 ≡ Never = sym ok.1 ∙ n in absurd (cc)) in omega arith;
      idle = refl;
    }

beside-running : (B : Book) (s k total id : ℕ) (t : TaskSet) → B.life id ≡ Never → Some (t.id / STAGES) ≢ Some (id / STAGES) → IsRunning B s t
    → IsRunning (installed_in B id k total) s t
beside-running B s k total id t new apart ok = record {
  lives = pick id t.id (Runs k total) (B.life t.id) (λ l. l ≡ Runs s t.total)
      (λ i. absurd (let r : Runs s t.total ≡ Never = sym ok.lives ∙ ap B.life (sym i) ∙ new in cc)) (λ n. ok.lives);
  tiles = ok.tiles;
  later = λ j above of. pick id j (Runs k total) (B.life j) (λ l. l ≡ Never) (λ i. absurd (apart (ap Some (sym of ∙ ap (λ z. z / STAGES) (sym i)))))
      (λ n. ok.later j above of);
}

-- another slot after the install
book-beside : (B : Book) (s k total id : ℕ) (x : SlotState) → B.life id ≡ Never → query_in x ≢ Some (id / STAGES) → IsSlotBook B s x
    → IsSlotBook (installed_in B id k total) s x
book-beside B s k total id Empty new apart ok = ok
book-beside B s k total id (Reserved w h) new apart ok = λ q e. let r = ok q e in (
  r.0,
  λ j of. pick id j (Runs k total) (B.life j) (λ l. l ≡ Never) (λ i. absurd (apart (e ∙ ap Some (sym of ∙ ap (λ z. z / STAGES) (sym i)))))
      (λ n. r.1 j of),
)
book-beside B s k total id (Open t) new apart ok = beside-running B s k total id t new apart ok
book-beside B s k total id (Shut t e) new apart ok = beside-running B s k total id t new apart ok
book-beside B s k total id (Finishing jd w h) new apart ok = (
  ok.0,
  pick id jd (Runs k total) (B.life jd) (λ l. l ≡ Done ok.0) (λ i. absurd (let r : Done ok.0 ≡ Never = sym ok.1 ∙ ap B.life (sym i) ∙ new in cc)) (λ n. ok.1),
  λ j above of. pick id j (Runs k total) (B.life j) (λ l. l ≡ Never) (λ i. absurd (apart (ap Some (sym of ∙ ap (λ z. z / STAGES) (sym i)))))
      (λ n. ok.2 j above of),
)

pub book-installed : (B : Book) (slots : ℕ → SlotState) (k id total : ℕ) → IsFresh B (slots k) id → IsBook B slots
    → IsBook (installed_in B id k total) (upd slots k (Open (record { id = id; total = total; cursor = 0 })))
book-installed B slots k id total fresh ok =
    let y : SlotState = Open (record { id = id; total = total; cursor = 0 }) in
    let N : Book = installed_in B id k total in
    let new : ℕ → Life = N.life in
    let else_ : (j : ℕ) → id ≢ j → new j ≡ B.life j = λ j n. ap (λ b. cond b (Runs k total) (B.life j)) (ne_eqb id j n) in
    let back : (j q : ℕ) → query_in (upd slots k y j) ≡ Some q → query_in (slots j) ≡ Some q =
    λ j q. upd-cases slots k y j (λ z. query_in z ≡ Some q → query_in (slots j) ≡ Some q) (λ e h. ap (λ i. query_in (slots i)) e ∙ fresh.query ∙ h)
    (λ n h. h) in record {
      slot = λ s. upd-cases slots k y s (IsSlotBook N s)
          (λ e. record {
            lives = ap (λ b. cond b (Runs k total) (B.life id)) (eq-eqb id id refl) ∙ ap (λ j. Runs j total) (sym e);
            tiles = subst (λ ms. Tiles ms (min 0 total)) (sym (ok.never id fresh.never)) (omega arith);
            later = λ j above of. else_ j (λ i. omega arith) ∙ fresh.later j above of;
          })
          (λ far. book-beside B s k total id (slots s) fresh.never (λ h. far (ok.apart s k (id / STAGES) h fresh.query)) (ok.slot s));
      runs = λ j s n. pick id j (Runs k total) (B.life j) (λ l. l ≡ Runs s n → (has_task (upd slots k y s) ≡ true) × ((task_of (upd slots k y s)).id ≡ j))
          (λ i e. let at : k ≡ s = cc in subst (λ z. (has_task (upd slots k y z) ≡ true) × ((task_of (upd slots k y z)).id ≡ j)) at
          (ap has_task (upd-same slots k y), ap (λ z. (task_of z).id) (upd-same slots k y) ∙ i))
          (λ i e. let r = ok.runs j s n e in upd-cases slots k y s (λ z. (has_task z ≡ true) × ((task_of z).id ≡ j))
          (λ at. absurd (true≢false (sym r.0 ∙ ap (λ z. has_task (slots z)) at ∙ fresh.idle))) (λ far. r));
      never = λ j. pick id j (Runs k total) (B.life j) (λ l. l ≡ Never → B.claims j ≡ []) (λ i e. absurd (cc)) (λ n e. ok.never j e);
      late = λ j high. else_ j (λ i. let a : id / STAGES < B.admitted = fresh.low in let b : id / STAGES ≡ j / STAGES = ap (λ z. z / STAGES) i in omega arith)
          ∙ ok.late j high;
      apart = λ s t q h g. ok.apart s t q (back s q h) (back t q g);
    }

-- ---- the last call of a task set

last-never : (jd j : ℕ) (l : Life) → l ≡ Never → cond (eqb jd j) (done l) l ≡ Never
last-never jd j l e = pick jd j (done l) l (λ z. z ≡ Never) (λ i. ap done e) (λ n. e)

last-done : (jd j total : ℕ) (l : Life) → l ≡ Done total → cond (eqb jd j) (done l) l ≡ Done total
last-done jd j total l e = pick jd j (done l) l (λ z. z ≡ Done total) (λ i. ap done e) (λ n. e)

last-running : (B : Book) (s jd : ℕ) (t : TaskSet) → jd ≢ t.id → IsRunning B s t → IsRunning (ended_in B jd) s t
last-running B s jd t other ok = record {
  lives = ap (λ b. cond b (done (B.life t.id)) (B.life t.id)) (ne_eqb jd t.id other) ∙ ok.lives;
  tiles = ok.tiles;
  later = λ j above of. last-never jd j (B.life j) (ok.later j above of);
}

book-past : (B : Book) (s jd : ℕ) (x : SlotState) → ((n : ℕ) → B.life jd ≢ Runs s n) → IsSlotBook B s x → IsSlotBook (ended_in B jd) s x
book-past B s jd Empty other ok = ok
book-past B s jd (Reserved w h) other ok = λ q e. let r = ok q e in (r.0, λ j of. last-never jd j (B.life j) (r.1 j of))
book-past B s jd (Open t) other ok = last-running B s jd t (λ i. other t.total (ap B.life i ∙ ok.lives)) ok
book-past B s jd (Shut t e) other ok = last-running B s jd t (λ i. other t.total (ap B.life i ∙ ok.lives)) ok
book-past B s jd (Finishing id w h) other ok = (ok.0, last-done jd id ok.0 (B.life id) ok.1, λ j above of. last-never jd j (B.life j) (ok.2 j above of))

pub book-last : (B : Book) (slots : ℕ → SlotState) (k w : ℕ) (t : TaskSet) (e : Ending) → slots k ≡ Shut t e → IsBook B slots
    → IsBook (ended_in B t.id) (upd slots k (finalised_by w (slots k)))
book-last B slots k w t e is ok =
    let y : SlotState = Finishing t.id w (finalisation t.id) in
    let N : Book = ended_in B t.id in
    let new : ℕ → Life = N.life in
    let mine : IsRunning B k t = subst (IsSlotBook B k) is (ok.slot k) in
    let back : (j q : ℕ) → query_in (upd slots k y j) ≡ Some q → query_in (slots j) ≡ Some q =
    λ j q. upd-cases slots k y j (λ z. query_in z ≡ Some q → query_in (slots j) ≡ Some q) (λ i h. ap (λ z. query_in (slots z)) i ∙ ap query_in is ∙ h)
    (λ n h. h) in
    subst (λ z. IsBook N (upd slots k (finalised_by w z))) (sym is) (record {
      slot = λ s. upd-cases slots k y s (IsSlotBook N s)
          (λ i. (
            t.total,
            ap (λ b. cond b (done (B.life t.id)) (B.life t.id)) (eq-eqb t.id t.id refl)
                ∙ ap done mine.lives,
            λ j above of. last-never t.id j (B.life j) (mine.later j above of),
          ))
          (λ far. book-past B s t.id (slots s) (λ n h. far (let r : Runs s n ≡ Runs k t.total = sym h ∙ mine.lives in cc)) (ok.slot s));
      runs = λ j s n. pick t.id j (done (B.life j)) (B.life j) (λ l. l ≡ Runs s n → (has_task (upd slots k y s) ≡ true) × ((task_of (upd slots k y s)).id ≡ j))
          (λ i h. absurd (let r : Done t.total ≡ Runs s n = sym (ap done (sym (ap B.life i) ∙ mine.lives)) ∙ h in cc))
          (λ i h. let r = ok.runs j s n h in upd-cases slots k y s (λ z. (has_task z ≡ true) × ((task_of z).id ≡ j))
          (λ at. absurd (i (sym (ap (λ z. (task_of z).id) is) ∙ ap (λ z. (task_of (slots z)).id) (sym at) ∙ r.1))) (λ far. r));
      never = λ j. pick t.id j (done (B.life j)) (B.life j) (λ l. l ≡ Never → B.claims j ≡ [])
          (λ i h. absurd (let r : Done t.total ≡ Never = sym (ap done (sym (ap B.life i) ∙ mine.lives)) ∙ h in cc)) (λ n h. ok.never j h);
      late = λ j high. last-never t.id j (B.life j) (ok.late j high);
      apart = λ s u q h g. ok.apart s u q (back s q h) (back u q g);
    })
