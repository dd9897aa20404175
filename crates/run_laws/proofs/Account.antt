-- The account of the task sets that are done is right after every run of moves that workers make.
use Rattle.std.proofs.Common.{◌≡◌, ◌⊎◌, inl, inr, ⊎_elim, ℕ, suc, ◌+◌, ◌*◌, ◌/◌, ◌%◌, ◌<◌, ◌≤◌, true, false, cond, List, [], ◌∷◌}
use Rattle.std.proofs.Common.{Option, Some, None, refl, sym, ap, ap₂, ◌∙◌, subst, arith}
use Rattle.std.specs.Prelude.{unwrap_or}
use Rattle.std.proofs.lemmas.Bool.{true≢false}
use native.Mathlib.Decide.{ℕ_discrete}
use mathlib.Core.Logic.{dite}
use Rattle.slot_history.specs.declared.shape.Shape.{Shape}
use Rattle.slot_history.specs.declared.shape.TheConstants.{STAGES}
use Rattle.slot_history.specs.declared.act.Act.{Act}
use Rattle.slot_history.specs.declared.act.Act.TheVariants.{ReserveGot, AdmitGot, NoteDone, SetTotal, Install, Release}
use Rattle.slot_history.specs.declared.act.Entry.{Entry}
use Rattle.slot_history.specs.declared.place.Held.{Held}
use Rattle.slot_history.specs.Sets.{sum_below}
use Rattle.slot_history.specs.States.{SlotState, Empty, Reserved, Shut, ObjectState, slot_of, reservation, is_empty}
use Rattle.slot_history.specs.Steps.{site, slot_after, claimed, shut_by, finalised_by, ended, held_on, held_after, opened, next, state_after}
use Rattle.slot_history.specs.Allowed.{IsAllowed}
use Rattle.slot_history.specs.Histories.{IsLegal}
use Rattle.slot_history.specs.Lives.{query_in, Book, book_of, IsBook, IsSlotBook, Never, Done}
use Rattle.slot_history.specs.Bounds.{IsReservation, IsFinalisation, IsSlotSound, AreSlotsSound, IsWithin}
use Rattle.slot_history.specs.Table.{IsTable}
use Rattle.slot_history.proofs.Duties.{IsHeldBy}
use Rattle.slot_history.proofs.Sets.{upd-same, upd-else, some-unwrapped}
use Rattle.slot_history.proofs.SlotSteps.{is_holders, after-others}
use Rattle.slot_history.proofs.Table.{table}
use Rattle.slot_history.proofs.Within.{within}
use Rattle.slot_history.proofs.Holdings.{holder-slot, slots-sound}
use Rattle.slot_history.proofs.Book.{book, install-fresh}
use Rattle.slot_history.proofs.BookSteps.{IsFresh, running-low}
use Rattle.turn_model.specs.Workloads.{Workload}
use Rattle.turn_model.specs.Points.{stages_held}
use Rattle.turn_model.specs.Runs.{desk_at}
use Rattle.turn_model.specs.Measure.{done_in, done_of, IsAccount}
use Rattle.run_laws.specs.Ends.{HaveStages, IsAccounted}
use Rattle.run_laws.proofs.Least.{sum-equal, sum-turns}
use Rattle.run_laws.proofs.Made.{AreMade, played-made}
use Rattle.run_laws.proofs.PointsStand.{IsOpening, IsDone}
use Rattle.run_laws.proofs.Serving.{AreApart, serving-low, served, unserved, done-cases, alike-others, IsSteady, alike-steady, done-alike}
use Rattle.run_laws.proofs.Fits.{Says, made-says, held-is, Fits, fits-done, fits-next}

-- ---- calls that change nothing of the query of their slot

steady-self : (x : SlotState) → IsSteady x x
steady-self x = record { query = refl; done = λ q is. refl }

pub steady-claimed : (x : SlotState) (n : ℕ) → IsSteady x (claimed x n)
steady-claimed Empty n = steady-self Empty
steady-claimed _ n = record { query = refl; done = λ q is. refl }

pub steady-shut : (w : ℕ) (x : SlotState) → IsSteady x (shut_by w x)
steady-shut w Empty = steady-self Empty
steady-shut w _ = record { query = refl; done = λ q is. refl }

pub steady-last : (w : ℕ) (x : SlotState) → IsSteady x (finalised_by w x)
steady-last w (Shut t end) = record { query = refl; done = λ q is. let r : t.id % STAGES + 0 ≡ t.id % STAGES = omega arith in r }
steady-last w _ = record { query = refl; done = λ q is. refl }

pub steady-ended : (d : Shape) (w : ℕ) (a : Act) (x : SlotState) → IsSteady x (ended d w a x)
steady-ended d w a Empty = steady-self Empty
steady-ended d w a _ = record { query = refl; done = λ q is. refl }

pub steady-total : (t : ℕ) (x : SlotState) → IsSteady x (held_on (SetTotal t) x)
steady-total t Empty = steady-self Empty
steady-total t _ = record { query = refl; done = λ q is. refl }

pub steady-reserved : (w : ℕ) (x : SlotState) → is_empty x ≡ true → IsSteady x (Reserved w reservation)
steady-reserved w Empty h = record { query = refl; done = λ q is. refl }
steady-reserved w _ h = absurd (true≢false (sym h))

module _ (d : Shape) (load : Workload) (S : ObjectState) (w : ℕ) (low : w < d.workers) (tab : IsTable d S)
    (sound : AreSlotsSound d S) (B : Book) (book_is : IsBook B S.slots) where
  pub steady-opened : (id : ℕ) → (ok : IsAllowed d S w (Install id)) → IsOpening load ok.1 → IsSteady (S.slots ok.0) (opened id (S.slots ok.0))
  steady-opened id ok says = let s : ℕ = ok.0 in let h : Held = ok.1 in
      let fresh : IsFresh B (S.slots s) id = install-fresh d S w id B low tab sound ok book_is in ⊎_elim
      (λ is. let k : IsReservation h = subst IsSlotSound is (sound s) in
      let none : h.noted ≡ 0 = ⊎_elim (λ r. r.1) (λ r. absurd (true≢false (sym r.0 ∙ k.again))) says in
      let first : id ≡ STAGES * unwrap_or h.query 0 + 0 = ok.4 ∙ ap (λ b. STAGES * unwrap_or h.query 0 + cond b (h.stage + 1) 0) k.again in
      record {
        query = ap (λ x. query_in (opened id x)) is ∙ sym fresh.query;
        done = λ q e. ap (λ x. done_in (opened id x)) is ∙ (let r : id % STAGES ≡ h.noted = omega (arith, first, none) in r) ∙ ap done_in (sym is);
      })
      (λ how. let jd : ℕ = how.0 in
      let k : IsFinalisation jd h = subst IsSlotSound how.1 (sound s) in
      let ready = ok.3.next_stage k.again in
      let one : h.noted ≡ 1 = ready.0 in
      let small : h.stage + 1 < STAGES = ready.1 in
      let at : h.stage ≡ jd % STAGES = k.stage in
      let next_one : id ≡ STAGES * (jd / STAGES) + (h.stage + 1) = ok.4 ∙ ap₂
      (λ q b. STAGES * q + b) (ap (λ o. unwrap_or o 0) k.query) (ap (λ b. cond b (h.stage + 1) 0) k.again) in
      record {
        query = ap (λ x. query_in (opened id x)) how.1 ∙ sym fresh.query;
        done = λ q e. ap (λ x. done_in (opened id x)) how.1
            ∙ (let r : id % STAGES ≡ jd % STAGES + h.noted = omega (arith, next_one, small, one, at) in r) ∙ ap done_in (sym how.1);
      })
      (holder-slot d S tab w s h low ok.2)

-- ---- the other calls

-- a slot that is held with a query serves it, and so many of its task sets are done
record Serves (x : SlotState) (q : ℕ) (h : Held) : Type 0 where
  query : query_in x ≡ Some q
  done : done_in x ≡ h.stage + h.noted

held-serves : (w q : ℕ) (h : Held) (x : SlotState) → IsSlotSound x → IsHeldBy w h x → h.query ≡ Some q → Serves x q h
held-serves w q h x sound (inl is) query =
    let k : IsReservation h = subst IsSlotSound is sound in
    let z : h.stage ≡ 0 = k.stage in
    record { query = ap query_in is ∙ query; done = ap done_in is ∙ (let r : h.noted ≡ h.stage + h.noted = omega (arith, z) in r) }
held-serves w q h x sound (inr (id, is)) query =
    let k : IsFinalisation id h = subst IsSlotSound is sound in
    record {
      query = ap query_in is ∙ sym k.query ∙ query;
      done = ap done_in is ∙ ap (λ n. n + h.noted) (sym k.stage);
    }

-- a note leaves the query, and adds to what is done
noted-serves : (w q n : ℕ) (h : Held) (x : SlotState) → IsSlotSound x → IsHeldBy w h x → h.query ≡ Some q → h.noted ≡ 0
    → (query_in (held_on (NoteDone n) x) ≡ Some q) × (done_in (held_on (NoteDone n) x) ≡ done_in x + n)
noted-serves w q n h x sound (inl is) query none = (
  ap (λ y. query_in (held_on (NoteDone n) y)) is ∙ query,
  ap (λ y. done_in (held_on (NoteDone n) y)) is ∙ (let r : n ≡ h.noted + n = omega (arith, none) in r) ∙ ap (λ y. done_in y + n) (sym is),
)
noted-serves w q n h x sound (inr (id, is)) query none =
    let k : IsFinalisation id h = subst IsSlotSound is sound in (
      ap (λ y. query_in (held_on (NoteDone n) y)) is ∙ sym k.query ∙ query,
      ap (λ y. done_in (held_on (NoteDone n) y)) is
          ∙ (let r : id % STAGES + n ≡ id % STAGES + h.noted + n = omega (arith, none) in r) ∙ ap (λ y. done_in y + n) (sym is),
    )

pub some-query : (h : Held) → (q : Option ℕ) → h.query ≡ q → (q ≡ None) ⊎ ((r : ℕ) × (h.query ≡ Some r))
some-query h None is = inl refl
some-query h (Some r) is = inr (r, is)

-- the query of a slot that is held was admitted
pub held-admitted : (d : Shape) (S : ObjectState) (w : ℕ) (B : Book) → B.admitted ≡ S.admitted → AreSlotsSound d S → IsBook B S.slots
    → (s q : ℕ) (h : Held) → IsHeldBy w h (S.slots s) → h.query ≡ Some q → q < S.admitted
held-admitted d S w B same sound book_is s q h (inl is) query =
    let r : q < B.admitted = (subst (IsSlotBook B s) is (book_is.slot s) q query).0 in omega (arith, r, same)
held-admitted d S w B same sound book_is s q h (inr (id, is)) query =
    let k : IsFinalisation id h = subst IsSlotSound is (sound s) in
    let lives = subst (IsSlotBook B s) is (book_is.slot s) in
    let r : id / STAGES < B.admitted = running-low B S.slots book_is id (λ n. absurd (done-lives lives.0 (sym lives.1 ∙ n))) in
    let e : id / STAGES ≡ q = ap (λ o. unwrap_or o 0) (sym k.query ∙ query) in omega (arith, r, e, same)
  where
    done-lives : (total : ℕ) → Done total ≡ Never → ⊥
    done-lives total e = cc

module _ (d : Shape) (load : Workload) (stages : HaveStages d load) (S : ObjectState) (w : ℕ) (low : w < d.workers) (tab : IsTable d S) (near : IsWithin d S)
    (sound : AreSlotsSound d S) (B : Book) (same : B.admitted ≡ S.admitted) (book_is : IsBook B S.slots) (fits : (s : ℕ) → Fits load (S.slots s))
    (old : IsAccount d load S) where
  -- after the call too no two slots serve one query
  abbrev Goes : Act → Type 0
  Goes a = let T = next d S w a in IsWithin d T × AreApart T.slots

  -- the slot of the call, if it serves a query then
  served-next : (a : Act) (q : ℕ) → Goes a → query_in (slot_after d w a (S.slots (site a (S.places w)))) ≡ Some q
      → done_of d load (next d S w a) q ≡ done_in (slot_after d w a (S.slots (site a (S.places w))))
  served-next a q goes is =
      let k : ℕ = site a (S.places w) in let T : ObjectState = next d S w a in
      let here : T.slots k ≡ slot_after d w a (S.slots k) = upd-same S.slots k (slot_after d w a (S.slots k)) in
      let there : query_in (T.slots k) ≡ Some q = ap query_in here ∙ is in
      served d load T k q (serving-low d T k q goes.0 there) goes.1 there ∙ ap done_in here

  -- the sum after a call that is steady at its slot
  sum-steady : (a : Act) → IsSteady (S.slots (site a (S.places w))) (slot_after d w a (S.slots (site a (S.places w))))
      → sum_below S.admitted (done_of d load (next d S w a)) ≡ sum_below S.admitted (done_of d load S)
  sum-steady a steady = let k : ℕ = site a (S.places w) in let y : SlotState = slot_after d w a (S.slots k) in
      sum-equal S.admitted (done_of d load S) (done_of d load (next d S w a))
      (λ q q_low. done-alike d load S k y (next d S w a) refl q (alike-steady q (S.slots k) y steady))

  sum-admitted : (q : ℕ) → (ok : IsAllowed d S w (AdmitGot q)) → Says load (AdmitGot q) (S.places w) → Goes (AdmitGot q)
      → S.finished ≡ sum_below (S.admitted + 1) (done_of d load (next d S w (AdmitGot q)))
  sum-admitted q ok say goes = let h : Held = ok.1 in
      let T : ObjectState = next d S w (AdmitGot q) in
      let k : ℕ = slot_of (S.places w) in
      let at : ok.0 ≡ k = sym (ap slot_of ok.2) in
      let y : SlotState = held_on (AdmitGot q) (S.slots k) in
      let fresh : h ≡ reservation = held-is (S.places w) ok.0 say.slot h say.held ok.2 say.at ∙ say.has in
      let is : S.slots k ≡ Reserved w h = ap S.slots (sym at) ∙ ⊎_elim (λ e. e)
      (λ how. absurd (let f : IsFinalisation how.0 h = subst IsSlotSound how.1 (sound ok.0) in
      let r : None ≡ Some (how.0 / STAGES) = sym ok.3 ∙ f.query in cc)) (holder-slot d S tab w ok.0 h low ok.2) in
      let y_is : y ≡ Reserved w (held_after (AdmitGot q) h) = ap (held_on (AdmitGot q)) is in
      let none : query_in (S.slots k) ≡ None = ap query_in is ∙ ok.3 in
      let some : query_in y ≡ Some q = ap query_in y_is in
      let past : S.admitted ≡ q = ok.5 in
      let others : sum_below S.admitted (done_of d load T) ≡ sum_below S.admitted (done_of d load S) =
      sum-equal S.admitted (done_of d load S) (done_of d load T)
      (λ r r_low. done-alike d load S k y T refl r (alike-others r q (S.slots k) y (inr none) (inl some) (λ e. omega (arith, r_low, e, past)))) in
      let here : done_of d load T q ≡ 0 = served-next (AdmitGot q) q goes some ∙ ap done_in y_is ∙ ap (λ (g : Held). g.noted) fresh in
      let last : done_of d load T S.admitted ≡ 0 = ap (done_of d load T) past ∙ here in
      let was : S.finished ≡ sum_below S.admitted (done_of d load S) = old.sum in
      let more : sum_below (S.admitted + 1) (done_of d load T) ≡ done_of d load T S.admitted + sum_below S.admitted (done_of d load T) =
      ap (λ n. sum_below n (done_of d load T)) (let r : S.admitted + 1 ≡ suc S.admitted = omega arith in r) in
      omega (arith, others, last, was, more)

  sum-noted : (n : ℕ) → IsAllowed d S w (NoteDone n) → Goes (NoteDone n)
      → S.finished + n ≡ sum_below S.admitted (done_of d load (next d S w (NoteDone n)))
  sum-noted n ok goes = let h : Held = ok.1 in
      let T : ObjectState = next d S w (NoteDone n) in
      let k : ℕ = slot_of (S.places w) in
      let x : SlotState = S.slots k in
      let y : SlotState = held_on (NoteDone n) x in
      let at : ok.0 ≡ k = sym (ap slot_of ok.2) in
      let how : IsHeldBy w h x = subst (λ j. IsHeldBy w h (S.slots j)) at (holder-slot d S tab w ok.0 h low ok.2) in
      let q : ℕ = unwrap_or h.query 0 in
      let query : h.query ≡ Some q = some-unwrapped h.query 0 ok.3 in
      let was : Serves x q h = held-serves w q h x (sound k) how query in
      let then = noted-serves w q n h x (sound k) how query ok.4 in
      let q_low : q < S.admitted = held-admitted d S w B same sound book_is k q h how query in
      let f : ℕ → ℕ = done_of d load S in let g : ℕ → ℕ = done_of d load T in
      let others : sum_below S.admitted g + f q ≡ sum_below S.admitted f + g q = sum-turns S.admitted q f g q_low
      (λ r differs. done-alike d load S k y T refl r (alike-others r q x y (inl was.query) (inl then.0) differs)) in
      let before : f q ≡ done_in x = served d load S k q (serving-low d S k q near was.query) (book_is.apart) was.query in
      let after : g q ≡ done_in y = served-next (NoteDone n) q goes then.0 in
      let more : done_in y ≡ done_in x + n = then.1 in
      let all : S.finished ≡ sum_below S.admitted f = old.sum in
      omega (arith, others, before, after, more, all)

  -- a slot is released: of its query all task sets are done
  sum-released : (ok : IsAllowed d S w Release) → Says load Release (S.places w) → S.finished ≡ sum_below S.admitted (done_of d load (next d S w Release))
  sum-released ok say = ⊎_elim
      (λ none. old.sum ∙ sym (sum-steady Release (record {
        query = sym (no-query none);
        done = λ q is. absurd (let r : None ≡ Some q = sym (no-query none) ∙ is in cc);
      })))
      (λ some. old.sum ∙ sym (sum-equal S.admitted (done_of d load S) (done_of d load T) (λ q q_low. dite (ℕ_discrete q some.0)
      (λ e. ap (done_of d load T) e ∙ all-done some.0 some.1 ∙ ap (done_of d load S) (sym e))
      (λ differs. done-alike d load S k Empty T refl q
      (alike-others q some.0 x Empty (inl (held-serves w some.0 h x (sound k) how some.1).query) (inr refl) differs)))))
      (some-query h h.query refl) where
        h : Held
        h = ok.1

        T : ObjectState
        T = next d S w Release

        k : ℕ
        k = slot_of (S.places w)

        x : SlotState
        x = S.slots k

        at : ok.0 ≡ k
        at = sym (ap slot_of ok.2)

        how : IsHeldBy w h x
        how = subst (λ j. IsHeldBy w h (S.slots j)) at (holder-slot d S tab w ok.0 h low ok.2)

        no-query : h.query ≡ None → query_in x ≡ None
        no-query none = ⊎_elim (λ is. ap query_in is ∙ none)
            (λ r. absurd (let f : IsFinalisation r.0 h = subst IsSlotSound r.1 (sound k) in let e : None ≡ Some (r.0 / STAGES) = sym none ∙ f.query in cc)) how

        says : IsDone load h
        says = subst (IsDone load) (held-is (S.places w) say.slot ok.0 say.held h say.at ok.2) say.has

        all-done : (q : ℕ) → h.query ≡ Some q → done_of d load T q ≡ done_of d load S q
        all-done q query =
            let was : Serves x q h = held-serves w q h x (sound k) how query in
            let here : T.slots k ≡ Empty = upd-same S.slots k Empty in
            let gone : done_of d load T q ≡ load.stages q = unserved d load T q (λ s s_low. dite (ℕ_discrete s k)
            (λ e is. absurd (let r : None ≡ Some q = sym (ap query_in (ap T.slots e ∙ here)) ∙ is in cc))
            (λ other is. other (book_is.apart s k q (ap query_in (sym (upd-else S.slots k Empty s other)) ∙ is) was.query))) in
            let before : done_of d load S q ≡ done_in x = served d load S k q (serving-low d S k q near was.query) (book_is.apart) was.query in
            let done : done_in x ≡ h.stage + h.noted = was.done in
            let most : done_in x ≤ load.stages q = fits-done load x q (fits k) was.query in
            let held : stages_held load h ≡ load.stages q = ap (λ o. load.stages (unwrap_or o 0)) query in
            let least : load.stages q ≤ h.stage + h.noted = ⊎_elim
            (λ none. absurd (let r : None ≡ Some q = sym none ∙ query in cc)) (λ full. omega (arith, full, held)) says in
            omega (arith, gone, before, done, most, least)

  steady-after : (a : Act) → is_holders a ≡ false → IsSteady (S.slots (site a (S.places w))) (slot_after d w a (S.slots (site a (S.places w))))
  steady-after a not_held = after-others d w IsSteady steady-self steady-claimed (steady-shut w) (steady-last w) (steady-ended d w) a not_held
      (S.slots (site a (S.places w)))

  sum-next : (a : Act) → IsAllowed d S w a → Says load a (S.places w) → Goes a
      → (next d S w a).finished ≡ sum_below (next d S w a).admitted (done_of d load (next d S w a))
  sum-next (ReserveGot s) ok say goes = old.sum ∙ sym (sum-steady (ReserveGot s) (steady-reserved w (S.slots s) ok.2))
  sum-next (AdmitGot q) ok say goes = sum-admitted q ok say goes
  sum-next (NoteDone n) ok say goes = sum-noted n ok goes
  sum-next (SetTotal t) ok say goes = old.sum ∙ sym (sum-steady (SetTotal t) (steady-total t (S.slots (slot_of (S.places w)))))
  sum-next (Install id) ok say goes = let at : ok.0 ≡ slot_of (S.places w) = sym (ap slot_of ok.2) in
      old.sum ∙ sym (sum-steady (Install id) (subst (λ j. IsSteady (S.slots j) (opened id (S.slots j))) at
      (steady-opened d load S w low tab sound B book_is id ok
      (subst (IsOpening load) (held-is (S.places w) say.slot ok.0 say.held ok.1 say.at ok.2) say.has))))
  sum-next Release ok say goes = sum-released ok say
  sum-next a ok say goes = old.sum ∙ sym (sum-steady a (steady-after a refl))

-- ---- after histories

-- what slots serve fits, and the account is right
pub record IsCounted (d : Shape) (load : Workload) (S : ObjectState) : Type 0 where
  pub fits : (s : ℕ) → Fits load (S.slots s)
  pub account : IsAccount d load S

pub within-fits : (d : Shape) (load : Workload) (S : ObjectState) → ((s : ℕ) → Fits load (S.slots s)) → (q : ℕ) → done_of d load S q ≤ load.stages q
within-fits d load S fits q = done-cases d load S q (λ n. n ≤ load.stages q) (λ s low is. fits-done load (S.slots s) q (fits s) is) (omega arith)

pub counted : (d : Shape) (load : Workload) → HaveStages d load → (h : List Entry) → IsLegal d h → AreMade d load h → IsCounted d load (state_after d h)
counted d load stages [] legal made = record {
  fits = λ s. tt;
  account = record { sum = refl; within = λ q low. within-fits d load (state_after d []) (λ s. tt) q };
}
counted d load stages (e ∷ es) legal made =
    let S : ObjectState = state_after d es in
    let before : IsCounted d load S = counted d load stages es legal.2 made.1 in
    let say : Says load e.act (S.places e.worker) = made-says (desk_at d load e.worker) e.act es made.0 in
    let book_is = book d es legal.2 in
    let after = book d (e ∷ es) legal in
    let fits : (s : ℕ) → Fits load ((next d S e.worker e.act).slots s) =
    fits-next d load stages S e.worker legal.0 (table d es legal.2) (slots-sound d es legal.2) (book_of d es) (within d es legal.2).admitted book_is e.act
    legal.1 say before.fits in
    record {
      fits = fits;
      account = record {
        sum = sum-next d load stages S e.worker legal.0 (table d es legal.2) (within d es legal.2) (slots-sound d es legal.2) (book_of d es) refl book_is
            before.fits before.account e.act legal.1 say (within d (e ∷ es) legal, after.apart);
        within = λ q low. within-fits d load (next d S e.worker e.act) fits q;
      };
    }

pub history-account : (d : Shape) (load : Workload) → HaveStages d load → (h : List Entry) → IsLegal d h → AreMade d load h → IsAccount d load (state_after d h)
history-account d load stages h legal made = (counted d load stages h legal made).account

pub is-accounted : IsAccounted
is-accounted d load run stages played = history-account d load stages run.history played.legal (played-made d load run played)
