-- The slot of each admitted query is released once, unless a slot still serves the query.
use Rattle.std.proofs.Common.{◌≡◌, ◌≢◌, ⊎_elim, ℕ, ◌+◌, ◌/◌, ◌<◌, ◌≤◌, false, ◌&&◌, cond, ltb, List, [], ◌∷◌}
use Rattle.std.proofs.Common.{Option, Some, None, refl, sym, ap, ◌∙◌, subst, arith, lt-ltb, le-ltb}
use mathlib.Core.Logic.{dite}
use native.Mathlib.Decide.{ℕ_discrete}
use Rattle.slot_history.specs.declared.shape.Shape.{Shape}
use Rattle.slot_history.specs.declared.shape.TheConstants.{STAGES}
use Rattle.slot_history.specs.declared.act.Act.{Act}
use Rattle.slot_history.specs.declared.act.Act.TheVariants.{ReserveGot, AdmitGot, NoteDone, SetTotal, Install, Release}
use Rattle.slot_history.specs.declared.act.Entry.{Entry}
use Rattle.slot_history.specs.declared.place.Held.{Held}
use Rattle.slot_history.specs.States.{SlotState, Empty, Reserved, ObjectState, slot_of, held_at}
use Rattle.slot_history.specs.Steps.{site, slot_after, held_on, opened, next, state_after}
use Rattle.slot_history.specs.Allowed.{IsAllowed}
use Rattle.slot_history.specs.Histories.{IsLegal}
use Rattle.slot_history.specs.Lives.{query_in, Book, book_of, IsBook}
use Rattle.slot_history.specs.Bounds.{IsFinalisation, IsSlotSound, AreSlotsSound, IsWithin}
use Rattle.slot_history.specs.Table.{IsTable}
use Rattle.slot_history.proofs.Duties.{IsHeldBy}
use Rattle.slot_history.proofs.Sets.{upd-same, upd-else}
use Rattle.slot_history.proofs.SlotSteps.{is_holders, after-others}
use Rattle.slot_history.proofs.Table.{table}
use Rattle.slot_history.proofs.Within.{within}
use Rattle.slot_history.proofs.Holdings.{holder-slot, slots-sound}
use Rattle.slot_history.proofs.Book.{book}
use Rattle.turn_model.specs.Workloads.{Workload}
use Rattle.turn_model.specs.Runs.{desk_at}
use Rattle.turn_model.specs.Measure.{is_query, slot_serving}
use Rattle.run_laws.specs.Completes.{is_release, releases_of}
use Rattle.run_laws.proofs.Made.{AreMade}
use Rattle.run_laws.proofs.PointsStand.{IsOpening}
use Rattle.run_laws.proofs.Serving.{AreApart, query-is, query-not, serving-low, serving-is, serving-none, serving-same}
use Rattle.run_laws.proofs.Fits.{Says, made-says, held-is}
use Rattle.run_laws.proofs.Account.{steady-claimed, steady-shut, steady-last, steady-ended, steady-total, steady-reserved, steady-opened}
use Rattle.run_laws.proofs.Account.{some-query, held-admitted}

-- 1 if a slot serves the query, else 0
abbrev pub serves : Shape → ObjectState → ℕ → ℕ
serves d S q = cond (ltb (slot_serving d S q) d.slots) 1 0

-- each admitted query was released once or is served, and no other query was released
pub record IsReleased (d : Shape) (S : ObjectState) (q n : ℕ) : Type 0 where
  pub some : q < S.admitted → n + serves d S q ≡ 1
  pub none : S.admitted ≤ q → n ≡ 0

serves-some : (d : Shape) (S : ObjectState) (s q : ℕ) → IsWithin d S → AreApart S.slots → query_in (S.slots s) ≡ Some q → serves d S q ≡ 1
serves-some d S s q near apart is =
    let low : s < d.slots = serving-low d S s q near is in
    ap (λ k. cond (ltb k d.slots) 1 0) (serving-is d S s q low apart is) ∙ ap (λ b. cond b 1 0) (lt-ltb s d.slots low)

pub serves-none : (d : Shape) (S : ObjectState) (q : ℕ) → ((s : ℕ) → query_in (S.slots s) ≢ Some q) → serves d S q ≡ 0
serves-none d S q none =
    ap (λ k. cond (ltb k d.slots) 1 0) (serving-none d S q (λ s low. none s)) ∙ ap (λ b. cond b 1 0) (le-ltb d.slots d.slots (omega arith))

noted-query : (n : ℕ) (x : SlotState) → query_in (held_on (NoteDone n) x) ≡ query_in x
noted-query n Empty = refl
noted-query n _ = refl

module _ (d : Shape) (load : Workload) (S : ObjectState) (w : ℕ) (low : w < d.workers) (tab : IsTable d S) (near : IsWithin d S)
    (sound : AreSlotsSound d S) (B : Book) (admits_are : B.admitted ≡ S.admitted) (book_is : IsBook B S.slots) where
  -- after the call too no two slots serve one query
  abbrev Goes : Act → Type 0
  Goes a = let T = next d S w a in IsWithin d T × AreApart T.slots

  stays : (a : Act) (q : ℕ) → let k = site a (S.places w) in is_query (query_in (slot_after d w a (S.slots k))) q ≡ is_query (query_in (S.slots k)) q
      → serves d (next d S w a) q ≡ serves d S q
  stays a q is = let k : ℕ = site a (S.places w) in
      ap (λ s. cond (ltb s d.slots) 1 0) (serving-same d S k (slot_after d w a (S.slots k)) (next d S w a) refl q is)

  -- a call that leaves the query of its slot
  same-query : (a : Act) (q n : ℕ) → (next d S w a).admitted ≡ S.admitted
      → (let k = site a (S.places w) in query_in (slot_after d w a (S.slots k)) ≡ query_in (S.slots k)) → IsReleased d S q n
      → IsReleased d (next d S w a) q (0 + n)
  same-query a q n admitted is old =
      let same : serves d (next d S w a) q ≡ serves d S q = stays a q (ap (λ o. is_query o q) is) in
      record {
        some = λ q_low. let r : n + serves d S q ≡ 1 = old.some (omega (arith, q_low, admitted)) in omega (arith, r, same);
        none = λ high. let r : n ≡ 0 = old.none (omega (arith, high, admitted)) in omega (arith, r);
      }

  admitted-query : (r q n : ℕ) → (ok : IsAllowed d S w (AdmitGot r)) → Goes (AdmitGot r) → IsReleased d S q n
      → IsReleased d (next d S w (AdmitGot r)) q (0 + n)
  admitted-query r q n ok goes old = dite (ℕ_discrete q r) here other where
    k : ℕ
    k = slot_of (S.places w)

    T : ObjectState
    T = next d S w (AdmitGot r)

    at : ok.0 ≡ k
    at = sym (ap slot_of ok.2)

    is : S.slots k ≡ Reserved w ok.1
    is = ap S.slots (sym at) ∙ ⊎_elim (λ e. e)
        (λ how. absurd (let f : IsFinalisation how.0 ok.1 = subst IsSlotSound how.1 (sound ok.0) in
        let e : None ≡ Some (how.0 / STAGES) = sym ok.3 ∙ f.query in cc)) (holder-slot d S tab w ok.0 ok.1 low ok.2)

    some_is : query_in (T.slots k) ≡ Some r
    some_is = ap query_in (upd-same S.slots k (held_on (AdmitGot r) (S.slots k)) ∙ ap (held_on (AdmitGot r)) is)

    past : S.admitted ≡ r
    past = ok.5

    here : q ≡ r → IsReleased d T q (0 + n)
    here e =
        let z : n ≡ 0 = old.none (omega (arith, e, past)) in
        let one : serves d T q ≡ 1 = ap (serves d T) e ∙ serves-some d T k r goes.0 goes.1 some_is in
        record { some = λ q_low. omega (arith, z, one); none = λ high. omega (arith, z) }

    other : q ≢ r → IsReleased d T q (0 + n)
    other differs =
        let same : serves d T q ≡ serves d S q = stays (AdmitGot r) q
        (ap (λ y. is_query (query_in (held_on (AdmitGot r) y)) q) is ∙ query-not (Some r) q (λ e. differs (sym (some-is e)))
        ∙ sym (ap (λ y. is_query (query_in y) q) is ∙ ap (λ o. is_query o q) ok.3)) in
        record {
          some = λ q_low. let lower : q < S.admitted + 1 = q_low in
              let before : n + serves d S q ≡ 1 = old.some (omega (arith, lower, differs, past)) in omega (arith, before, same);
          none = λ high. let over : S.admitted + 1 ≤ q = high in let z : n ≡ 0 = old.none (omega (arith, over)) in omega (arith, z);
        }
      where
        some-is : Some r ≡ Some q → r ≡ q
        some-is e = cc

  released-query : (q n : ℕ) → (ok : IsAllowed d S w Release) → IsReleased d S q n
      → IsReleased d (next d S w Release) q (cond (is_query (held_at (S.places w)).query q) 1 0 + n)
  released-query q n ok old = ⊎_elim none some (some-query h h.query refl) where
    h : Held
    h = ok.1

    k : ℕ
    k = slot_of (S.places w)

    T : ObjectState
    T = next d S w Release

    at : ok.0 ≡ k
    at = sym (ap slot_of ok.2)

    how : IsHeldBy w h (S.slots k)
    how = subst (λ j. IsHeldBy w h (S.slots j)) at (holder-slot d S tab w ok.0 h low ok.2)

    held : held_at (S.places w) ≡ h
    held = ap held_at ok.2

    query : query_in (S.slots k) ≡ h.query
    query = ⊎_elim (λ is. ap query_in is)
        (λ r. let f : IsFinalisation r.0 h = subst IsSlotSound r.1 (sound k) in ap query_in r.1 ∙ sym f.query) how

    count : (o : Option ℕ) → h.query ≡ o → cond {A = ℕ} (is_query (held_at (S.places w)).query q) 1 0 ≡ cond (is_query o q) 1 0
    count o is = ap (λ (g : Held). cond (is_query g.query q) 1 0) held ∙ ap (λ p. cond (is_query p q) 1 0) is

    none : h.query ≡ None → IsReleased d T q (cond (is_query (held_at (S.places w)).query q) 1 0 + n)
    none is = subst (λ c. IsReleased d T q (c + n)) (sym (count None is)) (same-query Release q n refl (sym (query ∙ is)) old)

    some : ((r : ℕ) × (h.query ≡ Some r)) → IsReleased d T q (cond (is_query (held_at (S.places w)).query q) 1 0 + n)
    some (r, is) = dite (ℕ_discrete q r) here other where
      serving : query_in (S.slots k) ≡ Some r
      serving = query ∙ is

      here : q ≡ r → IsReleased d T q (cond (is_query (held_at (S.places w)).query q) 1 0 + n)
      here e =
          let one : cond {A = ℕ} (is_query (held_at (S.places w)).query q) 1 0 ≡ 1 =
          count (Some r) is ∙ ap (λ b. cond b 1 0) (query-is (Some r) q (ap Some (sym e))) in
          let before : serves d S q ≡ 1 = ap (serves d S) e ∙ serves-some d S k r near (book_is.apart) serving in
          let after : serves d T q ≡ 0 = serves-none d T q (λ s now. dite (ℕ_discrete s k)
          (λ same. let f : None ≡ Some q = sym (ap query_in (ap T.slots same ∙ upd-same S.slots k Empty)) ∙ now in absurd (cc))
          (λ differs. differs (book_is.apart s k q (ap query_in (sym (upd-else S.slots k Empty s differs)) ∙ now) (serving ∙ ap Some (sym e))))) in
          record {
            some = λ q_low. let r : n + serves d S q ≡ 1 = old.some q_low in omega (arith, r, one, before, after);
            none = λ high. absurd (let low_query : r < S.admitted = held-admitted d S w B admits_are sound book_is k r h how is in
                omega (arith, low_query, high, e));
          }

      other : q ≢ r → IsReleased d T q (cond (is_query (held_at (S.places w)).query q) 1 0 + n)
      other differs =
          let zero_more : cond {A = ℕ} (is_query (held_at (S.places w)).query q) 1 0 ≡ 0 =
          count (Some r) is ∙ ap (λ b. cond b 1 0) (query-not (Some r) q (λ e. differs (sym (some-is e)))) in
          let same : serves d T q ≡ serves d S q = stays Release q
          (sym (ap (λ o. is_query o q) serving ∙ query-not (Some r) q (λ e. differs (sym (some-is e))))) in
          record {
            some = λ q_low. let r : n + serves d S q ≡ 1 = old.some q_low in omega (arith, r, zero_more, same);
            none = λ high. let r : n ≡ 0 = old.none high in omega (arith, r, zero_more);
          }
        where
          some-is : Some r ≡ Some q → r ≡ q
          some-is e = cc

  query-stays : (a : Act) → is_holders a ≡ false → let k = site a (S.places w) in query_in (slot_after d w a (S.slots k)) ≡ query_in (S.slots k)
  query-stays a not_held = after-others d w (λ x y. query_in y ≡ query_in x) (λ x. refl) (λ x n. (steady-claimed x n).query) (λ x. (steady-shut w x).query)
      (λ x. (steady-last w x).query) (λ b x. (steady-ended d w b x).query) a not_held (S.slots (site a (S.places w)))

  released-next : (a : Act) (q n : ℕ) → IsAllowed d S w a → Says load a (S.places w) → Goes a → IsReleased d S q n
      → IsReleased d (next d S w a) q (cond (is_release a && is_query (held_at (S.places w)).query q) 1 0 + n)
  released-next (ReserveGot s) q n ok say goes old = same-query (ReserveGot s) q n refl (steady-reserved w (S.slots s) ok.2).query old
  released-next (AdmitGot r) q n ok say goes old = admitted-query r q n ok goes old
  released-next (NoteDone k) q n ok say goes old = same-query (NoteDone k) q n refl (noted-query k (S.slots (slot_of (S.places w)))) old
  released-next (SetTotal t) q n ok say goes old = same-query (SetTotal t) q n refl (steady-total t (S.slots (slot_of (S.places w)))).query old
  released-next (Install id) q n ok say goes old = let at : ok.0 ≡ slot_of (S.places w) = sym (ap slot_of ok.2) in
      same-query (Install id) q n refl (subst (λ j. query_in (opened id (S.slots j)) ≡ query_in (S.slots j)) at
      (steady-opened d load S w low tab sound B book_is id ok
      (subst (IsOpening load) (held-is (S.places w) say.slot ok.0 say.held ok.1 say.at ok.2) say.has)).query) old
  released-next Release q n ok say goes old = released-query q n ok old
  released-next a q n ok say goes old = same-query a q n refl (query-stays a refl) old

pub released : (d : Shape) (load : Workload) (h : List Entry) (q : ℕ) → IsLegal d h → AreMade d load h → IsReleased d (state_after d h) q (releases_of d q h)
released d load [] q legal made = record { some = λ low. absurd (omega (arith, low)); none = λ high. refl }
released d load (e ∷ es) q legal made =
    let before = book d es legal.2 in
    let after = book d (e ∷ es) legal in
    released-next d load (state_after d es) e.worker legal.0 (table d es legal.2) (within d es legal.2) (slots-sound d es legal.2) (book_of d es) refl before
    e.act q (releases_of d q es) legal.1 (made-says (desk_at d load e.worker) e.act es made.0) (within d (e ∷ es) legal, after.apart)
    (released d load es q legal.2 made.1)
