-- What is in hand after the calls of a holder.
use Rattle.std.proofs.Common.{◌≡◌, ◌≢◌, ℕ, ◌+◌, ◌-◌, ◌*◌, ◌<◌, true, List, [], ◌∷◌, ◌++◌, Option, Some, None, IsSome, IfSome, ◌∙◌}
use Rattle.std.proofs.Common.{length, slice_get, slice_index_or, take, min, refl, sym, ap, subst, arith, length-append, length-take, unwrap_or}
use Rattle.std.proofs.lemmas.Option.{slice_get_read, slice_get_within, get_or_from_slice_get}
use Rattle.std.proofs.lemmas.List.{get_or-take}
use native.Mathlib.Decide.{ℕ_discrete}
use Rattle.worker_machine.proofs.Pushing.{more-each}
use Rattle.slot_history.specs.declared.shape.TheConstants.{STAGES}
use Rattle.slot_history.specs.declared.act.Act.TheVariants.{AdmitGot, NoteDone, SetTotal}
use Rattle.slot_history.specs.Histories.{IsLegal, IsOfTotals}
use Rattle.slot_history.specs.States.{held_at}
use Rattle.slot_station.specs.declared.note.Note.{Note}
use Rattle.slot_station.specs.declared.note.Note.TheVariants as note
use Rattle.slot_station.specs.declared.token.Holder.{Holder}
use Rattle.slot_station.specs.Cells.{NoteSays, FitsNext, fresh_note, HasNoted}
use Rattle.slot_station.specs.Desks.{Desk, Seen, KeepsTrail, Makes, Exchanges, NextFits, FinalisedFits, CellSays, caller_of}
use Rattle.bench_cell.specs.declared.plan.Plan.{Plan}
use Rattle.bench_cell.specs.declared.bench.Bench.{Bench}
use Rattle.bench_cell.specs.Plans.{total_of}
use Rattle.bench_cell.specs.Benches.{BenchFits}
use Rattle.worker_machine.specs.declared.phase.Phase.TheVariants.{Admit, Put, Size, Install, Give}
use Rattle.worker_machine.specs.Benches.{AreFresh}
use Rattle.worker_machine.specs.Loads.{load_of}
use Rattle.worker_machine.specs.Hands.{HoldsAs, IsTaskHeld, MayInstall, AreNoted, IsHistoryOf, IsNextMade, InHand, Puts, Fetches, next_by}
use Rattle.worker_machine.proofs.Calls.{carry, all-noted, carry-kept}
use Rattle.worker_machine.proofs.Holdings.{holds-kept, admitted, noted-done, total-set}
use Rattle.worker_machine.proofs.Tasks.{first-next}

-- the cells are noted as before, but for one
pub noted-on : (notes notes' : ℕ → Note) (from v : ℕ) (x y : Note) → AreNoted notes from v x → notes' v ≡ y → x ≡ y →
    ((u : ℕ) → u ≢ v → notes' u ≡ notes u) → AreNoted notes' from (v + 1) x
noted-on notes notes' from v x y before this same others u low lt = at (ℕ_discrete u v) where
  at : Dec (u ≡ v) → notes' u ≡ x
  at (yes e) = ap notes' e ∙ this ∙ sym same
  at (no n) = others u n ∙ before u low (omega (arith, lt, n))

pub noted-rest : (notes notes' : ℕ → Note) (v to : ℕ) (x : Note) → AreNoted notes v to x → ((u : ℕ) → u ≢ v → notes' u ≡ notes u) → AreNoted notes' (v + 1) to x
noted-rest notes notes' v to x before others u low lt = others u (λ e. omega (arith, e, low)) ∙ before u (omega (arith, low)) lt

noted-from : (notes : ℕ → Note) (to : ℕ) (x : Note) → AreNoted notes 0 0 x
noted-from notes to x u low lt = absurd (omega (arith, lt))

module _ {O : Type 0} {old new : Seen O Plan} {total : Plan → ℕ → Option ℕ} {h h' : Holder} (bs bs' : List Bench) where
  -- benches were made after the admission
  pub admitted-puts : {q : ℕ} → Makes total (AdmitGot q) old new → InHand old bs (Admit h) → h' ≡ record h { query = Some q } → 0 < (load_of old.desk.subject).stages q
      → 0 < old.desk.shape.workers → length bs' ≡ old.desk.shape.workers → AreFresh old.desk.subject (STAGES * q) old.desk.shape.workers bs'
      → InHand new bs' (Put h' 0)
  admitted-puts {q} m hand e some workers count fresh =
      let first = first-next old.desk.subject h h' q e hand.2 hand.3 some in
      record {
        noted = 0;
        holds = admitted hand.0 m e;
        may = carry m (λ (D : Desk Plan). MayInstall D.subject h' 0) first.1;
        low = carry m (λ (D : Desk Plan). 0 < D.shape.workers) workers;
        done = λ u low lt. absurd (omega (arith, lt));
        rest = λ u low lt. all-noted m (λ v. refl) hand.4 u lt;
        count = carry m (λ (D : Desk Plan). length bs' + 0 ≡ D.shape.workers) (omega (arith, count));
        fresh = carry m (λ (D : Desk Plan). AreFresh D.subject (next_by h') D.shape.workers bs')
            (subst (λ i. AreFresh old.desk.subject i old.desk.shape.workers bs') (sym first.0) fresh);
      }

  -- or were not
  pub admitted-gives : {q : ℕ} → Makes total (AdmitGot q) old new → InHand old bs (Admit h) → h' ≡ record h { query = Some q }
      → 0 < (load_of old.desk.subject).stages q
      → InHand new bs' (Give h')
  admitted-gives {q} m hand e some =
      let first = first-next old.desk.subject h h' q e hand.2 hand.3 some in
      (admitted hand.0 m e, carry m (λ (D : Desk Plan). IsTaskHeld D.subject h') first.2, all-noted m (λ v. refl) hand.4)

  -- the total of the next task set was set
  pub size-fills : {k : ℕ} → Makes total (SetTotal k) old new → InHand old bs (Size h) → h' ≡ h → total_of old.desk.subject (next_by h) ≡ Some k
      → InHand new bs' (Install h')
  size-fills {k} m hand e is =
      let may : MayInstall old.desk.subject h' hand.0 = subst (λ x. MayInstall old.desk.subject x hand.0) (sym e) hand.2 in
      let tot : Some k ≡ total_of new.desk.subject (next_by h') =
      carry m (λ (D : Desk Plan). Some k ≡ total_of D.subject (next_by h')) (sym is ∙ ap (λ (x : Holder). total_of old.desk.subject (next_by x)) (sym e)) in (
        hand.0,
        subst (HoldsAs new h' hand.0) tot (total-set hand.1 m e),
        carry m (λ (D : Desk Plan). MayInstall D.subject h' hand.0) may,
        all-noted m (λ v. refl) hand.3,
      )

  -- one stage was noted, and the benches of the next are in hand
  pub noted-puts : Makes total (NoteDone 1) old new → HoldsAs old h 0 None → IsTaskHeld old.desk.subject h → HasNoted note.Empty (caller_of old)
      → IsNextMade old bs h → h' ≡ h
      → 0 < old.desk.shape.workers → InHand new bs (Put h' 0)
  noted-puts m held task empty next e some =
      record {
        noted = 1;
        holds = noted-done held m e;
        may = carry m (λ (D : Desk Plan). MayInstall D.subject h' 1) (subst (λ x. MayInstall old.desk.subject x 1) (sym e)
            (record { query = task.query; low = task.low; next = next.task; stage = λ a. (refl, next.low) }));
        low = carry m (λ (D : Desk Plan). 0 < D.shape.workers) some;
        done = λ u low lt. absurd (omega (arith, lt));
        rest = λ u low lt. all-noted m (λ v. refl) empty u lt;
        count = carry m (λ (D : Desk Plan). length bs + 0 ≡ D.shape.workers) (omega (arith, next.count));
        fresh = carry m (λ (D : Desk Plan). AreFresh D.subject (next_by h') D.shape.workers bs)
            (subst (λ x. AreFresh old.desk.subject (next_by x) old.desk.shape.workers bs) (sym e) next.fresh);
      }

-- ---- cells that are put

some-inj : (b c : Bench) → Some b ≡ Some c → b ≡ c
some-inj b c e = ap (λ o. unwrap_or o b) e

-- the last of a list that is not empty
pub popped : (bs : List Bench) (n : ℕ) (r : Option Bench) → n ≡ length bs → ((d : Bench) → 0 < n → r ≡ Some (slice_index_or bs (n - 1) d)) → IsSome r → 0 < n
    → (b : Bench) × (r ≡ Some b) × (slice_get bs (n - 1) ≡ Some b)
popped bs n (Some b) len value some lt = (b, refl, slice_get_read bs n (n - 1) b len (omega (arith, lt)) (some-inj b _ (value b lt)))
popped bs n None len value some lt = absurd (cc)

kept-get : (bs : List Bench) (k i : ℕ) (b : Bench) → slice_get (take k bs) i ≡ Some b → (i < k) × (slice_get bs i ≡ Some b)
kept-get bs k i b got =
    let within : i < length (take k bs) = slice_get_within (take k bs) i b got in
    let len : length (take k bs) ≡ min k (length bs) = length-take k bs in
    let lt : i < k = omega (arith, within, len) in
    (lt, slice_get_read bs (length bs) i b refl (omega (arith, within, len)) (sym (get_or_from_slice_get (take k bs) i b b got) ∙ get_or-take k bs i b lt))

-- the bench that is put next fits
pub put-fits : {O : Type 0} (seen : Seen O Plan) (h : Holder) (v m : ℕ) (bs : List Bench) (r : Option Bench) → Puts seen bs h v
    → m ≡ length bs → ((d : Bench) → 0 < m → r ≡ Some (slice_index_or bs (m - 1) d)) → (0 < m → IsSome r) → IfSome r (NextFits BenchFits seen v)
put-fits seen h v m bs r puts len value some =
    let lt : 0 < m = omega (arith, puts.count, puts.low, len) in
    let p = popped bs m r len value (some lt) lt in
    subst (λ o. IfSome o (NextFits BenchFits seen v)) (sym p.1)
    (subst (λ k. FitsNext (BenchFits seen.desk.subject v) k p.0) (sym (ap held_at puts.holds.place))
    (puts.may.query, puts.fresh.fit (m - 1) v p.0 (omega (arith, puts.count, len, lt)) p.2))

-- what holds after the next cell got its bench, but for whether another follows
pub record IsPutOn {O : Type 0} (seen : Seen O Plan) (h : Holder) (v : ℕ) (bs : List Bench) : Type 0 where
  pub noted : ℕ
  pub holds : HoldsAs seen h noted None
  pub may : MayInstall seen.desk.subject h noted
  pub done : AreNoted seen.notes 0 (v + 1) note.Fresh
  pub rest : AreNoted seen.notes (v + 1) seen.desk.shape.workers note.Empty
  pub count : length bs + (v + 1) ≡ seen.desk.shape.workers
  pub fresh : AreFresh seen.desk.subject (next_by h) seen.desk.shape.workers bs

module _ {O : Type 0} {old new : Seen O Plan} {h h' : Holder} (v m : ℕ) (bs bs' : List Bench) (r : Option Bench) where
  pub put-on : Puts old bs h v → Exchanges v (fresh_note r) old new → h' ≡ h → m ≡ length bs →
      ((d : Bench) → 0 < m → r ≡ Some (slice_index_or bs (m - 1) d)) → (0 < m → IsSome r)
      → bs' ≡ take (m - 1) bs → IsPutOn new h' v bs'
  put-on puts x token len value some rest =
      let lt : 0 < m = omega (arith, puts.count, puts.low, len) in
      let p = popped bs m r len value (some lt) lt in
      let k = x.stays in
      let len' : length bs' ≡ min (m - 1) (length bs) = ap length rest ∙ length-take (m - 1) bs in
      record {
        noted = puts.noted;
        holds = holds-kept puts.holds k token;
        may = carry-kept k (λ (D : Desk Plan). MayInstall D.subject h' puts.noted) (subst (λ y. MayInstall old.desk.subject y puts.noted) (sym token) puts.may);
        done = noted-on old.notes new.notes 0 v note.Fresh (fresh_note r) puts.done x.note_is (ap fresh_note (sym p.1)) x.others;
        rest = carry-kept k (λ (D : Desk Plan). AreNoted new.notes (v + 1) D.shape.workers note.Empty)
            (noted-rest old.notes new.notes v old.desk.shape.workers note.Empty puts.rest x.others);
        count = carry-kept k (λ (D : Desk Plan). length bs' + (v + 1) ≡ D.shape.workers) (omega (arith, puts.count, len', len, lt));
        fresh = carry-kept k (λ (D : Desk Plan). AreFresh D.subject (next_by h') D.shape.workers bs') (record {
          few = omega (arith, puts.fresh.few, len', len);
          fit = λ i u b at got. let g = kept-get bs (m - 1) i b (subst (λ l. slice_get l i ≡ Some b) rest got) in
              subst (λ y. BenchFits old.desk.subject u (next_by y) [] b) (sym token) (puts.fresh.fit i u b at g.1);
        });
      }

-- another cell follows
pub puts-on : {O : Type 0} {seen : Seen O Plan} {h : Holder} {v : ℕ} {bs : List Bench} → IsPutOn seen h v bs → v + 1 < seen.desk.shape.workers
    → Puts seen bs h (v + 1)
puts-on p low = record { noted = p.noted; holds = p.holds; may = p.may; low = low; done = p.done; rest = p.rest; count = p.count; fresh = p.fresh }

-- ---- cells that are fetched

-- an exchange keeps the history
history-kept : {O : Type 0} {old new : Seen O Plan} → KeepsTrail old new → IsHistoryOf old → IsHistoryOf new
history-kept {O} {old} {new} k known =
    record {
      legal = subst (IsLegal new.desk.shape) (sym k.trail) (carry-kept k (λ (D : Desk Plan). IsLegal D.shape old.trail) known.legal);
      totals = subst (IsOfTotals (total_of new.desk.subject) new.desk.shape) (sym k.trail)
          (carry-kept k (λ (D : Desk Plan). IsOfTotals (total_of D.subject) D.shape old.trail) known.totals);
    }

-- what holds after one more cell was fetched, but for whether another follows
pub record IsFetchedOn {O : Type 0} (seen : Seen O Plan) (h : Holder) (v : ℕ) (bs : List Bench) : Type 0 where
  pub known : IsHistoryOf seen
  pub holds : HoldsAs seen h 0 None
  pub again : h.again ≡ true
  pub task : IsTaskHeld seen.desk.subject h
  pub done : AreNoted seen.notes 0 (v + 1) note.Empty
  pub rest : AreNoted seen.notes (v + 1) seen.desk.shape.workers note.Kept
  pub count : length bs ≡ v + 1
  pub fit : (u : ℕ) (c : Bench) → slice_get bs u ≡ Some c → FinalisedFits BenchFits seen u c

module _ {O : Type 0} {old new : Seen O Plan} {h h' : Holder} (v : ℕ) (bs bs' : List Bench) (b : Bench) where
  pub fetch-on : Fetches old bs h v → Exchanges v note.Empty old new → h' ≡ h → CellSays BenchFits old v (Some b) → bs' ≡ bs ++ b ∷ []
      → IsFetchedOn new h' v bs'
  fetch-on fetches x token says grown =
      let fits : FinalisedFits BenchFits old v b =
      subst (λ n. NoteSays (FinalisedFits BenchFits old v) (NextFits BenchFits old v) n (Some b)) (fetches.rest v (omega arith) fetches.low) says in
      let k = x.stays in
      let moved-fits : (u : ℕ) (c : Bench) → FinalisedFits BenchFits old u c → FinalisedFits BenchFits new u c =
      λ u c ok. subst (λ t. FinalisedFits BenchFits (record { origin = new.origin; desk = new.desk; trail = t; notes = new.notes }) u c) (sym k.trail)
      (subst (λ (D : Desk Plan). FinalisedFits BenchFits (record { origin = new.origin; desk = D; trail = old.trail; notes = new.notes }) u c)
      (sym k.desk) ok) in
      record {
        known = history-kept k fetches.known;
        holds = holds-kept fetches.holds k token;
        again = subst (λ (y : Holder). y.again ≡ true) (sym token) fetches.again;
        task = carry-kept k (λ (D : Desk Plan). IsTaskHeld D.subject h') (subst (IsTaskHeld old.desk.subject) (sym token) fetches.task);
        done = noted-on old.notes new.notes 0 v note.Empty note.Empty fetches.done x.note_is refl x.others;
        rest = carry-kept k (λ (D : Desk Plan). AreNoted new.notes (v + 1) D.shape.workers note.Kept)
            (noted-rest old.notes new.notes v old.desk.shape.workers note.Kept fetches.rest x.others);
        count = ap length grown ∙ length-append bs (b ∷ []) ∙ ap (λ n. n + 1) fetches.count;
        fit = λ u c got. moved-fits u c (more-each (FinalisedFits BenchFits old) bs b v fetches.count fetches.fit fits u c
            (subst (λ l. slice_get l u ≡ Some c) grown got));
      }

-- another cell follows
pub fetches-on : {O : Type 0} {seen : Seen O Plan} {h : Holder} {v : ℕ} {bs : List Bench} → IsFetchedOn seen h v bs → v + 1 < seen.desk.shape.workers
    → Fetches seen bs h (v + 1)
fetches-on p low = record {
  known = p.known;
  holds = p.holds;
  again = p.again;
  task = p.task;
  low = low;
  done = p.done;
  rest = p.rest;
  count = p.count;
  fit = p.fit;
}

-- benches that are made, one more
pub made-more : (plan : Plan) (workers id v k : ℕ) (bs : List Bench) (b : Bench) → length bs ≡ v
    → ((i u : ℕ) (c : Bench) → i + u + 1 ≡ workers → slice_get bs i ≡ Some c → BenchFits plan u id [] c)
    → v + k + 1 ≡ workers → BenchFits plan k id [] b → (i u : ℕ) (c : Bench) → i + u + 1 ≡ workers → slice_get (bs ++ b ∷ []) i ≡ Some c
    → BenchFits plan u id [] c
made-more plan workers id v k bs b len all last this i u c at got =
    more-each (λ j x. (w : ℕ) → j + w + 1 ≡ workers → BenchFits plan w id [] x) bs b v len (λ j x g w e. all j w x e g)
    (λ w e. let f : k ≡ w = omega (arith, e, last) in subst (λ n. BenchFits plan n id [] b) f this) i c got u at
