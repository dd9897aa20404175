-- A worker at a slot, from call to call.
use Rattle.std.proofs.Common.{◌≡◌, ◌≢◌, ℕ, ◌+◌, ◌*◌, ◌/◌, ◌%◌, ◌<◌, List, [], ◌∷◌, Option, Some, None, IsSome, ◌∙◌}
use Rattle.std.proofs.Common.{cond, length, slice_get, unwrap_or, refl, sym, ap, ap₂, subst, arith, eq-eqb}
use Rattle.slot_history.specs.declared.shape.TheConstants.{STAGES}
use Rattle.slot_history.specs.declared.act.Act.{Act}
use Rattle.slot_history.specs.declared.act.Act.TheVariants.{LookOpen, ClaimRange, ClaimUsed, ShutWon, ShutLost, LeaveLeft}
use Rattle.slot_history.specs.declared.place.Place.{Place}
use Rattle.slot_history.specs.declared.place.Place.TheVariants.{Free, Inside, Used, Behind, Leading, Asking, Holding}
use Rattle.slot_history.specs.States.{slot_of, id_at, can_leave, has_cell, finalisation}
use Rattle.slot_history.specs.Steps.{left}
use Rattle.slot_history.specs.Histories.{IsLegal, IsOfTotals, ranges_of, ranges_after}
use Rattle.slot_station.specs.declared.note.Note.TheVariants as note
use Rattle.slot_station.specs.declared.token.Holder.{Holder}
use Rattle.slot_station.specs.declared.token.Coordinator.{Coordinator}
use Rattle.slot_station.specs.declared.token.Spent.{Spent}
use Rattle.slot_station.specs.Desks.{Desk, Seen, Makes, own_place, own_ranges, Owns, OwnFits}
use Rattle.slot_station.specs.Tokens.{IsHolder, IsFirst, IsCoordinator, IsSpent}
use Rattle.bench_cell.specs.declared.plan.Plan.{Plan}
use Rattle.bench_cell.specs.declared.bench.Bench.{Bench}
use Rattle.bench_cell.specs.Plans.{total_of}
use Rattle.bench_cell.specs.Benches.{BenchFits}
use Rattle.worker_machine.specs.declared.phase.Phase.TheVariants.{Shut, Back, Fetch}
use Rattle.worker_machine.specs.Plans.{IsTask}
use Rattle.worker_machine.specs.Hands.{InHand, IsHistoryOf, finalised_by}
use Rattle.worker_machine.proofs.Calls.{place-by, ranges-on, carry}
use Rattle.worker_machine.proofs.Holdings.{IsTokenOf, token-of}

whole : (id : ℕ) → STAGES * (id / STAGES) + id % STAGES ≡ id
whole id = omega arith

pub left-free : (p : Place) → ((s id : ℕ) → p ≢ Leading s id) → left p ≡ Free
left-free (Leading s id) n = absurd (n s id refl)
left-free p n = refl

module _ {O : Type 0} {old new : Seen O Plan} {total : Plan → ℕ → Option ℕ} where
  -- whoever shut the task set leaves with its token
  pub first-leaves : {c : Coordinator} → Makes total LeaveLeft old new → Owns IsFirst old c → Owns IsCoordinator new c
  first-leaves {c} m f =
      record {
        worker = f.worker ∙ sym (ap (λ (D : Desk Plan). D.worker) m.desk);
        workers = f.workers ∙ sym (ap (λ (D : Desk Plan). D.shape.workers) m.desk);
        place = place-by m f.place ∙ ap₂ (λ a b. Asking c.slot c.id a b) (sym f.asked) (sym f.marked);
      }

  -- an own bench fits after a call, if it fits the ranges and the id then
  own-fits : {a : Act} {b : Bench} (m : Makes total a old new) (id : ℕ) (rs : List (ℕ × ℕ)) → id_at (own_place new) ≡ id
      → ranges_after a (own_place old) id (ranges_of old.desk.shape old.desk.worker id old.trail) ≡ rs
      → BenchFits old.desk.subject old.desk.worker id rs b → OwnFits BenchFits new b
  own-fits {a} {b} m id rs ids ranges fits =
      subst (λ i. BenchFits new.desk.subject new.desk.worker i (ranges_of new.desk.shape new.desk.worker i new.trail) b) (sym ids)
      (subst (λ l. BenchFits new.desk.subject new.desk.worker id l b) (sym (ranges-on m id ∙ ranges))
      (carry m (λ (D : Desk Plan). BenchFits D.subject D.worker id rs b) fits))

  -- the ranges of a bench stay over a call that gives none
  pub own-kept : {a : Act} {b : Bench} → Makes total a old new → ((p : Place) (id : ℕ) (rs : List (ℕ × ℕ)) → ranges_after a p id rs ≡ rs)
      → id_at (own_place new) ≡ id_at (own_place old) → OwnFits BenchFits old b → OwnFits BenchFits new b
  own-kept {a} {b} m none ids own = own-fits m (id_at (own_place old)) (own_ranges old) ids (none _ _ _) own

  -- a range was worked on
  pub claimed : {s id n from to : ℕ} {b b' : Bench} → Makes total (ClaimRange n from to) old new → own_place old ≡ Inside s id
      → ((plan : Plan) (w jd : ℕ) (rs : List (ℕ × ℕ)) → BenchFits plan w jd rs b → BenchFits plan w jd ((from, to) ∷ rs) b')
      → OwnFits BenchFits old b → (bs : List Bench) → InHand new bs (Back None b')
  claimed {s} {id} {n} {from} {to} {b} {b'} m at work own bs =
      let w = old.desk.worker in
      let rs = ranges_of old.desk.shape w id old.trail in
      let e : own_place new ≡ Inside s id = place-by m at in
      let r : ranges_after (ClaimRange n from to) (own_place old) id rs ≡ (from, to) ∷ rs =
      ap (λ p. ranges_after (ClaimRange n from to) p id rs) at ∙ ap (λ c. cond c ((from, to) ∷ rs) rs) (eq-eqb id id refl) in
      let fits : BenchFits old.desk.subject w id rs b =
      subst (λ p. BenchFits old.desk.subject w (id_at p) (ranges_of old.desk.shape w (id_at p) old.trail) b) at own in (
        ap can_leave e,
        ap has_cell e,
        λ k j f. let g : Inside s id ≡ Leading k j = sym e ∙ f in absurd (cc),
        own-fits m id ((from, to) ∷ rs) (ap id_at e) r (work old.desk.subject w id rs fits),
      )

  -- nothing was left to claim
  pub used-up : {s id n : ℕ} {b : Bench} {x : Spent} → Makes total (ClaimUsed n) old new → own_place old ≡ Inside s id → s < old.desk.shape.slots
      → IsTask old.desk.subject id
      → Owns IsSpent new x → OwnFits BenchFits old b → (bs : List Bench) → InHand new bs (Shut x b)
  used-up {s} {id} {n} {b} {x} m at low task spent own bs =
      let e : Used s id ≡ Used x.slot x.id = sym (place-by m at) ∙ spent.place in (
        spent,
        carry m (λ (D : Desk Plan). x.slot < D.shape.slots) (subst (λ k. k < old.desk.shape.slots) (ap slot_of e) low),
        carry m (λ (D : Desk Plan). IsTask D.subject x.id) (subst (IsTask old.desk.subject) (ap id_at e) task),
        own-kept m (λ p i rs. refl) (ap id_at (place-by m at) ∙ sym (ap id_at at)) own,
      )

  pub shut-lost : {b : Bench} {x : Spent} → Makes total ShutLost old new → Owns IsSpent old x → OwnFits BenchFits old b → (bs : List Bench)
      → InHand new bs (Back None b)
  shut-lost {b} {x} m spent own bs =
      let e : own_place new ≡ Behind x.slot x.id = place-by m spent.place in (
        ap can_leave e,
        ap has_cell e,
        λ k j f. let g : Behind x.slot x.id ≡ Leading k j = sym e ∙ f in absurd (cc),
        own-kept m (λ p i rs. refl) (ap id_at e ∙ sym (ap id_at spent.place)) own,
      )

  pub shut-won : {b : Bench} {x : Spent} {c : Coordinator} → Makes total ShutWon old new → Owns IsSpent old x → Owns IsFirst new c
      → IsTask old.desk.subject x.id
      → OwnFits BenchFits old b → (bs : List Bench) → InHand new bs (Back (Some c) b)
  shut-won {b} {x} {c} m spent first task own bs =
      let e : own_place new ≡ Leading x.slot x.id = place-by m spent.place in
      let f : Leading x.slot x.id ≡ Leading c.slot c.id = sym e ∙ first.place in (
        ap can_leave e,
        ap has_cell e,
        (first, carry m (λ (D : Desk Plan). IsTask D.subject c.id) (subst (IsTask old.desk.subject) (ap id_at f) task)),
        own-kept m (λ p i rs. refl) (ap id_at e ∙ sym (ap id_at spent.place)) own,
      )

module _ {O : Type 0} {old new : Seen O Plan} where
  -- after a call the trail is a legal history of the plan
  pub history-by : {a : Act} → Makes total_of a old new → IsHistoryOf new
  history-by m =
      record {
        legal = carry m (λ (D : Desk Plan). IsLegal D.shape new.trail) m.called.4;
        totals = carry m (λ (D : Desk Plan). IsOfTotals (total_of D.subject) D.shape new.trail) m.of_subject;
      }

  -- the worker is the one that finalises: every cell is kept
  pub finalises : (s id : ℕ) {a : Act} {h : Holder} {bs : List Bench} → Makes total_of a old new → own_place new ≡ Holding s (finalisation id)
      → Owns IsHolder new h
      → IsTask old.desk.subject id → ((v : ℕ) → v < old.desk.shape.workers → new.notes v ≡ note.Kept) → 0 < old.desk.shape.workers → bs ≡ []
      → InHand new bs (Fetch h 0)
  finalises s id {a} {h} {bs} m at ok task kept some empty =
      let k : IsTokenOf new h (finalisation id) = token-of ok at in
      let e : finalised_by h ≡ id = ap₂ (λ (q : Option ℕ) (n : ℕ). STAGES * unwrap_or q 0 + n) k.query k.stage ∙ whole id in
      record {
        known = history-by m;
        holds = k.holds;
        again = k.again;
        task = record {
          query = subst IsSome (sym k.query) refl;
          low = subst (λ n. n < STAGES) (sym k.stage) (omega arith);
          task = carry m (λ (D : Desk Plan). IsTask D.subject (finalised_by h)) (subst (IsTask old.desk.subject) (sym e) task);
        };
        low = carry m (λ (D : Desk Plan). 0 < D.shape.workers) some;
        done = λ v low lt. absurd (omega (arith, lt));
        rest = λ v low lt. kept v (subst (λ (D : Desk Plan). v < D.shape.workers) m.desk lt);
        count = ap length empty;
        fit = λ u b got. let g : slice_get [] u ≡ Some b = subst (λ l. slice_get l u ≡ Some b) empty got in absurd (cc);
      }

-- whoever sees the slot open has its own cell kept
pub own-looked : {O : Type 0} {old new : Seen O Plan} {total : Plan → ℕ → Option ℕ} {id : ℕ} → Makes total (LookOpen id) old new
    → old.desk.worker < old.desk.shape.workers
    → new.notes new.desk.worker ≡ note.Kept
own-looked {O} {old} {new} {total} {id} m low =
    ap (λ (D : Desk Plan). new.notes D.worker) m.desk ∙ m.notes old.desk.worker low
    ∙ ap (λ b. cond b note.Kept (old.notes old.desk.worker)) (eq-eqb old.desk.worker old.desk.worker refl)
