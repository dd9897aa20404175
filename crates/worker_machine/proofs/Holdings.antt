-- A worker that holds a slot, from call to call.
use Rattle.std.proofs.Common.{◌≡◌, ℕ, Option, Some, sym, ap, ap₂, ◌∙◌, subst}
use Rattle.slot_history.specs.declared.act.Act.TheVariants.{AdmitGot, AdmitLost, NoteDone, SetTotal}
use Rattle.slot_history.specs.declared.place.Held.{Held}
use Rattle.slot_history.specs.declared.place.Place.TheVariants.{Holding}
use Rattle.slot_history.specs.States.{held_at, next_id}
use Rattle.slot_station.specs.declared.token.Holder.{Holder}
use Rattle.slot_station.specs.Desks.{Desk, Seen, Makes, KeepsTrail, own_place, own_holding, Owns}
use Rattle.slot_station.specs.Tokens.{IsHolder}
use Rattle.bench_cell.specs.declared.plan.Plan.{Plan}
use Rattle.worker_machine.specs.Hands.{HoldsAs, next_by}
use Rattle.worker_machine.proofs.Calls.{place-by, place-kept}

pub record IsTokenOf {O : Type 0} (seen : Seen O Plan) (h : Holder) (k : Held) : Type 0 where
  pub holds : HoldsAs seen h k.noted k.total
  pub query : h.query ≡ k.query
  pub stage : h.stage ≡ k.stage
  pub again : h.again ≡ k.again

-- the token of a holder whose place is known
pub token-of : {O : Type 0} {seen : Seen O Plan} {h : Holder} {s : ℕ} {k : Held} → Owns IsHolder seen h → own_place seen ≡ Holding s k → IsTokenOf seen h k
token-of {O} {seen} {h} {s} {k} ok at =
    let e : Holding s k ≡ Holding h.slot (record { query = h.query; stage = h.stage; again = h.again; noted = ok.noted; total = ok.total }) = sym at
    ∙ ok.place in
    let f : k ≡ record { query = h.query; stage = h.stage; again = h.again; noted = ok.noted; total = ok.total } = ap held_at e in
    record {
      holds = record {
        worker = ok.worker;
        place = ok.place ∙ ap₂ (λ n x. Holding h.slot (record { query = h.query; stage = h.stage; again = h.again; noted = n; total = x }))
            (sym (ap (λ (x : Held). x.noted) f)) (sym (ap (λ (x : Held). x.total) f));
      };
      query = sym (ap (λ (x : Held). x.query) f);
      stage = sym (ap (λ (x : Held). x.stage) f);
      again = sym (ap (λ (x : Held). x.again) f);
    }

-- the task set that is installed next
pub next-held : {O : Type 0} {seen : Seen O Plan} {h : Holder} {n : ℕ} {x : Option ℕ} → HoldsAs seen h n x → next_id (own_holding seen) ≡ next_by h
next-held held = ap (λ p. next_id (held_at p)) held.place

module _ {O : Type 0} {old new : Seen O Plan} {h h' : Holder} {n : ℕ} {x : Option ℕ} (held : HoldsAs old h n x) where
  pub holds-kept : KeepsTrail old new → h' ≡ h → HoldsAs new h' n x
  holds-kept k e = subst (λ y. HoldsAs new y n x) (sym e) (record {
    worker = held.worker ∙ sym
        (ap (λ (D : Desk Plan). D.worker) k.desk);
    place = place-kept k ∙ held.place;
  })

  module _ {total : Plan → ℕ → Option ℕ} where
    pub admitted : {q : ℕ} → Makes total (AdmitGot q) old new → h' ≡ record h { query = Some q } → HoldsAs new h' n x
    admitted {q} m e = subst (λ y. HoldsAs new y n x) (sym e)
        (record { worker = held.worker ∙ sym (ap (λ (D : Desk Plan). D.worker) m.desk); place = place-by m held.place })

    pub lost : {q now : ℕ} → Makes total (AdmitLost q now) old new → h' ≡ h → HoldsAs new h' n x
    lost m e = subst (λ y. HoldsAs new y n x) (sym e) (record {
      worker = held.worker ∙ sym
          (ap (λ (D : Desk Plan). D.worker) m.desk);
      place = place-by m held.place;
    })

    pub noted-done : {k : ℕ} → Makes total (NoteDone k) old new → h' ≡ h → HoldsAs new h' k x
    noted-done {k} m e = subst (λ y. HoldsAs new y k x) (sym e)
        (record { worker = held.worker ∙ sym (ap (λ (D : Desk Plan). D.worker) m.desk); place = place-by m held.place })

    pub total-set : {k : ℕ} → Makes total (SetTotal k) old new → h' ≡ h → HoldsAs new h' n (Some k)
    total-set {k} m e = subst (λ y. HoldsAs new y n (Some k)) (sym e)
        (record { worker = held.worker ∙ sym (ap (λ (D : Desk Plan). D.worker) m.desk); place = place-by m held.place })
