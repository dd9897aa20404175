-- The sets of a shut slot lie within one another after a call.
use Rattle.std.proofs.Common.{◌≡◌, ◌≢◌, ℕ, ◌+◌, ◌<◌, ◌⊎◌, true, false, not, refl, sym, ap, ◌∙◌}
use Rattle.std.proofs.Common.{subst, ⊎_elim}
use mathlib.Core.Bool.{true≢false}
use Rattle.std.proofs.lemmas.Bool.{and_parts}
use Rattle.slot_history.specs.declared.shape.Shape.{Shape}
use Rattle.slot_history.specs.declared.act.Act.{Act}
use Rattle.slot_history.specs.declared.act.Act.TheVariants.{ClaimRange, ClaimUsed, ShutWon, PayLast}
use Rattle.slot_history.specs.declared.act.Act.TheVariants.{PayDone, MarkMarked, MarkMissed}
use Rattle.slot_history.specs.declared.act.Act.TheVariants.{SweepLast, SweepOthers, ReserveGot}
use Rattle.slot_history.specs.declared.act.Act.TheVariants.{AdmitGot, NoteDone, SetTotal, Install}
use Rattle.slot_history.specs.declared.act.Act.TheVariants.{Release}
use Rattle.slot_history.specs.declared.place.Place.{Place}
use Rattle.slot_history.specs.declared.place.Place.TheVariants.{Asking}
use Rattle.slot_history.specs.Sets.{upd}
use Rattle.slot_history.specs.States.{TaskSet, Ending, SlotState, Empty, Reserved, Open, Shut}
use Rattle.slot_history.specs.States.{Finishing, ObjectState, is_swept}
use Rattle.slot_history.specs.Steps.{site, slot_after, claimed, shut_by, next_asked, ending_after}
use Rattle.slot_history.specs.Steps.{ended, finalised_by, held_on, opened}
use Rattle.slot_history.specs.Allowed.{IsAllowed, debts}
use Rattle.slot_history.specs.Table.{Owes, owing, duty_of, Meets, IsChain, IsChainOf}
use Rattle.slot_history.proofs.Sets.{upd-same, upd-cases, some-counted}
use Rattle.slot_history.proofs.Others.{next-is, nth-other-differs, all-asked}
use Rattle.slot_history.proofs.Duties.{asking-leads, owing-owes, leads-slot, owes-slot}

-- ---- the sets of a shut slot

abbrev Chains : Shape → ObjectState → ℕ → Act → Place → Type 0
Chains d S w a p = let s = site a p in IsChainOf d (S.slots s) → Meets d s (duty_of (S.slots s) w) p → IsChainOf d (slot_after d w a (S.slots s))

chain-claimed : (d : Shape) (x : SlotState) (n : ℕ) → IsChainOf d x → IsChainOf d (claimed x n)
chain-claimed d Empty n c = c
chain-claimed d _ n c = c

chain-shut : (d : Shape) (x : SlotState) (w : ℕ) → w < d.workers → IsChainOf d x → IsChainOf d (shut_by w x)
chain-shut d (Open t) w low c = record {
  coordinator = low;
  paid = λ v h. absurd (cc);
  marked = λ v h. absurd (cc);
  asked = λ v h. absurd (cc);
  all_asked = λ h. absurd (cc);
  one_owes = λ h. absurd (cc);
}
chain-shut d _ w low c = c

chain-last : (d : Shape) (x : SlotState) (w : ℕ) → w < d.workers → IsChainOf d x → IsChainOf d (finalised_by w x)
chain-last d (Shut t e) w low c = low
chain-last d _ w low c = c

chain-held : (d : Shape) (x : SlotState) (a : Act) → IsChainOf d x → IsChainOf d (held_on a x)
chain-held d Empty a c = c
chain-held d _ a c = c

chain-opened : (d : Shape) (x : SlotState) (id : ℕ) → IsChainOf d x → IsChainOf d (opened id x)
chain-opened d (Reserved u h) id c = tt
chain-opened d (Finishing jd u h) id c = tt
chain-opened d _ id c = c

chain-paid : (d : Shape) (x : SlotState) (w id : ℕ) → IsChainOf d x → duty_of x w ≡ Owes id → (is_swept x ≡ false) ⊎ (0 < debts d (ended d w PayDone x))
    → IsChainOf d (ended d w PayDone x)
chain-paid d x w id chain owe left_over =
    let r = owes-slot x w id owe in let t : TaskSet = r.0 in let e : Ending = r.1 in
    let c : IsChain d e = subst (IsChainOf d) r.2 chain in
    let more : (e.swept ≡ false) ⊎ (0 < debts d (ended d w PayDone (Shut t e))) = subst
    (λ y. (is_swept y ≡ false) ⊎ (0 < debts d (ended d w PayDone y))) r.2 left_over in
    subst (λ y. IsChainOf d (ended d w PayDone y)) (sym r.2) (record {
      coordinator = c.coordinator;
      paid = λ v. upd-cases e.paid w true v (λ b. b ≡ true → e.marked v ≡ true) (λ j h. ap e.marked j ∙ (and_parts (e.marked w) (not (e.paid w)) r.6).0)
          (λ j h. c.paid v h);
      marked = c.marked;
      asked = c.asked;
      all_asked = c.all_asked;
      one_owes = λ h. ⊎_elim (λ n. absurd (true≢false (sym h ∙ n))) (some-counted d.workers (owing (ending_after d w PayDone e))) more;
    })

-- one more asked worker u, which is marked or not
chain-asked : (d : Shape) (x : SlotState) (w s id n m : ℕ) → IsChainOf d x → Meets d s (duty_of x w) (Asking s id n m) → n + 1 < d.workers
    → IsChainOf d (ended d w MarkMissed x) × IsChainOf d (ended d w MarkMarked x)
chain-asked d x w s id n m chain meets more =
    let r = asking-leads d s id n m (duty_of x w) meets in let e : Ending = r.0 in
    let is = leads-slot x w id e r.1 in let t : TaskSet = is.0 in
    let c : IsChain d e = subst (IsChainOf d) is.1 chain in
    let u : ℕ = next_asked d e in
    let other : u ≢ e.coordinator = λ j. nth-other-differs e.coordinator n (sym (next-is d e n m r.2 c.coordinator more) ∙ j) in
    let grows : (v : ℕ) → e.asked v ≡ true → upd e.asked u true v ≡ true = λ v h. upd-cases e.asked u true v (λ b. b ≡ true) (λ j. refl) (λ j. h) in
    let within : (v : ℕ) → upd e.asked u true v ≡ true → v ≢ e.coordinator = λ v. upd-cases e.asked u true v (λ b. b ≡ true → v ≢ e.coordinator)
    (λ j h k. other (sym j ∙ k)) (λ j h. c.asked v h) in (
      subst (λ y. IsChainOf d (ended d w MarkMissed y)) (sym is.1) (record {
        coordinator = c.coordinator;
        paid = c.paid;
        marked = λ v h. grows v (c.marked v h);
        asked = within;
        all_asked = λ h. absurd (true≢false (sym h ∙ is.4));
        one_owes = λ h. absurd (true≢false (sym h ∙ is.4));
      }),
      subst (λ y. IsChainOf d (ended d w MarkMarked y)) (sym is.1) (record {
        coordinator = c.coordinator;
        paid = λ v h. upd-cases e.marked u true v (λ b. b ≡ true) (λ j. refl) (λ j. c.paid v h);
        marked = λ v. upd-cases e.marked u true v (λ b. b ≡ true → upd e.asked u true v ≡ true) (λ j h. ap (upd e.asked u true) j ∙ upd-same e.asked u true)
            (λ j h. grows v (c.marked v h));
        asked = within;
        all_asked = λ h. absurd (true≢false (sym h ∙ is.4));
        one_owes = λ h. absurd (true≢false (sym h ∙ is.4));
      }),
    )

chain-swept : (d : Shape) (x : SlotState) (w s id n m k : ℕ) → IsChainOf d x → Meets d s (duty_of x w) (Asking s id n m) → n + 1 ≡ d.workers → 0 < k
    → k ≡ debts d x → IsChainOf d (ended d w (SweepOthers k) x)
chain-swept d x w s id n m k chain meets full some_left is_left =
    let r = asking-leads d s id n m (duty_of x w) meets in let e : Ending = r.0 in
    let is = leads-slot x w id e r.1 in let t : TaskSet = is.0 in
    let c : IsChain d e = subst (IsChainOf d) is.1 chain in
    let left_over : 0 < debts d (Shut t e) = subst (λ y. 0 < debts d y) is.1 (subst (λ j. 0 < j) is_left some_left) in
    subst (λ y. IsChainOf d (ended d w (SweepOthers k) y)) (sym is.1) (record {
      coordinator = c.coordinator;
      paid = c.paid;
      marked = c.marked;
      asked = c.asked;
      all_asked = λ h. all-asked d e n m r.2 c.coordinator full;
      one_owes = λ h. some-counted d.workers (owing e) left_over;
    })

pub chains : (d : Shape) (S : ObjectState) (w : ℕ) (a : Act) → w < d.workers → IsAllowed d S w a → Chains d S w a (S.places w)
chains d S w (ClaimRange n from to) low ok = λ c m. chain-claimed d _ n c
chains d S w (ClaimUsed n) low ok = λ c m. chain-claimed d _ n c
chains d S w ShutWon low ok = λ c m. chain-shut d _ w low c
chains d S w PayLast low ok = λ c m. chain-last d _ w low c
chains d S w PayDone low ok = subst (Chains d S w PayDone) (sym ok.2) (λ c m. chain-paid d (S.slots ok.0) w ok.1 c (owing-owes d ok.0 ok.1 _ m) ok.3)
chains d S w MarkMarked low ok = subst (Chains d S w MarkMarked) (sym ok.4) (λ c m. (chain-asked d (S.slots ok.0) w ok.0 ok.1 ok.2 ok.3 c m ok.5).1)
chains d S w MarkMissed low ok = subst (Chains d S w MarkMissed) (sym ok.4) (λ c m. (chain-asked d (S.slots ok.0) w ok.0 ok.1 ok.2 ok.3 c m ok.5).0)
chains d S w SweepLast low ok = λ c m. chain-last d _ w low c
chains d S w (SweepOthers n) low ok = subst (Chains d S w (SweepOthers n)) (sym ok.4)
    (λ c m. chain-swept d (S.slots ok.0) w ok.0 ok.1 ok.2 ok.3 n c m ok.5 ok.6 ok.7)
chains d S w (ReserveGot s) low ok = λ c m. low
chains d S w (AdmitGot q) low ok = λ c m. chain-held d _ (AdmitGot q) c
chains d S w (NoteDone k) low ok = λ c m. chain-held d _ (NoteDone k) c
chains d S w (SetTotal t) low ok = λ c m. chain-held d _ (SetTotal t) c
chains d S w (Install id) low ok = λ c m. chain-opened d _ id c
chains d S w Release low ok = λ c m. tt
chains d S w _ low ok = λ c m. c
