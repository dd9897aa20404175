use Rattle.std.proofs.Common.{◌≡◌, ℕ, ◌+◌, ◌*◌, ◌<◌, slice_get, sym, ap, ◌∙◌, subst}
use Rattle.slot_history.specs.declared.place.Place.{Place}
use Rattle.slot_history.specs.declared.place.Place.TheVariants.{Asking}
use Rattle.slot_history.specs.Calls.{MarkingNext}
use Rattle.slot_history.specs.States.{is_at}
use Rattle.slot_history.specs.Table.{nth_other}
use Rattle.plain_slots.proofs.Calls.{debt-read, debt-index, count-read, count-index}
use Rattle.plain_slots.proofs.Endings.{asks-at, next-worker, mark-after, count-fits}
use Rattle.plain_slots.proofs.Following.{read, spot, place-is, place-index, counted-at, counted-then, makes}
use Rattle.plain_slots.proofs.object.PlainObjectSlotObject.mark_next.Goals as goal

-- the number asked, as the place says it
asked-is : (w : ℕ) {p : Place} {s id n m t jd k l : ℕ} → p ≡ Asking s id n m → p ≡ Asking t jd k l → nth_other w n ≡ nth_other w k
asked-is w {s = s} {id = id} {n = n} {m = m} {t = t} {jd = jd} {k = k} {l = l} one other =
    let e : Asking s id n m ≡ Asking t jd k l = sym one ∙ other in
    let asked : n ≡ k = cc in ap (nth_other w) asked

pub index-requires-2 : goal.index-requires-2
index-requires-2 c =
    let s = spot c.self.inside c.self.invariant _ c.self.view_is c.args.worker MarkingNext tt c.requires _ c.index.ensures _ c.slot_at-s.ensures in
    let (id, n, m, at, more) = asks-at c.self.inside c.args.worker c.index.result.now c.slot_at-s.result s in
    place-index c.self.inside c.self.invariant c.nth_other-next.result (subst (λ v. v < c.self.inside.shape.workers)
    (sym (c.nth_other-next.ensures ∙ asked-is c.args.worker c.in-Asking.is at))
    (next-worker c.self.inside c.args.worker c.index.result.now c.slot_at-s.result n s more))

pub index_mut-owes-requires : goal.index_mut-owes-requires
index_mut-owes-requires c =
    let s = spot c.self.inside c.self.invariant _ c.self.view_is c.args.worker MarkingNext tt c.requires _ c.index.ensures _ c.slot_at-s.ensures in
    let (id, n, m, at, more) = asks-at c.self.inside c.args.worker c.index.result.now c.slot_at-s.result s in
    let low = next-worker c.self.inside c.args.worker c.index.result.now c.slot_at-s.result n s more in
    debt-index c.self.inside c.self.invariant c.slot_at-s.result (nth_other c.args.worker n) s.in_slots low c.cell_index.result
    (c.cell_index.ensures ∙ ap (λ u. c.slot_at-s.result * c.self.inside.shape.workers + u)
    (c.nth_other-next.ensures ∙ asked-is c.args.worker c.in-Asking.is at))

pub index_mut-requires : goal.index_mut-requires
index_mut-requires c =
    let s = spot c.self.inside c.self.invariant _ c.self.view_is c.args.worker MarkingNext tt c.requires _ c.index.ensures _ c.slot_at-s.ensures in
    count-index c.self.inside c.self.invariant c.slot_at-s.result s.in_slots

pub mark_if-mark-requires : goal.mark_if-mark-requires
mark_if-mark-requires c =
    let s = spot c.self.inside c.self.invariant _ c.self.view_is c.args.worker MarkingNext tt c.requires _ c.index.ensures _ c.slot_at-s.ensures in
    count-fits c.self.inside c.self.invariant c.slot_at-s.result c.index_mut.result.now
    (count-read c.self.inside c.self.invariant c.slot_at-s.result s.in_slots _ c.index_mut.ensures.value)

pub step-requires-clause-counted : goal.step-requires-clause-counted
step-requires-clause-counted c = counted-at c.self.inside c.self.invariant c.args.worker
    (spot c.self.inside c.self.invariant _ c.self.view_is c.args.worker MarkingNext tt c.requires _ c.index.ensures _ c.slot_at-s.ensures).low

pub invariant_of-self : goal.invariant_of-self
invariant_of-self c =
    let o = c.self.inside in
    let ok = c.self.invariant in
    let s = spot c.self.inside c.self.invariant _ c.self.view_is c.args.worker MarkingNext tt c.requires _ c.index.ensures _ c.slot_at-s.ensures in
    let (id, n, m, at, more) = asks-at o c.args.worker c.index.result.now c.slot_at-s.result s in
    let v = nth_other c.args.worker n in
    let is : c.nth_other-next.result ≡ v = c.nth_other-next.ensures ∙ asked-is c.args.worker c.in-Asking.is at in
    let low = next-worker o c.args.worker c.index.result.now c.slot_at-s.result n s more in
    let index : c.cell_index.result ≡ c.slot_at-s.result * o.shape.workers + v = c.cell_index.ensures ∙ ap
    (λ u. c.slot_at-s.result * o.shape.workers + u) is in
    let there = read o.places.items c.nth_other-next.result _ c.index-2.result.now
    (ap (λ u. slice_get o.places.items u) is ∙ place-is o ok v low) c.index-2.ensures in
    rw (c.mark_if-mark.ensures.owes, c.mark_if-mark.ensures.debts)
    (mark-after o ok c.args.worker c.index.result.now c.slot_at-s.result id n m s at more
    c.is_at-is_there.result (c.is_at-is_there.ensures ∙ ap (λ q. is_at q c.slot_at-s.result) there)
    c.cell_index.result index c.index_mut-owes.result.now
    (debt-read o ok c.slot_at-s.result v s.in_slots low c.cell_index.result index _ c.index_mut-owes.ensures.value)
    c.index_mut.result.now (count-read o ok c.slot_at-s.result s.in_slots _ c.index_mut.ensures.value)
    c.mark_if-mark.result c.mark_if-mark.ensures.mark c.act.result c.act.ensures _ _ (c.step.ensures.places, c.step.ensures.log))

pub returns-clause-made : goal.returns-clause-made
returns-clause-made c = makes _ _ _ _ c.args.worker _ c.act.result c.self.view_is c.act.ensures c.step.ensures.log (invariant_of-self c).legal

pub returns-clause-counted : goal.returns-clause-counted
returns-clause-counted c = counted-then c.self.inside c.self.invariant _ c.self.view_is c.args.worker MarkingNext c.requires
