use Rattle.std.proofs.Common.{◌≡◌, true, sym, subst}
use Rattle.slot_history.specs.Calls.{Claiming}
use Rattle.slot_station.specs.Tokens.{ClaimGives}
use Rattle.plain_slots.specs.Slots.{has_work}
use Rattle.plain_slots.proofs.Calls.{inside-spot, claim-after, claim-gives}
use Rattle.plain_slots.proofs.Following.{now_of, spot, slot-read, makes, brought}
use Rattle.plain_slots.proofs.object.PlainObjectSlotObject.claim.Goals as goal

pub index_mut-slot-requires : goal.index_mut-slot-requires
index_mut-slot-requires c =
    (spot c.self.inside c.self.invariant _ c.self.view_is c.args.worker (Claiming c.args.n) tt c.requires _ c.index.ensures _ c.slot_at.ensures).index

pub claim_in-requires-clause-work : goal.claim_in-requires-clause-work
claim_in-requires-clause-work c =
    let s = spot c.self.inside c.self.invariant _ c.self.view_is c.args.worker (Claiming c.args.n) tt c.requires _ c.index.ensures _ c.slot_at.ensures in
    let shows = slot-read c.self.inside c.self.invariant c.slot_at.result s.in_slots c.index_mut-slot.result.now c.index_mut-slot.ensures.value in
    subst (λ y. has_work y ≡ true) (sym shows) (inside-spot c.self.inside c.self.invariant c.args.worker c.args.n c.index.result.now c.slot_at.result s)

pub invariant_of-self : goal.invariant_of-self
invariant_of-self c =
    let s = spot c.self.inside c.self.invariant _ c.self.view_is c.args.worker (Claiming c.args.n) tt c.requires _ c.index.ensures _ c.slot_at.ensures in
    let shows = slot-read c.self.inside c.self.invariant c.slot_at.result s.in_slots c.index_mut-slot.result.now c.index_mut-slot.ensures.value in
    claim-after c.self.inside c.self.invariant c.args.worker c.index.result.now c.slot_at.result c.args.n s c.claim_in.result c.claim_in.new.slot
    (c.claim_in.ensures _ (sym shows)) c.claimed_by-claim.result c.claimed_by-claim.ensures c.act.result c.act.ensures
    _ _ (c.step.ensures.places, c.step.ensures.log)

pub returns-clause-made : goal.returns-clause-made
returns-clause-made c = makes _ _ _ _ c.args.worker _ c.act.result c.self.view_is c.act.ensures c.step.ensures.log (invariant_of-self c).legal

pub claim_in-requires-clause-state : goal.claim_in-requires-clause-state
claim_in-requires-clause-state c =
    let s = spot c.self.inside c.self.invariant _ c.self.view_is c.args.worker (Claiming c.args.n) tt c.requires _ c.index.ensures _ c.slot_at.ensures in
    let shows = slot-read c.self.inside c.self.invariant c.slot_at.result s.in_slots c.index_mut-slot.result.now c.index_mut-slot.ensures.value in
    ((now_of c.self.inside).slots c.slot_at.result, sym shows)

pub returns-clause-spent : goal.returns-clause-spent
returns-clause-spent c =
    let s = spot c.self.inside c.self.invariant _ c.self.view_is c.args.worker (Claiming c.args.n) tt c.requires _ c.index.ensures _ c.slot_at.ensures in
    brought s c.act.ensures c.step.ensures.log (λ p. ClaimGives c.self.inside.shape c.args.worker p c.claimed_by-claim.result)
    (claim-gives c.self.inside.shape c.args.worker c.args.n c.index.result.now c.claim_in.result _ c.claimed_by-claim.ensures)
