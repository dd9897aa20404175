-- What a worker's own fields say of its desk.
use Rattle.std.proofs.Common.{◌≡◌, ℕ, ◌<◌, Some, get_or, slice_get, sym, ap, subst, arith}
use Rattle.std.proofs.lemmas.Option.{slice_get_read}
use Rattle.std.specs.Arc.{arc_value}
use Rattle.slot_station.specs.Desks.{Desk}
use Rattle.bench_cell.specs.declared.plan.Plan.{Plan}
use Rattle.worker_machine.specs.declared.kept.Core.{Core}
use Rattle.worker_machine.specs.declared.kept.Known.{Known}
use Rattle.worker_machine.specs.Desks.{HasDesk, desk_of}

module _ (core : Core) {D : Desk Plan} (has : HasDesk core D) where
  pub workers-of : core.workers ≡ D.shape.workers
  workers-of = ap (λ (x : Desk Plan). x.shape.workers) has

  pub slots-of : core.slots ≡ D.shape.slots
  slots-of = ap (λ (x : Desk Plan). x.shape.slots) has

  pub plan-of : arc_value core.plan ≡ D.subject
  plan-of = ap (λ (x : Desk Plan). x.subject) has

  pub is-one : D.worker < D.shape.workers
  is-one = subst (λ (x : Desk Plan). x.worker < x.shape.workers) has core.is_one

  pub some-workers : 0 < D.shape.workers
  some-workers = let one = is-one in omega (arith, one)

-- what is known of a slot of the desk
pub known-here : (core : Core) {D : Desk Plan} → HasDesk core D → (s : ℕ) (known : Known) → s < D.shape.slots → known ≡ get_or core.known.items s known
    → slice_get core.known.items s ≡ Some known
known-here core {D} has s known low read =
    let same = slots-of core has in
    slice_get_read core.known.items core.slots s known (sym core.each_known) (omega (arith, same, low)) read

-- the plan stays with the desk
pub plan-after : (old new : Core) → desk_of new ≡ desk_of old → arc_value new.plan ≡ arc_value old.plan
plan-after old new same = ap (λ (D : Desk Plan). D.subject) same
