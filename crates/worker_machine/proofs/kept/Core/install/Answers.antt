use Rattle.std.proofs.Common.{refl, sym, ap, ◌∙◌}
use Rattle.slot_history.specs.States.{held_at, next_id}
use Rattle.worker_machine.proofs.Holdings.{next-held}
use Rattle.worker_machine.proofs.Moving.{quiet-by, keeps-on, place-made}
use Rattle.worker_machine.proofs.kept.Core.install.Goals as goal

pub returns-clause-moves : goal.returns-clause-moves
returns-clause-moves g c =
    let f = c.requires.follows in
    let old = g.S.Station.seen c.args.station.now in
    quiet-by c.install.ensures.made (λ ms. (refl, refl, refl)) (refl, refl, refl) refl
    (λ ms h. (c.next_of-id.ensures ∙ sym (next-held f.hand.1) ∙ ap (λ p. next_id (held_at p)) (place-made old ms h), keeps-on h.knows refl, refl))
