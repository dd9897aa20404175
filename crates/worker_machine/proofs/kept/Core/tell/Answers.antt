use Rattle.std.proofs.Common.{◌≡◌, ◌≢◌, ◌+◌, true, false, refl, sym, ap, ◌∙◌}
use Rattle.slot_station.specs.declared.token.Announcer.{Announcer}
use Rattle.worker_machine.proofs.Giving.{told-last, told-more}
use Rattle.worker_machine.proofs.Moving.{quiet-by, keeps-on, place-made}
use Rattle.worker_machine.proofs.kept.Core.tell.Goals as goal

pub returns-then-all_told-clause-moves : goal.returns-then-all_told-clause-moves
returns-then-all_told-clause-moves g c =
    let f = c.requires.follows in
    let old = g.S.Station.seen c.args.station.now in
    let all : c.args.announcer.told + 1 ≡ old.desk.shape.workers = sym (ap (λ (x : Announcer). x.told) c.announce.ensures.told)
    ∙ c.all_told.ensures.0 c.if-all_told.true ∙ ap (λ (x : Announcer). x.workers) c.announce.ensures.told ∙ f.hand.0.workers in
    rw c.told_all.ensures (quiet-by c.announce.ensures.made (λ ms. (refl, refl, refl)) (refl, refl, refl) refl
    (λ ms h. (tt, keeps-on h.knows refl, told-last old.desk.shape _ _ _ _ (sym f.hand.0.place ∙ place-made old ms h) all)))

pub returns-else-all_told-clause-moves : goal.returns-else-all_told-clause-moves
returns-else-all_told-clause-moves g c =
    let f = c.requires.follows in
    let old = g.S.Station.seen c.args.station.now in
    let some : c.args.announcer.told + 1 ≢ old.desk.shape.workers = λ e.
    let yes : c.all_told.result ≡ true = c.all_told.ensures.1 (ap (λ (x : Announcer). x.told) c.announce.ensures.told ∙ e
    ∙ sym (ap (λ (x : Announcer). x.workers) c.announce.ensures.told ∙ f.hand.0.workers)) in
    let no : c.all_told.result ≡ false = c.if-all_told.false in absurd (cc) in
    quiet-by c.announce.ensures.made (λ ms. (refl, refl, refl)) (refl, refl, refl) refl
    (λ ms h. (tt, keeps-on h.knows refl, told-more old.desk.shape _ _ _ _ (sym f.hand.0.place ∙ place-made old ms h) some))
