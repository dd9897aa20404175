use Rattle.std.proofs.Common.{sym, ◌∙◌, subst}
use Rattle.worker_machine.specs.Keeps.{Moves, standing}
use Rattle.worker_machine.proofs.state.Worker.step.Goals as goal

pub returns-clause-follows : goal.returns-clause-follows
returns-clause-follows g c =
    let f = c.requires.follows in
    record {
      desk = c.go-next.ensures.same ∙ f.desk ∙ sym c.go-next.ensures.stays.desk;
      fits = c.go-next.ensures.fits;
      hand = c.go-next.ensures.hand;
    }

pub returns-clause-moves : goal.returns-clause-moves
returns-clause-moves g c =
    let now = standing c.go-next.new.self c.go-next.result (g.S.Station.seen c.go-next.new.station) in
    subst (λ p. Moves g.M.Meter.may_take (standing c.args.self.now.core p (g.S.Station.seen c.args.station.now)) now)
    c.replace-phase.ensures.value c.go-next.ensures.moves
