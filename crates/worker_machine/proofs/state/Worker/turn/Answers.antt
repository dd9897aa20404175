use Rattle.std.proofs.Common.{◌≡◌, true, refl, sym, ◌∙◌, subst, arith}
use Rattle.slot_station.specs.Desks.{Desk}
use Rattle.bench_cell.specs.declared.plan.Plan.{Plan}
use Rattle.worker_machine.proofs.Turning.{more-left, ended-phase, none-yet, goes-on, turn-ends}
use Rattle.worker_machine.specs.Following.{FollowsAt}
use Rattle.worker_machine.specs.Keeps.{standing}
use Rattle.worker_machine.specs.Left.{left, IsBelow, is_ready}
use Rattle.worker_machine.specs.Turning.{Turns}
use Rattle.worker_machine.proofs.state.Worker.turn.Goals as goal

pub loop-turn-init : goal.loop-turn-init
loop-turn-init g c = record {
  follows = subst (FollowsAt c.args.self.now.core (g.S.Station.seen c.args.station.now)) (sym c.replace-phase.ensures.value) c.requires.follows;
  stays = record { origin = refl; desk = refl };
  ticks = omega arith;
  goes = none-yet _;
}

pub loop-turn-preserved : goal.loop-turn-preserved
loop-turn-preserved g c =
    let inv = c.loop-turn.invariant in
    let old = g.S.Station.seen c.args.station.now in
    let went = c.go-phase.ensures in
    let near = subst (λ (D : Desk Plan). IsBelow D (left D c.loop-turn.phase) c.go-phase.result) inv.stays.desk went.nearer in
    let less = more-left old.desk _ c.go-phase.result c.in-More.ensures near in
    record {
      follows = record { desk = went.same ∙ inv.follows.desk ∙ sym went.stays.desk; fits = went.fits; hand = went.hand };
      stays = record { origin = went.stays.origin ∙ inv.stays.origin; desk = went.stays.desk ∙ inv.stays.desk };
      ticks = omega (arith, less, inv.ticks, went.ticks);
      goes = goes-on inv.goes went.moves inv.stays.desk went.stays.desk c.in-More.ensures;
    }

pub returns-in-End-clause-follows : goal.returns-in-End-clause-follows
returns-in-End-clause-follows g c =
    let went = c.go-phase.ensures in
    record { desk = went.same ∙ c.loop-turn.invariant.follows.desk ∙ sym went.stays.desk; fits = went.fits; hand = went.hand }

pub returns-in-End-clause-turns : goal.returns-in-End-clause-turns
returns-in-End-clause-turns g c =
    let inv = c.loop-turn.invariant in
    let was = c.replace-phase.ensures.value in
    let ready = subst (λ p. is_ready p ≡ true) (sym was) c.requires.ready in
    let to = standing c.go-phase.new.self c.go-phase.result (g.S.Station.seen c.go-phase.new.station) in
    subst (λ p. Turns g.M.Meter.may_take (standing c.args.self.now.core p (g.S.Station.seen c.args.station.now)) c.in-End.turn to) was
    (turn-ends inv.goes c.go-phase.ensures.moves inv.stays.desk c.go-phase.ensures.stays.desk (ended-phase _ _ c.in-End.ensures) ready)
