use Rattle.std.proofs.Common.{◌<◌, length, sym, ◌∙◌, subst}
use Rattle.std.proofs.lemmas.Bool.{false≢true}
use Rattle.worker_machine.specs.declared.state.Worker.{Worker}
use Rattle.pool_run.specs.Stints.{IsPassedOver}
use Rattle.pool_run.proofs.Stints.{passed-ready, stint-leads, stint-passes}
use Rattle.pool_run.proofs.Teams.{read-at, read-same, stays-between, stays-still, team-follows}
use Rattle.pool_run.proofs.pool.Pool.play.Goals as goal

pub returns-then-passes_over-clause-between : goal.returns-then-passes_over-clause-between
returns-then-passes_over-clause-between g c = λ _.
    let x = c.index.result.now in
    stays-still c.args.self.now.team.items c.args.who x (read-at c.requires.follows c.requires.who x c.index.ensures)
    (passed-ready c.args.stint x.phase (c.passes_over.ensures.passed c.if-passes_over.true))

pub returns-then-passes_over-clause-plays : goal.returns-then-passes_over-clause-plays
returns-then-passes_over-clause-plays g c =
    let x = c.index.result.now in
    stint-passes c.args.stint c.args.who x (read-at c.requires.follows c.requires.who x c.index.ensures)
    (c.passes_over.ensures.passed c.if-passes_over.true)

pub play-requires : goal.play-requires
play-requires g c =
    let x = c.index_mut-worker.result.now in
    let at = read-at c.requires.follows c.requires.who x c.index_mut-worker.ensures.value in
    record {
      who = c.requires.who;
      follows = c.requires.follows.each c.args.who x at;
      plays = read-same c.requires.follows c.requires.who (λ (y : Worker). IsPassedOver c.args.stint y.phase → ⊥) c.index.result.now x
          c.index.ensures c.index_mut-worker.ensures.value (c.passes_over.ensures.plays (λ t. false≢true (sym c.if-passes_over.false ∙ t)));
      between = λ whole. c.requires.between whole x at;
    }

pub returns-clause-follows : goal.returns-clause-follows
returns-clause-follows g c =
    team-follows c.play.ensures.since c.args.self.now.team.items c.play.new.worker c.requires.who c.requires.follows c.play.ensures.follows

pub returns-clause-between : goal.returns-clause-between
returns-clause-between g c = λ ends.
    let low : c.args.who < length c.args.self.now.team.items = subst (λ n. c.args.who < n) (sym c.requires.follows.count) c.requires.who in
    stays-between c.args.self.now.team.items c.args.who c.play.new.worker low (c.play.ensures.between ends)

pub returns-clause-plays : goal.returns-clause-plays
returns-clause-plays g c =
    let x = c.index_mut-worker.result.now in
    stint-leads c.play.ensures.since c.args.self.now.team.items x c.play.new.worker c.requires.who c.requires.follows.count
    (read-at c.requires.follows c.requires.who x c.index_mut-worker.ensures.value) c.args.stint
    (read-same c.requires.follows c.requires.who (λ (y : Worker). IsPassedOver c.args.stint y.phase → ⊥) c.index.result.now x
    c.index.ensures c.index_mut-worker.ensures.value (c.passes_over.ensures.plays (λ t. false≢true (sym c.if-passes_over.false ∙ t))))
    c.play.ensures.acts
