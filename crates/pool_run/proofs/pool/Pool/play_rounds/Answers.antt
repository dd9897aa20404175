use Rattle.std.proofs.Common.{refl, sym, ◌∙◌, subst}
use Rattle.std.proofs.lemmas.Bool.{false≢true}
use Rattle.run_laws.specs.Ends.{IsWork}
use Rattle.pool_run.specs.Scenes.{AreOver, HasGoing}
use Rattle.pool_run.proofs.Orders.{forth}
use Rattle.pool_run.proofs.Lowering.{round-lowers}
use Rattle.pool_run.specs.declared.stint.Stint.TheVariants.{WholeTurn}
use Rattle.pool_run.proofs.Stints.{whole-ends}
use Rattle.pool_run.proofs.Rounds.{not-all, rounds-none, rounds-end, rounds-more}
use Rattle.pool_run.proofs.pool.Pool.play_rounds.Goals as goal

pub rounds-init : goal.rounds-init
rounds-init g c = record { between = c.requires.between; plays = rounds-none }

pub returns-then-all_over-clause-follows : goal.returns-then-all_over-clause-follows
returns-then-all_over-clause-follows g c = c.rounds.invariant.between.follows

pub returns-then-all_over-clause-none : goal.returns-then-all_over-clause-none
returns-then-all_over-clause-none g c = c.rounds.invariant.between.none

pub returns-then-all_over-clause-over : goal.returns-then-all_over-clause-over
returns-then-all_over-clause-over g c = subst AreOver c.as_slice.ensures.value (c.all_over.ensures.over c.if-all_over.true)

pub returns-then-all_over-clause-plays : goal.returns-then-all_over-clause-plays
returns-then-all_over-clause-plays g c =
    rounds-end c.rounds.invariant.plays c.rounds.invariant.between.follows
    (subst AreOver c.as_slice.ensures.value (c.all_over.ensures.over c.if-all_over.true))

pub play_all-requires-clause-follows : goal.play_all-requires-clause-follows
play_all-requires-clause-follows g c = c.rounds.invariant.between.follows

pub play_all-requires-clause-none : goal.play_all-requires-clause-none
play_all-requires-clause-none g c = λ _. c.rounds.invariant.between.none

pub rounds-preserved : goal.rounds-preserved
rounds-preserved g c =
    let e = c.play_all.ensures in
    let at = c.rounds.invariant.between in
    let y = e.plays.leads at.run at.played in
    let going : HasGoing c.rounds.self.team.items =
    subst HasGoing c.as_slice.ensures.value (c.all_over.ensures.going (λ t. false≢true (sym c.if-all_over.false ∙ t))) in
    record {
      between = record { run = y.next; played = y.played; follows = e.follows; none = e.none (whole-ends WholeTurn refl); legal = e.legal };
      plays = rounds-more c.rounds.invariant.plays at.follows (not-all going) e.plays;
    }

pub rounds-smaller : goal.rounds-smaller
rounds-smaller g c =
    let e = c.play_all.ensures in
    let going : HasGoing c.rounds.self.team.items =
    subst HasGoing c.as_slice.ensures.value (c.all_over.ensures.going (λ t. false≢true (sym c.if-all_over.false ∙ t))) in
    round-lowers c.rounds.invariant.between e.follows e.legal
    (forth c.rounds.invariant.plays IsWork c.requires.work)
    going e.plays
