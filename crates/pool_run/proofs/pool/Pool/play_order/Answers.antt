use Rattle.std.proofs.Common.{◌≡◌, ◌<◌, length, get_or, take, inr, sym, subst, arith}
use Rattle.std.proofs.lemmas.Grind.{common_steps}
use Rattle.std.proofs.lemmas.List.Elements.{All-get_or}
use Rattle.slot_history.specs.declared.shape.Shape.{Shape}
use Rattle.pool_run.specs.Plays.{Leads, stints_by}
use Rattle.pool_run.specs.Scenes.{scene}
use Rattle.pool_run.proofs.Rounds.{stints-more, stints-none}
use Rattle.pool_run.proofs.Stints.{whole-ends}
use Rattle.pool_run.proofs.pool.Pool.play_order.Goals as goal

pub loop-who-init : goal.loop-who-init
loop-who-init g c = record { follows = c.requires.follows; none = c.requires.none; plays = stints-none c.args.stint }

pub play-requires : goal.play-requires
play-requires g c =
    let low : c.loop-who.who-index < length c.args.order.now = omega arith in record {
      who = subst (λ (d : Shape). get_or c.args.order.now c.loop-who.who-index 0 < d.workers) (sym c.loop-who.invariant.plays.shape)
          (All-get_or (λ w. w < c.args.self.now.table.shape.workers) c.args.order.now c.loop-who.who-index 0 low c.requires.order);
      follows = c.loop-who.invariant.follows;
      between = λ whole. c.loop-who.invariant.none whole (get_or c.args.order.now c.loop-who.who-index 0);
    }

pub loop-who-preserved : goal.loop-who-preserved
loop-who-preserved g c =
    let e = c.play.ensures in
    let low : c.loop-who.who-index < length c.args.order.now = omega arith in record {
      follows = e.follows;
      none = λ whole v. e.between (whole-ends c.args.stint whole) v (inr (c.loop-who.invariant.none whole v));
      plays = stints-more c.args.stint c.args.order.now c.loop-who.who-index low c.loop-who.invariant.plays e.plays;
    }

pub returns-clause-follows : goal.returns-clause-follows
returns-clause-follows g c = c.loop-who.invariant.follows

pub returns-clause-none : goal.returns-clause-none
returns-clause-none g c = c.loop-who.invariant.none

pub returns-clause-plays : goal.returns-clause-plays
returns-clause-plays g c =
    let all : take c.loop-who.who-index c.args.order.now ≡ c.args.order.now = grind (arith, common_steps) in
    let was = scene c.args.self.now.table c.args.self.now.team.items in
    let now = scene c.loop-who.self.table c.loop-who.self.team.items in
    subst (λ l. Leads g.M.Meter.may_take (stints_by c.args.stint l) was now) all c.loop-who.invariant.plays
