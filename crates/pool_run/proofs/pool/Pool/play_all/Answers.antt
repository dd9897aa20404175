use Rattle.std.proofs.Common.{◌≡◌, ◌<◌, length, inr, ap, subst, arith}
use Rattle.std.specs.List.{range_with_len}
use Rattle.std.proofs.lemmas.Option.{slice_get_within}
use Rattle.slot_history.specs.declared.shape.Shape.{Shape}
use Rattle.pool_run.specs.Plays.{Leads, stints_by}
use Rattle.pool_run.specs.Scenes.{scene}
use Rattle.pool_run.proofs.Rounds.{all-more, stints-none}
use Rattle.pool_run.proofs.Stints.{whole-ends}
use Rattle.pool_run.proofs.Teams.{none-more}
use Rattle.pool_run.proofs.pool.Pool.play_all.Goals as goal

pub loop-who-init : goal.loop-who-init
loop-who-init g c = record {
  follows = c.requires.follows;
  still = c.requires.none;
  none = λ ends w low. absurd (omega arith);
  plays = stints-none c.args.stint;
}

pub play-requires : goal.play-requires
play-requires g c =
    let same : c.loop-who.self.table.shape.workers ≡ c.args.self.now.table.shape.workers =
    ap (λ (d : Shape). d.workers) c.loop-who.invariant.plays.shape in
    let was : c.shape-workers.result.workers ≡ c.args.self.now.table.shape.workers = ap (λ (d : Shape). d.workers) c.shape-workers.ensures in record {
      who = omega arith;
      follows = c.loop-who.invariant.follows;
      between = λ whole. c.loop-who.invariant.still whole c.loop-who.who;
    }

pub loop-who-preserved : goal.loop-who-preserved
loop-who-preserved g c =
    let e = c.play.ensures in record {
      follows = e.follows;
      still = λ whole v. e.between (whole-ends c.args.stint whole) v (inr (c.loop-who.invariant.still whole v));
      none = λ ends. none-more _ _ c.loop-who.who (e.between ends) (c.loop-who.invariant.none ends);
      plays = all-more c.args.stint c.loop-who.who c.loop-who.invariant.plays e.plays;
    }

pub returns-clause-follows : goal.returns-clause-follows
returns-clause-follows g c = c.loop-who.invariant.follows

pub returns-clause-none : goal.returns-clause-none
returns-clause-none g c =
    let team = c.loop-who.self.team.items in
    λ ends w x here.
    let within : w < length team = slice_get_within team w x here in
    let count : length team ≡ c.loop-who.self.table.shape.workers = c.loop-who.invariant.follows.count in
    let same : c.loop-who.self.table.shape.workers ≡ c.args.self.now.table.shape.workers =
    ap (λ (d : Shape). d.workers) c.loop-who.invariant.plays.shape in
    let was : c.shape-workers.result.workers ≡ c.args.self.now.table.shape.workers = ap (λ (d : Shape). d.workers) c.shape-workers.ensures in
    c.loop-who.invariant.none ends w (omega arith) x here

pub returns-clause-plays : goal.returns-clause-plays
returns-clause-plays g c =
    let was : c.shape-workers.result.workers ≡ c.args.self.now.table.shape.workers = ap (λ (d : Shape). d.workers) c.shape-workers.ensures in
    let all : c.loop-who.who ≡ c.args.self.now.table.shape.workers = omega arith in
    let before = scene c.args.self.now.table c.args.self.now.team.items in
    let after = scene c.loop-who.self.table c.loop-who.self.team.items in
    subst (λ n. Leads g.M.Meter.may_take (stints_by c.args.stint (range_with_len 0 n)) before after) all c.loop-who.invariant.plays
