use Rattle.std.proofs.Common.{◌≡◌, ◌+◌, sym, subst, arith}
use Rattle.std.specs.Arc.{arc_value}
use Rattle.one_thread.specs.Tables.{TableStory}
use Rattle.one_thread.specs.Seats.{desk_over}
use Rattle.bench_cell.specs.declared.plan.Plan.{Plan}
use Rattle.worker_machine.specs.Following.{IsNewFor}
use Rattle.pool_run.specs.Scenes.{AreNew, new_table}
use Rattle.pool_run.proofs.Teams.{new-none, new-more}
use Rattle.pool_run.proofs.pool.new_team.Goals as goal

pub loop-who-init : goal.loop-who-init
loop-who-init c =
    let table : TableStory Plan = new_table (arc_value c.args.plan.now) c.args.workers c.args.slots in
    subst (AreNew table 0) (sym c.in_ok-team.ensures.items) (new-none table)

pub loop-who-preserved : goal.loop-who-preserved
loop-who-preserved c =
    let table : TableStory Plan = new_table (arc_value c.args.plan.now) c.args.workers c.args.slots in
    let new : IsNewFor (desk_over table c.loop-who.who) c.in_ok-new.field-0 =
    subst (λ (p : Plan). IsNewFor (desk_over (new_table p c.args.workers c.args.slots) c.loop-who.who) c.in_ok-new.field-0)
    c.in_ok-try_clone.ensures c.in_ok-new.ensures in
    subst (AreNew table (c.loop-who.who + 1)) (sym c.in_ok-push.ensures.items)
    (new-more table c.loop-who.who c.loop-who.team.items c.in_ok-new.field-0 c.loop-who.invariant new)

pub returns : goal.returns
returns c =
    let table : TableStory Plan = new_table (arc_value c.args.plan.now) c.args.workers c.args.slots in
    let all : c.loop-who.who ≡ c.args.workers = omega arith in
    subst (λ n. AreNew table n c.loop-who.team.items) all c.loop-who.invariant
