use Rattle.std.proofs.Common.{◌≡◌, ◌/◌, ◌<◌, [], length, Some, sym, ◌∙◌, subst, arith}
use Rattle.bench_cell.specs.declared.plan.Plan.{Plan}
use Rattle.worker_machine.proofs.Claims.{work-within, work-apart, task-within}
use Rattle.worker_machine.proofs.Desks.{known-here, plan-of, slots-of}
use Rattle.worker_machine.proofs.Sizes.{cut-some}
use Rattle.worker_machine.proofs.Tasks.{task-query}
use Rattle.worker_machine.proofs.Visits.{claimed, used-up}
use Rattle.std.specs.Arc.{arc_value}
use Rattle.slot_history.specs.declared.shape.TheConstants.{STAGES}
use Rattle.bench_cell.specs.Plans.{total_of}
use Rattle.worker_machine.specs.Plans.{IsTask}
use Rattle.worker_machine.specs.Loads.{load_of}
use Rattle.slot_station.specs.Desks.{Desk}
use Rattle.std.proofs.Common.{refl, length}
use Rattle.worker_machine.proofs.Moving.{answers-kept, moves-by, quiet-by, keeps-on}
use Rattle.std.proofs.Common.{ap}
use Rattle.worker_machine.specs.Loads.{load_of}
use Rattle.worker_machine.proofs.VisitMoves.{claim-size, known-at, range-knows, range-shares, range-timed, spent-priority}
use Rattle.worker_machine.specs.declared.phase.Phase.TheVariants as phase
use Rattle.std.proofs.Common.{None}
use Rattle.worker_machine.proofs.Telling.{told-kept}
use Rattle.worker_machine.proofs.kept.Core.claim.Goals as goal

pub task_total-total-requires : goal.task_total-total-requires
task_total-total-requires g c =
    let f = c.requires.follows in
    subst (λ (p : Plan). IsTask p c.args.id) (sym (c.deref.ensures ∙ plan-of c.args.self.now f.desk)) f.hand.2

pub next-n-requires : goal.next-n-requires
next-n-requires g c =
    let f = c.requires.follows in
    let got = known-here c.args.self.now f.desk c.args.s c.index-known.result.now f.hand.1 c.index-known.ensures in
    (c.args.self.now.sized c.args.s _ got).within c.args.id _ (f.fits.1 _ got)
    (subst (λ (p : Plan). total_of p c.args.id ≡ Some c.task_total-total.result) c.deref.ensures c.task_total-total.ensures.total)

pub work-requires-clause-bench : goal.work-requires-clause-bench
work-requires-clause-bench g c = c.requires.follows.hand.3.of_set.bench_is

pub work-requires-clause-some : goal.work-requires-clause-some
work-requires-clause-some g c =
    cut-some _ c.in-Range.from c.in-Range.to c.next-n.result c.next-n.ensures.least c.in-Range.ensures.range

pub work-requires-clause-within : goal.work-requires-clause-within
work-requires-clause-within g c =
    work-within (g.S.Station.seen c.args.station.now) c.args.bench c.requires.follows.hand.3
    c.next-n.result c.in-Range.from c.in-Range.to c.in-Range.ensures.range

pub work-requires-clause-apart : goal.work-requires-clause-apart
work-requires-clause-apart g c =
    let old = g.S.Station.seen c.args.station.now in
    let f = c.requires.follows in
    work-apart old c.args.bench f.hand.3 c.next-n.result c.in-Range.from c.in-Range.to c.in-Range.ensures.past

pub query_of-requires : goal.query_of-requires
query_of-requires g c =
    let f = c.requires.follows in
    subst (λ (p : Plan). c.args.id / STAGES < length p.queries.items) (sym c.deref-in-Range.ensures)
    (task-query (arc_value c.args.self.now.plan) c.args.id (subst (λ (p : Plan). IsTask p c.args.id) (sym (plan-of c.args.self.now f.desk)) f.hand.2))

pub worked-requires-clause-some : goal.worked-requires-clause-some
worked-requires-clause-some g c =
    cut-some _ c.in-Range.from c.in-Range.to c.next-n.result c.next-n.ensures.least c.in-Range.ensures.range

pub worked-requires-clause-within : goal.worked-requires-clause-within
worked-requires-clause-within g c =
    let old = g.S.Station.seen c.args.station.now in
    let f = c.requires.follows in
    task-within old (arc_value c.args.self.now.plan) c.args.s c.args.id c.next-n.result c.in-Range.from c.in-Range.to f.hand.0
    (plan-of c.args.self.now f.desk) c.in-Range.ensures.range

pub returns-in-Range-clause-hand : goal.returns-in-Range-clause-hand
returns-in-Range-clause-hand g c =
    let f = c.requires.follows in
    claimed c.in-Range.ensures.made f.hand.0 c.work.ensures.fits f.hand.3 []

pub returns-in-Exhausted-clause-hand : goal.returns-in-Exhausted-clause-hand
returns-in-Exhausted-clause-hand g c =
    let f = c.requires.follows in
    used-up c.in-Exhausted.ensures.made f.hand.0 f.hand.1 f.hand.2 c.in-Exhausted.ensures.spent f.hand.3 []

pub returns-in-Range-clause-moves : goal.returns-in-Range-clause-moves
returns-in-Range-clause-moves g c =
    let old = g.S.Station.seen c.args.station.now in
    let f = c.requires.follows in
    let self = c.args.self.now in
    let known = c.index-known.result.now in
    let got = known-here self f.desk c.args.s known f.hand.1 c.index-known.ensures in
    let of = f.fits.1 known got in
    let plan = c.deref.ensures ∙ plan-of self f.desk in
    let w = c.worked.ensures.worked.1 in
    let counts = c.worked.ensures.counted in
    let slots' = ap (λ (x : Desk Plan). x.shape.slots) c.worked.ensures.same in
    let now = known-at c.worked.new.self.known.items c.args.s
    (let slots = slots-of self f.desk in omega (arith, slots, f.hand.1, slots', c.worked.new.self.each_known)) in
    let below : c.args.id / STAGES < old.desk.shape.queries = subst (λ (x : Desk Plan). c.args.id / STAGES < x.shape.queries) f.desk
    (task-query (arc_value self.plan) c.args.id (subst (λ (p : Plan). IsTask p c.args.id) (sym (plan-of self f.desk)) f.hand.2)) in
    moves-by c.in-Range.ensures.made c.within_bounds-ns.result (λ ms h. record {
      may = c.next-n.ensures.size
          ∙ sym (claim-size old ms h f.hand.0 known got of _
          (subst (λ (p : Plan). total_of p c.args.id ≡ Some c.task_total-total.result) plan c.task_total-total.ensures.total));
      timed = range-timed old ms h f.hand.0 known got of g.M.Meter.may_take c.next-n.result c.in-Range.from
          c.in-Range.to c.within_bounds-ns.result _ _ c.stop.ensures
          (sym c.query_of.ensures.cost ∙ ap (λ (p : Plan). (load_of p).cost (c.args.id / STAGES)) (c.deref-in-Range.ensures ∙ plan-of self f.desk))
          c.within_bounds-ns.ensures;
      answers = answers-kept h.answers c.worked.ensures.replies;
      told = told-kept c.args.self.now c.worked.new.self (phase.Claim c.args.s c.args.id c.args.bench) (phase.Back None c.work.new.self)
          c.worked.ensures.replies c.worked.ensures.records refl h.told;
      knows = range-knows old ms h f.hand.0 known got of c.in-Range.ensures.made
          (record { priority = w.priority; strides = w.strides; known = w.known; times = w.times; finished = w.finished; arrived = w.arrived });
      shares = range-shares old ms h f.hand.0 known got of c.worked.new.self c.next-n.result c.in-Range.from c.in-Range.to
          c.within_bounds-ns.result counts.0 h.shares (ap (λ (x : Desk Plan). x.worker) f.desk) below
          (spent-priority old ms h f.hand.0 known got of c.worked.new.self c.in-Range.ensures.made
          (record { priority = w.priority; strides = w.strides; known = w.known; times = w.times; finished = w.finished; arrived = w.arrived })
          now.0 now.1 (counts.1 now.0 now.1))
          (record { room = counts.2.room; counts = counts.2.counts });
      point = refl;
    })

pub returns-in-Exhausted-clause-moves : goal.returns-in-Exhausted-clause-moves
returns-in-Exhausted-clause-moves g c =
    let f = c.requires.follows in
    let got = known-here c.args.self.now f.desk c.args.s c.index-known.result.now f.hand.1 c.index-known.ensures in
    quiet-by c.in-Exhausted.ensures.made (λ ms. (refl, refl, refl)) (refl, refl, refl) refl (λ ms h. (
      c.next-n.ensures.size
          ∙ sym (claim-size (g.S.Station.seen c.args.station.now) ms h f.hand.0 c.index-known.result.now got (f.fits.1 c.index-known.result.now got) _
          (subst (λ (p : Plan). total_of p c.args.id ≡ Some c.task_total-total.result) (c.deref.ensures ∙ plan-of c.args.self.now f.desk)
          c.task_total-total.ensures.total)),
      keeps-on h.knows refl,
      refl,
    ))
