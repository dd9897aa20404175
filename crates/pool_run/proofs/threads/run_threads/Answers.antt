use Rattle.std.proofs.Common.{◌≡◌, List, ap, arith, length, sym, subst, ◌∙◌}
use Rattle.std.proofs.lemmas.List.{take_at}
use Rattle.std.specs.Arc.{arc_value}
use Rattle.slot_history.specs.declared.shape.Shape.{Shape}
use Rattle.slot_station.specs.Shapes.{shape_with}
use Rattle.bench_cell.specs.declared.plan.Plan.{Plan}
use Rattle.pool_run.specs.Seated.{AreSeatedDown, IsFresh, IsOver}
use Rattle.pool_run.specs.declared.threads.seated.Seated.{Seated}
use Rattle.pool_run.proofs.Parted.{are-all, are-free, none-turn, ran-by-threads}
use Rattle.pool_run.proofs.threads.run_threads.Goals as goal

pub take_turns-requires-clause-seated : goal.take_turns-requires-clause-seated
take_turns-requires-clause-seated g c κs within =
    let all = c.sit.new.all in
    let count : all.len ≡ length all.items = omega (arith, all.ok.0) in
    let seated = subst (λ n. AreSeatedDown (IsFresh c.in-Ok.board) n all.items) (sym c.sit.ensures.count ∙ count) c.sit.ensures.seated in
    subst (λ (l : List (Seated g.row.M.Denot)). AreSeatedDown (IsFresh c.in-Ok.board) (length l) l) (sym c.as_mut_slice.ensures.value) seated

pub rise-requires-clause-seated : goal.rise-requires-clause-seated
rise-requires-clause-seated g c =
    let P = IsOver g.M.Meter.may_take c.in-Ok.board in
    let all = c.sit.new.all in
    let now = c.take_turns.new.all in
    let count : length now ≡ all.len = omega (arith, c.take_turns.ensures.count, ap length c.as_mut_slice.ensures.value, all.ok.0) in
    let seated = subst (λ n. AreSeatedDown P n now) count c.take_turns.ensures.seated in
    subst (AreSeatedDown P all.len) (sym (take_at now _ all.len count)) seated

pub finish-joined-requires-clause-all : goal.finish-joined-requires-clause-all
finish-joined-requires-clause-all g c =
    let shape = ap (λ (d : Shape). d.workers) c.in-Ok.ensures.shape in
    are-all c.rise.ensures.seated
    (omega (arith, c.rise.new.self.team.ok.0, c.rise.ensures.count, c.sit.ensures.count, c.in_ok-crew.ensures.count, c.in-Ok.ensures.passes.0, shape))

pub finish-joined-requires-clause-done : goal.finish-joined-requires-clause-done
finish-joined-requires-clause-done g c = are-free c.rise.ensures.seated

pub collect-requires-clause-none : goal.collect-requires-clause-none
collect-requires-clause-none g c = none-turn c.rise.ensures.seated

pub returns : goal.returns
returns g c =
    let shape = c.in-Ok.ensures.shape ∙ ap (shape_with c.args.slots c.args.workers) (c.len.ensures ∙ ap (λ (p : Plan). length p.queries.items) c.deref-3.ensures) in
    let subject = c.in-Ok.ensures.subject ∙ (c.of-subject.ensures ∙ c.deref-2.ensures) in
    let count : length c.rise.new.self.team.items ≡ c.args.workers =
    omega (arith, c.rise.new.self.team.ok.0, c.rise.ensures.count, c.sit.ensures.count, c.in_ok-crew.ensures.count, c.in-Ok.ensures.passes.0) in
    record {
      ran = ran-by-threads c.rise.ensures.seated (arc_value c.args.plan) c.args.workers c.args.slots shape subject c.finish-joined.ensures count c.requires.may
          c.in_ok-report.ensures;
      meters = omega (arith, c.rise.ensures.meters, c.sit.ensures.meters.0, c.sit.ensures.count);
    }
