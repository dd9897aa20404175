use Rattle.std.proofs.Common.{◌≡◌, ℕ, IfOk, length, slice_get, Some, refl, sym, ap, subst}
use Rattle.std.specs.Arc.{arc_value}
use Rattle.std.proofs.lemmas.Option.{slice_get_read}
use Rattle.bench_cell.specs.Benches.{IsBench}
use Rattle.worker_machine.specs.Benches.{HasResult}
use Rattle.worker_machine.specs.Hands.{finalised_by}
use Rattle.worker_machine.proofs.Finishing.{all-from, ids-of, result-for}
use Rattle.worker_machine.specs.Benches.{IsResultFor}
use Rattle.worker_machine.proofs.Finishing.{result-of}
use Rattle.std.proofs.Common.{[], cond, ◌∙◌}
use Rattle.std.proofs.lemmas.Bool.{false≢true}
use Rattle.bench_cell.specs.Tilings.{journal_of}
use Rattle.bench_cell.specs.declared.gathered.Gathered.TheVariants.{Whole}
use Rattle.bench_cell.proofs.GivingLemmas.{tiles_give}
use Rattle.worker_machine.proofs.Recording.{of-itself, total-at}
use Rattle.worker_machine.proofs.Desks.{plan-after}
use Rattle.std.proofs.Common.{◌≤◌}
use Rattle.std.specs.Vec.{vec_capacity}
use Rattle.std.specs.declared.vec.Vec.{Vec}
use Rattle.std.specs.Global.{Global}
use Rattle.report_text.specs.declared.report.Record.{Record}
use Rattle.worker_machine.proofs.kept.Core.gathered.Goals as goal

pub gather-requires-clause-each : goal.gather-requires-clause-each
gather-requires-clause-each c = all-from IsBench c.args.self.now.benches.items (λ u b got. (c.requires.benches.fit.each u b got).of_set.bench_is)

pub whole-requires-clause-inputs : goal.whole-requires-clause-inputs
whole-requires-clause-inputs c =
    let id : ℕ = finalised_by c.args.holder in
    let bs = c.args.self.now.benches.items in
    let first : slice_get bs 0 ≡ Some c.index.result.now = slice_get_read bs (length bs) 0 c.index.result.now refl c.requires.some c.index.ensures in
    subst (λ p. IfOk c.try_clone-inputs.result (λ x. HasResult p id c.in-Whole.result (arc_value x)))
    (sym (plan-after c.args.self.now c.keep-in-Whole.new.self c.keep-in-Whole.ensures.same))
    (result-for (arc_value c.args.self.now.plan) id bs c.index.result.now c.in-Whole.result _ c.requires.benches first
    (c.in-Whole.ensures.gives id (ids-of c.requires.benches)).1 c.inputs.result.now c.inputs.ensures c.try_clone-inputs.result c.try_clone-inputs.ensures)

pub whole-requires-clause-whole : goal.whole-requires-clause-whole
whole-requires-clause-whole c =
    let id : ℕ = finalised_by c.args.holder in
    let bs = c.args.self.now.benches.items in
    subst (λ p. IsResultFor p id c.in-Whole.result) (sym (plan-after c.args.self.now c.keep-in-Whole.new.self c.keep-in-Whole.ensures.same)) (
      arc_value c.index.result.now.inputs,
      result-of (arc_value c.args.self.now.plan) id bs c.index.result.now c.in-Whole.result _ c.requires.benches
          (slice_get_read bs (length bs) 0 c.index.result.now refl c.requires.some c.index.ensures)
          (c.in-Whole.ensures.gives id (ids-of c.requires.benches)).1,
    )

pub returns-in-Short-clause-record : goal.returns-in-Short-clause-record
returns-in-Short-clause-record c =
    let gives = c.in-Short.ensures.gives (finalised_by c.args.holder) (ids-of c.requires.benches) in
    record {
      kept = c.in-Short.kept;
      room = c.keep.ensures.room;
      pushed = c.keep.ensures.pushed;
      total = c.task_total-total.result;
      total_is = total-at _ _ _ _ _ c.deref-2.ensures c.finalised_id-id.ensures.id c.task_total-total.ensures.total;
      ends = of-itself gives.0;
      claims = λ claims tiles fit. gives.1 ∙ sym (ap (λ b. cond b [] (journal_of claims)) gives.0.short_is);
      short = λ is. refl;
    }

pub returns-in-Whole-clause-record : goal.returns-in-Whole-clause-record
returns-in-Whole-clause-record c =
    let id : ℕ = finalised_by c.args.holder in
    let gives = c.in-Whole.ensures.gives id (ids-of c.requires.benches) in
    let e = gives.0 in
    let total = total-at _ _ _ _ _ c.deref-2.ensures c.finalised_id-id.ensures.id c.task_total-total.ensures.total in
    let k = c.keep-in-Whole.ensures in
    record {
      kept = c.in-Whole.kept;
      room = subst (λ (v : Vec Record Global). vec_capacity c.args.self.now.records ≤ vec_capacity v) (sym c.whole.ensures.records) k.room;
      pushed = λ few. ap (λ (v : Vec Record Global). v.items) c.whole.ensures.records ∙ k.pushed few;
      total = c.task_total-total.result;
      total_is = total;
      ends = of-itself e;
      claims = λ claims tiles fit. (tiles_give (arc_value c.args.self.now.plan)
          (record { id = id; slot = c.args.holder.slot; total = c.task_total-total.result; finisher = c.args.self.now.worker })
          claims c.args.self.now.benches.items total tiles fit (Whole c.in-Whole.result c.in-Whole.kept) gives).1
          ∙ sym (ap (λ b. cond b [] (journal_of claims)) e.short_is);
      short = λ is. absurd (false≢true (sym e.short_is ∙ is));
    }
