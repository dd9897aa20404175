use Rattle.std.proofs.Common.{length, ap, ◌∙◌, sym, arith}
use Rattle.col_table.specs.NamedRows.{NamedRows}
use Rattle.plan_ast.specs.Stages.{tuples_of}
use Rattle.plan_ast.specs.declared.queries.Query.{Query}
use Rattle.plan_ast.proofs.SideLemmas.{stage_at-merges, stage_at-scans, tuples_of-builds}
use Rattle.plan_ast.proofs.task_sets.stage_total.Goals as goal

pub returns-then-stage-builds : goal.returns-then-stage-builds
returns-then-stage-builds c =
    let query = c.args.checked.now.query in
    let joins = ap length (c.as_slice-builds.ensures ∙ ap (λ (q : Query). q.joins) c.query.ensures) in
    record {
      total = c.rows.ensures.count ∙ ap (λ (t : NamedRows). length t.rows) c.table_of_side.ensures ∙ sym
          (tuples_of-builds c.args.tables.now query c.args.stage (omega (arith, joins, c.if-stage-builds.true)));
      few = omega (arith, c.rows.ensures.count, c.rows.ensures.table.few);
    }

pub returns-then-stage-builds-2 : goal.returns-then-stage-builds-2
returns-then-stage-builds-2 c =
    let query = c.args.checked.now.query in
    let joins = ap length (c.as_slice-builds.ensures ∙ ap (λ (q : Query). q.joins) c.query.ensures) in
    record {
      total =
          c.rows-then-stage-builds-2.ensures.count ∙ ap (λ (t : NamedRows). length t.rows) c.table_of_side-then-stage-builds-2.ensures
          ∙ sym (ap (tuples_of c.args.tables.now query) (stage_at-scans query c.args.stage (c.if-stage-builds-2.true ∙ joins)));
      few = omega (arith, c.rows-then-stage-builds-2.ensures.count, c.rows-then-stage-builds-2.ensures.table.few);
    }

pub returns-else-stage-builds-2 : goal.returns-else-stage-builds-2
returns-else-stage-builds-2 c =
    let query = c.args.checked.now.query in
    let joins = ap length (c.as_slice-builds.ensures ∙ ap (λ (q : Query). q.joins) c.query.ensures) in
    record {
      total = sym (ap (tuples_of c.args.tables.now query)
          (stage_at-merges query c.args.stage (omega (arith, joins, c.if-stage-builds.false, c.if-stage-builds-2.false))));
      few = omega arith;
    }
