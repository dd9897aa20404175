-- What the workers of a run have to tell, and what becomes of it in the report.
use Rattle.std.specs.Prelude.{◌≡◌, ℕ, List, map, flat_map}
use Rattle.std.specs.Prelude.{IsPermutation, IsSortedByKey}
use Rattle.std.specs.Ordering.{nat_cmp}
use Rattle.report_text.specs.declared.replies.QueryReply.{QueryReply}
use Rattle.report_text.specs.declared.report.Gap.{Gap}
use Rattle.report_text.specs.declared.report.Report.{Report}
use Rattle.turn_model.specs.Reports.{id_of_record}
use Rattle.worker_machine.specs.declared.state.Worker.{Worker}
use Rattle.pool_run.specs.declared.report.Parts.{Parts}

abbrev pub gap_of : Worker → Gap
gap_of worker = record {
  worker = worker.core.worker;
  widest = worker.core.strides.widest;
  largest = worker.core.strides.largest;
}

-- these workers told all, one after another
pub record HaveTold (team : List Worker) (parts : Parts) : Type 0 where
  pub replies : parts.replies.items ≡ flat_map (λ (w : Worker). w.core.replies.items) team
  pub records : parts.records.items ≡ flat_map (λ (w : Worker). w.core.records.items) team
  pub shares : parts.shares.items ≡ flat_map (λ (w : Worker). w.core.shares.items) team
  pub gaps : parts.gaps.items ≡ map gap_of team
  pub times : parts.times.items ≡ map (λ (w : Worker). w.core.times) team

-- The report has all that the workers told: replies by query, records by task set, and shares and
-- gaps in the order of the workers. So are the times, a list for each worker.
pub record IsToldBy (team : List Worker) (report : Report) (elapsed : List (List ℕ)) : Type 0 where
  pub replies : IsPermutation (flat_map (λ (w : Worker). w.core.replies.items) team) report.replies
  pub by_query : IsSortedByKey (λ (r : QueryReply). r.query) nat_cmp report.replies
  pub records : IsPermutation (flat_map (λ (w : Worker). w.core.records.items) team) report.records
  pub by_task : IsSortedByKey id_of_record nat_cmp report.records
  pub shares : report.shares ≡ flat_map (λ (w : Worker). w.core.shares.items) team
  pub gaps : report.gaps ≡ map gap_of team
  pub times : elapsed ≡ map (λ (w : Worker). w.core.times) team
