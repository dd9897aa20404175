-- What a worker has to tell of the work that it did.
use Rattle.std.specs.Prelude.{◌≡◌, ℕ, ◌<◌, ◌≤◌, true, cond, List, [], ◌∷◌, ◌++◌, length}
use Rattle.std.specs.Prelude.{Option, Some, None}
use Rattle.std.specs.Arc.{arc_value}
use Rattle.std.specs.Vec.{vec_capacity}
use Rattle.slot_history.specs.declared.act.Entry.{Entry}
use Rattle.slot_history.specs.Histories.{Morsel, Tiles}
use Rattle.slot_station.specs.Desks.{Desk}
use Rattle.slot_station.specs.declared.token.Holder.{Holder}
use Rattle.report_text.specs.declared.report.Gap.{Gap}
use Rattle.report_text.specs.declared.report.Record.{Record}
use Rattle.turn_model.specs.Workloads.{Workload, sets_of}
use Rattle.turn_model.specs.Endings.{Work, HasRoom}
use Rattle.turn_model.specs.Tellings.{Telling, IsOfWork}
use Rattle.bench_cell.specs.Plans.{total_of}
use Rattle.bench_cell.specs.Gathering.{IsRecordOf}
use Rattle.bench_cell.specs.Tilings.{FitClaims, journal_of}
use Rattle.worker_machine.specs.declared.kept.Core.{Core}
use Rattle.worker_machine.specs.declared.phase.Phase.{Phase}
use Rattle.worker_machine.specs.declared.phase.Phase.TheVariants.{Give}
use Rattle.worker_machine.specs.Hands.{finalised_by}

-- the query that the worker gives up next, if its task set was gathered
abbrev pub given_up : Phase → Option ℕ
given_up (Give h) = cond h.again h.query None
given_up _ = None

abbrev pub gap_of : Core → Gap
gap_of core = record {
  worker = core.worker;
  widest = core.strides.widest;
  largest = core.strides.largest;
}

-- what the worker has to tell at a phase
abbrev pub telling_of : Core → Phase → Telling
telling_of core phase = record {
  replies = core.replies.items;
  records = core.records.items;
  shares = core.shares.items;
  gap = gap_of core;
  gives_up = given_up phase;
}

-- the worker has room for a reply to each query and a record of each task set, and tells of this
-- work as long as there is no more of it
pub record Tells (D : Desk Workload) (h : List Entry) (work : Work) (core : Core) (phase : Phase)
    : Type 0 where
  pub reply_room : D.shape.queries ≤ vec_capacity core.replies
  pub record_room : sets_of D.shape D.subject ≤ vec_capacity core.records
  pub tells : HasRoom D work → IsOfWork D h work (telling_of core phase)

-- What gathering writes down: a record of the task set that the holder finalises, with the claims
-- that the benches fit. If it is short, the query is given up.
pub record KeepsRecord (old new : Core) (holder : Holder) (next : Phase) : Type 0 where
  pub kept : Record
  pub room : vec_capacity old.records ≤ vec_capacity new.records
  pub pushed : length old.records.items < vec_capacity old.records
      → new.records.items ≡ old.records.items ++ kept ∷ []
  pub total : ℕ
  pub total_is : total_of (arc_value old.plan) (finalised_by holder) ≡ Some total
  pub ends : IsRecordOf (record {
    id = finalised_by holder;
    slot = holder.slot;
    total = total;
    finisher = old.worker;
  }) kept.short kept
  pub claims : (claims : List Morsel) → Tiles claims total
      → FitClaims (arc_value old.plan) (finalised_by holder) claims old.benches.items
      → kept.claims ≡ cond kept.short [] (journal_of claims)
  pub short : kept.short ≡ true → next ≡ Give holder
