-- The work of a plan, as the model of a worker sees it.
use Rattle.slot_station.specs.Desks.{Desk}
use Rattle.turn_model.specs.Workloads.{Workload, work_of}
use Rattle.bench_cell.specs.declared.plan.Plan.{Plan}
use Rattle.bench_cell.specs.Plans.{subject_of_plan}

abbrev pub load_of : Plan → Workload
load_of plan = work_of (subject_of_plan plan)

-- a worker's desk with its plan seen so
abbrev pub model_desk : Desk Plan → Desk Workload
model_desk desk = record {
  worker = desk.worker;
  shape = desk.shape;
  subject = load_of desk.subject;
}
