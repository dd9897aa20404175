-- What a worker ended and gathered by its moves, and the replies and records that are right for it.
use Rattle.std.specs.Prelude.{◌≡◌, ◌⊎◌, ℕ, ◌+◌, ◌≤◌, true, cond, eqb, List, [], ◌∷◌, length}
use Rattle.std.specs.Prelude.{Some}
use Rattle.slot_history.specs.declared.shape.Shape.{Shape}
use Rattle.slot_history.specs.declared.act.Act.{Act}
use Rattle.slot_history.specs.declared.act.Act.TheVariants.{NoteDone}
use Rattle.slot_history.specs.declared.act.Entry.{Entry}
use Rattle.slot_history.specs.declared.place.Held.{Held}
use Rattle.slot_history.specs.States.{finalised_id}
use Rattle.slot_history.specs.Histories.{IsLegal, Begins}
use Rattle.slot_station.specs.Desks.{Desk}
use Rattle.report_text.specs.declared.replies.QueryReply.{QueryReply}
use Rattle.report_text.specs.declared.replies.Reply.TheVariants.{Memory}
use Rattle.report_text.specs.declared.report.Record.{Record}
use Rattle.turn_model.specs.Workloads.{Workload, sets_of}
use Rattle.turn_model.specs.Moves.{Move, Made, Exchanged}
use Rattle.turn_model.specs.Points.{Point, FreeIt, Fetch, point_by}
use Rattle.turn_model.specs.Driven.{held_by}
use Rattle.turn_model.specs.Reports.{IsReplyTo, IsRecordIn, id_of_record}

-- two lists are as long as one another, and P holds item by item
abbrev pub Beside : {A B : Type 0} → (A → B → Type 0) → List A → List B → Type 0
Beside P [] [] = Unit {0}
Beside P (x ∷ xs) (y ∷ ys) = P x y × Beside P xs ys
Beside P xs ys = ⊥

-- a holding ends with the note after which the slot is freed
abbrev pub ended_after : Act → Point → Held → List Held → List Held
ended_after (NoteDone n) FreeIt held before = held ∷ before
ended_after a x held before = before

-- the benches of a task set are gathered with the last fetch
abbrev pub gathered_after : Point → ℕ → ℕ → List ℕ → List ℕ
gathered_after (Fetch v) workers id before = cond (eqb (v + 1) workers) (id ∷ before) before
gathered_after x workers id before = before

-- the holdings that ended and the task sets that were gathered, the last one first
pub record Work : Type 0 where
  pub ended : List Held
  pub gathered : List ℕ

module _ (D : Desk Workload) where
  -- what the worker had in hand when it noted the last task sets of a query, the last time first
  abbrev pub ended_by : List Move → List Held
  ended_by [] = []
  ended_by (Made a t ∷ ms) =
      ended_after a (point_by D (Made a t ∷ ms)) (held_by D ms) (ended_by ms)
  ended_by (Exchanged ∷ ms) = ended_by ms

  -- the task sets whose benches the worker gathered, the last one first
  abbrev pub gathered_by : List Move → List ℕ
  gathered_by [] = []
  gathered_by (Made a t ∷ ms) = gathered_by ms
  gathered_by (Exchanged ∷ ms) = gathered_after (point_by D ms) D.shape.workers
      (finalised_id (held_by D ms)) (gathered_by ms)

  abbrev pub work_by : List Move → Work
  work_by ms = record { ended = ended_by ms; gathered = gathered_by ms }

  -- no more replies than queries, and no more records than task sets
  pub record HasRoom (work : Work) : Type 0 where
    pub replies : length work.ended ≤ D.shape.queries
    pub records : length work.gathered ≤ sets_of D.shape D.subject

-- the reply to the query of a holding: its answer after the last stage, or that memory ran out
pub record IsReplyAt (load : Workload) (r : QueryReply) (held : Held) : Type 0 where
  pub query : held.query ≡ Some r.query
  pub reply : IsReplyTo load r.query r.reply
  pub ended : (r.reply ≡ Memory)
      ⊎ ((held.again ≡ true) × (held.stage + 1 ≡ load.stages r.query))

-- the record of the task set of an id, in a history
abbrev pub IsRecordAt : Desk Workload → List Entry → Record → ℕ → Type 0
IsRecordAt D h kept id = (id_of_record kept ≡ id) × IsRecordIn D.shape D.subject h kept

-- ---- the law, as the function of module `laws` states it

-- a record that is right stays right
abbrev pub RecordsStay : Type 0
RecordsStay = (d : Shape) (load : Workload) (h early : List Entry) (kept : Record) → IsLegal d h
    → Begins h early → IsRecordIn d load early kept → IsRecordIn d load h kept
