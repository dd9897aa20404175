-- One run and one report for each input.
use Rattle.std.proofs.Common.{◌≡◌, ℕ, ◌+◌, ◌*◌, ◌<◌, ◌≤◌, ⊎_elim, subst, arith}
use Rattle.std.proofs.lemmas.Bool.{cases_lt}
use Rattle.slot_history.specs.declared.shape.TheConstants.{STAGES}
use Rattle.slot_history.specs.Histories.{IsLegal, lasts_of}
use Rattle.slot_history.proofs.Counts.{counts-done, total-installed}
use Rattle.slot_history.proofs.Numbers.{installed-low}
use Rattle.report_text.specs.declared.report.Report.{Report}
use Rattle.turn_model.specs.Runs.{Run, desk_at}
use Rattle.turn_model.specs.Reports.{IsRecordIn, IsReportOf, id_of_record}
use Rattle.run_laws.specs.Agreeing.{takes, GivesNoneUp, Input, IsInput, IsAnswered, HaveFewStages, AnsweredServesAll, OneTextByTurns, OneTextByMoves}
use Rattle.run_laws.proofs.Lists.{all-at}
use Rattle.run_laws.proofs.CompleteRuns.{complete-whole}
use Rattle.run_laws.proofs.NoneUp.{none-given-up}
use Rattle.run_laws.proofs.OneRun.{runs-by-turns-agree, runs-by-moves-agree}
use Rattle.run_laws.proofs.OneReport.{one-report}

module _ (input : Input) (is : IsInput input) (run : Run) (report : Report) (answers : IsAnswered input run report) where
  legal : IsLegal input.shape run.history
  legal = answers.complete.driven.legal

  -- a task set that was finalised is of a query of the object
  finalised-low : (id : ℕ) → lasts_of input.shape id run.history ≡ 1 → id < STAGES * input.shape.queries
  finalised-low id last =
      let done = counts-done input.shape id run.history legal (omega (arith, last)) in
      installed-low input.shape run.history legal id (total-installed input.shape id run.history legal done.0 done.2)

  -- other queries have no stages, as a stage of theirs would have a record
  no-more : (q : ℕ) → input.shape.queries ≤ q → input.load.stages q ≡ 0
  no-more q high = ⊎_elim
      (λ some. absurd (⊎_elim (λ out. answers.none q out)
      (λ has.
      let last : lasts_of input.shape (id_of_record has.1) run.history ≡ 1 =
      (all-at (IsRecordIn input.shape input.load run.history) report.records answers.told.records.each has.0 has.1 has.2).last in
      let low : id_of_record has.1 < STAGES * input.shape.queries = finalised-low (id_of_record has.1) last in
      let at : id_of_record has.1 ≡ STAGES * q + 0 = has.3.0 in
      omega (arith, low, at, high))
      (answers.told.answered.whole q 0 some)))
      (λ none. omega (arith, none)) (cases_lt 0 (input.load.stages q))

  serves-all : (w : ℕ) → w < input.shape.workers → GivesNoneUp (desk_at input.shape input.load w) (run.team w)
  serves-all = none-given-up input.shape input.load run
      (complete-whole (takes input.time) input.shape input.load run is.work no-more answers.complete) report answers.told answers.none

  few-stages : HaveFewStages input.load
  few-stages q = ⊎_elim (λ low. is.work.few q low) (λ high. let z = no-more q high in omega (arith, z)) (cases_lt q input.shape.queries)

pub answered-serves-all : AnsweredServesAll
answered-serves-all input run report is answers = record { complete = answers.complete; none = serves-all input is run report answers }

-- of two runs that are one the reports are one
one-each : (input : Input) (one other : Run) (report same : Report) → IsInput input → IsAnswered input one report → IsAnswered input other same → one ≡ other
    → (one ≡ other) × (report ≡ same)
one-each input one other report same is p q e = (
  e,
  one-report input.shape input.load other report same (few-stages input is other same q)
      (subst (λ run. IsReportOf input.shape input.load run report) e p.told) q.told p.none q.none,
)

pub one-text-by-turns : OneTextByTurns
one-text-by-turns input one other report same is p q a b =
    one-each input one other report same is p q
    (runs-by-turns-agree input one other is.of_workers (answered-serves-all input one report is p) (answered-serves-all input other same is q) a b)

pub one-text-by-moves : OneTextByMoves
one-text-by-moves input one other report same is p q a b =
    one-each input one other report same is p q
    (runs-by-moves-agree input one other is.of_workers (answered-serves-all input one report is p) (answered-serves-all input other same is q) a b)
