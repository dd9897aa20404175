-- What each status says, from how a command ended.
use Rattle.std.proofs.Common.{◌≡◌, ◌⊎◌, ◌<◌, ℕ, zero, suc, get_or, List, [], ◌∷◌, Result, Ok, Err, IfOk, IfErr, Contains, arith, lit<, inl, inr, refl, subst}
use Rattle.std.proofs.Common.{sym, ◌≢◌, ◌∙◌}
use Rattle.std.specs.Io.KnownBytes.{Appends}
use Rattle.outside_io.specs.Faults.{CountedOne, OnlyFailed}
use Rattle.outside_io.specs.Pieces.{AppendsPrefix}
use Rattle.sched_tool.proofs.BehaviourLemmas.{IsSound}
use Rattle.sched_tool.proofs.FaultLemmas.{OneFaultAtMost-at}
use Rattle.sched_tool.specs.Behaviours.{Behaviour}
use Rattle.sched_tool.specs.Commands.{Gives, GivesUp}
use Rattle.sched_tool.specs.ErrorLines.{error_bytes}
use Rattle.sched_tool.specs.ReadFaults.{FaultsAt, OneFaultAtMost}
use Rattle.sched_tool.specs.Statuses.{status_of, statuses}
use Rattle.sched_tool.specs.Writing.{IsFinding, IsMemoryText, IsRefusalWritten, IsTextOf, IsWritten, SinkState, TellsRefusal, WritesOne}
use Rattle.sched_tool.specs.declared.program.output.Output.{Output}
use Rattle.sched_tool.specs.declared.program.refusal.Refusal.{Refusal}
use Rattle.sched_tool.specs.declared.program.refusal.Refusal.TheVariants.{Usage, CannotRead, Script, Table, OutOfMemory}

-- how a command ended: the faults of its reads, and what was written of which text or line
pub data Ends (does : Behaviour) (before after : List (List ℕ)) (old new : SinkState) (result : ℕ) : Type 0 where
  whole : (text : List ℕ) → does.answers text → after ≡ before → IsWritten old new text 0 result → Ends does before after old new result
  part : (text : List ℕ) → does.answers_in_part text → after ≡ before → IsWritten old new text 7 result → Ends does before after old new result
  refused : (r : Refusal) → does.refuses r → FaultsAt r before after → IsWritten old new (error_bytes r) (status_of r) result
      → Ends does before after old new result
  -- memory ran out for the line of a refusal
  unsaid : (r : Refusal) → does.refuses r → FaultsAt r before after → IsWritten old new (error_bytes OutOfMemory) 7 result
      → Ends does before after old new result

-- how a command ended, from what it gave and how that was told
pub Ends-from : (does : Behaviour) (before after : List (List ℕ)) (old new : SinkState) (result : ℕ) (ended : Result Output Refusal)
    → IfOk ended (Gives does before after)
    → IfErr ended (GivesUp does before after)
    → IfOk ended (λ output. IsWritten old new output.text.items output.status result)
    → IfErr ended (λ refusal. IsRefusalWritten old new refusal result)
    → Ends does before after old new result
Ends-from does before after old new result (Ok output) gives up written told =
    elim gives.text [
      | inl t ↦ whole output.text.items t.1 gives.no_fault (subst (λ status. IsWritten old new output.text.items status result) t.0 written)
      | inr t ↦ part output.text.items t.1 gives.no_fault (subst (λ status. IsWritten old new output.text.items status result) t.0 written)
    ]
Ends-from does before after old new result (Err refusal) gives up written told =
    elim told.is [
      | inl is ↦ refused refusal up.cause up.faults (subst (λ r. IsWritten old new (error_bytes r) (status_of r) result) is told.written)
      | inr is ↦ unsaid refusal up.cause up.faults (subst (λ r. IsWritten old new (error_bytes r) (status_of r) result) is told.written)
    ]

-- the status of a refusal is none of an answer or of a failed writing
other_status : (r : Refusal) → (status_of r ≢ 0) × (status_of r ≢ 4)
other_status Usage = (λ e. omega arith, λ e. omega arith)
other_status (CannotRead file) = (λ e. omega arith, λ e. omega arith)
other_status (Script fault) = (λ e. omega arith, λ e. omega arith)
other_status (Table file fault) = (λ e. omega arith, λ e. omega arith)
other_status OutOfMemory = (λ e. omega arith, λ e. omega arith)

-- a status that a command ends with at a finding
is_finding_status : (result k : ℕ) → k < 3 → get_or (2 ∷ 5 ∷ 6 ∷ []) k result ≡ result → (result ≡ 2) ⊎ ((result ≡ 5) ⊎ (result ≡ 6))
is_finding_status result zero short is = inl (sym is)
is_finding_status result (suc zero) short is = inr (inl (sym is))
is_finding_status result (suc (suc zero)) short is = inr (inr (sym is))
is_finding_status result (suc (suc (suc k))) short is = absurd (omega arith)

finding_status : (result : ℕ) → Contains (2 ∷ 5 ∷ 6 ∷ []) result → (result ≢ 0) × (result ≢ 3) × (result ≢ 4) × (result ≢ 7)
finding_status result h =
    let is : (result ≡ 2) ⊎ ((result ≡ 5) ⊎ (result ≡ 6)) = is_finding_status result h.0 h.1 h.2 in
    (λ e. omega arith, λ e. omega arith, λ e. omega arith, λ e. omega arith)

is_quiet_status : (result k : ℕ) → k < 4 → get_or (0 ∷ 2 ∷ 5 ∷ 6 ∷ []) k result ≡ result → (result ≡ 0) ⊎ ((result ≡ 2) ⊎ ((result ≡ 5) ⊎ (result ≡ 6)))
is_quiet_status result zero short is = inl (sym is)
is_quiet_status result (suc zero) short is = inr (inl (sym is))
is_quiet_status result (suc (suc zero)) short is = inr (inr (inl (sym is)))
is_quiet_status result (suc (suc (suc zero))) short is = inr (inr (inr (sym is)))
is_quiet_status result (suc (suc (suc (suc k)))) short is = absurd (omega arith)

quiet_status : (result : ℕ) → Contains (0 ∷ 2 ∷ 5 ∷ 6 ∷ []) result → (result ≢ 3) × (result ≢ 4) × (result ≢ 7)
quiet_status result h =
    let is : (result ≡ 0) ⊎ ((result ≡ 2) ⊎ ((result ≡ 5) ⊎ (result ≡ 6))) = is_quiet_status result h.0 h.1 h.2 in
    (λ e. omega arith, λ e. omega arith, λ e. omega arith)

-- a refusal with a status other than 3 and 7 is a finding
is_finding : (r : Refusal) → status_of r ≢ 3 → status_of r ≢ 7 → IsFinding r
is_finding Usage not_three not_seven = tt
is_finding (CannotRead file) not_three not_seven = not_three refl
is_finding (Script fault) not_three not_seven = tt
is_finding (Table file fault) not_three not_seven = tt
is_finding OutOfMemory not_three not_seven = not_seven refl

finding_faults : (r : Refusal) (before after : List (List ℕ)) → IsFinding r → FaultsAt r before after → after ≡ before
finding_faults Usage before after finding faults = faults
finding_faults (CannotRead file) before after finding faults = elim finding [ ]
finding_faults (Script fault) before after finding faults = faults
finding_faults (Table file fault) before after finding faults = faults
finding_faults OutOfMemory before after finding faults = faults

-- a refusal with status 3 names a file
names_file : (r : Refusal) → status_of r ≡ 3 → (file : List ℕ) × (r ≡ CannotRead file)
names_file Usage e = absurd (omega arith)
names_file (CannotRead file) e = (file, refl)
names_file (Script fault) e = absurd (omega arith)
names_file (Table file fault) e = absurd (omega arith)
names_file OutOfMemory e = absurd (omega arith)

-- a refusal with status 7 is that memory ran out
is_memory : (r : Refusal) → status_of r ≡ 7 → r ≡ OutOfMemory
is_memory Usage e = absurd (omega arith)
is_memory (CannotRead file) e = absurd (omega arith)
is_memory (Script fault) e = absurd (omega arith)
is_memory (Table file fault) e = absurd (omega arith)
is_memory OutOfMemory e = refl

module _ (does : Behaviour) (before after : List (List ℕ)) (old new : SinkState) (result : ℕ) where
  -- 0
  pub at_answered : Ends does before after old new result → result ≡ 0 → WritesOne does.answers old.written new.written
  at_answered (whole text answers none (inl w)) is = (text, answers, w.1)
  at_answered (whole text answers none (inr w)) is = absurd (omega (arith, w.0, is))
  at_answered (part text answers none (inl w)) is = absurd (omega (arith, w.0, is))
  at_answered (part text answers none (inr w)) is = absurd (omega (arith, w.0, is))
  at_answered (refused r cause faults (inl w)) is = absurd ((other_status r).0 (sym w.0 ∙ is))
  at_answered (refused r cause faults (inr w)) is = absurd (omega (arith, w.0, is))
  at_answered (unsaid r cause faults (inl w)) is = absurd (omega (arith, w.0, is))
  at_answered (unsaid r cause faults (inr w)) is = absurd (omega (arith, w.0, is))

  -- a status other than 0, 4 and 7
  refused_at : Ends does before after old new result → result ≢ 0 → result ≢ 4 → result ≢ 7
      → (r : Refusal) × does.refuses r × FaultsAt r before after × (result ≡ status_of r) × Appends old.written new.written (error_bytes r)
  refused_at (whole text answers none (inl w)) not_zero not_four not_seven = absurd (not_zero w.0)
  refused_at (whole text answers none (inr w)) not_zero not_four not_seven = absurd (not_four w.0)
  refused_at (part text answers none (inl w)) not_zero not_four not_seven = absurd (not_seven w.0)
  refused_at (part text answers none (inr w)) not_zero not_four not_seven = absurd (not_four w.0)
  refused_at (refused r cause faults (inl w)) not_zero not_four not_seven = (r, cause, faults, w.0, w.1)
  refused_at (refused r cause faults (inr w)) not_zero not_four not_seven = absurd (not_four w.0)
  refused_at (unsaid r cause faults (inl w)) not_zero not_four not_seven = absurd (not_seven w.0)
  refused_at (unsaid r cause faults (inr w)) not_zero not_four not_seven = absurd (not_four w.0)

  -- 2, 5 and 6
  pub at_refused : Ends does before after old new result → Contains (2 ∷ 5 ∷ 6 ∷ []) result → TellsRefusal does old.written new.written result
  at_refused ends is =
      let no = finding_status result is in
      let w = refused_at ends no.0 no.2 no.3 in
      record {
        refusal = w.0;
        finding = is_finding w.0 (λ e. no.1 (w.3 ∙ e)) (λ e. no.3 (w.3 ∙ e));
        cause = w.1;
        status = w.3;
        line = w.4;
      }

  -- 3
  pub at_cannot_read : IsSound does → Ends does before after old new result → result ≡ 3
      → (file : List ℕ) × does.reads file × OnlyFailed before after file × Appends old.written new.written (error_bytes (CannotRead file))
  at_cannot_read sound ends is =
      let w = refused_at ends (λ h. omega (arith, h, is)) (λ h. omega (arith, h, is)) (λ h. omega (arith, h, is)) in
      let named = names_file w.0 (sym w.3 ∙ is) in (
        named.0,
        sound.reads named.0 (subst does.refuses named.1 w.1),
        subst (λ r. FaultsAt r before after) named.1 w.2,
        subst
            (λ r. Appends old.written new.written (error_bytes r)) named.1 w.4,
      )

  -- 4
  pub at_cannot_write : Ends does before after old new result → result ≡ 4
      → CountedOne old.faults new.faults × ((text : List ℕ) × IsTextOf does before after text × AppendsPrefix old.written new.written text)
  at_cannot_write (whole text answers none (inl w)) is = absurd (omega (arith, w.0, is))
  at_cannot_write (whole text answers none (inr w)) is = (w.2, (text, inl (answers, none), w.1))
  at_cannot_write (part text answers none (inl w)) is = absurd (omega (arith, w.0, is))
  at_cannot_write (part text answers none (inr w)) is = (w.2, (text, inr (inr (inr answers)), w.1))
  at_cannot_write (refused r cause faults (inl w)) is = absurd ((other_status r).1 (sym w.0 ∙ is))
  at_cannot_write (refused r cause faults (inr w)) is =
      (w.2, (error_bytes r, inr (inl (record { refusal = r; cause = cause; faults = faults; line = refl })), w.1))
  at_cannot_write (unsaid r cause faults (inl w)) is = absurd (omega (arith, w.0, is))
  at_cannot_write (unsaid r cause faults (inr w)) is = (w.2, (error_bytes OutOfMemory, inr (inr (inl refl)), w.1))

  -- any other status
  pub at_written : Ends does before after old new result → result ≢ 4 → new.faults ≡ old.faults
  at_written (whole text answers none (inl w)) not_four = w.2
  at_written (whole text answers none (inr w)) not_four = absurd (not_four w.0)
  at_written (part text answers none (inl w)) not_four = w.2
  at_written (part text answers none (inr w)) not_four = absurd (not_four w.0)
  at_written (refused r cause faults (inl w)) not_four = w.2
  at_written (refused r cause faults (inr w)) not_four = absurd (not_four w.0)
  at_written (unsaid r cause faults (inl w)) not_four = w.2
  at_written (unsaid r cause faults (inr w)) not_four = absurd (not_four w.0)

  -- 7
  pub at_memory : Ends does before after old new result → result ≡ 7 → WritesOne (IsMemoryText does) old.written new.written
  at_memory (whole text answers none (inl w)) is = absurd (omega (arith, w.0, is))
  at_memory (whole text answers none (inr w)) is = absurd (omega (arith, w.0, is))
  at_memory (part text answers none (inl w)) is = (text, inr answers, w.1)
  at_memory (part text answers none (inr w)) is = absurd (omega (arith, w.0, is))
  at_memory (refused r cause faults (inl w)) is =
      (error_bytes OutOfMemory, inl refl, subst (λ s. Appends old.written new.written (error_bytes s)) (is_memory r (sym w.0 ∙ is)) w.1)
  at_memory (refused r cause faults (inr w)) is = absurd (omega (arith, w.0, is))
  at_memory (unsaid r cause faults (inl w)) is = (error_bytes OutOfMemory, inl refl, w.1)
  at_memory (unsaid r cause faults (inr w)) is = absurd (omega (arith, w.0, is))

  -- there is no other status
  listed : (r : Refusal) → result ≡ status_of r → Contains statuses result
  listed Usage is = (1, lit< tt, sym is)
  listed (CannotRead file) is = (2, lit< tt, sym is)
  listed (Script fault) is = (4, lit< tt, sym is)
  listed (Table file fault) is = (5, lit< tt, sym is)
  listed OutOfMemory is = (6, lit< tt, sym is)

  pub at_status : Ends does before after old new result → Contains statuses result
  at_status (whole text answers none (inl w)) = (0, lit< tt, sym w.0)
  at_status (whole text answers none (inr w)) = (3, lit< tt, sym w.0)
  at_status (part text answers none (inl w)) = (6, lit< tt, sym w.0)
  at_status (part text answers none (inr w)) = (3, lit< tt, sym w.0)
  at_status (refused r cause faults (inl w)) = listed r w.0
  at_status (refused r cause faults (inr w)) = (3, lit< tt, sym w.0)
  at_status (unsaid r cause faults (inl w)) = (6, lit< tt, sym w.0)
  at_status (unsaid r cause faults (inr w)) = (3, lit< tt, sym w.0)

  -- 0, 2, 5 and 6
  quiet : Ends does before after old new result → result ≢ 3 → result ≢ 4 → result ≢ 7 → after ≡ before
  quiet (whole text answers none w) not_three not_four not_seven = none
  quiet (part text answers none w) not_three not_four not_seven = none
  quiet (refused r cause faults (inl w)) not_three not_four not_seven =
      finding_faults r before after (is_finding r (λ e. not_three (w.0 ∙ e)) (λ e. not_seven (w.0 ∙ e))) faults
  quiet (refused r cause faults (inr w)) not_three not_four not_seven = absurd (not_four w.0)
  quiet (unsaid r cause faults (inl w)) not_three not_four not_seven = absurd (not_seven w.0)
  quiet (unsaid r cause faults (inr w)) not_three not_four not_seven = absurd (not_four w.0)

  pub at_quiet : Ends does before after old new result → Contains (0 ∷ 2 ∷ 5 ∷ 6 ∷ []) result → after ≡ before
  at_quiet ends is = let no = quiet_status result is in quiet ends no.0 no.1 no.2

  -- any status
  at_any : IsSound does → (r : Refusal) → does.refuses r → FaultsAt r before after → OneFaultAtMost does.reads before after
  at_any sound r cause faults =
      OneFaultAtMost-at does.reads before after r faults (λ file is. sound.reads file (subst does.refuses is cause))

  pub faults_at_any : IsSound does → Ends does before after old new result → OneFaultAtMost does.reads before after
  faults_at_any sound (whole text answers none w) = inl none
  faults_at_any sound (part text answers none w) = inl none
  faults_at_any sound (refused r cause faults w) = at_any sound r cause faults
  faults_at_any sound (unsaid r cause faults w) = at_any sound r cause faults
