-- If no count of faults rose, what the files are known to hold decides how a command ends.
use Rattle.std.proofs.Common.{◌≡◌, ◌⊎◌, ℕ, List, ap, inl, inr, refl, subst, ◌∙◌}
use Rattle.std.specs.Io.KnownBytes.{Appends}
use Rattle.sched_tool.proofs.BehaviourLemmas.{AreConsistent, IsSound}
use Rattle.sched_tool.proofs.CommandLemmas.{Ends, part, refused, unsaid, whole}
use Rattle.sched_tool.proofs.FaultLemmas.{CountRose-one, NameFailed-added}
use Rattle.sched_tool.specs.Behaviours.{Behaviour}
use Rattle.sched_tool.specs.ErrorLines.{error_bytes}
use Rattle.sched_tool.specs.ReadFaults.{FaultsAt, NoCountRose}
use Rattle.sched_tool.specs.Statuses.{status_of}
use Rattle.sched_tool.specs.Writing.{IsFinding, SinkState, WritesOne}
use Rattle.sched_tool.specs.declared.program.refusal.Refusal.{Refusal}
use Rattle.sched_tool.specs.declared.program.refusal.Refusal.TheVariants.{Usage, CannotRead, Script, Table, OutOfMemory}

-- what a command does by what the files are known to hold, `known`, and by what they may hold, `may`
module _ (known may : Behaviour) (sound : IsSound may) (same : AreConsistent known may) (back : AreConsistent may known) (before after : List (List ℕ))
    (old new : SinkState) (result : ℕ) where
  -- a refusal of an accepted command is that memory ran out
  only_memory : known.accepts → NoCountRose may.reads before after old.faults new.faults → (r : Refusal) → may.refuses r
      → FaultsAt r before after → status_of r ≡ 7
  only_memory accepts none Usage cause faults = absurd (same.apart accepts Usage tt cause)
  only_memory accepts none (CannotRead file) cause faults = absurd (none.files file (sound.reads file cause) (NameFailed-added before after file faults))
  only_memory accepts none (Script fault) cause faults = absurd (same.apart accepts (Script fault) tt cause)
  only_memory accepts none (Table file fault) cause faults = absurd (same.apart accepts (Table file fault) tt cause)
  only_memory accepts none OutOfMemory cause faults = refl

  -- an accepted command is answered, unless memory ran out
  pub accepted_ends : Ends may before after old new result → NoCountRose may.reads before after old.faults new.faults → known.accepts
      → ((result ≡ 0) × WritesOne known.answers old.written new.written) ⊎ (result ≡ 7)
  accepted_ends (whole text answers quiet (inl w)) none accepts = inl (w.0, (text, same.one accepts text answers, w.1))
  accepted_ends (whole text answers quiet (inr w)) none accepts = absurd (none.sink (CountRose-one old.faults new.faults w.2))
  accepted_ends (part text answers quiet (inl w)) none accepts = inr w.0
  accepted_ends (part text answers quiet (inr w)) none accepts = absurd (none.sink (CountRose-one old.faults new.faults w.2))
  accepted_ends (refused r cause faults (inl w)) none accepts = inr (w.0 ∙ only_memory accepts none r cause faults)
  accepted_ends (refused r cause faults (inr w)) none accepts = absurd (none.sink (CountRose-one old.faults new.faults w.2))
  accepted_ends (unsaid r cause faults (inl w)) none accepts = inr w.0
  accepted_ends (unsaid r cause faults (inr w)) none accepts = absurd (none.sink (CountRose-one old.faults new.faults w.2))

  -- a refusal of a command is the one that its files are known for, unless memory ran out
  only_refusal : NoCountRose may.reads before after old.faults new.faults → (r s : Refusal) → may.refuses r → FaultsAt r before after → IsFinding s
      → known.refuses s → (r ≡ s) ⊎ (status_of r ≡ 7)
  only_refusal none Usage s cause faults finding found = inl (back.only Usage s tt finding cause found)
  only_refusal none (CannotRead file) s cause faults finding found = absurd
      (none.files file (sound.reads file cause) (NameFailed-added before after file faults))
  only_refusal none (Script fault) s cause faults finding found = inl (back.only (Script fault) s tt finding cause found)
  only_refusal none (Table file fault) s cause faults finding found = inl
      (back.only (Table file fault) s tt finding cause found)
  only_refusal none OutOfMemory s cause faults finding found = inr refl

  ends_as : (r s : Refusal) → result ≡ status_of r → Appends old.written new.written (error_bytes r) → (r ≡ s) ⊎ (status_of r ≡ 7)
      → ((result ≡ status_of s) × Appends old.written new.written (error_bytes s)) ⊎ (result ≡ 7)
  ends_as r s is line (inl same) = inl (is ∙ ap status_of same, subst (λ v. Appends old.written new.written (error_bytes v)) same line)
  ends_as r s is line (inr seven) = inr (is ∙ seven)

  -- a refused command ends with its refusal, unless memory ran out
  pub refused_ends : Ends may before after old new result → NoCountRose may.reads before after old.faults new.faults → (s : Refusal) → IsFinding s
      → known.refuses s → ((result ≡ status_of s) × Appends old.written new.written (error_bytes s)) ⊎ (result ≡ 7)
  refused_ends (whole text answers quiet w) none s finding found =
      absurd (back.apart (sound.accepted text answers) s finding found)
  refused_ends (part text answers quiet (inl w)) none s finding found = inr w.0
  refused_ends (part text answers quiet (inr w)) none s finding found = absurd (none.sink (CountRose-one old.faults new.faults w.2))
  refused_ends (refused r cause faults (inl w)) none s finding found = ends_as r s w.0 w.1 (only_refusal none r s cause faults finding found)
  refused_ends (refused r cause faults (inr w)) none s finding found = absurd (none.sink (CountRose-one old.faults new.faults w.2))
  refused_ends (unsaid r cause faults (inl w)) none s finding found = inr w.0
  refused_ends (unsaid r cause faults (inr w)) none s finding found = absurd (none.sink (CountRose-one old.faults new.faults w.2))
