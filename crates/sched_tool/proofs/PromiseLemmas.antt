-- A command ends as it promises.
use Rattle.std.proofs.Common.{ℕ, List}
use Rattle.sched_tool.proofs.BehaviourLemmas.{AreConsistent, consistent, consistent_by, IsSound, sound, sound_by}
use Rattle.sched_tool.proofs.CommandLemmas.{at_answered, at_cannot_read, at_cannot_write, at_memory, at_quiet, at_refused, at_status, at_written}
use Rattle.sched_tool.proofs.CommandLemmas.{Ends, faults_at_any, refused}
use Rattle.sched_tool.proofs.CompletenessLemmas.{accepted_ends, refused_ends}
use Rattle.sched_tool.proofs.OutsideLemmas.{Agree, Agree-swap, known-possible}
use Rattle.pool_run.specs.declared.threads.ThreadRan.{ThreadRan}
use Rattle.sched_tool.specs.Behaviours.{Behaviour}
use Rattle.sched_tool.specs.Commands.{behaviour_by, behaviour_of}
use Rattle.sched_tool.specs.Promises.{EndsRightly}
use Rattle.sched_tool.specs.Outsides.{known, Outside, possible}
use Rattle.sched_tool.specs.Words.{Meaning}
use Rattle.sched_tool.specs.Writing.{SinkState}
use Rattle.std.specs.Prelude.{Option}

module _ (before after : List (List ℕ)) (old new : SinkState) (result : ℕ) where
  -- how a command ended says all that it promises
  ends_as : (may sure : Behaviour) → IsSound may → AreConsistent sure may → AreConsistent may sure → Ends may before after old new result
      → EndsRightly may sure before after old new result
  ends_as may sure laws same back ended = record {
    answered = at_answered may before after old new result ended;
    refused = at_refused may before after old new result ended;
    cannot_read = at_cannot_read may before after old new result laws ended;
    cannot_write = at_cannot_write may before after old new result ended;
    memory = at_memory may before after old new result ended;
    listed = at_status may before after old new result ended;
    no_write_fault = at_written may before after old new result ended;
    no_read_fault = at_quiet may before after old new result ended;
    read_faults = faults_at_any may before after old new result laws ended;
    accepted = accepted_ends sure may laws same back before after old new result ended;
    found = refused_ends sure may laws same back before after old new result ended;
  }

  module _ (content : List ℕ → Option (List ℕ)) (times : ℕ → ℕ → ℕ → Type 0) where
    agree : Agree (known content times) (possible content times)
    agree = known-possible content times

    back : Agree (possible content times) (known content times)
    back = Agree-swap _ _ agree

    -- `command` ends as it promises
    pub ends_rightly : (meaning : Option Meaning) → Ends (behaviour_of (possible content times) meaning) before after old new result
        → EndsRightly (behaviour_of (possible content times) meaning) (behaviour_of (known content times) meaning) before after old new result
    ends_rightly meaning =
        ends_as _ _ (sound (possible content times) meaning) (consistent _ _ agree meaning) (consistent _ _ back meaning)

    -- `command_run` ends as it promises
    pub run_ends_rightly : (ran : Option ThreadRan) (meaning : Option Meaning)
        → Ends (behaviour_by (possible content times) ran meaning) before after old new result
        → EndsRightly (behaviour_by (possible content times) ran meaning) (behaviour_by (known content times) ran meaning) before after old new result
    run_ends_rightly ran meaning =
        ends_as _ _ (sound_by (possible content times) ran meaning) (consistent_by _ _ agree ran meaning) (consistent_by _ _ back ran meaning)
