-- A worker that has made no moves.
use Rattle.std.proofs.Common.{◌≡◌, ℕ, ◌≤◌, List, [], Option, Some, None, sym, subst}
use Rattle.std.specs.Prelude.{reverse}
use Rattle.std.specs.Vec.{vec_capacity}
use Rattle.std.proofs.lemmas.List.Elements.{All-nil}
use Rattle.slot_history.specs.declared.act.Entry.{Entry}
use Rattle.report_text.specs.declared.replies.QueryReply.{QueryReply}
use Rattle.report_text.specs.declared.report.Record.{Record}
use Rattle.slot_station.specs.Desks.{Desk}
use Rattle.turn_model.specs.Workloads.{Workload, sets_of}
use Rattle.turn_model.specs.Told.{KeepsSlot, past_by, told_by}
use Rattle.turn_model.specs.declared.turn.Turn.{Turn}
use Rattle.worker_machine.specs.declared.kept.Core.{Core}
use Rattle.worker_machine.specs.declared.kept.Known.{Known}
use Rattle.worker_machine.specs.declared.phase.Phase.{Phase}
use Rattle.worker_machine.specs.declared.phase.Phase.TheVariants.{Ready}
use Rattle.turn_model.specs.Endings.{Beside, IsRecordAt, IsReplyAt, work_by}
use Rattle.turn_model.specs.Tellings.{AreShortOut}
use Rattle.worker_machine.specs.Telling.{Tells, given_up}
use Rattle.worker_machine.specs.Keeps.{IsUnknown, IsUntold, Knows, kept_of}

no-some : (o : Option ℕ) (n : ℕ) → o ≡ None → o ≡ Some n → ⊥
no-some o n none some = cc

slot-untold : (D : Desk Workload) (s : ℕ) (known : Known) → IsUnknown known → KeepsSlot D (past_by D []) s (kept_of known)
slot-untold D s known is = record {
  group = is.group;
  id = is.id;
  query = is.query;
  decay = λ q some. absurd (no-some known.query q is.query some);
  sizer = λ id some. absurd (no-some known.id id is.id some);
}

pub none-told : (D : Desk Workload) {core : Core} {turn : Turn} → IsUntold D.shape core → Knows D (told_by D []) core (Ready turn)
none-told D is = record {
  strides = is.strides;
  finished = is.finished;
  arrived = is.arrived;
  times = is.times;
  slots = λ s known got. slot-untold D s known (is.slots_are s known got);
}

-- it has nothing to tell
pub none-written : (D : Desk Workload) (h : List Entry) (core : Core) {phase : Phase} → core.replies.items ≡ [] → core.records.items ≡ []
    → D.shape.queries ≤ vec_capacity core.replies → sets_of D.shape D.subject ≤ vec_capacity core.records → Tells D h (work_by D []) core phase
none-written D h core {phase} replies records few less = record {
  reply_room = few;
  record_room = less;
  tells = λ room. record {
    replies = subst (λ (l : List QueryReply). Beside (IsReplyAt D.subject) (reverse l) []) (sym replies) tt;
    records = subst (λ (l : List Record). Beside (IsRecordAt D h) (reverse l) []) (sym records) tt;
    short = subst (AreShortOut core.replies.items (given_up phase)) (sym records) (All-nil _);
  };
}
