-- A worker over its seat, and over the table.
use Rattle.std.proofs.Common.{◌≡◌, ◌≢◌, ℕ, List, sym, ap, ap₂, ◌∙◌, subst}
use Rattle.std.proofs.Math.Logic.{∥∥₁_elim}
use Rattle.std.proofs.Props.{props}
use mathlib.Core.Path.{fun_ext}
use Rattle.slot_history.specs.declared.act.Entry.{Entry}
use Rattle.slot_station.specs.declared.log.Logged.{Logged}
use Rattle.slot_station.specs.declared.note.Note.{Note}
use Rattle.slot_station.specs.Desks.{Desk, Seen}
use Rattle.slot_station.specs.Log.{calls_of, note_in}
use Rattle.one_thread.specs.Tables.{TableStory}
use Rattle.one_thread.specs.Seats.{SeatOrigin, desk_over, seen_by, trail_in}
use Rattle.one_thread.proofs.Others.{others-stay}
use Rattle.bench_cell.specs.declared.plan.Plan.{Plan}
use Rattle.worker_machine.specs.declared.state.Worker.{Worker}
use Rattle.worker_machine.specs.Following.{Follows}
use Rattle.worker_machine.specs.Keeps.{Standing}
use Rattle.worker_machine.specs.Turning.{standing_of}
use Rattle.pool_run.specs.Scenes.{shown, FollowsIn, Since, stands_in}
use Rattle.pool_run.proofs.Elsewhere.{follows-elsewhere}

-- what a seat shows, by what is borrowed, over a table with this log
abbrev pub seat_shows : SeatOrigin Plan → List Logged → Seen (SeatOrigin Plan) Plan
seat_shows origin log = seen_by origin (desk_over origin.start origin.worker) log

-- the desk and the log of a seat are those of the table
pub record IsOver (origin : SeatOrigin Plan) (log : List Logged) (table : TableStory Plan) (w : ℕ) : Type 0 where
  pub desk : desk_over origin.start origin.worker ≡ desk_over table w
  pub log_is : log ≡ table.log

abbrev bare : {O : Type 0} → O → Desk Plan → List Entry → (ℕ → Note) → Seen O Plan
bare origin desk trail notes = record { origin = origin; desk = desk; trail = trail; notes = notes }

module _ {origin : SeatOrigin Plan} {log : List Logged} {table : TableStory Plan} {w : ℕ} (over : IsOver origin log table w) where
  shows-same : seat_shows origin log ≡ seen_by origin (desk_over table w) table.log
  shows-same = ap₂ (λ d l. seen_by origin d l) over.desk over.log_is

  -- a worker follows its seat if it follows the table
  pub follows-seat : (x : Worker) → FollowsIn table w x → Follows x (seat_shows origin log)
  follows-seat x f = subst (Follows x) (sym shows-same) (follows-elsewhere (shown table w) origin x.core x.phase f)

  -- and the other way round
  pub follows-table : (x : Worker) → Follows x (seat_shows origin log) → FollowsIn table w x
  follows-table x f = follows-elsewhere (seen_by origin (desk_over table w) table.log) tt x.core x.phase (subst (Follows x) shows-same f)

  pub stands-same : (x : Worker) → standing_of x (seat_shows origin log) ≡ stands_in table w x
  stands-same x = ap (λ (s : Seen (SeatOrigin Plan) Plan). standing_of x s) shows-same

-- a seat that was just made, and one after calls of it, at the table as it is then
pub over-before : {origin : SeatOrigin Plan} {now : TableStory Plan} (table : TableStory Plan) (w : ℕ) → origin.start ≡ table → origin.worker ≡ w
    → now ≡ table → IsOver origin now.log table w
over-before table w start worker is = record { desk = ap₂ desk_over start worker; log_is = ap (λ (t : TableStory Plan). t.log) is }

pub over-after : {origin : SeatOrigin Plan} {now table : TableStory Plan} (start : TableStory Plan) (v w : ℕ) → table ≡ now → now.shape ≡ origin.start.shape
    → now.subject ≡ origin.start.subject → desk_over origin.start origin.worker ≡ desk_over start v → v ≡ w → IsOver origin now.log table w
over-after {origin} {now} {table} start v w is shape subject same mine =
    let who : origin.worker ≡ w = ap (λ (D : Desk Plan). D.worker) same ∙ mine in
    let over : desk_over origin.start origin.worker ≡ desk_over now w =
    ap₂ (λ d s. record { worker = origin.worker; shape = d; subject = s }) (sym shape) (sym subject) ∙ ap (desk_over now) who in
    record {
      desk = subst (λ (t : TableStory Plan). desk_over origin.start origin.worker ≡ desk_over t w) (sym is) over;
      log_is = ap (λ (t : TableStory Plan). t.log) (sym is);
    }

-- what holds from where a worker stood to where it stands, by the seat and by the table
pub both-same : (P : Standing → Standing → Type 0) {origin origin' : SeatOrigin Plan} {log log' : List Logged} {table table' : TableStory Plan}
    {w : ℕ} (x y : Worker) → IsOver origin log table w → IsOver origin' log' table' w
    → P (standing_of x (seat_shows origin log)) (standing_of y (seat_shows origin' log')) → P (stands_in table w x) (stands_in table' w y)
both-same P {origin' = origin'} {log' = log'} {table = table} {w = w} x y before after h =
    subst (P (stands_in table w x)) (stands-same after y) (subst (λ s. P s (standing_of y (seat_shows origin' log'))) (stands-same before x) h)

pub desk-since : {old new : TableStory Plan} {w : ℕ} → Since old new w → (v : ℕ) → desk_over new v ≡ desk_over old v
desk-since s v = ap₂ (λ d u. record { worker = v; shape = d; subject = u }) s.shape s.subject

trail-since : {old new : TableStory Plan} {w : ℕ} → Since old new w → (v : ℕ) → v ≢ w → trail_in v (calls_of new.log) ≡ trail_in v (calls_of old.log)
trail-since {old} {new} {w} s v other = ∥∥₁_elim s.since (hlevel props) (λ h. (others-stay old new w h v other).trail)

note-since : {old new : TableStory Plan} {w : ℕ} → Since old new w → (v : ℕ) → v ≢ w → (u : ℕ) → note_in new.log v u ≡ note_in old.log v u
note-since {old} {new} {w} s v other u = ∥∥₁_elim s.since (hlevel props) (λ h. (others-stay old new w h v other).notes u)

pub shown-since : {old new : TableStory Plan} {w : ℕ} → Since old new w → (v : ℕ) → v ≢ w → shown new v ≡ shown old v
shown-since {old} {new} {w} s v other =
    let notes : note_in new.log v ≡ note_in old.log v = fun_ext (note-since s v other) in
    ap₂ (λ d t. bare tt d t (note_in new.log v)) (desk-since s v) (trail-since s v other)
    ∙ ap (bare tt (desk_over old v) (trail_in v (calls_of old.log))) notes
