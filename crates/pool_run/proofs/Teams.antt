-- A team after the steps of one of its workers.
use Rattle.std.proofs.Common.{◌≡◌, ◌≢◌, ◌⊎◌, inl, inr, ℕ, ◌+◌, ◌<◌, List, [], ◌∷◌, ◌++◌}
use Rattle.std.proofs.Common.{length, get_or, slice_get, slice_set, Some, unwrap_or, true, refl, sym, ap, ◌∙◌, subst, arith}
use native.Mathlib.Decide.{ℕ_discrete}
use Rattle.std.proofs.lemmas.List.{length-set, length-append, get_or_push, get_or_append_left}
use Rattle.std.proofs.Math.Seq.{get_or-append_seam}
use Rattle.std.proofs.lemmas.Option.{slice_get-get_or, slice_get_read, slice_get_within}
use Rattle.slot_station.proofs.Lists.{get-set_same, get-set_other}
use Rattle.slot_history.specs.declared.shape.Shape.{Shape}
use Rattle.one_thread.specs.Tables.{TableStory}
use Rattle.one_thread.specs.Seats.{desk_over}
use Rattle.bench_cell.specs.declared.plan.Plan.{Plan}
use Rattle.worker_machine.specs.declared.state.Worker.{Worker}
use Rattle.worker_machine.specs.Following.{Follows, IsNewFor}
use Rattle.worker_machine.specs.Left.{is_ready}
use Rattle.pool_run.specs.Scenes.{Scene, scene, AreNew, FollowsIn, IsBetween, NoneTurnsBelow, Since, StaysBetween, TeamFollows}
use Rattle.pool_run.proofs.SeatViews.{shown-since}

pub some-same : {A : Type 0} (x y : A) → Some x ≡ Some y → x ≡ y
some-same x y e = ap (λ o. unwrap_or o x) e

-- what holds of each worker of a team, by its number, holds after one of them was replaced
pub each-set : (team : List Worker) (w : ℕ) (x : Worker) (P : ℕ → Worker → Type 0) → w < length team → P w x
    → ((v : ℕ) (y : Worker) → v ≢ w → slice_get team v ≡ Some y → P v y)
    → (v : ℕ) (y : Worker) → slice_get (slice_set team w x) v ≡ Some y → P v y
each-set team w x P low here others v y got = at (ℕ_discrete v w) where
  at : Dec (v ≡ w) → P v y
  at (yes e) =
      let same : x ≡ y = some-same x y (sym (get-set_same team w x low) ∙ ap (slice_get (slice_set team w x)) (sym e) ∙ got) in
      subst (λ k. P k y) (sym e) (subst (P w) same here)
  at (no n) = others v y n (sym (get-set_other team w v x n) ∙ got)

module _ {old new : TableStory Plan} {w : ℕ} (s : Since old new w) (team : List Worker) (x : Worker) where
  pub team-follows : w < old.shape.workers → TeamFollows (scene old team) → FollowsIn new w x → TeamFollows (scene new (slice_set team w x))
  team-follows low was own = record {
    count = length-set team w x ∙ was.count ∙ ap (λ (d : Shape). d.workers) (sym s.shape);
    each = each-set team w x (FollowsIn new) (subst (λ n. w < n) (sym was.count) low) own
        (λ v y other got. subst (Follows y) (sym (shown-since s v other)) (was.each v y got));
  }

-- the worker that is read at a number of the table
pub read-at : {at : Scene} → TeamFollows at → {w : ℕ} → w < at.table.shape.workers → (x : Worker) → x ≡ get_or at.team w x
    → slice_get at.team w ≡ Some x
read-at {at} follows {w} low x is = slice_get_read at.team at.table.shape.workers w x (sym follows.count) low is

-- and read again
pub read-same : {at : Scene} → TeamFollows at → {w : ℕ} → w < at.table.shape.workers → (P : Worker → Type 0) (x y : Worker)
    → x ≡ get_or at.team w x → y ≡ get_or at.team w y → P x → P y
read-same follows low P x y first again p = subst P (some-same x y (sym (read-at follows low x first) ∙ read-at follows low y again)) p

-- whoever had no turn under way has none after steps of a worker that ended its turn
pub stays-between : (team : List Worker) (w : ℕ) (x : Worker) → w < length team → is_ready x.phase ≡ true → StaysBetween w team (slice_set team w x)
stays-between team w x low ready v was y here =
    each-set team w x (λ u z. (u ≡ w) ⊎ IsBetween team u → is_ready z.phase ≡ true) low (λ _. ready) ends v y here was where
      ends : (u : ℕ) (z : Worker) → u ≢ w → slice_get team u ≡ Some z → (u ≡ w) ⊎ IsBetween team u → is_ready z.phase ≡ true
      ends u z other got (inl e) = absurd (other e)
      ends u z other got (inr between) = between z got

-- and if nothing happens to a worker that has none
pub stays-still : (team : List Worker) (w : ℕ) (x : Worker) → slice_get team w ≡ Some x → is_ready x.phase ≡ true → StaysBetween w team team
stays-still team w x at ready v (inl e) y here =
    subst (λ (z : Worker). is_ready z.phase ≡ true) (some-same x y (sym at ∙ ap (slice_get team) (sym e) ∙ here)) ready
stays-still team w x at ready v (inr was) y here = was y here

-- one worker more
pub none-more : (old new : List Worker) (w : ℕ) → StaysBetween w old new → NoneTurnsBelow w old → NoneTurnsBelow (w + 1) new
none-more old new w stays none v low = at (ℕ_discrete v w) where
  at : Dec (v ≡ w) → IsBetween new v
  at (yes e) = stays v (inl e)
  at (no n) = stays v (inr (none v (omega arith)))

-- ---- new workers

slice_get-push_last : {A : Type 0} (xs : List A) (x : A) (n : ℕ) → length xs ≡ n → slice_get (xs ++ x ∷ []) n ≡ Some x
slice_get-push_last xs x n count =
    let low : n < length (xs ++ x ∷ []) = (let long : length (xs ++ x ∷ []) ≡ length xs + 1 = length-append xs (x ∷ []) in omega arith) in
    slice_get-get_or (xs ++ x ∷ []) n x low ∙ ap Some (get_or_push xs x x n count)

slice_get-push_before : {A : Type 0} (xs : List A) (x : A) (k : ℕ) → k < length xs → slice_get (xs ++ x ∷ []) k ≡ slice_get xs k
slice_get-push_before xs x k low =
    let more : k < length (xs ++ x ∷ []) = (let long : length (xs ++ x ∷ []) ≡ length xs + 1 = length-append xs (x ∷ []) in omega arith) in
    slice_get-get_or (xs ++ x ∷ []) k x more ∙ ap Some (get_or_append_left xs (x ∷ []) x k low) ∙ sym (slice_get-get_or xs k x low)

pub new-none : (table : TableStory Plan) → AreNew table 0 []
new-none table = record { count = refl; each = λ w x here. absurd (cc) }

-- one more
pub new-more : (table : TableStory Plan) (n : ℕ) (team : List Worker) (x : Worker) → AreNew table n team → IsNewFor (desk_over table n) x
    → AreNew table (n + 1) (team ++ x ∷ [])
new-more table n team x was new = record {
  count = length-append team (x ∷ []) ∙ ap (λ k. k + 1) was.count;
  each = λ w y here. at w y here (ℕ_discrete w n);
} where
  at : (w : ℕ) (y : Worker) → slice_get (team ++ x ∷ []) w ≡ Some y → Dec (w ≡ n) → IsNewFor (desk_over table w) y
  at w y here (yes e) =
      let same : x ≡ y = some-same x y (sym (slice_get-push_last team x n was.count) ∙ ap (slice_get (team ++ x ∷ [])) (sym e) ∙ here) in
      subst (λ k. IsNewFor (desk_over table k) y) (sym e) (subst (IsNewFor (desk_over table n)) same new)
  at w y here (no ne) =
      let low : w < length (team ++ x ∷ []) = slice_get_within (team ++ x ∷ []) w y here in
      let long : length (team ++ x ∷ []) ≡ length team + 1 = length-append team (x ∷ []) in
      let count : length team ≡ n = was.count in
      let before : w < length team = omega arith in
      was.each w y (sym (slice_get-push_before team x w before) ∙ here)

pub slice_get-seam : {A : Type 0} (xs : List A) (y : A) (ys : List A) → slice_get (xs ++ y ∷ ys) (length xs) ≡ Some y
slice_get-seam xs y ys =
    let low : length xs < length (xs ++ y ∷ ys) = (let long : length (xs ++ y ∷ ys) ≡ length xs + length (y ∷ ys) = length-append xs (y ∷ ys) in omega arith) in
    slice_get-get_or (xs ++ y ∷ ys) (length xs) y low ∙ ap Some (get_or-append_seam xs y ys y)
