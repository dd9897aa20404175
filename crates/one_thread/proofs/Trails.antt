-- What the trail of a worker of a one-thread form says of the history.
use Rattle.std.proofs.Common.{◌≡◌, ◌≢◌, ℕ, cond, List, [], ◌∷◌, ◌++◌, refl, sym, ap, ◌∙◌, eq-eqb, ne_eqb}
use native.Mathlib.Decide.{ℕ_discrete}
use Rattle.slot_history.specs.declared.shape.Shape.{Shape}
use Rattle.slot_history.specs.declared.act.Entry.{Entry}
use Rattle.slot_history.specs.Histories.{Begins, own_calls, place_of}
use Rattle.slot_history.proofs.Own.{own-other, place-own}
use Rattle.one_thread.specs.Seats.{trail_in}

trail-mine : (e : Entry) (h : List Entry) (w : ℕ) → w ≡ e.worker → trail_in w (e ∷ h) ≡ e ∷ h
trail-mine e h w same = ap (λ b. cond b (e ∷ h) (trail_in w h)) (eq-eqb w e.worker same)

pub trail-other : (e : Entry) (h : List Entry) (w : ℕ) → w ≢ e.worker → trail_in w (e ∷ h) ≡ trail_in w h
trail-other e h w other = ap (λ b. cond b (e ∷ h) (trail_in w h)) (ne_eqb w e.worker other)

own-trail-step : (w : ℕ) (e : Entry) (es : List Entry) → own_calls w (trail_in w es) ≡ own_calls w es → Dec (w ≡ e.worker)
    → own_calls w (trail_in w (e ∷ es)) ≡ own_calls w (e ∷ es)
own-trail-step w e es ih (yes same) = ap (own_calls w) (trail-mine e es w same)
own-trail-step w e es ih (no other) = ap (own_calls w) (trail-other e es w other) ∙ ih ∙ sym (own-other e es w other)

-- the trail has all calls of its worker
pub own-trail : (w : ℕ) (h : List Entry) → own_calls w (trail_in w h) ≡ own_calls w h
own-trail w [] = refl
own-trail w (e ∷ es) = own-trail-step w e es (own-trail w es) (ℕ_discrete w e.worker)

-- and so gives its place
pub place-trail : (d : Shape) (w : ℕ) (h : List Entry) → place_of d (trail_in w h) w ≡ place_of d h w
place-trail d w h = place-own d w (trail_in w h) ∙ ap (λ k. place_of d k w) (own-trail w h) ∙ sym (place-own d w h)

-- the trail is a beginning of the history
begins-step : (w : ℕ) (e : Entry) (es : List Entry) → Begins es (trail_in w es) → Dec (w ≡ e.worker) → Begins (e ∷ es) (trail_in w (e ∷ es))
begins-step w e es ih (yes same) = ([], sym (ap (λ b. cond b (e ∷ es) (trail_in w es)) (eq-eqb w e.worker same)))
begins-step w e es ih (no other) = (
  e ∷ ih.0,
  ap (λ l. e ∷ l) ih.1 ∙ ap (λ l. (e ∷ ih.0) ++ l)
      (sym (ap (λ b. cond b (e ∷ es) (trail_in w es)) (ne_eqb w e.worker other))),
)

pub begins : (w : ℕ) (h : List Entry) → Begins h (trail_in w h)
begins w [] = ([], refl)
begins w (e ∷ es) = begins-step w e es (begins w es) (ℕ_discrete w e.worker)
