-- A worker's place, with the numbers of its tokens, its claims and its notice records are given by its own entries
-- alone: no call of another worker changes them.
use Rattle.std.proofs.Common.{◌≡◌, ◌≢◌, ℕ, cond, eqb, List, [], ◌∷◌, refl, sym, ap, ap₂, ◌∙◌, subst}
use Rattle.std.proofs.Common.{eq-eqb, ne_eqb}
use native.Mathlib.Decide.{ℕ_discrete}
use Rattle.slot_history.specs.declared.shape.Shape.{Shape}
use Rattle.slot_history.specs.declared.act.Act.{Act}
use Rattle.slot_history.specs.declared.act.Entry.{Entry}
use Rattle.slot_history.specs.declared.place.Place.{Place}
use Rattle.slot_history.specs.Steps.{moved, state_after}
use Rattle.slot_history.specs.Histories.{IsLegal, entry, own_calls, place_of, ranges_after}
use Rattle.slot_history.specs.Histories.{ranges_of, own_record, own_record_after}
use Rattle.slot_history.specs.Laws.{OwnEntries, CallsGoOn}
use Rattle.slot_history.proofs.Sets.{upd-else}

-- a choice by whether a worker made the call
module _ {A : Type 0} (w u : ℕ) (x y : A) where
  by-mine : w ≡ u → cond (eqb w u) x y ≡ x
  by-mine same = ap (λ b. cond b x y) (eq-eqb w u same)

  by-other : w ≢ u → cond (eqb w u) x y ≡ y
  by-other differs = ap (λ b. cond b x y) (ne_eqb w u differs)

pub own-mine : (e : Entry) (h : List Entry) (w : ℕ) → w ≡ e.worker → own_calls w (e ∷ h) ≡ e ∷ own_calls w h
own-mine e h w same = by-mine w e.worker (e ∷ own_calls w h) (own_calls w h) same

pub own-other : (e : Entry) (h : List Entry) (w : ℕ) → w ≢ e.worker → own_calls w (e ∷ h) ≡ own_calls w h
own-other e h w other = by-other w e.worker (e ∷ own_calls w h) (own_calls w h) other

-- after a call: the place of its worker, and the places of others
pub place-mine : (d : Shape) (e : Entry) (h : List Entry) (w : ℕ) → w ≡ e.worker → place_of d (e ∷ h) w ≡ moved d e.act (place_of d h w)
place-mine d e h w same = ap (λ b. cond b (moved d e.act (place_of d h e.worker)) (place_of d h w)) (eq-eqb w e.worker same) ∙ ap
    (λ u. moved d e.act (place_of d h u)) (sym same)

pub place-other : (d : Shape) (e : Entry) (h : List Entry) (w : ℕ) → w ≢ e.worker → place_of d (e ∷ h) w ≡ place_of d h w
place-other d e h w other = upd-else (state_after d h).places e.worker _ w other

place-own-step : (d : Shape) (w : ℕ) (e : Entry) (es : List Entry) → place_of d es w ≡ place_of d (own_calls w es) w → Dec (w ≡ e.worker)
    → place_of d (e ∷ es) w ≡ place_of d (own_calls w (e ∷ es)) w
place-own-step d w e es ih (yes same) = place-mine d e es w same ∙ ap (moved d e.act) ih
    ∙ sym (ap (λ h. place_of d h w) (own-mine e es w same) ∙ place-mine d e (own_calls w es) w same)
place-own-step d w e es ih (no other) = place-other d e es w other ∙ ih ∙ sym (ap (λ h. place_of d h w) (own-other e es w other))

pub place-own : (d : Shape) (w : ℕ) (h : List Entry) → place_of d h w ≡ place_of d (own_calls w h) w
place-own d w [] = refl
place-own d w (e ∷ es) = place-own-step d w e es (place-own d w es) (ℕ_discrete w e.worker)

-- f changes by calls of w alone, by its place: after such a call, after a call of another, and that w's own calls give it
pub record IsByOwn {A : Type 0} (d : Shape) (w : ℕ) (f : List Entry → A) (after : Act → Place → A → A) : Type 0 where
  pub mine : (e : Entry) (h : List Entry) → w ≡ e.worker → f (e ∷ h) ≡ after e.act (place_of d h w) (f h)
  pub other : (e : Entry) (h : List Entry) → w ≢ e.worker → f (e ∷ h) ≡ f h
  pub own : (h : List Entry) → f h ≡ f (own_calls w h)

module _ {A : Type 0} (d : Shape) (w : ℕ) (f : List Entry → A) (after : Act → Place → A → A)
    (step : (e : Entry) (h : List Entry) → f (e ∷ h) ≡ cond (eqb w e.worker) (after e.act (place_of d h w) (f h)) (f h)) where
  by-mine-step : (e : Entry) (h : List Entry) → w ≡ e.worker → f (e ∷ h) ≡ after e.act (place_of d h w) (f h)
  by-mine-step e h same = step e h ∙ by-mine w e.worker (after e.act (place_of d h w) (f h)) (f h) same

  by-other-step : (e : Entry) (h : List Entry) → w ≢ e.worker → f (e ∷ h) ≡ f h
  by-other-step e h differs = step e h ∙ by-other w e.worker (after e.act (place_of d h w) (f h)) (f h) differs

  own-step : (e : Entry) (es : List Entry) → f es ≡ f (own_calls w es) → Dec (w ≡ e.worker) → f (e ∷ es) ≡ f (own_calls w (e ∷ es))
  own-step e es ih (yes same) = by-mine-step e es same ∙ ap₂ (after e.act) (place-own d w es) ih
      ∙ sym (ap f (own-mine e es w same) ∙ by-mine-step e (own_calls w es) same)
  own-step e es ih (no differs) = by-other-step e es differs ∙ ih ∙ sym (ap f (own-other e es w differs))

  by-own-calls : (h : List Entry) → f h ≡ f (own_calls w h)
  by-own-calls [] = refl
  by-own-calls (e ∷ es) = own-step e es (by-own-calls es) (ℕ_discrete w e.worker)

  by-own : IsByOwn d w f after
  by-own = record { mine = by-mine-step; other = by-other-step; own = by-own-calls }

-- so are the ranges and the notice records of a worker
pub ranges-by-own : (d : Shape) (w id : ℕ) → IsByOwn d w (ranges_of d w id) (λ a p rs. ranges_after a p id rs)
ranges-by-own d w id = by-own d w (ranges_of d w id) (λ a p rs. ranges_after a p id rs) (λ e h. refl)

pub record-by-own : (d : Shape) (w s : ℕ) → IsByOwn d w (own_record d w s) (λ a p r. own_record_after a p s r)
record-by-own d w s = by-own d w (own_record d w s) (λ a p r. own_record_after a p s r) (λ e h. refl)

pub ranges-mine : (d : Shape) (w id : ℕ) (e : Entry) (h : List Entry) → w ≡ e.worker
    → ranges_of d w id (e ∷ h) ≡ ranges_after e.act (place_of d h w) id (ranges_of d w id h)
ranges-mine d w id = (ranges-by-own d w id).mine

pub ranges-other : (d : Shape) (w id : ℕ) (e : Entry) (h : List Entry) → w ≢ e.worker → ranges_of d w id (e ∷ h) ≡ ranges_of d w id h
ranges-other d w id = (ranges-by-own d w id).other

pub ranges-own : (d : Shape) (w id : ℕ) (h : List Entry) → ranges_of d w id h ≡ ranges_of d w id (own_calls w h)
ranges-own d w id = (ranges-by-own d w id).own

pub own-entries : (d : Shape) (h : List Entry) → OwnEntries d h
own-entries d h w = record { place = place-own d w h; ranges = λ id. ranges-own d w id h; records = λ s. (record-by-own d w s).own h }

-- ---- after a call, by the clause of every call

-- what the call found is at the place that the worker's own trail gave
pub found-place : (d : Shape) (w : ℕ) (old h : List Entry) → own_calls w h ≡ own_calls w old → place_of d h w ≡ place_of d old w
found-place d w old h same = place-own d w h ∙ ap (λ l. place_of d l w) same ∙ sym (place-own d w old)

found : {A : Type 0} {f : List Entry → A} {after : Act → Place → A → A} (d : Shape) (w : ℕ) → IsByOwn d w f after → (old h : List Entry)
    → own_calls w h ≡ own_calls w old → f h ≡ f old
found {f = f} d w by old h same = by.own h ∙ ap f same ∙ sym (by.own old)

pub found-ranges : (d : Shape) (w id : ℕ) (old h : List Entry) → own_calls w h ≡ own_calls w old → ranges_of d w id h ≡ ranges_of d w id old
found-ranges d w id old h same = found d w (ranges-by-own d w id) old h same

pub found-record : (d : Shape) (w s : ℕ) (old h : List Entry) → own_calls w h ≡ own_calls w old → own_record d w s h ≡ own_record d w s old
found-record d w s old h same = found d w (record-by-own d w s) old h same

pub calls-go-on : CallsGoOn
calls-go-on d w a old new (h, is, begins, same, legal) =
    let at : place_of d h w ≡ place_of d old w = found-place d w old h same in
    let before : IsLegal d (entry w a ∷ h) = subst (IsLegal d) is legal in
    record {
      place = ap (λ l. place_of d l w) is ∙ place-mine d (entry w a) h w refl ∙ ap (moved d a) at;
      ranges = λ id. ap (ranges_of d w id) is ∙ ranges-mine d w id (entry w a) h refl ∙ ap₂
          (λ p rs. ranges_after a p id rs) at (found-ranges d w id old h same);
      allowed = (h, is, before.2, before.0, before.1, at);
      records = λ s. ap (own_record d w s) is ∙ (record-by-own d w s).mine (entry w a) h refl ∙ ap₂
          (λ p r. own_record_after a p s r) at (found-record d w s old h same);
    }
