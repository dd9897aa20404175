-- Calls that change their worker's place alone.
use Rattle.std.proofs.Common.{◌≡◌, ℕ, ◌<◌, refl, ap, ◌∙◌}
use Rattle.slot_history.specs.declared.act.Act.TheVariants.{Enter, Arrivals, Finished}
use Rattle.slot_history.specs.declared.act.Act.{Act}
use Rattle.slot_history.specs.Allowed.{IsAllowed}
use Rattle.slot_history.specs.Calls.{Entering, AskingArrivals, AskingFinished}
use Rattle.one_thread.specs.Stories.{Story, MayMake, state_in}
use Rattle.plain_slots.specs.declared.object.PlainObject.TheInside.{Inside}
use Rattle.plain_slots.specs.Objects.{MayMove, Still, Calm}
use Rattle.plain_slots.proofs.Following.{Kept, story_of}

moves : {old : Story} {w : ℕ} {a : Act} → w < old.shape.workers → IsAllowed old.shape (state_in old.shape old.log) w a → Still a → Calm a → MayMove old w a
moves low allowed still calm = record { below = low; allowed = allowed; still = still; calm = calm }

pub may-enter : (old : Story) (w s : ℕ) → MayMake old w (Entering s) → MayMove old w (Enter s)
may-enter old w s asks = moves asks.below asks.may (λ d v x. refl) (λ v p f. refl, λ v p f. refl, λ n. refl, λ n. refl)

-- the two numbers are those of the state
module _ (o : Inside) (ok : Kept o) (old : Story) (view : story_of o ≡ old) (w : ℕ) where
  pub may-count : MayMake old w AskingArrivals → MayMove old w (Arrivals o.admitted)
  may-count asks = moves asks.below (ok.admitted_is ∙ ap (λ (x : Story). (state_in x.shape x.log).admitted) view) (λ d v x. refl)
      (λ v p f. refl, λ v p f. refl, λ n. refl, λ n. refl)

  pub may-count_done : MayMake old w AskingFinished → MayMove old w (Finished o.finished)
  may-count_done asks = moves asks.below (ok.finished_is ∙ ap (λ (x : Story). (state_in x.shape x.log).finished) view) (λ d v x. refl)
      (λ v p f. refl, λ v p f. refl, λ n. refl, λ n. refl)
