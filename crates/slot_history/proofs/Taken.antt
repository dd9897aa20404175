-- What a worker knows once it took its notices while all workers were free.
use Rattle.std.proofs.Common.{Bool, ◌≡◌, ◌≢◌, ℕ, ◌/◌, true, false, List, [], ◌∷◌, ◌++◌, refl, sym}
use Rattle.std.proofs.Common.{ap, ◌∙◌, subst, inl, inr, append_assoc}
use mathlib.Core.Bool.{true≢false}
use Rattle.slot_history.specs.declared.shape.Shape.{Shape}
use Rattle.slot_history.specs.declared.act.Act.{Act}
use Rattle.slot_history.specs.declared.act.Act.TheVariants.{Announce, TakeReturn, TakeChange}
use Rattle.slot_history.specs.declared.act.Entry.{Entry}
use Rattle.slot_history.specs.declared.place.Place.{Place}
use Rattle.slot_history.specs.declared.place.Place.TheVariants.{Free}
use Rattle.slot_history.specs.States.{ObjectState}
use Rattle.slot_history.specs.Steps.{moved, state_after}
use Rattle.slot_history.specs.Histories.{entry}
use Rattle.slot_history.specs.Notices.{notices_of, take_of, IsQuiet}
use Rattle.slot_history.specs.LoneTurns.{TellsNobody, IsKnown, is_take, AreTakes, Took, LetsIn}
use Rattle.slot_history.specs.LoneTurns.{TakenIsKnown}
use Rattle.slot_history.proofs.Sets.{upd-cases}
use Rattle.slot_history.proofs.Known.{quiet-is-known, notices-taken}

take-stays : (d : Shape) (a : Act) (p : Place) → is_take a ≡ true → moved d a p ≡ p
take-stays d (TakeReturn part bits) p h = refl
take-stays d (TakeChange part bits) p h = refl
take-stays d _ p h = absurd (cc)

take-tells-nobody : (a : Act) → is_take a ≡ true → a ≢ Announce
take-tells-nobody Announce h = absurd (cc)
take-tells-nobody _ h = λ e. true≢false (sym h ∙ ap is_take e)

takes-tell-nobody : (takes : List Entry) → AreTakes takes → TellsNobody takes
takes-tell-nobody [] all = tt
takes-tell-nobody (e ∷ es) all = (take-tells-nobody e.act all.0, takes-tell-nobody es all.1)

-- takes leave a quiet state quiet
takes-quiet : (d : Shape) (takes old : List Entry) → AreTakes takes → IsQuiet d (state_after d old) → IsQuiet d (state_after d (takes ++ old))
takes-quiet d [] old all quiet v low = quiet v low
takes-quiet d (e ∷ es) old all quiet v low =
    let S : ObjectState = state_after d (es ++ old) in
    let before : IsQuiet d S = takes-quiet d es old all.1 quiet in
    upd-cases S.places e.worker (moved d e.act (S.places e.worker)) v (λ p. p ≡ Free)
    (λ same. take-stays d e.act (S.places e.worker) all.0 ∙ ap S.places (sym same) ∙ before v low) (λ other. before v low)

-- what came after a take are takes too
takes-after : (more : List Entry) (e : Entry) (early takes : List Entry) → takes ≡ more ++ e ∷ early → AreTakes takes → AreTakes more
takes-after [] e early takes is all = tt
takes-after (x ∷ more) e early takes is all =
    let r : AreTakes (x ∷ (more ++ e ∷ early)) = subst AreTakes is all in (r.0, takes-after more e early (more ++ e ∷ early) refl r.1)

took-clear : (d : Shape) (again : Bool) (w s : ℕ) (takes old : List Entry) → AreTakes takes → Took again w (s / 64) takes
    → notices_of again (state_after d (takes ++ old)) w s ≡ false
took-clear d again w s takes old all (bits, more, early, is) =
    let e : Entry = entry w (take_of again (s / 64) bits) in
    let whole : takes ++ old ≡ more ++ e ∷ (early ++ old) = ap (λ l. l ++ old) is ∙ append_assoc more (e ∷ early) old in
    ap (λ l. notices_of again (state_after d l) w s) whole
    ∙ notices-taken d again w bits s more (early ++ old) (takes-tell-nobody more (takes-after more e early takes is all))

-- a slot that is known, and not by a notice that is pending
known-at-once : (S : ObjectState) (s w : ℕ) → ((again : Bool) → notices_of again S w s ≡ false) → IsKnown S s w → LetsIn S w s
known-at-once S s w clear (inl k) = k
known-at-once S s w clear (inr (inl pending)) = absurd (true≢false (sym pending ∙ clear false))
known-at-once S s w clear (inr (inr (pending, may))) = absurd (true≢false (sym pending ∙ clear true))

pub taken-is-known : TakenIsKnown
taken-is-known d w s takes old low legal quiet all took open_ =
    known-at-once (state_after d (takes ++ old)) s w (λ again. took-clear d again w s takes old all (took again))
    (quiet-is-known d (takes ++ old) legal (takes-quiet d takes old all quiet) s w low open_)
