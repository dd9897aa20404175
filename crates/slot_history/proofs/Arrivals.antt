-- As long as no query is admitted, the number of queries stays.
use Rattle.std.proofs.Common.{◌≡◌, ℕ, ◌+◌, false, cond, List, [], ◌∷◌, ◌++◌, refl, sym, ◌∙◌, eq-eqb}
use Rattle.std.proofs.Common.{arith}
use mathlib.Core.Bool.{true≢false}
use Rattle.std.proofs.lemmas.Bool.{cond_both}
use Rattle.slot_history.specs.declared.shape.Shape.{Shape}
use Rattle.slot_history.specs.declared.act.Act.{Act}
use Rattle.slot_history.specs.declared.act.Act.TheVariants.{AdmitGot, AdmitLost, Arrivals}
use Rattle.slot_history.specs.declared.act.Entry.{Entry}
use Rattle.slot_history.specs.Steps.{admitted_after, state_after}
use Rattle.slot_history.specs.Allowed.{IsAllowed}
use Rattle.slot_history.specs.Histories.{entry, is_admit, admits_of}
use Rattle.slot_history.specs.LoneTurns.{AdmitsNone, ArrivalsStay, AdmitIsGot}
use Rattle.slot_history.proofs.Beginnings.{legal-early}

-- but for an admission no call changes the number
admitted-stays : (a : Act) (n : ℕ) → ((q : ℕ) → is_admit a q ≡ false) → admitted_after a n ≡ n
admitted-stays (AdmitGot q) n none = absurd (true≢false (sym (eq-eqb q q refl) ∙ none q))
admitted-stays _ n none = refl

-- nor does a run of such calls
admitted-since : (d : Shape) (more old : List Entry) → AdmitsNone more → (state_after d (more ++ old)).admitted ≡ (state_after d old).admitted
admitted-since d [] old none = refl
admitted-since d (e ∷ es) old none =
    let first : (q : ℕ) → is_admit e.act q ≡ false = λ q. cond_both (is_admit e.act q) 1 0 (λ k. k + admits_of q es ≡ 0 → is_admit e.act q ≡ false)
    (λ t z. absurd (omega arith)) (λ t z. t) (none q) in
    let rest : AdmitsNone es = λ q. let z : cond {A = ℕ} (is_admit e.act q) 1 0 + admits_of q es ≡ 0 = none q in omega arith in
    admitted-stays e.act _ first ∙ admitted-since d es old rest

pub arrivals-stay : ArrivalsStay
arrivals-stay d v n more old legal none = admitted-since d more (entry v (Arrivals n) ∷ old) none
    ∙ sym (legal-early d more (entry v (Arrivals n) ∷ old) legal).1

pub admit-is-got : AdmitIsGot
admit-is-got d v w q now more old legal none = let fine : IsAllowed d (state_after d (more ++ entry v (Arrivals q) ∷ old)) w (AdmitLost q now) = legal.1 in
    fine.6 (fine.5 ∙ arrivals-stay d v q more old legal.2 none)
