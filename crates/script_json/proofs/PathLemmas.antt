-- The text of a path, step by step.
use Rattle.std.proofs.Common.{◌≡◌, ℕ, ◌+◌, ◌<◌, List, [], ◌∷◌, ◌++◌, length, take, get_or, sym, ap, ◌∙◌, add-one, append_assoc, append-nil}
use Rattle.std.proofs.Math.Seq.{take-suc}
use Rattle.script_json.specs.Paths.{step_text, steps_text}
use Rattle.script_json.specs.declared.refusal.PathStep.{PathStep}

steps_text-append : (xs : List PathStep) (s : PathStep) → steps_text (xs ++ s ∷ []) ≡ steps_text xs ++ step_text s
steps_text-append [] s = append-nil (step_text s)
steps_text-append (x ∷ xs) s = ap (λ t. step_text x ++ t) (steps_text-append xs s) ∙ sym (append_assoc (step_text x) _ _)

pub steps_text-take : (steps : List PathStep) (i : ℕ) (s : PathStep) → i < length steps → s ≡ get_or steps i s
    → steps_text (take i steps) ++ step_text s ≡ steps_text (take (i + 1) steps)
steps_text-take steps i s within is =
    sym (ap steps_text (rw add-one (take-suc steps i s within ∙ ap (λ x. take i steps ++ x ∷ []) (sym is))) ∙ steps_text-append (take i steps) s)
