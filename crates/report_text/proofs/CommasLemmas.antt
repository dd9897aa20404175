-- Values with commas between.
use Rattle.std.proofs.Common.{◌≡◌, ℕ, zero, suc, ◌+◌, ◌<◌, List, [], ◌∷◌, ◌++◌, length, get_or, map, take, refl, sym, ap, ◌∙◌, append_assoc, add-one}
use Rattle.std.proofs.Common.{arith}
use Rattle.report_text.specs.AnswersText.{comma_before, with_commas}

commas_after : {X : Type 0} (text : X → List ℕ) (xs : List X) (i : ℕ) (d : X) → i < length xs
    → with_commas (map text (take (suc i) xs)) ≡ with_commas (map text (take i xs)) ++ (comma_before i ++ text (get_or xs i d))
commas_after text [] i d short = absurd (omega arith)
commas_after text (x ∷ xs) zero d short = refl
commas_after text (x ∷ []) (suc i) d short = absurd (omega arith)
commas_after text (x ∷ y ∷ xs) (suc zero) d short = refl
commas_after text (x ∷ y ∷ xs) (suc (suc i)) d short =
    ap (λ v. text x ++ (44 ∷ v)) (commas_after text (y ∷ xs) (suc i) d (omega arith))
    ∙ sym (append_assoc (text x) (44 ∷ with_commas (map text (take (suc i) (y ∷ xs)))) (comma_before (suc (suc i)) ++ text (get_or xs i d)))

-- one more value
pub commas_more : {X : Type 0} (text : X → List ℕ) (xs : List X) (i : ℕ) (d : X) → i < length xs
    → with_commas (map text (take (i + 1) xs)) ≡ with_commas (map text (take i xs)) ++ (comma_before i ++ text (get_or xs i d))
commas_more text xs i d short = ap (λ n. with_commas (map text (take n xs))) (add-one i) ∙ commas_after text xs i d short

-- a text that grows by a comma, but for the first value, and then by the value
pub text_more : {X : Type 0} (text : X → List ℕ) (xs : List X) (i : ℕ) (d : X) (start before comma after : List ℕ) → i < length xs → before ≡ start ++
    with_commas (map text (take i xs))
    → comma ≡ before ++ comma_before i → after ≡ comma ++ text (get_or xs i d) → after ≡ start ++ with_commas (map text (take (i + 1) xs))
text_more text xs i d start before comma after short was put is =
    let value = text (get_or xs i d) in
    let so_far = with_commas (map text (take i xs)) in
    is ∙ ap (λ v. v ++ value) (put ∙ ap (λ v. v ++ comma_before i) was) ∙ append_assoc (start ++ so_far) (comma_before i) value ∙ append_assoc start
    so_far (comma_before i ++ value)
    ∙ ap (λ v. start ++ v) (sym (commas_more text xs i d short))
