-- Pieces that follow one another.
use Rattle.std.proofs.Common.{◌≡◌, ℕ, ◌+◌, ◌-◌, ◌≤◌, List, ◌++◌, length, take, drop, Option, ap, refl, arith, length-append, length-drop, sym, ◌∙◌}
use Rattle.std.specs.Io.{StartsWith}
use Rattle.std.specs.Io.KnownBytes.{Appends}
use Rattle.std.proofs.KnownBytes.{Appends-trans}
use Rattle.std.proofs.Math.Seq.{take-add}
use Rattle.std.proofs.lemmas.List.{drop-drop, length-take-le}
use Rattle.outside_io.specs.Pieces.{IsPiece}

-- the first bytes of a text, and then more of what was left of it
pub Appends-next : (text rest : List ℕ) (a b c : Option (List ℕ)) (count : ℕ) →
    rest ≡ drop (length text - length rest) text → count ≤ length rest → length rest ≤ length text →
    Appends a b (take (length text - length rest) text) → Appends b c (take count rest) →
    Appends a c (take (length text - length (drop count rest)) text)
Appends-next text rest a b c count is fits within before now =
    let done : ℕ = length text - length rest in
    let all : length text - length (drop count rest) ≡ done + count = omega (arith, length-drop count rest) in
    let joined : take (done + count) text ≡ take done text ++ take count rest =
    take-add done count text ∙ ap (λ v. take done text ++ take count v) (sym is) in
    rw (all, joined) (Appends-trans a b c _ _ before now)

-- what is left of a text, and then left of that
pub drop-next : (text rest : List ℕ) (count : ℕ) →
    rest ≡ drop (length text - length rest) text → count ≤ length rest → length rest ≤ length text →
    drop count rest ≡ drop (length text - length (drop count rest)) text
drop-next text rest count is fits within =
    let all : length text - length (drop count rest) ≡ (length text - length rest) + count = omega (arith, length-drop count rest) in
    rw all (ap (λ v. drop count v) is ∙ drop-drop count (length text - length rest) text)

-- the first bytes of a file and the piece that follows them are first bytes of the file too
pub StartsWith-piece : (file taken buf : List ℕ) (at count : ℕ) →
    at ≡ length taken → IsPiece file at buf count → StartsWith file taken →
    StartsWith file (taken ++ take count buf)
StartsWith-piece file taken buf at count follows piece before =
    let same : take count buf ≡ take count (drop (length taken) file) = piece.bytes ∙ ap (λ i. take count (drop i file)) follows in
    let there : count ≤ length (drop (length taken) file) = rw (← follows) piece.there in
    let len : length (take count buf) ≡ count = ap length same ∙ length-take-le count (drop (length taken) file) there in
    rw (length-append taken (take count buf), len, take-add (length taken) count file, before, same) refl
