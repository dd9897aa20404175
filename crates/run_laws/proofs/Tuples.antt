-- Claims that tile a total hold each tuple once.
use Rattle.std.proofs.Common.{◌≡◌, ℕ, ◌+◌, ◌<◌, true, false, cond, leb, ltb, ◌&&◌, [], ◌∷◌, sym, ap, ap₂, ◌∙◌, ⊎_elim, lt-ltb}
use Rattle.std.proofs.Common.{le-ltb, le-leb, arith}
use Rattle.std.proofs.lemmas.Bool.{cases_lt, lt-leb}
use Rattle.run_laws.specs.Tuples.{TilesHoldEach}

-- a number is below the end of a morsel if it is in it or below its beginning
in-or-below : (from to tuple : ℕ) → from < to
    → cond {A = ℕ} (leb from tuple && ltb tuple to) 1 0 + cond {A = ℕ} (ltb tuple from) 1 0 ≡ cond (ltb tuple to) 1 0
in-or-below from to tuple some = ⊎_elim
    (λ below.
    let out : leb from tuple ≡ false = lt-leb from tuple below in
    let low : ltb tuple to ≡ true = lt-ltb tuple to (omega (arith, below, some)) in
    ap₂ (λ x y. cond (x && ltb tuple to) 1 0 + cond y 1 0) out (lt-ltb tuple from below) ∙ sym (ap (λ b. cond b 1 0) low))
    (λ from_on.
    let here : leb from tuple ≡ true = le-leb from tuple from_on in
    ap₂ (λ x y. cond (x && ltb tuple to) 1 0 + cond y 1 0) here (le-ltb tuple from from_on) ∙ plus-none (cond (ltb tuple to) 1 0))
    (cases_lt tuple from)
  where
    plus-none : (n : ℕ) → n + 0 ≡ n
    plus-none n = omega arith

pub tiles-hold-each : TilesHoldEach
tiles-hold-each [] total tuple tiles = ap (λ b. cond b 1 0) (sym (le-ltb tuple total (let none : total ≡ 0 = tiles in omega (arith, none))))
tiles-hold-each (m ∷ ms) total tuple tiles =
    ap (λ n. cond (leb m.from tuple && ltb tuple m.to) 1 0 + n) (tiles-hold-each ms m.from tuple tiles.2)
    ∙ in-or-below m.from m.to tuple tiles.1 ∙ ap (λ n. cond (ltb tuple n) 1 0) tiles.0
