-- States, draws and lists that are made number by number.
use Rattle.std.proofs.Common.{◌≡◌, ℕ, zero, suc, ◌+◌, ◌<◌, List, [], ◌∷◌, ◌++◌, All, length, get_or, refl, ap, ◌∙◌, arith, add-one, add-suc}
use Rattle.std.proofs.Common.{add-zero}
use Rattle.std.proofs.lemmas.List.FromFn.{get_or-map-range_with_len, length-map-range_with_len, map-range_with_len_more}
use Rattle.load_gen.specs.Draws.{each_below, next_state, state_after}
use Rattle.load_gen.specs.Queries.{after_filters, kind_of, state_before}

-- ---- states

pub state_after-zero : (state : ℕ) → state_after state 0 ≡ state
unfolding state_after
state_after-zero state = refl

-- one draw more
pub state_after-more : (state count : ℕ) → state_after state (count + 1) ≡ next_state (state_after state count)
unfolding state_after
state_after-more state count = rw add-one refl

pub state_after-one : (state : ℕ) → state_after state 1 ≡ next_state state
state_after-one state = state_after-more state 0 ∙ ap next_state (state_after-zero state)

-- draws after draws
pub state_after-after : (state first more : ℕ) → state_after (state_after state first) more ≡ state_after state (first + more)
unfolding state_after
state_after-after state first zero = rw add-zero refl
state_after-after state first (suc more) = rw (add-suc, state_after-after state first more) refl

-- the draw at a place after so many others
pub state_after-at : (state first place total : ℕ) → first + place ≡ total → state_after (state_after state first) place ≡ state_after state total
state_after-at state first place total same = state_after-after state first place ∙ ap (state_after state) same

-- the queries one by one
pub state_before-zero : (state : ℕ) → state_before state 0 ≡ state
unfolding state_before
state_before-zero state = refl

pub state_before-more : (state place : ℕ) → state_before state (place + 1)
    ≡ after_filters (next_state (next_state (state_before state place))) (kind_of place)
unfolding state_before
state_before-more state place = rw add-one refl

-- ---- lists

pub each_below-zero : {A : Type 0} (made : ℕ → A) → each_below 0 made ≡ []
unfolding each_below
each_below-zero made = refl

pub each_below-more : {A : Type 0} (count : ℕ) (made : ℕ → A) → each_below (count + 1) made ≡ each_below count made ++ made count ∷ []
unfolding each_below
each_below-more count made = map-range_with_len_more made 0 count count (omega arith)

pub length-each_below : {A : Type 0} (count : ℕ) (made : ℕ → A) → length (each_below count made) ≡ count
unfolding each_below
length-each_below count made = length-map-range_with_len made 0 count

pub get_or-each_below : {A : Type 0} (count : ℕ) (made : ℕ → A) (place : ℕ) (d : A) → place < count → get_or (each_below count made) place d ≡ made place
unfolding each_below
get_or-each_below count made place d before = get_or-map-range_with_len made 0 count place place d before (omega arith)

-- what holds of each thing that is made holds of them all
pub All-each_below : {A : Type 0} (P : A → Type 0) (count : ℕ) (made : ℕ → A) → ((place : ℕ) → place < count → P (made place)) → All P (each_below count made)
All-each_below P count made each = λ place d within.
    let before : place < count = omega (arith, length-each_below count made) in
    rw (get_or-each_below count made place d before) (each place before)

-- equal lists begin alike
pub head_same : (a b : ℕ) (xs ys : List ℕ) → a ∷ xs ≡ b ∷ ys → a ≡ b
head_same a b xs ys same = cc
