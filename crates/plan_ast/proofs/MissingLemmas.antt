-- Which mention is the first that is not there.
use Rattle.std.proofs.Common.{◌≡◌, ℕ, ◌+◌, ◌<◌, List, [], ◌∷◌, ◌++◌, length, get_or, map, take, drop, flat_map, not, is_some, true, false, Option}
use Rattle.std.proofs.Common.{Some, None, option_map, refl, sym, ap, ◌∙◌, subst, inl, inr}
use Rattle.std.specs.Option.{option_or}
use Rattle.std.proofs.lemmas.List.{drop_more, take-append-drop}
use Rattle.std.proofs.lemmas.List.Concat.{flat_map-append, flat_map_single}
use Rattle.std.proofs.lemmas.List.Folds.{find-append}
use Rattle.plan_ast.specs.Names.{Mention, is_there, refusal_for, first_missing}
use Rattle.plan_ast.specs.Places.{IsRefusedBy}
use Rattle.plan_ast.specs.declared.queries.NamedTable.{NamedTable}
use Rattle.plan_ast.specs.declared.refusals.PlanRefusal.{PlanRefusal}

option_map-option_or : {A B : Type 0} (f : A → B) (a b : Option A) → option_map f (option_or a b) ≡ option_or (option_map f a) (option_map f b)
option_map-option_or f None b = refl
option_map-option_or f (Some x) b = refl

first_missing-append : (tables : List NamedTable) (xs ys : List Mention) → first_missing tables (xs ++ ys) ≡ option_or (first_missing tables xs)
    (first_missing tables ys)
first_missing-append tables xs ys =
    ap (option_map refusal_for) (find-append (λ m. not (is_there tables m)) xs ys) ∙ option_map-option_or refusal_for _ _

-- the refusal of a list follows those that are there
pub missing_after : (tables : List NamedTable) (xs ys : List Mention) → first_missing tables xs ≡ None → first_missing tables (xs ++ ys) ≡
    first_missing tables ys
missing_after tables xs ys none = first_missing-append tables xs ys ∙ ap (λ o. option_or o (first_missing tables ys)) none

missing_before : (tables : List NamedTable) (xs ys : List Mention) (e : PlanRefusal) → first_missing tables xs ≡ Some e → first_missing tables
    (xs ++ ys) ≡ Some e
missing_before tables xs ys e some = first_missing-append tables xs ys ∙ ap (λ o. option_or o (first_missing tables ys)) some

pub refused_after : (tables : List NamedTable) (xs ys : List Mention) (e : PlanRefusal) → first_missing tables xs ≡ None → IsRefusedBy tables ys e →
    IsRefusedBy tables (xs ++ ys) e
refused_after tables xs ys e none (inl memory) = inl memory
refused_after tables xs ys e none (inr some) = inr (missing_after tables xs ys none ∙ some)

pub refused_before : (tables : List NamedTable) (xs ys : List Mention) (e : PlanRefusal) → IsRefusedBy tables xs e → IsRefusedBy tables (xs ++ ys) e
refused_before tables xs ys e (inl memory) = inl memory
refused_before tables xs ys e (inr some) = inr (missing_before tables xs ys e some)

-- ---- one mention

pub missing_there : (tables : List NamedTable) (m : Mention) → is_there tables m ≡ true → first_missing tables (m ∷ []) ≡ None
missing_there tables m there = rw there

pub missing_here : (tables : List NamedTable) (m : Mention) → is_there tables m ≡ false → first_missing tables (m ∷ []) ≡ Some (refusal_for m)
missing_here tables m gone = rw gone

pub is_some-option_map : {A B : Type 0} (f : A → B) (o : Option A) (y : B) → option_map f o ≡ Some y → is_some o ≡ true
is_some-option_map f None y is = cc
is_some-option_map f (Some x) y is = refl

-- ---- the mentions of a list of items

-- nothing is missing where each item was found
pub missing-flat_map : {X Y : Type 0} (tables : List NamedTable) (mentions : X → List Mention) (at : X → Option Y)
    → ((x : X) (y : Y) → at x ≡ Some y → first_missing tables (mentions x) ≡ None) → (xs : List X) (ys : List Y) → map at xs ≡ map Some ys →
    first_missing tables (flat_map mentions xs) ≡ None
missing-flat_map tables mentions at agree [] ys is = refl
missing-flat_map tables mentions at agree (x ∷ xs) [] is = cc
missing-flat_map tables mentions at agree (x ∷ xs) (y ∷ ys) is =
    missing_after tables (mentions x) (flat_map mentions xs) (agree x y (cc)) ∙ missing-flat_map tables mentions at agree xs ys (cc)

-- the first item that is refused
pub refused-flat_map : {X Y : Type 0} (tables : List NamedTable) (mentions : X → List Mention) (at : X → Option Y)
    → ((x : X) (y : Y) → at x ≡ Some y → first_missing tables (mentions x) ≡ None) → (xs : List X) (i : ℕ) (x : X) (ys : List Y) (e : PlanRefusal) → i
    < length xs → x ≡ get_or xs i x
    → map at (take i xs) ≡ map Some ys → IsRefusedBy tables (mentions x) e → IsRefusedBy tables (flat_map mentions xs) e
refused-flat_map tables mentions at agree xs i x ys e short is found refused =
    let rest = flat_map mentions (drop (i + 1) xs) in
    let split : xs ≡ take i xs ++ x ∷ drop (i + 1) xs = sym (take-append-drop i xs) ∙ ap (λ v. take i xs ++ v)
    (drop_more xs i x short ∙ ap (λ v. v ∷ drop (i + 1) xs) (sym is)) in
    let parts : flat_map mentions xs ≡ flat_map mentions (take i xs) ++ (mentions x ++ rest) = ap (flat_map mentions) split ∙ flat_map-append mentions
    (take i xs) (x ∷ drop (i + 1) xs) in
    subst (λ v. IsRefusedBy tables v e) (sym parts)
    (refused_after tables (flat_map mentions (take i xs)) (mentions x ++ rest) e (missing-flat_map tables mentions at agree (take i xs) ys found)
    (refused_before tables (mentions x) rest e refused))

-- the same where each item has one mention
pub missing-map : {X Y : Type 0} (tables : List NamedTable) (mention : X → Mention) (at : X → Option Y)
    → ((x : X) (y : Y) → at x ≡ Some y → is_there tables (mention x) ≡ true) → (xs : List X) (ys : List Y) → map at xs ≡ map Some ys → first_missing
    tables (map mention xs) ≡ None
missing-map tables mention at agree xs ys is =
    ap (first_missing tables) (sym (flat_map_single mention xs))
    ∙ missing-flat_map tables (λ x. mention x ∷ []) at (λ x y found. missing_there tables (mention x) (agree x y found)) xs ys is

pub refused-map : {X Y : Type 0} (tables : List NamedTable) (mention : X → Mention) (at : X → Option Y)
    → ((x : X) (y : Y) → at x ≡ Some y → is_there tables (mention x) ≡ true) → (xs : List X) (i : ℕ) (x : X) (ys : List Y) (e : PlanRefusal) → i <
    length xs → x ≡ get_or xs i x
    → map at (take i xs) ≡ map Some ys → IsRefusedBy tables (mention x ∷ []) e → IsRefusedBy tables (map mention xs) e
refused-map tables mention at agree xs i x ys e short is found refused =
    subst (λ v. IsRefusedBy tables v e) (flat_map_single mention xs)
    (refused-flat_map tables (λ x. mention x ∷ []) at (λ x y found. missing_there tables (mention x) (agree x y found)) xs i x ys e short is found refused)
