-- Passes that are gathered one after another, from worker 0 on.
use Rattle.std.proofs.Common.{◌≡◌, ℕ, ◌+◌, ◌<◌, List, [], ◌∷◌, ◌++◌, length, Some, slice_get, zero, suc, refl, sym, subst, arith}
use Rattle.board_rule.specs.declared.board.Board.{Board}
use Rattle.board_rule.specs.declared.board.Pass.{Pass}
use Rattle.std.specs.Prelude.{All, IfSome, Option, get_or}
use Rattle.std.proofs.lemmas.List.Elements.{All-head, All-push, All-rest}
use Rattle.std.proofs.lemmas.Option.{slice_get-get_or}
use Rattle.board_rule.specs.Lives.{IsFreePass, AreAll, AreFree, AreUnused}
use Rattle.board_rule.specs.Passes.{IsPassOf, board_shape}

module _ {B Sub : Type 0} (board : Board B Sub) where
  -- the passes of the workers from n on, each of whom is free
  abbrev pub FreeFrom : ℕ → List (Pass B Sub) → Type 0
  FreeFrom n [] = Unit {0}
  FreeFrom n (p ∷ ps) = (p.worker ≡ n) × IsFreePass board p × FreeFrom (suc n) ps

  -- one more
  pub free-more : (n : ℕ) (ps : List (Pass B Sub)) (p : Pass B Sub) → FreeFrom n ps → p.worker ≡ n + length ps → IsFreePass board p
      → FreeFrom n (ps ++ p ∷ [])
  free-more n [] p free own done = (omega (arith, own), done, tt)
  free-more n (q ∷ qs) p free own done = (free.0, free.1, free-more (suc n) qs p free.2 (omega (arith, own)) done)

  -- each of them is there
  free-there : (n : ℕ) (ps : List (Pass B Sub)) → FreeFrom n ps → (k : ℕ) → k < length ps
      → (p : Pass B Sub) × (slice_get ps k ≡ Some p) × (p.worker ≡ n + k)
  free-there n [] free k low = absurd (omega (arith, low))
  free-there n (p ∷ ps) free zero low = (p, refl, omega (arith, free.0))
  free-there n (p ∷ ps) free (suc k) low = let r = free-there (suc n) ps free.2 k (omega (arith, low)) in
      (r.0, r.1, omega (arith, r.2))

  free-done : (n : ℕ) (ps : List (Pass B Sub)) → FreeFrom n ps → AreFree board ps
  free-done n [] free k p at = absurd (cc)
  free-done n (q ∷ ps) free zero p at = subst (IsFreePass board) (cc) free.1
  free-done n (q ∷ ps) free (suc k) p at = free-done (suc n) ps free.2 k p at

  -- all of them
  pub free-all : (ps : List (Pass B Sub)) → length ps ≡ (board_shape board).workers → FreeFrom 0 ps → AreAll board ps × AreFree board ps
  free-all ps count free =
      ((λ w low. let r = free-there 0 ps free w (omega (arith, count, low)) in (w, r.0, r.1, omega (arith, r.2))), free-done 0 ps free)

  -- passes that did nothing are of their board
  pub all-of : (ps : List (Pass B Sub)) → AreUnused board ps → All (IsPassOf board) ps
  all-of ps fresh k d low = (fresh k (get_or ps k d) (slice_get-get_or ps k d low)).of_board

  -- one more is taken from what is left, and its pass is put beside the others
  pub keep-more : {X : Type 0} → (P : X → Type 0) (x : X) (left rest : List X) (p : Pass B Sub) (old new : List (Option (Pass B Sub)))
      → left ≡ x ∷ rest → new ≡ old ++ Some p ∷ [] → (P x → IsPassOf board p)
      → All P left → All (λ pass. IfSome pass (IsPassOf board)) old
      → All P rest × All (λ pass. IfSome pass (IsPassOf board)) new
  keep-more P x left rest p old new next more is all kept =
      let Q : Option (Pass B Sub) → Type 0 = λ pass. IfSome pass (IsPassOf board) in
      let head = All-head P x rest (subst (All P) next all) in
      (All-rest P x rest left next all, subst (All Q) (sym more) (All-push Q old (Some p) kept (is head)))
