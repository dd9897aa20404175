-- Rounds, and whole runs.
use Rattle.std.proofs.Common.{◌≡◌, ℕ, ◌+◌, ◌<◌, zero, suc, List, [], ◌∷◌, ◌++◌, length, take, get_or, sym, ap, ◌∙◌, subst, arith}
use Rattle.std.specs.List.{range_with_len}
use Rattle.std.proofs.lemmas.List.{take_more}
use Rattle.std.proofs.lemmas.Option.{slice_get_within}
use Rattle.turn_model.specs.Runs.{Run}
use Rattle.turn_model.specs.Orders.{none, AllOver, over, round}
use Rattle.worker_machine.specs.declared.state.Worker.{Worker}
use Rattle.worker_machine.specs.Loads.{load_of}
use Rattle.pool_run.specs.declared.stint.Stint.{Stint}
use Rattle.pool_run.specs.declared.stint.Stint.TheVariants.{WholeTurn}
use Rattle.pool_run.specs.Plays.{Leads, stints_by, rounds, some_rounds}
use Rattle.pool_run.specs.Scenes.{Scene, HasPlayed, TeamFollows, AreOver, HasGoing}
use Rattle.pool_run.proofs.Places.{item-at}
use Rattle.pool_run.proofs.Orders.{back, forth, leads-by, leads-on, stints-append}
use Rattle.pool_run.proofs.Stints.{stands-still}
use Rattle.pool_run.proofs.Points.{over-in, over-of}

module _ {may_take : ℕ → ℕ → ℕ → Type 0} {a : Scene} where
  -- an order with no number
  pub stints-none : (stint : Stint) → Leads may_take (stints_by stint []) a a
  stints-none stint = stands-still (stints_by stint []) (λ run played. none run)

  pub rounds-none : Leads may_take some_rounds a a
  rounds-none = stands-still some_rounds (λ run played end p. p)

-- one number more
range-suc : (a n : ℕ) → range_with_len a (suc n) ≡ range_with_len a n ++ (a + n) ∷ []
range-suc a zero = ap (λ k. k ∷ []) (omega arith)
range-suc a (suc n) = ap (λ l. a ∷ l) (range-suc (a + 1) n ∙ ap (λ k. range_with_len (a + 1) n ++ k ∷ []) (omega arith))

range-more : (n : ℕ) → range_with_len 0 (n + 1) ≡ range_with_len 0 n ++ n ∷ []
range-more n = ap (range_with_len 0) (let e : n + 1 ≡ suc n = omega arith in e) ∙ range-suc 0 n ∙ ap (λ k. range_with_len 0 n ++ k ∷ []) (omega arith)

module _ {may_take : ℕ → ℕ → ℕ → Type 0} {a b c : Scene} where
  pub stints-more : (stint : Stint) (order : List ℕ) (i : ℕ) → i < length order → Leads may_take (stints_by stint (take i order)) a b
      → Leads may_take (stints_by stint (get_or order i 0 ∷ [])) b c → Leads may_take (stints_by stint (take (i + 1) order)) a c
  stints-more stint order i low p q = subst (λ l. Leads may_take (stints_by stint l) a c) (sym (take_more order i 0 low))
      (leads-on (stints-append stint (take i order) (get_or order i 0 ∷ [])) p q)

  pub all-more : (stint : Stint) (n : ℕ) → Leads may_take (stints_by stint (range_with_len 0 n)) a b → Leads may_take (stints_by stint (n ∷ [])) b c
      → Leads may_take (stints_by stint (range_with_len 0 (n + 1))) a c
  all-more stint n p q = subst (λ l. Leads may_take (stints_by stint l) a c) (sym (range-more n))
      (leads-on (stints-append stint (range_with_len 0 n) (n ∷ [])) p q)

-- ---- whether all are over

module _ {may_take : ℕ → ℕ → ℕ → Type 0} {at : Scene} {run : Run} (played : HasPlayed may_take at run) (follows : TeamFollows at) where
  pub all-over : AreOver at.team → AllOver at.table.shape (load_of at.table.subject) run
  all-over done w below = let x = item-at at.team at.table.shape.workers w follows.count below in over-in at.table (played.made w x.0 x.1) (done w x.0 x.1)

  pub are-over : AllOver at.table.shape (load_of at.table.subject) run → AreOver at.team
  are-over done w x here = over-of at.table (played.made w x here) (done w (subst (λ n. w < n) follows.count (slice_get_within at.team w x here)))

module _ {may_take : ℕ → ℕ → ℕ → Type 0} {a b : Scene} (p : Leads may_take some_rounds a b) (follows : TeamFollows b) where
  -- the rounds are over
  pub rounds-end : AreOver b.team → Leads may_take rounds a b
  rounds-end done = record {
    shape = p.shape;
    subject = p.subject;
    leads = λ run played.
        let x = p.leads run played in
        record {
          next = x.next;
          plays = x.plays x.next (over x.next (back p (λ d load. AllOver d load x.next) (all-over x.played follows done)));
          played = x.played;
        };
  }

  -- one round more
  pub rounds-more : {c : Scene} → (AreOver b.team → ⊥) → Leads may_take (stints_by WholeTurn (range_with_len 0 b.table.shape.workers)) b c
      → Leads may_take some_rounds a c
  rounds-more {c} not q = leads-by {p = some_rounds} {q = stints_by WholeTurn (range_with_len 0 b.table.shape.workers)} {r = some_rounds}
      (λ x y z played before plays end rest. before end
      (round y z end (λ done. not (are-over played follows (forth p (λ d load. AllOver d load y) done)))
      (back p (λ d load. stints_by WholeTurn (range_with_len 0 d.workers) d load y z) plays) rest)) p q

pub not-all : {team : List Worker} → HasGoing team → AreOver team → ⊥
not-all going all = going.not_over (all going.worker going.item going.here)
