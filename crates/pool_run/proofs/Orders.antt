-- Stretches of a run, one after another.
use Rattle.std.proofs.Common.{ℕ, List, ◌++◌, ◌∙◌, sym, subst}
use Rattle.slot_history.specs.declared.shape.Shape.{Shape}
use Rattle.turn_model.specs.Workloads.{Workload}
use Rattle.turn_model.specs.Runs.{Run}
use Rattle.turn_model.specs.Orders.{PlayInOrder, none, passes, plays}
use Rattle.worker_machine.specs.Loads.{load_of}
use Rattle.pool_run.specs.declared.stint.Stint.{Stint}
use Rattle.pool_run.specs.Scenes.{Scene, HasPlayed}
use Rattle.pool_run.specs.Plays.{Play, Leads, stints_by}

-- a stretch keeps shape and work: what holds by those at its end holds by those at its start, and the other way round
module _ {may_take : ℕ → ℕ → ℕ → Type 0} {play : Play} {a b : Scene} (p : Leads may_take play a b) (P : Shape → Workload → Type 0) where
  pub back : P b.table.shape (load_of b.table.subject) → P a.table.shape (load_of a.table.subject)
  back x = subst (λ s. P a.table.shape (load_of s)) p.subject (subst (λ d. P d (load_of b.table.subject)) p.shape x)

  pub forth : P a.table.shape (load_of a.table.subject) → P b.table.shape (load_of b.table.subject)
  forth x = subst (λ d. P d (load_of b.table.subject)) (sym p.shape) (subst (λ s. P a.table.shape (load_of s)) (sym p.subject) x)

module _ (d : Shape) (load : Workload) (Plays : Run → ℕ → Run → Type 0) (Passes : Run → ℕ → Type 0) where
  play-append : (xs ys : List ℕ) (a b c : Run) → PlayInOrder d load Plays Passes xs a b → PlayInOrder d load Plays Passes ys b c
      → PlayInOrder d load Plays Passes (xs ++ ys) a c
  play-append xs ys a b c (none run) q = q
  play-append xs ys a b c (passes w order run end p rest) q = passes w (order ++ ys) run c p (play-append order ys run end c rest q)
  play-append xs ys a b c (plays w order run next end not p rest) q =
      plays w (order ++ ys) run next c not p (play-append order ys next end c rest q)

pub stints-append : (stint : Stint) (xs ys : List ℕ) (d : Shape) (load : Workload) (x y z : Run) → stints_by stint xs d load x y
    → stints_by stint ys d load y z → stints_by stint (xs ++ ys) d load x z
stints-append stint xs ys d load x y z p q = play-append d load _ _ xs ys x y z p q

-- two stretches of a run, if what they do together is a play of the run that led to the first, by way of one that led to the second
pub leads-by : {may_take : ℕ → ℕ → ℕ → Type 0} {p q r : Play} {a b c : Scene}
    → ((x y z : Run) → HasPlayed may_take b y → p a.table.shape (load_of a.table.subject) x y
    → q b.table.shape (load_of b.table.subject) y z → r a.table.shape (load_of a.table.subject) x z)
    → Leads may_take p a b → Leads may_take q b c → Leads may_take r a c
leads-by joins first second = record {
  shape = second.shape ∙ first.shape;
  subject = second.subject ∙ first.subject;
  leads = λ run played.
      let x = first.leads run played in
      let y = second.leads x.next x.played in
      record { next = y.next; plays = joins run x.next y.next x.played x.plays y.plays; played = y.played };
}

-- the same of plays that join whatever the table
pub leads-on : {may_take : ℕ → ℕ → ℕ → Type 0} {p q r : Play} {a b c : Scene}
    → ((d : Shape) (load : Workload) (x y z : Run) → p d load x y → q d load y z → r d load x z)
    → Leads may_take p a b → Leads may_take q b c → Leads may_take r a c
leads-on {may_take} {p} {q} {r} {a} {b} {c} joins first second = leads-by {p = p} {q = q} {r = r} (λ x y z _ begins ends.
    joins a.table.shape (load_of a.table.subject) x y z begins (back first (λ d load. q d load y z) ends)) first second
