-- A history of a subject shows the subject's task sets.
use Rattle.std.proofs.Common.{◌≡◌, ℕ, ◌<◌, true, cond, List, ◌∷◌, Option, Some, refl, sym, ap, ◌∙◌}
use Rattle.std.proofs.Common.{subst, eq-eqb}
use Rattle.std.specs.Prelude.{unwrap_or, IsSome}
use Rattle.std.proofs.lemmas.Bool.{cond_both}
use Rattle.slot_history.specs.declared.shape.Shape.{Shape}
use Rattle.slot_history.specs.declared.act.Act.{Act}
use Rattle.slot_history.specs.declared.act.Act.TheVariants.{Install}
use Rattle.slot_history.specs.declared.act.Entry.{Entry}
use Rattle.slot_history.specs.States.{held_at, task_of}
use Rattle.slot_history.specs.Steps.{state_after}
use Rattle.slot_history.specs.Histories.{IsLegal, IsOfTotals, entry, place_of, is_install}
use Rattle.slot_history.specs.Histories.{installs_of, total_of}
use Rattle.slot_history.specs.Lives.{has_task}
use Rattle.slot_history.specs.Subject.{InstallsOf, EntryIsOf, SubjectShows, SubjectGoesOn}
use Rattle.slot_history.specs.Subject.{SubjectBegins}
use Rattle.slot_history.proofs.Sets.{some-unwrapped}
use Rattle.slot_history.proofs.Beginnings.{begins-legal}
use Rattle.slot_history.proofs.TaskSetsKept.{total-stays}
use Rattle.slot_history.proofs.Counts.{install-is, install-never, installed-total}
use Rattle.slot_history.proofs.Claims.{tiles-cursor}
use Rattle.slot_history.proofs.Numbers.{named-installed}

-- ---- one call more

install-of : (totals : ℕ → Option ℕ) (a : Act) (o : Option ℕ) (id total : ℕ) → InstallsOf totals a o → is_install a id ≡ true → o ≡ Some total
    → totals id ≡ Some total
install-of totals a o id total of this is = (let r : InstallsOf totals (Install id) o = subst (λ b. InstallsOf totals b o) (install-is a id this) of in r).1
    ∙ is

pub subject-goes-on : SubjectGoesOn
subject-goes-on totals d e h of new id total =
    cond_both (is_install e.act id) (held_at (place_of d h e.worker)).total (total_of d id h) (λ o. o ≡ Some total → totals id ≡ Some total)
    (λ this. install-of totals e.act (held_at (place_of d h e.worker)).total id total new this)
    (λ other. of id total)

pub subject-begins : SubjectBegins
subject-begins totals d h early legal of (more, is) id total at =
    of id total (ap (total_of d id) is ∙ total-stays d id total more early (subst (IsLegal d) is legal) at)

-- ---- what was installed

module _ (totals : ℕ → Option ℕ) (d : Shape) (h : List Entry) (legal : IsLegal d h) (of : IsOfTotals totals d h) where
  pub installed-of : (id : ℕ) → 0 < installs_of id h → IsSome (totals id) × (total_of d id h ≡ totals id)
  installed-of id was =
      let r = installed-total d id h legal was in
      let is : totals id ≡ Some r.0 = of id r.0 r.1 in
      (subst IsSome (sym is) refl, r.1 ∙ sym is)

  pub slot-of : (s : ℕ) → let x = (state_after d h).slots s in has_task x ≡ true → totals (task_of x).id ≡ Some (task_of x).total
  slot-of s has = let t = task_of ((state_after d h).slots s) in of t.id t.total (tiles-cursor d h legal s has).0

-- the newest call
newest-of : (totals : ℕ → Option ℕ) (d : Shape) (w : ℕ) (a : Act) (h : List Entry) → IsLegal d (entry w a ∷ h) → IsOfTotals totals d (entry w a ∷ h)
    → EntryIsOf totals d (entry w a) h
newest-of totals d w (Install id) h legal of =
    let total : Option ℕ = (held_at (place_of d h w)).total in
    let set : IsSome total = (install-never d h w (Install id) id legal.2 legal.0 legal.1 (eq-eqb id id refl)).1 in
    let is : total ≡ Some (unwrap_or total 0) = some-unwrapped total 0 set in
    (set, of id (unwrap_or total 0) (ap (λ b. cond b total (total_of d id h)) (eq-eqb id id refl) ∙ is) ∙ sym is)
newest-of totals d w _ h legal of = tt

pub subject-shows : SubjectShows
subject-shows totals d h legal of = record {
  each = λ e early begins. newest-of totals d e.worker e.act early (begins-legal d h (e ∷ early) legal begins)
      (subject-begins totals d h (e ∷ early) legal of begins);
  installed = installed-of totals d h legal of;
  named = λ e early id begins is.
      let now : IsLegal d (e ∷ early) = begins-legal d h (e ∷ early) legal begins in
      (installed-of totals d (e ∷ early) now (subject-begins totals d h (e ∷ early) legal of begins) id (named-installed d e.worker e.act early id now is)).0;
  slots = slot-of totals d h legal of;
}
