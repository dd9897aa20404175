-- What a seat leaves to others.
use Rattle.std.proofs.Common.{◌≡◌, ◌≢◌, ℕ, List, [], ◌∷◌, ◌++◌, cond, eqb, ◌&&◌, All, refl, sym, ap, ◌∙◌, subst, ne_eqb}
use Rattle.std.proofs.lemmas.List.Elements.{All-head, All-tail}
use Rattle.slot_station.specs.declared.log.Logged.{Logged}
use Rattle.slot_station.specs.declared.log.Logged.TheVariants.{Call, Exchanged}
use Rattle.slot_station.specs.Cells.{noted}
use Rattle.slot_station.specs.Log.{calls_of, note_in, who}
use Rattle.one_thread.specs.Seats.{IsUntouched, OthersStay}
use Rattle.one_thread.proofs.Trails.{trail-other}

-- one step of w
step-leaves : (w v : ℕ) → v ≢ w → (x : Logged) → who x ≡ w → (l : List Logged) → IsUntouched l (x ∷ l) v
step-leaves w v ne (Call e) mine l =
    let other : v ≢ e.worker = λ is. ne (is ∙ mine) in record {
      trail = trail-other e (calls_of l) v other;
      notes = λ u. ap (λ b. cond b (noted e.act v u (note_in l v u)) (note_in l v u)) (ne_eqb v e.worker other);
    }
step-leaves w v ne (Exchanged x) mine l =
    let other : v ≢ x.worker = λ is. ne (is ∙ mine) in record {
      trail = refl;
      notes = λ u. ap (λ b. cond (b && eqb u x.cell) x.note (note_in l v u)) (ne_eqb v x.worker other);
    }

-- more of its steps
steps-leave : (w v : ℕ) → v ≢ w → (more l : List Logged) → All (λ x. who x ≡ w) more → IsUntouched l (more ++ l) v
steps-leave w v ne [] l own = record { trail = refl; notes = λ u. refl }
steps-leave w v ne (x ∷ more) l own =
    let last = step-leaves w v ne x (All-head (λ y. who y ≡ w) x more own) (more ++ l) in
    let rest = steps-leave w v ne more l (All-tail (λ y. who y ≡ w) x more own) in
    record { trail = last.trail ∙ rest.trail; notes = λ u. last.notes u ∙ rest.notes u }

pub others-stay : {Sub : Type 0} → OthersStay Sub
others-stay start now w since v ne = subst (λ l. IsUntouched start.log l v) (sym since.log) (steps-leave w v ne since.more start.log since.own)
