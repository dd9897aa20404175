-- The same place and the same notes allow a worker the same calls.
use Rattle.std.proofs.Common.{◌≡◌, ℕ, Option, sym, ap, ◌∙◌, subst}
use Rattle.slot_history.specs.declared.shape.Shape.{Shape}
use Rattle.slot_history.specs.declared.act.Act.TheVariants.{Install}
use Rattle.slot_history.specs.declared.place.Place.{Place}
use Rattle.slot_history.specs.States.{has_cell, held_at}
use Rattle.slot_history.specs.Calls.{Call, Leaving, Installing, Releasing}
use Rattle.slot_history.specs.Subject.{InstallsOf}
use Rattle.slot_station.specs.declared.note.Note.{Note}
use Rattle.slot_station.specs.Cells.{Caller, CellsAllow}

module _ (totals : ℕ → Option ℕ) (d : Shape) (w : ℕ) (p q : Place) (N M : ℕ → Note) (there : p ≡ q) (same : (u : ℕ) → N u ≡ M u) where
  abbrev By : Place → (ℕ → Note) → Caller
  By r notes = record { shape = d; worker = w; place = r; notes = notes }

  pub cells-same : (c : Call) → CellsAllow totals (By p N) c → CellsAllow totals (By q M) c
  cells-same Leaving h = λ has. sym (same w) ∙ h (ap has_cell there ∙ has)
  cells-same (Installing id) h = (λ u low. sym (same u) ∙ h.0 u low, subst (λ r. InstallsOf totals (Install id) (held_at r).total) there h.1)
  cells-same Releasing h = λ u low. sym (same u) ∙ h u low
  cells-same _ h = tt
