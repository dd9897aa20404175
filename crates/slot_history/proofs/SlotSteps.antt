-- The slot after a call that is not its holder's: some tuples more were asked for, it was shut or is finalised, its end
-- went on, or it stayed.
use Rattle.std.proofs.Common.{◌≡◌, ℕ, Bool, true, false}
use Rattle.slot_history.specs.declared.shape.Shape.{Shape}
use Rattle.slot_history.specs.declared.act.Act.{Act}
use Rattle.slot_history.specs.declared.act.Act.TheVariants.{ClaimRange, ClaimUsed, ShutWon, PayLast}
use Rattle.slot_history.specs.declared.act.Act.TheVariants.{PayDone, MarkMarked, MarkMissed}
use Rattle.slot_history.specs.declared.act.Act.TheVariants.{SweepLast, SweepOthers, ReserveGot}
use Rattle.slot_history.specs.declared.act.Act.TheVariants.{AdmitGot, NoteDone, SetTotal, Install}
use Rattle.slot_history.specs.declared.act.Act.TheVariants.{Release}
use Rattle.slot_history.specs.States.{SlotState}
use Rattle.slot_history.specs.Steps.{slot_after, claimed, shut_by, ended, finalised_by}

-- the call is made to hold the slot, or by its holder
abbrev pub is_holders : Act → Bool
is_holders (ReserveGot s) = true
is_holders (AdmitGot q) = true
is_holders (NoteDone n) = true
is_holders (SetTotal n) = true
is_holders (Install id) = true
is_holders Release = true
is_holders _ = false

-- what such calls make of a slot, by P, which holds of a slot before and after
module _ (d : Shape) (w : ℕ) (P : SlotState → SlotState → Type 0) (stays : (x : SlotState) → P x x)
    (claims : (x : SlotState) (n : ℕ) → P x (claimed x n)) (shuts : (x : SlotState) → P x (shut_by w x))
    (lasts : (x : SlotState) → P x (finalised_by w x)) (ends : (a : Act) (x : SlotState) → P x (ended d w a x)) where
  pub after-others : (a : Act) → is_holders a ≡ false → (x : SlotState) → P x (slot_after d w a x)
  after-others (ClaimRange n from to) not_held x = claims x n
  after-others (ClaimUsed n) not_held x = claims x n
  after-others ShutWon not_held x = shuts x
  after-others PayLast not_held x = lasts x
  after-others SweepLast not_held x = lasts x
  after-others PayDone not_held x = ends PayDone x
  after-others MarkMarked not_held x = ends MarkMarked x
  after-others MarkMissed not_held x = ends MarkMissed x
  after-others (SweepOthers n) not_held x = ends (SweepOthers n) x
  after-others (ReserveGot s) not_held x = absurd (cc)
  after-others (AdmitGot q) not_held x = absurd (cc)
  after-others (NoteDone n) not_held x = absurd (cc)
  after-others (SetTotal n) not_held x = absurd (cc)
  after-others (Install id) not_held x = absurd (cc)
  after-others Release not_held x = absurd (cc)
  after-others _ not_held x = stays x
