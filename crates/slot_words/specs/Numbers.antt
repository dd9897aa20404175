-- The numbers of an answer fit the 32 bits that they are kept in.
use Rattle.std.specs.Prelude.{◌<◌, ◌^◌}
use Rattle.slot_history.specs.declared.act.Act.{Act}
use Rattle.slot_history.specs.declared.act.Act.TheVariants.{LookOpen, ClaimRange, LeaveOwe}
use Rattle.slot_history.specs.declared.act.Act.TheVariants.{SweepOthers, AdmitLost, Arrivals}
use Rattle.slot_history.specs.declared.act.Act.TheVariants.{Finished}

abbrev pub IsSmall : Act → Type 0
IsSmall (LookOpen id) = id < 2 ^ 32
IsSmall (ClaimRange n from to) = (from < 2 ^ 32) × (to < 2 ^ 32)
IsSmall (LeaveOwe id) = id < 2 ^ 32
IsSmall (SweepOthers n) = n < 2 ^ 32
IsSmall (AdmitLost q now) = now < 2 ^ 32
IsSmall (Arrivals n) = n < 2 ^ 32
IsSmall (Finished n) = n < 2 ^ 32
IsSmall _ = Unit {0}
