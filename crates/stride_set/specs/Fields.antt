-- The fields of a set as contracts see them, and what holds of them.
use Rattle.std.specs.Prelude.{◌<◌, ◌^◌, length}
use Rattle.stride_set.specs.declared.StrideSet.TheInside.{Inside}
use Rattle.stride_set.specs.Slots.{IsReach}
use Rattle.stride_set.specs.Strides.{StrideState, IsBounded, strides_of}

-- what contracts see of the fields of a `StrideSet`
abbrev pub state_of : Inside → StrideState
state_of a = record {
  slots = a.slots.items;
  floor = a.floor;
  largest = a.largest;
  widest = a.widest;
}

-- what holds of the fields of a `StrideSet` between any two calls
pub record IsStrideSet (a : Inside) : Type 0 where
  pub bounded : IsBounded (strides_of (state_of a))
  pub few : length a.slots.items < 2 ^ 32
  pub reach : IsReach a.slots.items a.reach
