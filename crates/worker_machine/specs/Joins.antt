-- What the notices of a mask word do to passes, one by one from the lowest slot upwards, and to
-- groups.
use Rattle.std.specs.Prelude.{◌≡◌, ℕ, zero, suc, ◌+◌, ◌*◌, ◌==◌, if◌then◌else◌, Bool, cond}
use Rattle.std.specs.Prelude.{List, Some, None, slice_get}
use Rattle.std.specs.Int.{bit_at}
use Rattle.stride_set.specs.Strides.{Call, JoinReturn, JoinChange, Strides, stride_after}
use Rattle.worker_machine.specs.declared.joins.Notice.{Notice}
use Rattle.worker_machine.specs.declared.joins.Notice.TheVariants.{Returned, Changed}
use Rattle.worker_machine.specs.declared.kept.Known.{Known}

-- how a slot joins by a notice
abbrev pub join_of : Notice → ℕ → Call
join_of Returned = JoinReturn
join_of Changed = JoinChange

-- the joins of those of the first n slots of the word that have their bit
unfoldable pub joined : (ℕ → Call) → ℕ → ℕ → ℕ → Strides → Strides
joined join zero part bits st = st
joined join (suc n) part bits st =
    let before = joined join n part bits st in
    if bit_at bits n == 1 then stride_after before (join (part * 64 + n)) else before

abbrev pub returned : ℕ → ℕ → ℕ → Strides → Strides
returned = joined JoinReturn

abbrev pub changed : ℕ → ℕ → ℕ → Strides → Strides
changed = joined JoinChange

-- the group of a slot is forgotten, if this is so; all else that is known of it stays
abbrev pub forgotten : Bool → Known → Known
forgotten gone known = record known { group = cond gone None known.group }

-- the groups of these slots are forgotten, and no other
abbrev pub AreForgotten : (ℕ → Bool) → List Known → List Known → Type 0
AreForgotten gone old new = (s : ℕ) (known : Known) → slice_get new s ≡ Some known
    → (before : Known) × (slice_get old s ≡ Some before) × (known ≡ forgotten (gone s) before)
