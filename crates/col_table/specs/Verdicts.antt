-- A reader's verdict on bytes: what they stand for, or why they are refused.
use Rattle.std.specs.Prelude.{◌≡◌, Result}

-- exactly one verdict is right
pub record HasOneVerdict {Made Refusal : Type 0} (IsVerdict : Result Made Refusal → Type 0) : Type 0
  where
    pub verdict : Result Made Refusal
    pub is : IsVerdict verdict
    pub only : (other : Result Made Refusal) → IsVerdict other → other ≡ verdict
