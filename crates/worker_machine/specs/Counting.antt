-- The shares of a worker: what its ranges of each query came to.
use Rattle.std.specs.Prelude.{◌≡◌, ℕ, ◌≤◌, List}
use Rattle.std.specs.Vec.{vec_capacity}
use Rattle.std.specs.declared.vec.Vec.{Vec}
use Rattle.std.specs.Global.{Global}
use Rattle.report_text.specs.declared.report.Share.{Share}
use Rattle.turn_model.specs.Shares as shares
use Rattle.turn_model.specs.Shares.{AscendWithin}
use Rattle.worker_machine.specs.declared.shares.Worked.{Worked}

-- a range that was worked on, as the laws of runs see it
abbrev pub as_range : Worked → shares.Worked
as_range range = record {
  worker = range.worker;
  query = range.query;
  tuples = range.tuples;
  ns = range.ns;
  priority = range.priority;
}

-- a worker has these shares, which ascend by query, and room for one of each of so many queries
pub record HasShares (queries : ℕ) (these : List Share) (shares : Vec Share Global) : Type 0 where
  pub are : shares.items ≡ these
  pub ascend : AscendWithin 0 queries shares.items
  pub room : queries ≤ vec_capacity shares
