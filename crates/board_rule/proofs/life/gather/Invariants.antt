use Rattle.std.proofs.Common.{◌≡◌, List, ◌++◌, vec_len}
use Rattle.board_rule.specs.declared.board.Pass.{Pass}
use Rattle.board_rule.specs.Ends.{IsGathered}
use Rattle.board_rule.proofs.life.gather.Given as goal

abbrev pub invariant-loop-pass : goal.invariant-loop-pass
invariant-loop-pass g l =
    (done : List (Pass g.row.B.Denot g.row.B-Subject.Denot)) × (l.fn.passes.items ≡ l.passes.items ++ done) × IsGathered l.board done l.seat

abbrev pub decreases-loop-pass : goal.decreases-loop-pass
decreases-loop-pass g l = vec_len l.passes
