use Rattle.std.proofs.Common.{◌≡◌, ◌++◌, take, flat_map, string_bytes}
use Rattle.report_text.specs.ReportText.{own_share}
use Rattle.report_text.proofs.printing.write_shares.Given as goal

abbrev pub invariant-loop-share : goal.invariant-loop-share
invariant-loop-share l = string_bytes l.text ≡ string_bytes l.initial.text ++ flat_map (own_share l.worker) (take l.share-index l.shares)
