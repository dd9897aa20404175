use Rattle.std.proofs.Common.{◌≡◌, ◌++◌, take, flat_map, string_bytes}
use Rattle.report_text.specs.AnswersText.{line}
use Rattle.report_text.specs.ReportText.{claim_line}
use Rattle.report_text.proofs.printing.write_claims.Given as goal

abbrev pub invariant-loop-claim : goal.invariant-loop-claim
invariant-loop-claim l = string_bytes l.text ≡ string_bytes l.initial.text ++ flat_map (λ claim. line (claim_line claim)) (take l.claim-index l.claims)
