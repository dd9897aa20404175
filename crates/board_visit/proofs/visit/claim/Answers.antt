use Rattle.std.proofs.Common.{sym, ap, ◌∙◌}
use Rattle.slot_history.specs.Steps.{moved}
use Rattle.slot_station.specs.Tokens.{ClaimGives}
use Rattle.slot_station.proofs.Follows.{range-cut, range-past}
use Rattle.slot_words.specs.Steps.{claim_answer}
use Rattle.board_rule.specs.Passes.{board_shape}
use Rattle.board_rule.proofs.Callers.{advances-as, brings}
use Rattle.board_visit.proofs.visit.claim.Goals as goal

pub returns-clause-made : goal.returns-clause-made
returns-clause-made g c =
    advances-as c.make_step-found.ensures.stepped (c.claim_read-claim.ensures.act ∙ ap (λ n. claim_answer n c.make_step-found.result) (sym c.from.ensures))
    c.place_after-pass.result
    (c.place_after-pass.ensures ∙ ap (λ a. moved c.args.board.now.shape a c.make_step-found.new.pass.place) c.act.ensures) c.make_step-found.ensures.made

pub returns-clause-range : goal.returns-clause-range
returns-clause-range g c = range-cut c.args.n c.claim_read-claim.result (returns-clause-made g c).1

pub returns-clause-past : goal.returns-clause-past
returns-clause-past g c = range-past c.args.n c.claim_read-claim.result (returns-clause-made g c).1 c.requires.place

pub returns-clause-spent : goal.returns-clause-spent
returns-clause-spent g c =
    brings c.make_step-found.ensures.stepped (c.claim_read-claim.ensures.act ∙ ap (λ n. claim_answer n c.make_step-found.result) (sym c.from.ensures))
    ClaimGives c.claim_read-claim.result (c.claim_read-claim.ensures.gives (board_shape c.args.board.now))
