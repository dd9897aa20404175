use Rattle.std.proofs.Common.{ap, ◌∙◌}
use Rattle.slot_station.specs.Tokens.{SweepGives}
use Rattle.slot_words.specs.Steps.{sweep_answer}
use Rattle.board_rule.specs.Passes.{board_shape}
use Rattle.board_rule.proofs.Callers.{brings}
use Rattle.board_finish.proofs.finish.sweep.Goals as goal

pub returns-clause-holder : goal.returns-clause-holder
returns-clause-holder g c =
    brings c.make_step-found.ensures.stepped (c.sweep_read-sweep.ensures.act ∙ ap (λ m. sweep_answer m c.make_step-found.result) c.marked_at-marks.ensures)
    SweepGives c.sweep_read-sweep.result (c.sweep_read-sweep.ensures.gives (board_shape c.args.board.now))
