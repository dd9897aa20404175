use Rattle.std.proofs.Common.{◌++◌, codes, take}
use Rattle.std.specs.Fmt.{HasWritten, IsPlainFormatter}
use Rattle.script_json.specs.Paths.{steps_text}
use Rattle.script_json.proofs.refusal.PathDisplay.fmt.Given as goal

abbrev pub invariant-loop-step : goal.invariant-loop-step
invariant-loop-step g l =
    IsPlainFormatter l.fn.f → HasWritten g.W.Write.write_str_gives l.fn.f (codes "$" ++ steps_text (take l.step-index l.step-items)) l.f
