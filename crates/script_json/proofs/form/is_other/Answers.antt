use Rattle.std.proofs.Common.{not, ap, ◌∙◌}
use Rattle.script_json.proofs.ObjectLemmas.{is_listed-refs}
use Rattle.script_json.proofs.form.is_other.Goals as goal

pub returns : goal.returns
returns c =
    rw (← c.as_str.ensures.value) (ap not (c.is_among.ensures ∙ is_listed-refs c.args.keys.now c.as_str.result.now))
