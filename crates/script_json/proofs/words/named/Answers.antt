use Rattle.std.proofs.Common.{Ok, Err, inr, sym, ap, ◌∙◌}
use Rattle.col_table.proofs.NameLemmas.{is_name-long, is_name-refused}
use Rattle.col_table.specs.Name.{IsName, is_name}
use Rattle.script_json.proofs.KeptLemmas.{kept-broken, kept-true}
use Rattle.script_json.proofs.words.named.Goals as goal

pub returns-then-text-gt-MAX_NAME_BYTES : goal.returns-then-text-gt-MAX_NAME_BYTES
returns-then-text-gt-MAX_NAME_BYTES c =
    let text = c.args.text.now in
    inr (kept-broken is_name text (is_name-long text c.if-text-gt-MAX_NAME_BYTES.true) ∙ ap Err (sym c.bad_text.ensures))

pub returns-in-Ok : goal.returns-in-Ok
returns-in-Ok c =
    let text = c.args.text.now in
    let legal : IsName text = rw (sym c.in_ok-from_str.ensures.ok) c.in-Ok.ensures.named.0 in
    kept-true is_name text legal.is ∙ ap Ok (sym (c.in-Ok.ensures.named.1 ∙ c.in_ok-from_str.ensures.ok))

pub returns-in-Err : goal.returns-in-Err
returns-in-Err c =
    let text = c.args.text.now in
    let illegal : IsName text → ⊥ = rw (sym c.in_ok-from_str.ensures.ok) c.in-Err.ensures.refused.0 in
    inr (kept-broken is_name text (is_name-refused text c.utf8.text illegal) ∙ ap Err (sym c.bad_text-in-Err.ensures))
