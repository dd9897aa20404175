use Rattle.std.proofs.Common.{◌≡◌, map, not, string_bytes, rules, ◌∙◌, tests}
use Rattle.std.proofs.lemmas.Iterator.Consumers.{YieldsList-from_rest}
use Rattle.std.proofs.lemmas.Iterator.Search.{any_from_yields_List}
use Rattle.std.specs.List.{list_any}
use Rattle.std.specs.Map.{keys_of}
use Rattle.script_json.proofs.ObjectLemmas.{has_other_key-members_view}
use Rattle.script_json.specs.Forms.{is_listed}
use Rattle.script_json.proofs.form.has_another_key.Goals as goal

pub returns : goal.returns
returns c =
    let keys = map (λ key. key.now) c.args.keys.now in
    let entries = c.args.members.now.entries in
    let found : c.any.result ≡ list_any (λ name. not (is_listed keys (string_bytes name))) (keys_of entries) =
    any_from_yields_List (λ name. not (is_listed keys (string_bytes name))) _ _ c.any.result c.any.ensures.ran
    (YieldsList-from_rest (keys_of entries) c.keys.ensures.rest) (λ x b q k. search (rules, tests)) in
    found ∙ has_other_key-members_view keys entries
