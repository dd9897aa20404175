use Rattle.std.proofs.Common.{◌≡◌, ◌∷◌, [], List, codes, ◌∙◌, ap, subst, sym}
use Rattle.plan_ast.specs.declared.queries.Query.{Query}
use Rattle.script_json.specs.WellFormed.{IsScript}
use Rattle.script_json.specs.declared.script.Script.{Script}
use Rattle.script_json.specs.declared.script.TableEntry.{TableEntry}
use Rattle.load_gen.specs.Generated.{entry_of}
use Rattle.load_gen.proofs.ScriptLemmas.{IsScript-drawn}
use Rattle.load_gen.proofs.generated.draw_script.Goals as goal

pub returns-clause-well_formed : goal.returns-clause-well_formed
returns-clause-well_formed c =
    let t = entry_of (codes "t") (codes "t.csv") in
    let u = entry_of (codes "u") (codes "u.csv") in
    let made : List TableEntry → List Query → Script = λ tables queries. record { tables = tables; queries = queries } in
    let tables : c.of.result ≡ t ∷ u ∷ [] =
    c.of.ensures ∙ c.in_ok-vec.ensures.items ∙ ap (λ first. first ∷ c.in_ok-u.u ∷ []) c.in_ok-t.ensures ∙ ap (λ last. t ∷ last ∷ []) c.in_ok-u.ensures in
    subst IsScript (sym (ap (λ tables. made tables c.in_ok-draw_queries.field-0) tables ∙ ap (made (t ∷ u ∷ [])) c.in_ok-draw_queries.ensures))
    (IsScript-drawn c.args.draws.now)
