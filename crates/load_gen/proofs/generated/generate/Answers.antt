use Rattle.std.proofs.Common.{◌≡◌, All, List, None, ◌∙◌, ap, subst, sym}
use Rattle.plan_ast.specs.Names.{refusal_of}
use Rattle.plan_ast.specs.declared.queries.NamedTable.{NamedTable}
use Rattle.script_json.specs.declared.script.Script.{Script}
use Rattle.load_gen.specs.Draws.{first_state, state_after}
use Rattle.load_gen.specs.Generated.{script_from, script_of, tables_from}
use Rattle.load_gen.specs.declared.generated.Generated.{Generated}
use Rattle.load_gen.proofs.FoundLemmas.{names-found}
use Rattle.load_gen.proofs.generated.generate.Goals as goal

pub returns-clause-subject : goal.returns-clause-subject
returns-clause-subject c =
    let number = c.args.number in
    let start : c.new-draws.result ≡ first_state number = c.new-draws.ensures in
    let tables : c.in_ok-tables.tables ≡ tables_from (first_state number) = c.in_ok-tables.ensures.tables ∙ ap tables_from start in
    let drawn : c.draw_tables.new.draws ≡ state_after (first_state number) 601000 =
    c.in_ok-tables.ensures.draws ∙ ap (λ state. state_after state 601000) start in
    let script : c.in_ok-script.script ≡ script_of number = c.in_ok-script.ensures.script ∙ ap script_from drawn in
    let made : Script → List NamedTable → Generated = λ script tables. record { script = script; tables = tables } in
    ap (λ script. made script c.in_ok-tables.tables) script ∙ ap (made (script_of number)) tables

pub returns-clause-names : goal.returns-clause-names
returns-clause-names c =
    subst (λ (made : Generated). All (λ query. refusal_of made.tables query ≡ None) made.script.queries) (sym (returns-clause-subject c))
    (names-found c.args.number)
