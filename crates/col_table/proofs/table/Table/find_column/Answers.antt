use Rattle.std.proofs.Common.{◌∙◌, [], Some, ap, get_or, nat_eq, rules, subst, sym, tests}
use Rattle.std.specs.Cmp.Lexicographic.{pointwise}
use Rattle.std.proofs.lemmas.Iterator.{YieldsList-from_slice}
use Rattle.std.proofs.lemmas.Iterator.Search.{position_from_yields_List}
use Rattle.std.proofs.lemmas.List.Quantifiers.{position-Some}
use Rattle.std.proofs.lemmas.Option.{slice_get-get_or}
use Rattle.std.proofs.lemmas.Slice.Eq.{bytes_eq-Decides}
use Rattle.col_table.specs.NamedRows.{IsTable}
use Rattle.col_table.proofs.Stored.{IsTable-from_stored}
use Rattle.col_table.proofs.table.Table.find_column.Goals as goal

pub returns-clause-found : goal.returns-clause-found
returns-clause-found c =
    let names = c.args.self.now.names in
    let name = c.args.name.now in
    let first = position_from_yields_List (λ other. pointwise nat_eq other name) _ _ c.position.result c.position.ensures.ran
    (YieldsList-from_slice names cc) (λ x b q k. search (rules, tests)) in
    let found = position-Some (λ other. pointwise nat_eq other name) names c.in_ok-col.col [] (sym first ∙ c.in_ok-col.was) in
    slice_get-get_or names c.in_ok-col.col [] found.0 ∙ ap (λ x. Some x) ((bytes_eq-Decides (get_or names c.in_ok-col.col []) name).0 found.1)

pub returns-in_err-col-clause-table : goal.returns-in_err-col-clause-table
returns-in_err-col-clause-table c = subst IsTable c.self.view_is (IsTable-from_stored c.self.inside c.self.invariant)

pub returns-clause-table : goal.returns-clause-table
returns-clause-table c = subst IsTable c.self.view_is (IsTable-from_stored c.self.inside c.self.invariant)
