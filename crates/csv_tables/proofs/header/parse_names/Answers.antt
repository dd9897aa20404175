use Rattle.std.proofs.Common.{◌≡◌, ◌+◌, ◌∙◌, ◌++◌, ◌∷◌, [], ap, arith, inl, inr, length, subst, sym, take}
use Rattle.std.specs.List.{Contains}
use Rattle.std.proofs.lemmas.Bool.{cases_lt, false≢true}
use Rattle.std.proofs.lemmas.List.{take_all, take_more}
use Rattle.std.proofs.lemmas.Result.{err_from_is_err_and}
use Rattle.col_table.specs.Name.{IsName}
use Rattle.csv.specs.Records.{field_at, fields_of}
use Rattle.csv.proofs.RecordFacts.{field-there}
use Rattle.csv_tables.specs.Refusals.{AreNames}
use Rattle.csv_tables.proofs.Headers.{field_read, length_taken, name_decides, name_refused, names_push, twice_named}
use Rattle.csv_tables.proofs.header.parse_names.Goals as goal

pub returns-in_err-name-clause-refused : goal.returns-in_err-name-clause-refused
returns-in_err-name-clause-refused c =
    let p = err_from_is_err_and c.from_residual-in_err-name.result c.from_residual-in_err-name.ensures.1 in
    let fields = fields_of c.args.header.now in
    let at = c.loop-field.field-iterator.at in
    let field = field_read c.loop-field.field-iterator.row.now c.args.header.now at c.in-Some.field.now c.loop-field.invariant.row c.in-Some.ensures.steps.1 in
    let here = field.here in
    let taken = length_taken c.loop-field.names.items fields at c.loop-field.invariant.names field.within in
    let counted : c.len-in-loop-field.result + 1 ≡ at + 1 = omega (arith, c.loop-field.names.ok.0, taken) in
    rw (p.1, p.2)
    (name_refused fields at
    (c.len-in-loop-field.result + 1) c.in-Some.field.now c.requires field.within here c.loop-field.invariant.good counted _ c.in_err-name.ensures.refused)

pub returns-then-contains-clause-refused : goal.returns-then-contains-clause-refused
returns-then-contains-clause-refused c =
    let fields = fields_of c.args.header.now in
    let at = c.loop-field.field-iterator.at in
    let field = field_read c.loop-field.field-iterator.row.now c.args.header.now at c.in-Some.field.now c.loop-field.invariant.row c.in-Some.ensures.steps.1 in
    let name = c.in_ok-name.ensures.name in
    let here = field.here ∙ sym name.1 in
    let taken = length_taken c.loop-field.names.items fields at c.loop-field.invariant.names field.within in
    let counted : c.len-in-loop-field.result + 1 ≡ at + 1 = omega (arith, c.loop-field.names.ok.0, taken) in
    let twice = (name_decides c.deref.result.now c.in_ok-name.name c.contains.result c.contains.ensures.cases).0 c.if-contains.true in
    let among = subst (λ names. Contains names c.in_ok-name.name) (c.deref.ensures.value ∙ c.loop-field.invariant.names) twice in
    inr (twice_named fields at (c.len-in-loop-field.result + 1) c.in_ok-name.name c.requires field.within here c.loop-field.invariant.good counted
    (subst IsName (sym name.1) name.0) among)

pub loop-field-preserved : goal.loop-field-preserved
loop-field-preserved c =
    let fields = fields_of c.args.header.now in
    let at = c.loop-field.field-iterator.at in
    let field = field_read c.loop-field.field-iterator.row.now c.args.header.now at c.in-Some.field.now c.loop-field.invariant.row c.in-Some.ensures.steps.1 in
    let name = c.in_ok-name.ensures.name in
    let here = field.here ∙ sym name.1 in
    let next = c.in-Some.ensures.steps.2 in
    let more : take c.next.new.self.at fields ≡ take at fields ++ c.in_ok-name.name ∷ [] =
    ap (λ n. take n fields) next ∙ take_more fields at [] field.within ∙ ap (λ last. take at fields ++ last ∷ []) here in
    let new : ¬ (Contains (take at fields) c.in_ok-name.name) = λ among.
    let found = (name_decides c.deref.result.now c.in_ok-name.name c.contains.result c.contains.ensures.cases).1
    (subst (λ names. Contains names c.in_ok-name.name) (sym (c.deref.ensures.value ∙ c.loop-field.invariant.names)) among) in
    absurd (false≢true (sym c.if-contains.false ∙ found)) in
    record {
      row = ap (λ row. row.now) c.next.ensures.steps.0 ∙ c.loop-field.invariant.row;
      within = omega (arith, next, field.within);
      good = subst AreNames (sym more) (names_push (take at fields) c.in_ok-name.name c.loop-field.invariant.good (subst IsName (sym name.1) name.0) new);
      names = c.in_ok-push.ensures.items ∙ ap (λ names. names ++ c.in_ok-name.name ∷ []) c.loop-field.invariant.names ∙ sym more;
    }

pub returns-clause-names : goal.returns-clause-names
returns-clause-names c =
    let fields = fields_of c.args.header.now in
    let at = c.loop-field.field-iterator.at in
    let none = ap (λ row. field_at (fields_of row) at) (sym c.loop-field.invariant.row) ∙ sym c.in-None.ensures.steps.1 in
    let all : take at fields ≡ fields = elim (cases_lt at (length fields)) [
      | inl within ↦ absurd
          (field-there fields at within none)
      | inr past ↦ take_all at fields past
    ] in
    (subst AreNames all c.loop-field.invariant.good, c.loop-field.invariant.names ∙ all)
