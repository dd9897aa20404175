use Rattle.std.proofs.Common.{◌≡◌, ◌∙◌, ◌++◌, ◌∷◌, [], List, ap, arith, length, refl, sym, ℕ}
use Rattle.std.proofs.lemmas.List.{length_push}
use Rattle.csv.specs.Records.{fields_of}
use Rattle.csv.specs.declared.parser.Action.TheVariants as act
use Rattle.csv.specs.declared.parser.State.{State}
use Rattle.csv.specs.declared.parser.State.TheVariants as st
use Rattle.csv_tables.specs.Reading.{Underway, does, reads_from, state_of}
use Rattle.csv_tables.proofs.Bytes.{copies, ends_field, ends_record, skips}
use Rattle.csv_tables.proofs.Longer.{ends_longer}
use Rattle.csv_tables.proofs.scan.take_byte.Goals as goal

pub returns-in-Skip-clause-taken : goal.returns-in-Skip-clause-taken
returns-in-Skip-clause-taken c = (
  c.requires.few,
  λ rest. skips (state_of c.args.state) (state_of c.in-Skip.next) (fields_of c.args.fields.now) c.args.field.now.items c.args.byte rest
      c.in-Skip.ensures,
)

-- a comma ends the field at hand
field_ended : (from : State) (byte : ℕ) (old new : Underway) → does from byte ≡ (st.StartField, act.EndField)
    → new.fields ≡ old.fields ++ old.field ∷ [] → new.field ≡ [] → (rest : List ℕ) → reads_from from old (byte ∷ rest) ≡ reads_from st.StartField new rest
field_ended from byte old new ends fields field rest =
    ends_field from st.StartField old.fields old.field byte rest ends
    ∙ ap (λ fields. reads_from st.StartField (record { fields = fields; field = [] }) rest) (sym fields)
    ∙ ap (λ field. reads_from st.StartField (record { fields = new.fields; field = field }) rest) (sym field)

pub returns-in_ok-push-in-Copy-clause-taken : goal.returns-in_ok-push-in-Copy-clause-taken
returns-in_ok-push-in-Copy-clause-taken c = (
  c.requires.few,
  λ rest. copies (state_of c.args.state) (state_of c.in-Copy.next) (fields_of c.args.fields.now) c.args.field.now.items c.args.byte rest
      c.in-Copy.ensures
      ∙ ap (λ field. reads_from (state_of c.in-Copy.next) (record { fields = fields_of c.args.fields.now; field = field }) rest)
      (sym c.in_ok-push-in-Copy.ensures.items),
)

pub returns-then-len-eq-MAX_COLUMNS-clause-taken : goal.returns-then-len-eq-MAX_COLUMNS-clause-taken
returns-then-len-eq-MAX_COLUMNS-clause-taken c = λ rest.
    let old : Underway = record { fields = fields_of c.args.fields.now; field = c.args.field.now.items } in
    let new : Underway = record { fields = fields_of c.end_field.new.fields; field = c.end_field.new.field.items } in
    let ended = c.in_ok-end_field-in-EndField.ensures in
    let next = field_ended (state_of c.args.state) c.args.byte old new c.in-EndField.ensures ended.fields ended.field rest in
    let (read, is, more) = ends_longer st.StartField new.fields new.field rest refl in
    (read, next ∙ is, omega (arith, more, c.len.ensures, c.if-len-eq-MAX_COLUMNS.true))

pub returns-else-len-eq-MAX_COLUMNS-clause-taken : goal.returns-else-len-eq-MAX_COLUMNS-clause-taken
returns-else-len-eq-MAX_COLUMNS-clause-taken c =
    let old : Underway = record { fields = fields_of c.args.fields.now; field = c.args.field.now.items } in
    let new : Underway = record { fields = fields_of c.end_field.new.fields; field = c.end_field.new.field.items } in
    let ended = c.in_ok-end_field-in-EndField.ensures in (
      omega (arith, c.requires.few, c.len.ensures, c.if-len-eq-MAX_COLUMNS.false, ap length ended.fields, length_push old.fields old.field),
      field_ended (state_of c.args.state) c.args.byte old new c.in-EndField.ensures ended.fields ended.field,
    )

pub returns-in_ok-end_field-in-EndRecord-clause-taken : goal.returns-in_ok-end_field-in-EndRecord-clause-taken
returns-in_ok-end_field-in-EndRecord-clause-taken c =
    let fields = fields_of c.args.fields.now in
    let field = c.args.field.now.items in
    let ended = c.in_ok-end_field-in-EndRecord.ensures in (
      omega (arith, c.requires.few, ap length ended.fields, length_push fields field),
      λ rest. let (after, ends) = c.in-EndRecord.ensures in
          (after, rw ended.fields (ends_record (state_of c.args.state) after fields field c.args.byte rest ends)),
    )
