use Rattle.std.proofs.Common.{◌∙◌, ◌+◌, [], drop, get_or, sym}
use Rattle.std.proofs.lemmas.List.{at_drop_more}
use Rattle.csv.specs.declared.parser.State.TheVariants as st
use Rattle.csv_tables.specs.Reading.{reads_from}
use Rattle.csv_tables.proofs.Bytes.{begins_field, skips_line}
use Rattle.csv_tables.proofs.plain.first_byte.Goals as goal

pub returns-then-not-ends_line-clause-begins : goal.returns-then-not-ends_line-clause-begins
returns-then-not-ends_line-clause-begins c =
    let bytes = c.args.bytes.now in
    let place = c.loop-place.place in
    let start = at_drop_more (λ rest. reads_from st.StartRecord (record { fields = []; field = [] }) rest) bytes place 0 c.loop-place-test.true in
    let field = at_drop_more (λ rest. reads_from st.StartField (record { fields = []; field = [] }) rest) bytes place 0 c.loop-place-test.true in
    c.loop-place.invariant ∙ start ∙ begins_field (get_or bytes place 0) (drop (place + 1) bytes) (sym c.if-not-ends_line.ensures) ∙ sym field

pub loop-place-preserved : goal.loop-place-preserved
loop-place-preserved c =
    let bytes = c.args.bytes.now in
    let place = c.loop-place.place in
    let start = at_drop_more (λ rest. reads_from st.StartRecord (record { fields = []; field = [] }) rest) bytes place 0 c.loop-place-test.true in
    c.loop-place.invariant ∙ start ∙ skips_line (get_or bytes place 0) (drop (place + 1) bytes) (sym c.if-not-ends_line.ensures)
