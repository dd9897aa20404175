use Rattle.std.proofs.Common.{◌∙◌, ◌+◌, [], Some, ap, arith, drop, length, sym}
use Rattle.std.proofs.lemmas.List.{at_drop_more, drop_all, length_push}
use Rattle.csv.specs.Records.{fields_of}
use Rattle.csv.specs.declared.parser.State.TheVariants as st
use Rattle.csv_tables.specs.Reading.{reads_from, state_of}
use Rattle.csv_tables.proofs.Bytes.{last_left, none_left}
use Rattle.csv_tables.proofs.Records.{has_record_at, no_record_at, record_at}
use Rattle.csv_tables.proofs.scan.read_record.Goals as goal

pub returns-in-Ended : goal.returns-in-Ended
returns-in-Ended c =
    let bytes = c.args.bytes.now in
    let place = c.loop-place.place in
    let (few, ends) = rw c.in-Ended.is at c.in_ok-next.ensures.taken in
    let (after, ended) = ends (drop (place + 1) bytes) in
    let here = at_drop_more (λ rest. reads_from (state_of c.loop-place.state)
    (record { fields = fields_of c.loop-place.fields; field = c.loop-place.field.items }) rest) bytes place 0 c.loop-place-test.true in
    (record_at bytes c.args.at (place + 1) (fields_of c.take_byte.new.fields) after (omega arith) (c.loop-place.invariant.reads ∙ here ∙ ended), few)

pub returns-in-TooLong : goal.returns-in-TooLong
returns-in-TooLong c =
    let bytes = c.args.bytes.now in
    let place = c.loop-place.place in
    let (read, ends, many) = (rw c.in-TooLong.is at c.in_ok-next.ensures.taken) (drop (place + 1) bytes) in
    let here = at_drop_more (λ rest. reads_from (state_of c.loop-place.state)
    (record { fields = fields_of c.loop-place.fields; field = c.loop-place.field.items }) rest) bytes place 0 c.loop-place-test.true in
    (read.0, has_record_at bytes c.args.at read (c.loop-place.invariant.reads ∙ here ∙ ends), many)

pub returns-in-StartRecord : goal.returns-in-StartRecord
returns-in-StartRecord c =
    let bytes = c.args.bytes.now in
    let fields = fields_of c.loop-place.fields in
    let field = c.loop-place.field.items in
    let rest = drop_all c.loop-place.place bytes c.loop-place-test.false in
    no_record_at bytes c.args.at (
    c.loop-place.invariant.reads
    ∙ ap (λ rest. reads_from (state_of c.loop-place.state) (record { fields = fields; field = field }) rest) rest
    ∙ ap (λ state. reads_from (state_of state) (record { fields = fields; field = field }) []) c.in-StartRecord.is
    ∙ none_left fields field)

pub returns : goal.returns
returns c =
    let bytes = c.args.bytes.now in
    let fields = fields_of c.loop-place.fields in
    let field = c.loop-place.field.items in
    let rest = drop_all c.loop-place.place bytes c.loop-place-test.false in
    let end = drop_all (length bytes) bytes (omega arith) in
    let ended = c.in_ok-end_field.ensures.fields in
    let reads = c.loop-place.invariant.reads
    ∙ ap (λ rest. reads_from (state_of c.loop-place.state) (record { fields = fields; field = field }) rest) rest
    ∙ last_left c.loop-place.state fields field c.in_default.not-StartRecord
    ∙ ap (λ fields. Some (fields, st.StartRecord, [])) (sym ended)
    ∙ ap (λ rest. Some (fields_of c.end_field.new.fields, st.StartRecord, rest)) (sym end) in
    let few = c.loop-place.invariant.few in (
      record_at bytes c.args.at (length bytes) (fields_of c.end_field.new.fields) st.StartRecord (omega arith) reads,
      omega (arith, ap length ended, length_push fields field),
    )
