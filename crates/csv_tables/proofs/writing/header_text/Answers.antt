use Rattle.std.proofs.Common.{◌≡◌, ◌∙◌, ◌++◌, All, ap}
use Rattle.std.proofs.lemmas.Result.{IfOk-weaker}
use Rattle.col_table.specs.Name.{IsName}
use Rattle.csv.specs.Records.{fields_of}
use Rattle.csv.specs.Writing.{default_writer, row_text, writer_pending, writer_setup}
use Rattle.csv_tables.proofs.Outcomes.{IfOk-map_err}
use Rattle.csv_tables.proofs.writing.header_text.Goals as goal

pub returns-in-Ok : goal.returns-in-Ok
returns-in-Ok c =
    let names = c.args.table.now.names in
    let filled = c.in_ok-fill_names.ensures in
    let writer = c.from_writer-writer in
    let setup : writer_setup writer.result ≡ default_writer = writer.ensures.cfg ∙ c.new.ensures in
    let written = c.in-Ok.ensures.bytes writer.ensures.fields writer.ensures.wrote
    (λ same. let style = ap (λ setup. setup.style) setup in cc) in
    let fields = fields_of c.fill_names.new.fields in
    let row = row_text (writer_setup writer.result) fields in
    let text = written
    ∙ ap (λ vec. (vec.items ++ writer_pending writer.result) ++ row) writer.ensures.wtr
    ∙ ap (λ items. (items ++ writer_pending writer.result) ++ row) c.new-2.ensures.items
    ∙ ap (λ pending. pending ++ row) writer.ensures.empty
    ∙ ap (λ setup. row_text setup fields) setup
    ∙ ap (row_text default_writer) filled.0 in
    IfOk-map_err c.into_inner.result c.map_err.result _ (λ text. (text.items ≡ row_text default_writer names) × All IsName names) c.map_err.ensures.cases
    (IfOk-weaker c.into_inner.result _ (λ text. (text.items ≡ row_text default_writer names) × All IsName names)
    (λ bytes keeps. (keeps ∙ text, filled.1)) c.into_inner.ensures.ok)
