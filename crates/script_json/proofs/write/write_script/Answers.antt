use Rattle.serde_json.specs.View.{view}
use Rattle.script_json.proofs.WriteLemmas.{ReadsScript-written, text-written}
use Rattle.script_json.proofs.write.write_script.Goals as goal

pub returns-clause-text : goal.returns-clause-text
returns-clause-text c =
    text-written (λ bytes. bytes.items) c.args.script.now (view c.in_ok-value.value) c.to_vec.result c.in_ok-value.ensures c.to_vec.ensures.text

pub returns-clause-reads_back : goal.returns-clause-reads_back
returns-clause-reads_back c =
    let e = c.to_vec.ensures in
    ReadsScript-written (λ bytes. bytes.items) c.args.script.now (view c.in_ok-value.value) c.to_vec.result c.requires c.in_ok-value.ensures e.text
    e.utf8 e.reads_back
