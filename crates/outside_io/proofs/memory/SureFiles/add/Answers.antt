use Rattle.std.proofs.Common.{ap, ◌∙◌, [], unwrap_or}
use Rattle.std.specs.Option.{option_map}
use Rattle.std.specs.String.{string_bytes}
use Rattle.std.specs.Str.{bytes_eq}
use Rattle.std.specs.BTreeMap.{get_by_text}
use Rattle.std.proofs.lemmas.Map.Text.{btree_map_updates_text}
use Rattle.outside_io.proofs.FilesInMemoryLemmas.{unwrap_or-cond}
use Rattle.outside_io.proofs.memory.SureFiles.add.Goals as goal

pub returns-clause-added : goal.returns-clause-added
returns-clause-added c = λ any.
    ap (λ o. unwrap_or (option_map (λ v. v.items) o) []) (btree_map_updates_text _ c.args.self.now.files c.insert.new.self _ c.in_ok-insert.ensures.updates any)
    ∙ unwrap_or-cond (bytes_eq (string_bytes c.args.name) any) c.args.bytes (get_by_text c.args.self.now.files any)
