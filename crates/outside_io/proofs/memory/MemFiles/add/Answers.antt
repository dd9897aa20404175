use Rattle.std.proofs.Common.{ap, ◌∙◌}
use Rattle.std.specs.Option.{option_map}
use Rattle.std.proofs.lemmas.Map.Text.{btree_map_updates_text}
use Rattle.outside_io.proofs.FilesInMemoryLemmas.{option_map-cond}
use Rattle.outside_io.proofs.memory.MemFiles.add.Goals as goal

pub returns-clause-added : goal.returns-clause-added
returns-clause-added c = λ any.
    ap (option_map (λ v. v.items)) (btree_map_updates_text _ c.args.self.now.files c.insert.new.self _ c.in_ok-insert.ensures.updates any)
    ∙ option_map-cond _ _ _
