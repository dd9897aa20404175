-- The byte order mark that the bytes of a text may begin with.
use Rattle.std.specs.Prelude.{ℕ, List, [], ◌∷◌, drop, nat_eq, if◌then◌else◌}
use Rattle.std.specs.List.{starts_with}

-- the bytes after a leading byte order mark, or all of them if there is none
abbrev pub without_mark : List ℕ → List ℕ
without_mark bytes =
    if starts_with nat_eq bytes (0xEF ∷ 0xBB ∷ 0xBF ∷ []) then drop 3 bytes else bytes
