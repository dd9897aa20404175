-- Which bytes are a name.
use Rattle.std.specs.Prelude.{ℕ, List, length, Bool, not, ◌&&◌, ◌==◌, nat_le, IsTrue, IsUtf8}
use Rattle.std.specs.List.{list_all}
use Rattle.col_table.specs.declared.name.TheConstants.{MAX_NAME_BYTES}

-- no byte is an ASCII control character (in UTF-8 no other character contains such a byte)
abbrev pub is_plain : List ℕ → Bool
is_plain bytes = list_all (λ byte. nat_le 0x20 byte && not (byte == 0x7f)) bytes

-- short, and without ASCII control characters
abbrev pub is_name : List ℕ → Bool
is_name bytes = nat_le (length bytes) MAX_NAME_BYTES && is_plain bytes

-- bytes that are a name: a text of this kind
pub record IsName (bytes : List ℕ) : Type 0 where
  pub text : IsUtf8 bytes
  pub is : IsTrue (is_name bytes)
