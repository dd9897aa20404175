-- What the files in memory hold, and what their next call does.
use Rattle.std.specs.Prelude.{ℕ, Bool, ◌+◌, ◌-◌, ◌^◌, ◌==◌, min, List, [], map, Option, None}
use Rattle.std.specs.Prelude.{if◌then◌else◌, unwrap_or}
use Rattle.std.specs.List.{list_any}
use Rattle.std.specs.Option.{option_map}
use Rattle.std.specs.String.{string_bytes}
use Rattle.std.specs.BTreeMap.{get_by_text}
use Rattle.outside_io.specs.declared.memory.MemFiles.{MemFiles}
use Rattle.outside_io.specs.declared.memory.SureFiles.{SureFiles}

-- the bytes that were added under a name
abbrev pub added_bytes : MemFiles → List ℕ → Option (List ℕ)
added_bytes files name = option_map (λ v. v.items) (get_by_text files.files name)

-- the names whose reading failed
abbrev pub failed_names : MemFiles → List (List ℕ)
failed_names files = map (λ s. string_bytes s) files.failed.items

-- the numbers of the calls that fail
abbrev pub failing_calls : MemFiles → List ℕ
failing_calls files = files.fails.items

-- how many calls were made; it stops at 2^64 - 1
abbrev pub calls_made : MemFiles → ℕ
calls_made files = files.calls

-- whether the next call is one of those that fail
abbrev pub next_call_fails : MemFiles → Bool
next_call_fails files = list_any (λ n. n == min (files.calls + 1) (2 ^ 64 - 1)) files.fails.items

-- the file that the next call on a name reads; none if that call fails
abbrev pub file_read_next : MemFiles → List ℕ → Option (List ℕ)
file_read_next files name = if next_call_fails files then None else added_bytes files name

-- the bytes added under a name; the empty list if there are none
abbrev pub sure_bytes : SureFiles → List ℕ → List ℕ
sure_bytes files name = unwrap_or (option_map (λ v. v.items) (get_by_text files.files name)) []
