-- Fields without marks, as the machine reads them.
use Rattle.std.proofs.Common.{◌≡◌, ◌==◌, ◌||◌, ℕ, ◌<◌, ◌≤◌, ◌+◌, ◌-◌, ◌++◌, ◌∷◌, Bool, true, false, List, [], Option, Some, length, get_or, take, drop}
use Rattle.std.proofs.Common.{slice_range, ap, arith, inl, inr, refl, subst, sym, ◌∙◌}
use Rattle.std.specs.List.{list_any}
use Rattle.std.proofs.lemmas.Bool.{cases_Bool, eqb-true}
use Rattle.std.proofs.lemmas.List.{append-nil, get_or-drop, length-drop, take_more}
use Rattle.std.proofs.lemmas.List.Folds.{drop_split, list_any-append}
use Rattle.csv.specs.Machine.{Read, next_record}
use Rattle.csv.specs.Reading.{default_config}
use Rattle.csv.specs.Writing.{default_writer, needs_byte}
use Rattle.csv.specs.declared.parser.State.{State}
use Rattle.csv.specs.declared.parser.State.TheVariants as st
use Rattle.csv.proofs.RoundTrip.{field-run, plain-run, start-same}
use Rattle.csv_tables.specs.Reading.{EndsField, EndsRecord, IsUnmarked}
use Rattle.csv_tables.proofs.Texts.{plain_text}

-- a range with one element more
range_more : (xs : List ℕ) (start place : ℕ) → start ≤ place → place < length xs → slice_range xs start (place + 1)
    ≡ slice_range xs start place ++ get_or xs place 0 ∷ []
range_more xs start place order within =
    let count : place + 1 - start ≡ (place - start) + 1 = omega arith in
    let here : start + (place - start) ≡ place = omega arith in
    ap (λ n. take n (drop start xs)) count
    ∙ take_more (drop start xs) (place - start) 0 (omega (arith, length-drop start xs))
    ∙ ap (λ last. slice_range xs start place ++ last ∷ []) (get_or-drop start xs (place - start) 0 ∙ ap (λ n. get_or xs n 0) here)

both_false : (a b : Bool) → a ≡ false → b ≡ false → (a || b) ≡ false
both_false a b ha hb = rw (ha, hb) refl

-- no byte is in an empty range, and one more byte that is no mark
pub plain_none : (bytes : List ℕ) (start : ℕ) → start ≤ length bytes → IsUnmarked bytes start start
plain_none bytes start within = let none : start - start ≡ 0 = omega arith in record {
  order = omega arith;
  within = within;
  plain = ap
      (λ n. list_any (needs_byte default_writer) (take n (drop start bytes))) none;
}

pub plain_more : (bytes : List ℕ) (start place : ℕ) → IsUnmarked bytes start place → place < length bytes → needs_byte default_writer (get_or bytes place 0)
    ≡ false → IsUnmarked bytes start (place + 1)
plain_more bytes start place plain within other = record {
  order = omega (arith, plain.order);
  within = omega arith;
  plain =
      ap (list_any (needs_byte default_writer)) (range_more bytes start place plain.order within)
      ∙ list_any-append (needs_byte default_writer) (slice_range bytes start place) (get_or bytes place 0 ∷ [])
      ∙ both_false _ _ plain.plain (both_false _ _ other refl);
}

-- a byte that is no mark is no quote
no_quote : (byte : ℕ) → needs_byte default_writer byte ≡ false → (byte == 34) ≡ false
no_quote byte plain =
    elim (cases_Bool (byte == 34)) [
      | inl quote ↦ absurd (let e = subst (λ (b : ℕ). needs_byte default_writer b ≡ false)
          (eqb-true byte 34 quote) plain in cc)
      | inr other ↦ other
    ]

first_false : (a b : Bool) → (a || b) ≡ false → a ≡ false
first_false true b h = h
first_false false b h = refl

-- a field without marks at the end of a text
ends_text : (fields : List (List ℕ)) (x : List ℕ) → list_any (needs_byte default_writer) x ≡ false → next_record default_config st.StartField fields [] x
    ≡ Some (fields ++ x ∷ [], st.StartRecord, [])
unfolding next_record
ends_text fields [] plain = refl
ends_text fields (byte ∷ rest) plain =
    start-same fields [] byte rest (no_quote byte (first_false _ _ plain))
    ∙ subst (λ (text : List ℕ). next_record default_config st.InField fields [] text ≡ Some (fields ++ (byte ∷ rest) ∷ [], st.StartRecord, []))
    (append-nil (byte ∷ rest)) (plain-run fields [] (byte ∷ rest) [] plain)

-- and one before another byte
runs_to : (fields : List (List ℕ)) (x : List ℕ) (byte : ℕ) (rest : List ℕ) → list_any (needs_byte default_writer) x ≡ false → (byte == 34) ≡ false
    → next_record default_config st.StartField fields [] (x ++ byte ∷ rest) ≡ next_record default_config st.InField fields x (byte ∷ rest)
runs_to fields x byte rest plain other =
    subst (λ (text : List ℕ). next_record default_config st.StartField fields [] (text ++ byte ∷ rest)
    ≡ next_record default_config st.InField fields x (byte ∷ rest)) (plain_text x plain) (field-run fields x byte rest other)

comma_after : (fields : List (List ℕ)) (x rest : List ℕ) → list_any (needs_byte default_writer) x ≡ false
    → next_record default_config st.StartField fields [] (x ++ 44 ∷ rest) ≡ next_record default_config st.StartField (fields ++ x ∷ []) [] rest
unfolding next_record
comma_after fields x rest plain = runs_to fields x 44 rest plain refl

record_ends : (fields : List (List ℕ)) (x bytes rest : List ℕ) → list_any (needs_byte default_writer) x ≡ false → EndsRecord bytes rest
    → (after : State) × (next_record default_config st.StartField fields [] (x ++ bytes) ≡ Some (fields ++ x ∷ [], after, rest))
unfolding next_record
record_ends fields x bytes rest plain (inl (none, end)) = (
  st.StartRecord,
  ap (λ bytes. next_record default_config st.StartField fields [] (x ++ bytes)) none
      ∙ ap (next_record default_config st.StartField fields []) (append-nil x) ∙ ends_text fields x plain
      ∙ ap (λ rest. Some (fields ++ x ∷ [], st.StartRecord, rest)) (sym end),
)
record_ends fields x bytes rest plain (inr (byte, inl back, text)) = (
  st.AfterCr,
  ap (λ bytes. next_record default_config st.StartField fields [] (x ++ bytes)) (text ∙ ap (λ byte. byte ∷ rest) back)
      ∙ runs_to fields x 13 rest plain refl,
)
record_ends fields x bytes rest plain (inr (byte, inr feed, text)) = (
  st.StartRecord,
  ap (λ bytes. next_record default_config st.StartField fields [] (x ++ bytes)) (text ∙ ap (λ byte. byte ∷ rest) feed)
      ∙ runs_to fields x 10 rest plain refl,
)

-- a field without marks, and a comma: the record goes on after it
pub field_more : (bytes : List ℕ) (start end next : ℕ) (fields : List (List ℕ)) (reads : Option Read) → IsUnmarked bytes start end → reads
    ≡ next_record default_config st.StartField fields [] (drop start bytes)
    → EndsField false (drop end bytes) (drop next bytes) → reads
    ≡ next_record default_config st.StartField (fields ++ slice_range bytes start end ∷ []) [] (drop next bytes)
field_more bytes start end next fields reads plain so ends =
    so
    ∙ ap (next_record default_config st.StartField fields []) (drop_split bytes start end plain.order ∙ ap (λ rest. slice_range bytes start end ++ rest) ends)
    ∙ comma_after fields (slice_range bytes start end) (drop next bytes) plain.plain

-- and the last one: the record has ended
pub field_last : (bytes : List ℕ) (start end next : ℕ) (fields : List (List ℕ)) (reads : Option Read) → IsUnmarked bytes start end → reads
    ≡ next_record default_config st.StartField fields [] (drop start bytes)
    → EndsField true (drop end bytes) (drop next bytes) → (after : State) × (reads ≡ Some (fields ++ slice_range bytes start end ∷ [], after, drop next bytes))
field_last bytes start end next fields reads plain so ends =
    let (after, ended) = record_ends fields (slice_range bytes start end) (drop end bytes) (drop next bytes) plain.plain ends in
    (after, so ∙ ap (next_record default_config st.StartField fields []) (drop_split bytes start end plain.order) ∙ ended)
