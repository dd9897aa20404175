-- The keys of a part, in their chain.
use Rattle.std.proofs.Common.{◌≡◌, ℕ, ◌+◌, ◌-◌, ◌<◌, ◌≤◌, false, List, [], length, drop, slice_index, sym, ap, ◌∙◌, inl, inr, arith}
use Rattle.std.proofs.Math.Seq.{drop-length}
use Rattle.std.proofs.lemmas.Bool.Decides.{eqb_tells}
use Rattle.build_sides.specs.Chains.{AreChained, key_at}
use Rattle.build_sides.specs.FoldedRows.{FoldedRow}
use Rattle.build_sides.specs.GroupSides.{is_in_part, key_part}
use Rattle.build_sides.specs.declared.key_table.Key.{Key}
use Rattle.build_sides.proofs.Merging.{gathered, gathered_past}

module _ (part : ℕ) (heads nexts : List ℕ) (keys : List Key) (h : AreChained key_part heads nexts keys) (others : List FoldedRow) where
  -- no key of the part is newer than the head of its chain
  pub head_past : slice_index heads part ≤ length keys → gathered part (drop (slice_index heads part) keys) others ≡ []
  head_past within =
      let n = slice_index heads part in
      let others_of : (e : ℕ) → n ≤ e → e < n + (length keys - n) → is_in_part part (key_at keys e) ≡ false =
      λ e le lt. elim (eqb_tells (key_part (key_at keys e)) part) [
        | inl (_, is) ↦ absurd (omega (arith, rw is at (h.below_head e (omega arith))))
        | inr (not, _) ↦ not
      ] in
      sym (gathered_past part keys n (length keys - n) others (omega arith) others_of)
      ∙ ap (λ (m : ℕ). gathered part (drop m keys) others) (omega arith)
      ∙ ap (λ (l : List Key). gathered part l others) (drop-length keys)

  -- no key of the part lies between a key of it and its link
  pub next_past : (e : ℕ) → e < length keys → key_part (key_at keys e) ≡ part
      → gathered part (drop e keys) others ≡ gathered part (drop (slice_index nexts e) keys) others
  next_past e lt is =
      let n = slice_index nexts e in
      let bound = h.next_bound e lt in
      let others_of : (k : ℕ) → n ≤ k → k < n + (e - n) → is_in_part part (key_at keys k) ≡ false =
      λ k le before. elim (eqb_tells (key_part (key_at keys k)) part) [
        | inl (_, this) ↦ absurd (omega (arith, h.below_next k e (omega arith) lt (this ∙ sym is)))
        | inr (not, _) ↦ not
      ] in
      ap (λ (m : ℕ). gathered part (drop m keys) others) (omega arith)
      ∙ gathered_past part keys n (e - n) others (omega arith) others_of
