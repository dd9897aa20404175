use Rattle.std.proofs.Common.{◌≡◌, ◌≢◌, ◌<◌, ◌≤◌, ℕ, Some, if◌then◌else◌, length, ltb, slice_get, slice_set, refl, sym, ap, ◌∙◌, subst}
use Rattle.std.proofs.Common.{arith, rules, of_calls}
use Rattle.std.specs.Prelude.{insert}
use Rattle.std.proofs.lemmas.Option.{slice_get_read, slice_get_within}
use Rattle.std.proofs.lemmas.List.Sorted.{IsPartitionPoint-from_clause}
use Rattle.report_text.specs.declared.report.Share.{Share}
use Rattle.worker_machine.proofs.Counting.{PartsAt, below-at, counted-new, counted-old, from-at, inserted-few, parted}
use Rattle.turn_model.proofs.Counting.{some-is}
use Rattle.worker_machine.specs.Counting.{as_range}
use Rattle.worker_machine.proofs.shares.count_range.Goals as goal
use Rattle.worker_machine.proofs.shares.count_range.Goals.{else-at-len-via-then-at-len+else-index-range, else-at-len-via-else-at-len}

pub returns-then-index-range-clause-counted : goal.returns-then-index-range-clause-counted
returns-then-index-range-clause-counted c queries up low room =
    let xs = c.args.shares.now.items in
    let q : ℕ = c.args.range.query in
    let at : ℕ = c.partition_point-at.result in
    let parts : PartsAt xs q at = subst (λ l. PartsAt l q at) c.deref.ensures.value (IsPartitionPoint-from_clause (λ (s : Share). ltb s.query q) _ _
    c.partition_point-at.ensures.partitioned (parted queries q xs _ c.deref.ensures.value up) (λ a r f k. search (rules, of_calls))) in
    let within : at < length xs = omega arith in
    let got : slice_get xs at ≡ Some c.index_mut.result.now = slice_get_read xs (length xs) at c.index_mut.result.now refl within c.index_mut.ensures.value in
    let read : slice_get xs at ≡ Some c.index.result.now = slice_get_read xs (length xs) at c.index.result.now refl within c.index.ensures in
    ap (slice_set xs at) c.add.ensures
    ∙ counted-old (as_range c.args.range) xs at c.index_mut.result.now got (ap (λ (s : Share). s.query) (some-is _ _ (sym got ∙ read)) ∙ c.if-index-range.true)
    (below-at xs q at parts)

pub returns-else-at-len-clause-counted : goal.returns-else-at-len-clause-counted
returns-else-at-len-clause-counted c queries up low room =
    let xs = c.args.shares.now.items in
    let range = as_range c.args.range in
    let q : ℕ = c.args.range.query in
    let at : ℕ = c.partition_point-at.result in
    let parts : PartsAt xs q at = subst (λ l. PartsAt l q at) c.deref.ensures.value (IsPartitionPoint-from_clause (λ (s : Share). ltb s.query q) _ _
    c.partition_point-at.ensures.partitioned (parted queries q xs _ c.deref.ensures.value up) (λ a r f k. search (rules, of_calls))) in
    let most : at ≤ length xs = subst (λ l. at ≤ length l) c.deref.ensures.value c.partition_point-at.ensures.bound in
    let past : (s : Share) → slice_get xs at ≡ Some s → q < s.query = λ s got.
    elim c.else-at-len.branch [
      | else-at-len-via-then-at-len+else-index-range w ↦
          let within : at < length xs = slice_get_within xs at s got in
          let read : slice_get xs at ≡ Some w.index.result.now = slice_get_read xs (length xs) at w.index.result.now refl within w.index.ensures in
          let e : s.query ≡ w.index.result.now.query = ap (λ (x : Share). x.query) (some-is _ _ (sym got ∙ read)) in
          let differs : w.index.result.now.query ≢ q = w.if-index-range.false in
          let least = from-at xs q at parts at s (omega arith) got in
          omega (arith, e, differs, least)
      | else-at-len-via-else-at-len w ↦
          let within : at < length xs = slice_get_within xs at s got in
          let over = w.if-at-len.false in
          absurd (omega (arith, within, over, c.len.ensures))
    ] in
    let is = counted-new range xs at most past (below-at xs q at parts) in
    let few = inserted-few range queries xs at low up is most in
    let len = c.args.shares.now.ok.0 in
    let ok = c.insert-room.ensures.succeeds (omega (arith, few, room, len)) in
    c.insert-room.ensures.items ∙ ap (λ b. if b then insert xs at c.add-else-at-len.new.share else xs) ok ∙ ap (insert xs at) c.add-else-at-len.ensures ∙ is
