-- The report of a complete run is what its workers told.
use Rattle.std.proofs.Common.{◌≡◌, ◌⊎◌, inl, inr, ⊎_elim, ℕ, ◌+◌, ◌-◌, ◌*◌, ◌<◌, ◌≤◌, Bool, true, false, cond, eqb, ltb}
use Rattle.std.proofs.Common.{List, [], ◌∷◌, ◌++◌, None, length, map, reverse, Option, Some, slice_get, refl, sym, ap, ◌∙◌, subst, lt-ltb, arith}
use Rattle.std.specs.Prelude.{All, flat_map, unwrap_or, IsPermutation}
use Rattle.std.specs.Option.{option_map}
use Rattle.std.specs.List.{sum_by, Contains}
use Rattle.std.proofs.lemmas.Bool.{cases_lt}
use Rattle.std.proofs.lemmas.List.{length-map}
use Rattle.std.proofs.lemmas.List.Elements.{All-contains, All-contains_itself}
use Rattle.std.proofs.lemmas.List.Sorted.{All-permutation, Contains-permutation, sum_by-IsPermutation, IsPermutation-reverse, IsPermutation-sym}
use Rattle.std.proofs.lemmas.Option.{slice_get-map, slice_get_within}
use Rattle.slot_history.specs.declared.shape.Shape.{Shape}
use Rattle.slot_history.specs.declared.shape.TheConstants.{STAGES}
use Rattle.slot_history.specs.declared.place.Held.{Held}
use Rattle.slot_history.specs.Sets.{sum_below}
use Rattle.slot_history.specs.States.{finalised_id}
use Rattle.slot_history.specs.Histories.{lasts_of}
use Rattle.report_text.specs.declared.replies.QueryReply.{QueryReply}
use Rattle.report_text.specs.declared.replies.Reply.TheVariants.{Memory}
use Rattle.report_text.specs.declared.report.Record.{Record}
use Rattle.report_text.specs.declared.report.Share.{Share}
use Rattle.report_text.specs.declared.report.Gap.{Gap}
use Rattle.report_text.specs.declared.report.Report.{Report}
use Rattle.slot_station.specs.Desks.{Desk}
use Rattle.turn_model.specs.Workloads.{Workload}
use Rattle.turn_model.specs.Runs.{Run, desk_at}
use Rattle.turn_model.specs.Measure.{is_query}
use Rattle.turn_model.specs.Reports.{Has, IsReplyTo, AreReplies, RanOut, id_of_record, IsRecordIn, AreRecords, AreAnswered, AreShares, IsGapOf, AreGaps}
use Rattle.turn_model.specs.Shares.{shares_by, AreSharesOf}
use Rattle.turn_model.specs.Tellings.{Telling, HasTold, HaveTold, IsMerged}
use Rattle.turn_model.specs.Endings.{ended_by, gathered_by, IsReplyAt}
use Rattle.run_laws.specs.Merging.{IsWhole, MergedIsReport}
use Rattle.run_laws.proofs.Tallies.{by_moves}
use Rattle.run_laws.proofs.EndingsTell.{last_of, ended_for, times_in}
use Rattle.run_laws.proofs.Pigeons.{IsCounting, counting}
use Rattle.run_laws.proofs.HeldLast.{HasLast, AllLast, ended-last}
use Rattle.run_laws.proofs.Counted.{has_key, times-map, sum-listed, has-counted, sum-flat, beside-sum, beside-all, rises-sorted, ascends-once}
use Rattle.run_laws.proofs.Lists.{all-of, all-at, all-flat, has-flat}
use Rattle.run_laws.proofs.Completes.{stages-before}
use Rattle.run_laws.proofs.SharesTell.{shares-are-of-ranges}
use Rattle.run_laws.proofs.Amounts.{counts-are-small}
use Rattle.run_laws.proofs.SharesMerge.{shares-are-merged}
use Rattle.run_laws.proofs.Rooms.{room, ends-total, gathers-total, gathers-are, gathered-most, lasts-once}

-- an item of a list is one of each list with the same items
has-moved : {A : Type 0} (P : A → Type 0) (xs ys : List A) → IsPermutation xs ys → Has P xs → Has P ys
has-moved {A} P xs ys moved (i, x, got, p) =
    let there : Contains xs x = all-at (Contains xs) xs (All-contains_itself xs) i x got in
    let here : Has (λ z. z ≡ x) ys = All-contains (λ y. Has (λ z. z ≡ y) ys) ys x
    (all-of (λ y. Has (λ z. z ≡ y) ys) ys (λ j y at. (j, y, at, refl))) (Contains-permutation xs ys x moved there) in
    (here.0, here.1, here.2, subst P (sym here.3) p)

abbrev query_of : QueryReply → ℕ
query_of r = r.query

module _ (d : Shape) (load : Workload) (run : Run) (told : List Telling) (report : Report) (whole : IsWhole d load run) (have : HaveTold d load run told)
    (merged : IsMerged told report) where
  abbrev D : ℕ → Desk Workload
  D w = desk_at d load w

  low : (w : ℕ) (t : Telling) → slice_get told w ≡ Some t → w < d.workers
  low w t got = let a : w < length told = slice_get_within told w t got in let c = have.count in omega (arith, a, c)

  tells : (w : ℕ) (t : Telling) → slice_get told w ≡ Some t → HasTold (D w) run.history (run.team w) t
  tells w t got = have.each w t got (room d load run whole w (low w t got))

  -- ---- replies

  replies-of : (q w : ℕ) (t : Telling) → slice_get told w ≡ Some t → sum_by (has_key query_of q) t.replies ≡ ended_for q (ended_by (D w) (run.team w))
  replies-of q w t got =
      sym (sum_by-IsPermutation (has_key query_of q) t.replies (reverse t.replies) (IsPermutation-reverse t.replies))
      ∙ beside-sum (IsReplyAt load) (has_key query_of q) (λ (held : Held). cond (is_query held.query q) 1 0) (ended_for q) refl (λ y ys. refl)
      (λ r held is. sym (ap (λ o. cond (is_query o q) 1 0) is.query)) (reverse t.replies) (ended_by (D w) (run.team w)) (tells w t got).of_work.replies

  reply-count : (q : ℕ) → sum_by (has_key query_of q) report.replies ≡ cond (ltb q d.queries) 1 0
  reply-count q =
      sum_by-IsPermutation (has_key query_of q) (flat_map (λ (t : Telling). t.replies) told) report.replies merged.replies
      ∙ sum-flat (λ (t : Telling). t.replies) (has_key query_of q) told
      ∙ sum-listed (λ (t : Telling). sum_by (has_key query_of q) t.replies) told (λ w. ended_for q (ended_by (D w) (run.team w))) (replies-of q)
      ∙ ap (λ n. sum_below n (λ w. ended_for q (ended_by (D w) (run.team w)))) have.count ∙ ends-total d load run whole q

  in-order : IsCounting 0 d.queries (map query_of report.replies)
  in-order = counting (map query_of report.replies) 0 d.queries (omega arith) (rises-sorted query_of 0 report.replies (omega arith) merged.by_query)
      (λ q from. times-map query_of q report.replies ∙ reply-count q)

  -- what holds of each reply, by the holding beside it
  all-replies : (Q : QueryReply → Type 0)
      → ((w : ℕ) (r : QueryReply) (held : Held) → w < d.workers → IsReplyAt load r held → HasLast (D w) (run.team w) held → Q r) → All Q report.replies
  all-replies Q each = All-permutation Q (flat_map (λ (t : Telling). t.replies) told) report.replies merged.replies
      (all-flat (λ (t : Telling). t.replies) Q told (λ w t got.
      All-permutation Q (reverse t.replies) t.replies (IsPermutation-sym t.replies (reverse t.replies) (IsPermutation-reverse t.replies))
      (beside-all (IsReplyAt load) (HasLast (D w) (run.team w)) Q (AllLast (D w) (run.team w)) (λ y ys all. (all.0, all.1))
      (λ r held is last. each w r held (low w t got) is last) (reverse t.replies) (ended_by (D w) (run.team w)) (tells w t got).of_work.replies
      (ended-last (D w) (run.team w) (whole.played.driven w (low w t got))))))

  replies : AreReplies d load report.replies
  replies = record {
    count = let m : length (map query_of report.replies) + 0 ≡ d.queries = in-order.many in
        let l : length (map query_of report.replies) ≡ length report.replies = length-map report.replies query_of in omega (arith, m, l);
    in_order = λ q r got. let e : r.query ≡ 0 + q =
        in-order.at q r.query (slice_get-map query_of report.replies q ∙ ap (option_map query_of) got) in omega (arith, e);
    answers = all-replies (λ r. IsReplyTo load r.query r.reply) (λ w r held w_low is last. is.reply);
  }

  -- ---- records

  abbrev IsBeside : Record → ℕ → Type 0
  IsBeside kept id = (id_of_record kept ≡ id) × IsRecordIn d load run.history kept

  records-of : (id w : ℕ) (t : Telling) → slice_get told w ≡ Some t
      → sum_by (has_key id_of_record id) t.records ≡ times_in id (gathered_by (D w) (run.team w))
  records-of id w t got =
      sym (sum_by-IsPermutation (has_key id_of_record id) t.records (reverse t.records) (IsPermutation-reverse t.records))
      ∙ beside-sum IsBeside (has_key id_of_record id) (λ n. cond (eqb n id) 1 0) (times_in id) refl (λ y ys. refl)
      (λ kept n is. ap (λ k. cond (eqb k id) 1 0) is.0) (reverse t.records) (gathered_by (D w) (run.team w)) (tells w t got).of_work.records

  record-count : (id : ℕ) → sum_by (has_key id_of_record id) report.records ≡ lasts_of d id run.history
  record-count id =
      sum_by-IsPermutation (has_key id_of_record id) (flat_map (λ (t : Telling). t.records) told) report.records merged.records
      ∙ sum-flat (λ (t : Telling). t.records) (has_key id_of_record id) told
      ∙ sum-listed (λ (t : Telling). sum_by (has_key id_of_record id) t.records) told (λ w. times_in id (gathered_by (D w) (run.team w))) (records-of id)
      ∙ ap (λ n. sum_below n (λ w. times_in id (gathered_by (D w) (run.team w)))) have.count ∙ gathers-total d load run whole id

  all-records : All (IsRecordIn d load run.history) report.records
  all-records = All-permutation (IsRecordIn d load run.history) (flat_map (λ (t : Telling). t.records) told) report.records merged.records
      (all-flat (λ (t : Telling). t.records) (IsRecordIn d load run.history) told (λ w t got.
      All-permutation (IsRecordIn d load run.history) (reverse t.records) t.records
      (IsPermutation-sym t.records (reverse t.records) (IsPermutation-reverse t.records))
      (beside-all IsBeside (λ n. Unit {0}) (IsRecordIn d load run.history) (λ ns. Unit {0}) (λ y ys all. (tt, tt)) (λ kept id is all. is.1)
      (reverse t.records) (gathered_by (D w) (run.team w)) (tells w t got).of_work.records tt)))

  has-record : (id : ℕ) → 0 < lasts_of d id run.history → Has (λ (kept : Record). id_of_record kept ≡ id) report.records
  has-record id some = has-counted id_of_record id report.records (let c = record-count id in omega (arith, some, c))

  records : AreRecords d load run.history report.records
  records = record {
    each = all-records;
    all = has-record;
    ascend = λ i j x y less gx gy. ascends-once 0 (map id_of_record report.records)
        (rises-sorted id_of_record 0 report.records (omega arith) merged.by_task)
        (λ n. let t : times_in n (map id_of_record report.records) ≡ sum_by (has_key id_of_record n) report.records = times-map id_of_record n report.records in
        let c = record-count n in let o = lasts-once d load run whole n in omega (arith, t, c, o))
        i j (id_of_record x) (id_of_record y) less
        (slice_get-map id_of_record report.records i ∙ ap (option_map id_of_record) gx)
        (slice_get-map id_of_record report.records j ∙ ap (option_map id_of_record) gy);
  }

  -- ---- queries that ran out of memory

  ran-out : (w q : ℕ) (t : Telling) → slice_get told w ≡ Some t → RanOut q t.replies → RanOut q report.replies
  ran-out w q t got out = has-moved (λ (r : QueryReply). (r.query ≡ q) × (r.reply ≡ Memory)) (flat_map (λ (t : Telling). t.replies) told) report.replies
      merged.replies (has-flat (λ (t : Telling). t.replies) (λ (r : QueryReply). (r.query ≡ q) × (r.reply ≡ Memory)) told w t got out)

  all-short : All (λ (kept : Record). kept.short ≡ true → RanOut kept.query report.replies) report.records
  all-short = All-permutation (λ (kept : Record). kept.short ≡ true → RanOut kept.query report.replies)
      (flat_map (λ (t : Telling). t.records) told) report.records merged.records
      (all-flat (λ (t : Telling). t.records) (λ (kept : Record). kept.short ≡ true → RanOut kept.query report.replies) told (λ w t got.
      all-of (λ (kept : Record). kept.short ≡ true → RanOut kept.query report.replies) t.records (λ i kept at short.
      ⊎_elim (λ out. ran-out w kept.query t got out)
      (λ gives. absurd (none-some kept.query (sym (have.given_up w t got) ∙ gives)))
      (all-at (λ (kept : Record). kept.short ≡ true → RanOut kept.query t.replies ⊎ (t.gives_up ≡ Some kept.query)) t.records (tells w t got).of_work.short i kept at
      short)))) where
        none-some : (q : ℕ) → None ≡ Some q → ⊥
        none-some q e = cc

  -- the last task set of a query that was answered was finalised
  abbrev IsEnded : QueryReply → Type 0
  IsEnded r = (r.reply ≡ Memory) ⊎ (0 < lasts_of d (STAGES * r.query + (load.stages r.query - 1)) run.history)

  all-ended : All IsEnded report.replies
  all-ended = all-replies IsEnded (λ w r held w_low is last. ⊎_elim inl
      (λ answered.
      let id : ℕ = finalised_id held in
      let mine : 0 < by_moves (last_of id) (D w) (run.team w) = last answered.0 in
      let same = gathers-are d load run whole w id w_low in
      let most = gathered-most d load run whole w id w_low in
      let query : unwrap_or held.query 0 ≡ r.query = ap (λ o. unwrap_or o 0) is.query in
      let stage : held.stage + 1 ≡ load.stages r.query = answered.1 in
      let at : id ≡ STAGES * r.query + (load.stages r.query - 1) =
      (let g : STAGES * unwrap_or held.query 0 + held.stage ≡ STAGES * r.query + (load.stages r.query - 1) = omega (arith, query, stage) in g) in
      inr (subst (λ k. 0 < lasts_of d k run.history) at (omega (arith, mine, same, most))))
      is.ended)

  few-stages : (q : ℕ) → load.stages q ≤ STAGES
  few-stages q = ⊎_elim (λ l. whole.work.few q l) (λ h. let z = whole.no_more q h in omega (arith, z)) (cases_lt q d.queries)

  -- a stage of a query that was answered has a record that is not short
  whole-record : (q k : ℕ) → k < load.stages q → 0 < lasts_of d (STAGES * q + (load.stages q - 1)) run.history
      → RanOut q report.replies ⊎ Has (λ (kept : Record). (id_of_record kept ≡ STAGES * q + k) × (kept.short ≡ false)) report.records
  whole-record q k k_low last =
      let most = few-stages q in
      let one : lasts_of d (STAGES * q + k) run.history ≡ 1 = stages-before d run.history (STAGES * q + (load.stages q - 1)) (STAGES * q + k)
      whole.played.legal last (omega (arith, k_low)) (omega (arith, k_low, most)) in
      let has = has-record (STAGES * q + k) (omega (arith, one)) in
      by-short has.0 has.1 has.2 has.3 has.1.short refl
    where
      by-short : (i : ℕ) (kept : Record) → slice_get report.records i ≡ Some kept → id_of_record kept ≡ STAGES * q + k → (b : Bool) → kept.short ≡ b
          → RanOut q report.replies ⊎ Has (λ (kept : Record). (id_of_record kept ≡ STAGES * q + k) × (kept.short ≡ false)) report.records
      by-short i kept got is false short = inr (i, kept, got, (is, short))
      by-short i kept got is true short =
          let right = all-at (IsRecordIn d load run.history) report.records all-records i kept got in
          let stage : kept.stage < load.stages kept.query = right.stage in
          let few = few-stages kept.query in
          let most = few-stages q in
          let same : kept.query ≡ q = (let e : STAGES * kept.query + kept.stage ≡ STAGES * q + k = is in omega (arith, e, stage, few, most, k_low)) in
          inl (subst (λ r. RanOut r report.replies) same
          (all-at (λ (kept : Record). kept.short ≡ true → RanOut kept.query report.replies) report.records all-short i kept got short))

  answered : AreAnswered load report
  answered = record {
    short = λ i kept got short. all-at (λ (kept : Record). kept.short ≡ true → RanOut kept.query report.replies) report.records all-short i kept got short;
    whole = λ q k k_low. ⊎_elim
        (λ q_low.
        let c = reply-count q in
        let one : cond {A = ℕ} (ltb q d.queries) 1 0 ≡ 1 = ap (λ b. cond b 1 0) (lt-ltb q d.queries q_low) in
        let has = has-counted query_of q report.replies (omega (arith, c, one)) in
        ⊎_elim (λ memory. inl (has.0, has.1, has.2, (has.3, memory)))
        (λ last. whole-record q k k_low (subst (λ r. 0 < lasts_of d (STAGES * r + (load.stages r - 1)) run.history) has.3 last))
        (all-at IsEnded report.replies all-ended has.0 has.1 has.2))
        (λ high. absurd (let z = whole.no_more q high in omega (arith, z, k_low)))
        (cases_lt q d.queries);
  }

  -- ---- shares

  flat-mapped : (ts : List Telling) → flat_map (λ (l : List Share). l) (map (λ (t : Telling). t.shares) ts) ≡ flat_map (λ (t : Telling). t.shares) ts
  flat-mapped [] = refl
  flat-mapped (t ∷ ts) = ap (λ l. t.shares ++ l) (flat-mapped ts)

  by-telling : (w : ℕ) (these : List Share) (o : Option Telling) → slice_get told w ≡ o → option_map (λ (t : Telling). t.shares) o ≡ Some these
      → AreSharesOf (D w) (run.team w) these
  by-telling w these None at is = absurd (cc)
  by-telling w these (Some t) at is =
      let w_low : w < d.workers = low w t at in
      let are : t.shares ≡ shares_by (D w) (run.team w) = (tells w t at).shares in
      let same : these ≡ shares_by (D w) (run.team w) = ap (λ o. unwrap_or o these) (sym is) ∙ are in
      subst (AreSharesOf (D w) (run.team w)) (sym same) (shares-are-of-ranges (D w) (run.team w)
      (counts-are-small d load run w whole.work.shape.queries whole.played w_low (whole.short w w_low)))

  shares : AreShares d load run.team report.shares
  shares = subst (AreShares d load run.team) (flat-mapped told ∙ sym merged.shares)
      (shares-are-merged d load run (map (λ (t : Telling). t.shares) told) whole.work.shape.queries whole.played
      (length-map told (λ (t : Telling). t.shares) ∙ have.count)
      (λ w these got. by-telling w these (slice_get told w) refl (sym (slice_get-map (λ (t : Telling). t.shares) told w) ∙ got)))

  -- ---- gaps

  gap-of : (w : ℕ) (gap : Gap) (o : Option Telling) → slice_get told w ≡ o → option_map (λ (t : Telling). t.gap) o ≡ Some gap
      → IsGapOf (D w) (run.team w) gap
  gap-of w gap None at is = absurd (cc)
  gap-of w gap (Some t) at is = subst (IsGapOf (D w) (run.team w)) (ap (λ o. unwrap_or o gap) is) (have.gaps w t at)

  gaps : AreGaps d load run.team report.gaps
  gaps = record {
    count = ap length merged.gaps ∙ length-map told (λ (t : Telling). t.gap) ∙ have.count;
    each = λ w gap got. gap-of w gap (slice_get told w) refl
        (sym (slice_get-map (λ (t : Telling). t.gap) told w) ∙ ap (λ l. slice_get l w) (sym merged.gaps) ∙ got);
  }

pub merged-is-report : MergedIsReport
merged-is-report d load run told report whole have merged = record {
  replies = replies d load run told report whole have merged;
  records = records d load run told report whole have merged;
  answered = answered d load run told report whole have merged;
  shares = shares d load run told report whole have merged;
  gaps = gaps d load run told report whole have merged;
}
