-- A run has one report, if no query ran out of memory.
use Rattle.std.proofs.Common.{◌≡◌, ℕ, zero, suc, ◌+◌, ◌*◌, ◌<◌, ◌≤◌, Bool, true, false, cond, List, [], ◌∷◌, Some, length, map, reverse, sum, slice_get}
use Rattle.std.proofs.Common.{refl, sym, ap, ◌∙◌, subst, arith}
use Rattle.slot_history.specs.declared.shape.Shape.{Shape}
use Rattle.slot_history.specs.declared.shape.TheConstants.{STAGES, MOST_QUERIES}
use Rattle.slot_history.specs.Histories.{claims_of, lasts_of, finisher_of, slot_with}
use Rattle.slot_station.specs.Desks.{Desk}
use Rattle.report_text.specs.declared.replies.QueryReply.{QueryReply}
use Rattle.report_text.specs.declared.replies.Reply.{Reply}
use Rattle.report_text.specs.declared.replies.Reply.TheVariants.{Answer, Memory}
use Rattle.report_text.specs.declared.report.Record.{Record}
use Rattle.report_text.specs.declared.report.Share.{Share}
use Rattle.report_text.specs.declared.report.Gap.{Gap}
use Rattle.report_text.specs.declared.report.Report.{Report}
use Rattle.turn_model.specs.Workloads.{Workload}
use Rattle.turn_model.specs.Learned.{time_in, priority_in}
use Rattle.turn_model.specs.Runs.{Run, desk_at}
use Rattle.turn_model.specs.Reports.{Ascend, Has, IsReplyTo, IsRecordIn, IsShareOf, IsGapOf, IsReportOf}
use Rattle.turn_model.specs.Reports.{as_claim, id_of_record, number_of_share, tuples_by}
use Rattle.run_laws.specs.Agreeing.{HaveFewStages, NoneRanOut, OneReport}
use Rattle.run_laws.proofs.Lists.{some-same, all-at}

-- ---- lists with the same items

module _ {A : Type 0} where
  -- the items of two lists are the same, place by place
  same-by-place : (xs ys : List A) → length xs ≡ length ys
      → ((i : ℕ) (x y : A) → slice_get xs i ≡ Some x → slice_get ys i ≡ Some y → x ≡ y) → xs ≡ ys
  same-by-place [] [] long same = refl
  same-by-place [] (y ∷ ys) long same = absurd (omega (arith, long))
  same-by-place (x ∷ xs) [] long same = absurd (omega (arith, long))
  same-by-place (x ∷ xs) (y ∷ ys) long same =
      ap (λ z. z ∷ xs) (same zero x y refl refl) ∙ ap (λ l. y ∷ l) (same-by-place xs ys (omega (arith, long)) (λ i. same (suc i)))

  module _ (number : A → ℕ) where
    -- each item of the one list has its number in the other
    abbrev FindsIn : List A → List A → Type 0
    FindsIn xs ys = (i : ℕ) (x : A) → slice_get xs i ≡ Some x → Has (λ (y : A). number y ≡ number x) ys

    -- items of the same number are the same
    abbrev AreSame : List A → List A → Type 0
    AreSame xs ys = (i j : ℕ) (x y : A) → slice_get xs i ≡ Some x → slice_get ys j ≡ Some y → number x ≡ number y → x ≡ y

    first-least : (x : A) (xs : List A) → Ascend number (x ∷ xs) → (j : ℕ) (z : A) → slice_get (x ∷ xs) j ≡ Some z → number x ≤ number z
    first-least x xs up zero z got = let e : number x ≡ number z = ap number (some-same x z got) in omega (arith, e)
    first-least x xs up (suc j) z got = let less : number x < number z = up zero (suc j) x z (omega arith) refl got in omega (arith, less)

    first-low : (x : A) (xs ys : List A) (y : A) → Ascend number (y ∷ ys) → FindsIn (x ∷ xs) (y ∷ ys) → number y ≤ number x
    first-low x xs ys y up finds =
        let has = finds zero x refl in
        let low : number y ≤ number has.1 = first-least y ys up has.0 has.1 has.2 in
        let e : number has.1 ≡ number x = has.3 in omega (arith, low, e)

    rest-finds : (x y : A) (xs ys : List A) → number x ≡ number y → Ascend number (x ∷ xs) → FindsIn (x ∷ xs) (y ∷ ys) → FindsIn xs ys
    rest-finds x y xs ys e up finds i a got = at (finds (suc i) a got)
      where
        at : Has (λ (z : A). number z ≡ number a) (y ∷ ys) → Has (λ (z : A). number z ≡ number a) ys
        at (zero, z, gz, ez) =
            let less : number x < number a = up zero (suc i) x a (omega arith) refl got in
            let first : number y ≡ number z = ap number (some-same y z gz) in
            absurd (omega (arith, less, first, e, ez))
        at (suc j, z, gz, ez) = (j, z, gz, ez)

    rest-ascends : (x : A) (xs : List A) → Ascend number (x ∷ xs) → Ascend number xs
    rest-ascends x xs up = λ i j a b less ga gb. up (suc i) (suc j) a b (omega (arith, less)) ga gb

    none-found : (xs : List A) (x : A) → FindsIn (x ∷ xs) [] → ⊥
    none-found xs x finds = let has = finds zero x refl in let got : slice_get [] has.0 ≡ Some has.1 = has.2 in absurd (cc)

    same-ascending : (xs ys : List A) → Ascend number xs → Ascend number ys → FindsIn xs ys → FindsIn ys xs → AreSame xs ys → xs ≡ ys
    same-ascending [] [] up rising finds back same = refl
    same-ascending [] (y ∷ ys) up rising finds back same = absurd (none-found ys y back)
    same-ascending (x ∷ xs) [] up rising finds back same = absurd (none-found xs x finds)
    same-ascending (x ∷ xs) (y ∷ ys) up rising finds back same =
        let low : number y ≤ number x = first-low x xs ys y rising finds in
        let high : number x ≤ number y = first-low y ys xs x up back in
        let e : number x ≡ number y = omega (arith, low, high) in
        ap (λ z. z ∷ xs) (same zero zero x y refl refl e)
        ∙ ap (λ l. y ∷ l) (same-ascending xs ys (rest-ascends x xs up) (rest-ascends y ys rising) (rest-finds x y xs ys e up finds)
        (rest-finds y x ys xs (sym e) rising back) (λ i j. same (suc i) (suc j)))

-- ---- parts of reports that are the same

module _ (d : Shape) (load : Workload) (run : Run) where
  same-reply : (q : ℕ) (r s : Reply) → (r ≡ Memory → ⊥) → (s ≡ Memory → ⊥) → IsReplyTo load q r → IsReplyTo load q s → r ≡ s
  same-reply q (Answer a) (Answer b) r s is also = ap Answer (some-same a b (sym is ∙ also))
  same-reply q Memory s none also is has = absurd (none refl)
  same-reply q (Answer a) Memory also none is has = absurd (none refl)

  same-replies : (one other : Report) → IsReportOf d load run one → IsReportOf d load run other → NoneRanOut one → NoneRanOut other
      → one.replies ≡ other.replies
  same-replies one other is also none more = same-by-place one.replies other.replies (is.replies.count ∙ sym also.replies.count)
      (λ i x y gx gy.
      let this : x.query ≡ i = is.replies.in_order i x gx in
      let that : y.query ≡ i = also.replies.in_order i y gy in
      let reply : x.reply ≡ y.reply = same-reply i x.reply y.reply
      (λ e. none x.query (i, x, gx, (refl, e))) (λ e. more y.query (i, y, gy, (refl, e)))
      (subst (λ q. IsReplyTo load q x.reply) this (all-at (λ (r : QueryReply). IsReplyTo load r.query r.reply) one.replies is.replies.answers i x gx))
      (subst (λ q. IsReplyTo load q y.reply) that (all-at (λ (r : QueryReply). IsReplyTo load r.query r.reply) other.replies also.replies.answers i y gy)) in
      ap (λ q. record { query = q; reply = x.reply }) (this ∙ sym that) ∙ ap (λ r. record { query = y.query; reply = r }) reply)

  same-fields : (a b : Record) → a.query ≡ b.query → a.stage ≡ b.stage → a.slot ≡ b.slot → a.total ≡ b.total → a.finisher ≡ b.finisher → a.short ≡ b.short
      → a.claims ≡ b.claims → a ≡ b
  same-fields a b query stage slot total finisher short claims =
      ap (λ k. record a { query = k }) query ∙ ap (λ k. record a { query = b.query; stage = k }) stage
      ∙ ap (λ k. record a { query = b.query; stage = b.stage; slot = k }) slot
      ∙ ap (λ k. record b { total = k; finisher = a.finisher; short = a.short; claims = a.claims }) total
      ∙ ap (λ k. record b { finisher = k; short = a.short; claims = a.claims }) finisher
      ∙ ap (λ k. record b { short = k; claims = a.claims }) short ∙ ap (λ k. record b { claims = k }) claims

  same-record : HaveFewStages load → (a b : Record) → IsRecordIn d load run.history a → IsRecordIn d load run.history b
      → a.short ≡ false → b.short ≡ false → id_of_record a ≡ id_of_record b → a ≡ b
  same-record few a b is also whole long e =
      let sa : a.stage < load.stages a.query = is.stage in
      let sb : b.stage < load.stages b.query = also.stage in
      let fa : load.stages a.query ≤ STAGES = few a.query in
      let fb : load.stages b.query ≤ STAGES = few b.query in
      let at : STAGES * a.query + a.stage ≡ STAGES * b.query + b.stage = e in
      same-fields a b (omega (arith, sa, sb, fa, fb, at)) (omega (arith, sa, sb, fa, fb, at))
      (some-same a.slot b.slot (sym is.slot ∙ ap (λ id. slot_with d id run.history) e ∙ also.slot))
      (some-same a.total b.total (sym is.of_load ∙ ap load.total e ∙ also.of_load))
      (some-same a.finisher b.finisher (sym is.finisher ∙ ap (λ id. finisher_of d id run.history) e ∙ also.finisher))
      (whole ∙ sym long)
      (is.claims ∙ ap (λ s. cond s [] (reverse (map as_claim (claims_of d (id_of_record a) run.history)))) (whole ∙ sym long)
      ∙ ap (λ id. cond b.short [] (reverse (map as_claim (claims_of d id run.history)))) e ∙ sym also.claims)

  is-whole : (report : Report) → IsReportOf d load run report → NoneRanOut report → (i : ℕ) (kept : Record) → slice_get report.records i ≡ Some kept
      → (short : Bool) → kept.short ≡ short → kept.short ≡ false
  is-whole report is none i kept got true short = absurd (none kept.query (is.answered.short i kept got short))
  is-whole report is none i kept got false short = short

  record-of : (report : Report) → IsReportOf d load run report → (i : ℕ) (kept : Record) → slice_get report.records i ≡ Some kept
      → IsRecordIn d load run.history kept
  record-of report is i kept got = all-at (IsRecordIn d load run.history) report.records is.records.each i kept got

  records-found : (one other : Report) → IsReportOf d load run one → IsReportOf d load run other → FindsIn id_of_record one.records other.records
  records-found one other is also i x got =
      let last : lasts_of d (id_of_record x) run.history ≡ 1 = (record-of one is i x got).last in
      also.records.all (id_of_record x) (omega (arith, last))

  same-records : HaveFewStages load → (one other : Report) → IsReportOf d load run one → IsReportOf d load run other → NoneRanOut one → NoneRanOut other
      → one.records ≡ other.records
  same-records few one other is also none more = same-ascending id_of_record one.records other.records is.records.ascend also.records.ascend
      (records-found one other is also) (records-found other one also is)
      (λ i j x y gx gy e. same-record few x y (record-of one is i x gx) (record-of other also j y gy)
      (is-whole one is none i x gx x.short refl) (is-whole other also more j y gy y.short refl) e)

  -- ---- shares and gaps

  same-share : (a b : Share) → IsShareOf (desk_at d load a.worker) (run.team a.worker) a → IsShareOf (desk_at d load b.worker) (run.team b.worker) b
      → a.worker ≡ b.worker → a.query ≡ b.query → a ≡ b
  same-share a b is also worker query =
      let D : ℕ → Desk Workload = desk_at d load in
      ap (λ k. record a { worker = k }) worker ∙ ap (λ k. record a { worker = b.worker; query = k }) query
      ∙ ap (λ k. record a { worker = b.worker; query = b.query; ranges = k }) (is.ranges
      ∙ ap (λ w. length (tuples_by (D w) a.query (run.team w))) worker
      ∙ ap (λ q. length (tuples_by (D b.worker) q (run.team b.worker))) query ∙ sym also.ranges)
      ∙ ap (λ k. record b { tuples = k; ns = a.ns; priority = a.priority }) (is.tuples
      ∙ ap (λ w. sum (tuples_by (D w) a.query (run.team w))) worker ∙ ap (λ q. sum (tuples_by (D b.worker) q (run.team b.worker))) query ∙ sym also.tuples)
      ∙ ap (λ k. record b { ns = k; priority = a.priority }) (is.ns
      ∙ ap (λ w. time_in (D w) a.query (run.team w)) worker ∙ ap (λ q. time_in (D b.worker) q (run.team b.worker)) query ∙ sym also.ns)
      ∙ ap (λ k. record b { priority = k }) (is.priority
      ∙ ap (λ w. priority_in (D w) a.query (run.team w)) worker ∙ ap (λ q. priority_in (D b.worker) q (run.team b.worker)) query ∙ sym also.priority)

  share-of : (report : Report) → IsReportOf d load run report → (i : ℕ) (a : Share) → slice_get report.shares i ≡ Some a
      → IsShareOf (desk_at d load a.worker) (run.team a.worker) a
  share-of report is i a got = all-at (λ (a : Share). IsShareOf (desk_at d load a.worker) (run.team a.worker) a) report.shares is.shares.each i a got

  share-low : (report : Report) → IsReportOf d load run report → (i : ℕ) (a : Share) → slice_get report.shares i ≡ Some a
      → (a.worker < d.workers) × (a.query < MOST_QUERIES)
  share-low report is i a got = all-at (λ (a : Share). (a.worker < d.workers) × (a.query < MOST_QUERIES)) report.shares is.shares.low i a got

  shares-found : (one other : Report) → IsReportOf d load run one → IsReportOf d load run other → FindsIn number_of_share one.shares other.shares
  shares-found one other is also i x got =
      let has = also.shares.all x.worker x.query (share-low one is i x got).0 (share-of one is i x got).some in
      (has.0, has.1, has.2, ap (λ w. w * MOST_QUERIES + has.1.query) has.3.0 ∙ ap (λ q. x.worker * MOST_QUERIES + q) has.3.1)

  same-shares : (one other : Report) → IsReportOf d load run one → IsReportOf d load run other → one.shares ≡ other.shares
  same-shares one other is also = same-ascending number_of_share one.shares other.shares is.shares.ascend also.shares.ascend
      (shares-found one other is also) (shares-found other one also is)
      (λ i j x y gx gy e.
      let lx : x.query < MOST_QUERIES = (share-low one is i x gx).1 in
      let ly : y.query < MOST_QUERIES = (share-low other also j y gy).1 in
      let at : x.worker * MOST_QUERIES + x.query ≡ y.worker * MOST_QUERIES + y.query = e in
      same-share x y (share-of one is i x gx) (share-of other also j y gy) (omega (arith, lx, ly, at)) (omega (arith, lx, ly, at)))

  same-gap : (w : ℕ) (a b : Gap) → IsGapOf (desk_at d load w) (run.team w) a → IsGapOf (desk_at d load w) (run.team w) b → a ≡ b
  same-gap w a b is also = ap (λ k. record a { worker = k }) (is.worker ∙ sym also.worker)
      ∙ ap (λ k. record b { widest = k; largest = a.largest }) (is.widest ∙ sym also.widest)
      ∙ ap (λ k. record b { largest = k }) (is.largest ∙ sym also.largest)

  same-gaps : (one other : Report) → IsReportOf d load run one → IsReportOf d load run other → one.gaps ≡ other.gaps
  same-gaps one other is also = same-by-place one.gaps other.gaps (is.gaps.count ∙ sym also.gaps.count)
      (λ i x y gx gy. same-gap i x y (is.gaps.each i x gx) (also.gaps.each i y gy))

pub one-report : OneReport
one-report d load run one other few is also none more =
    ap (λ l. record one { replies = l }) (same-replies d load run one other is also none more)
    ∙ ap (λ l. record one { replies = other.replies; records = l }) (same-records d load run few one other is also none more)
    ∙ ap (λ l. record other { shares = l; gaps = one.gaps }) (same-shares d load run one other is also)
    ∙ ap (λ l. record other { gaps = l }) (same-gaps d load run one other is also)
