-- What the workers of a whole run ended and gathered: each query and each finalised task set once.
use Rattle.std.proofs.Common.{◌≡◌, inl, inr, ⊎_elim, ℕ, ◌+◌, ◌*◌, ◌/◌, ◌%◌, ◌<◌, ◌≤◌, Bool, true, false, cond, ltb}
use Rattle.std.proofs.Common.{List, [], ◌∷◌, length, Option, refl, sym, ap, ◌∙◌, subst, lt-ltb, le-ltb, arith}
use Rattle.std.proofs.lemmas.Bool.{cond_both, cases_lt}
use Rattle.slot_history.specs.declared.shape.Shape.{Shape}
use Rattle.slot_history.specs.declared.shape.TheConstants.{STAGES}
use Rattle.slot_history.specs.declared.act.Act.TheVariants.{Install}
use Rattle.slot_history.specs.declared.act.Entry.{Entry}
use Rattle.slot_history.specs.declared.place.Held.{Held}
use Rattle.slot_history.specs.Sets.{sum_below}
use Rattle.slot_history.specs.States.{SlotState, ObjectState, slot_of}
use Rattle.slot_history.specs.Steps.{opened, next, state_after}
use Rattle.slot_history.specs.Allowed.{IsAllowed}
use Rattle.slot_history.specs.Histories.{IsLegal, is_install, installs_of, lasts_of}
use Rattle.slot_history.specs.Lives.{Life, Never, Runs, Done, life_of, tally_of, Counts}
use Rattle.slot_history.proofs.Duties.{IsHeldBy}
use Rattle.slot_history.proofs.Sets.{upd-same}
use Rattle.slot_history.proofs.Table.{table}
use Rattle.slot_history.proofs.Holdings.{holder-slot}
use Rattle.slot_history.proofs.Counts.{install-is, counts}
use Rattle.slot_history.proofs.Numbers.{installed-low}
use Rattle.slot_station.specs.Desks.{Desk}
use Rattle.turn_model.specs.Workloads.{Workload}
use Rattle.turn_model.specs.Moves.{Move}
use Rattle.turn_model.specs.Learned.{place_by}
use Rattle.turn_model.specs.Runs.{Run, desk_at}
use Rattle.run_laws.specs.Ends.{HaveStages}
use Rattle.run_laws.specs.Completes.{releases_of, IsAllDone}
use Rattle.turn_model.specs.Endings.{ended_by, gathered_by, work_by, HasRoom}
use Rattle.run_laws.specs.Merging.{IsWhole, RoomIsLeft}
use Rattle.run_laws.proofs.Least.{sum-most, sum-bounded, sum-member, sum-equal}
use Rattle.run_laws.proofs.Made.{AreMade, played-made}
use Rattle.run_laws.proofs.Fits.{Fits}
use Rattle.run_laws.proofs.Account.{counted}
use Rattle.run_laws.proofs.Releases.{released}
use Rattle.run_laws.proofs.Completes.{over-is-done}
use Rattle.run_laws.proofs.Tallies.{total, by_moves, total-moves}
use Rattle.run_laws.proofs.EndingsTell.{release_of, last_of, ended_for, times_in, still_held, still_spread, ends-for, gathers-of, ended-some}
use Rattle.run_laws.proofs.Pigeons.{length-ended, length-ids}

-- ---- totals

total-released : (d : Shape) (h : List Entry) (q : ℕ) → total (release_of q) d h ≡ releases_of d q h
total-released d [] q = refl
total-released d (e ∷ es) q = ap (λ n. release_of q e.act ((state_after d es).places e.worker) + n) (total-released d es q)

total-last : (d : Shape) (h : List Entry) (id : ℕ) → total (last_of id) d h ≡ lasts_of d id h
total-last d [] id = refl
total-last d (e ∷ es) id = ap (λ n. last_of id e.act ((state_after d es).places e.worker) + n) (total-last d es id)

-- ---- task sets that were installed are of the work

abbrev IsTask : Workload → ℕ → Type 0
IsTask load id = id % STAGES < load.stages (id / STAGES)

opened-task : (load : Workload) (w id : ℕ) (h : Held) (x : SlotState) → IsHeldBy w h x → Fits load (opened id x) → IsTask load id
opened-task load w id h x (inl is) fits = subst (λ y. Fits load (opened id y)) is fits
opened-task load w id h x (inr (jd, is)) fits = subst (λ y. Fits load (opened id y)) is fits

module _ (d : Shape) (load : Workload) (some : HaveStages d load) where
  installed-now : (e : Entry) (es : List Entry) (id : ℕ) → IsLegal d (e ∷ es) → AreMade d load (e ∷ es) → e.act ≡ Install id → IsTask load id
  installed-now e es id legal made is =
      let S : ObjectState = state_after d es in
      let k : ℕ = slot_of (S.places e.worker) in
      let ok : IsAllowed d S e.worker (Install id) = subst (IsAllowed d S e.worker) is legal.1 in
      let at : ok.0 ≡ k = sym (ap slot_of ok.2) in
      let held : IsHeldBy e.worker ok.1 (S.slots k) =
      subst (λ j. IsHeldBy e.worker ok.1 (S.slots j)) at (holder-slot d S (table d es legal.2) e.worker ok.0 ok.1 legal.0 ok.2) in
      let fits : Fits load ((next d S e.worker e.act).slots k) = (counted d load some (e ∷ es) legal made).fits k in
      let here : Fits load ((next d S e.worker (Install id)).slots k) = subst (λ a. Fits load ((next d S e.worker a).slots k)) is fits in
      opened-task load e.worker id ok.1 (S.slots k) held (subst (Fits load) (upd-same S.slots k (opened id (S.slots k))) here)

  installed-task : (h : List Entry) (id : ℕ) → IsLegal d h → AreMade d load h → 0 < installs_of id h → IsTask load id
  installed-task [] id legal made was = absurd (omega (arith, was))
  installed-task (e ∷ es) id legal made was = cond_both (is_install e.act id) 1 0 (λ n. 0 < n + installs_of id es → IsTask load id)
      (λ this was. installed-now e es id legal made (install-is e.act id this))
      (λ other was. installed-task es id legal.2 made.1 (let r : 0 < 0 + installs_of id es = was in omega (arith, r))) was

-- a task set that was finalised was installed
last-installed : (life : Life) (installs lasts : ℕ) (total slot : Option ℕ)
    → Counts life (record { installs = installs; lasts = lasts; total = total; slot = slot }) → 0 < lasts → (0 < installs) × (lasts ≡ 1)
last-installed Never installs lasts total slot c some = let z : lasts ≡ 0 = c.1 in absurd (omega (arith, z, some))
last-installed (Runs s n) installs lasts total slot c some = let z : lasts ≡ 0 = c.1 in absurd (omega (arith, z, some))
last-installed (Done n) installs lasts total slot c some = let o : installs ≡ 1 = c.0 in (omega (arith, o), c.1)

-- ---- a whole run

module _ (d : Shape) (load : Workload) (run : Run) (whole : IsWhole d load run) where
  pub done : IsAllDone d load run.history
  done = over-is-done d load run whole.work whole.played whole.over

  made : AreMade d load run.history
  made = played-made d load run whole.played

  pub releases-are : (q : ℕ) → releases_of d q run.history ≡ cond (ltb q d.queries) 1 0
  releases-are q = ⊎_elim
      (λ low. done.released q low ∙ sym (ap (λ b. cond b 1 0) (lt-ltb q d.queries low)))
      (λ high. (released d load run.history q whole.played.legal made).none (let a = done.admitted in omega (arith, a, high))
      ∙ sym (ap (λ b. cond b 1 0) (le-ltb q d.queries high)))
      (cases_lt q d.queries)

  pub finalised : (id : ℕ) → 0 < lasts_of d id run.history → (id / STAGES < d.queries) × IsTask load id × (lasts_of d id run.history ≡ 1)
  finalised id some =
      let t = tally_of d id run.history in
      let was = last-installed (life_of d id run.history) t.installs t.lasts t.total t.slot (counts d run.history whole.played.legal id) some in
      let low : id < STAGES * d.queries = installed-low d run.history whole.played.legal id was.0 in
      (omega (arith, low), installed-task d load whole.work.some run.history id whole.played.legal made was.0, was.1)

  pub lasts-once : (id : ℕ) → lasts_of d id run.history ≤ 1
  lasts-once id = ⊎_elim (λ some. let one : lasts_of d id run.history ≡ 1 = (finalised id some).2 in omega (arith, one)) (λ none. omega (arith, none))
      (cases_lt 0 (lasts_of d id run.history))

  -- of a worker
  pub ends-are : (w q : ℕ) → w < d.workers
      → ended_for q (ended_by (desk_at d load w) (run.team w)) ≡ by_moves (release_of q) (desk_at d load w) (run.team w)
  ends-are w q low =
      let D : Desk Workload = desk_at d load w in
      let e = subst (λ x. ended_for q (ended_by D (run.team w)) ≡ by_moves (release_of q) D (run.team w) + still_held q x (place_by D (run.team w)))
      (whole.over w low) (ends-for D whole.work.shape.workers.0 q (run.team w) (whole.played.driven w low)) in
      let r : ended_for q (ended_by D (run.team w)) ≡ by_moves (release_of q) D (run.team w) + 0 = e in omega (arith, r)

  pub gathers-are : (w id : ℕ) → w < d.workers
      → times_in id (gathered_by (desk_at d load w) (run.team w)) ≡ by_moves (last_of id) (desk_at d load w) (run.team w)
  gathers-are w id low =
      let D : Desk Workload = desk_at d load w in
      let e = subst (λ x. by_moves (last_of id) D (run.team w)
      ≡ times_in id (gathered_by D (run.team w)) + still_spread d.workers id x (place_by D (run.team w)))
      (whole.over w low) (gathers-of D whole.work.shape.workers.0 id (run.team w) (whole.played.driven w low)) in
      let r : by_moves (last_of id) D (run.team w) ≡ times_in id (gathered_by D (run.team w)) + 0 = e in omega (arith, r)

  -- of all workers
  pub ends-total : (q : ℕ) → sum_below d.workers (λ w. ended_for q (ended_by (desk_at d load w) (run.team w))) ≡ cond (ltb q d.queries) 1 0
  ends-total q = sum-equal d.workers (λ w. by_moves (release_of q) (desk_at d load w) (run.team w))
      (λ w. ended_for q (ended_by (desk_at d load w) (run.team w))) (λ w low. ends-are w q low)
      ∙ sym (total-moves (release_of q) d load run whole.played) ∙ total-released d run.history q ∙ releases-are q

  pub gathers-total : (id : ℕ) → sum_below d.workers (λ w. times_in id (gathered_by (desk_at d load w) (run.team w))) ≡ lasts_of d id run.history
  gathers-total id = sum-equal d.workers (λ w. by_moves (last_of id) (desk_at d load w) (run.team w))
      (λ w. times_in id (gathered_by (desk_at d load w) (run.team w))) (λ w low. gathers-are w id low)
      ∙ sym (total-moves (last_of id) d load run whole.played) ∙ total-last d run.history id

  ended-most : (w q : ℕ) → w < d.workers → ended_for q (ended_by (desk_at d load w) (run.team w)) ≤ cond (ltb q d.queries) 1 0
  ended-most w q low =
      let all = ends-total q in
      let mine : ended_for q (ended_by (desk_at d load w) (run.team w)) ≤ sum_below d.workers (λ v. ended_for q (ended_by (desk_at d load v) (run.team v))) =
      sum-member d.workers w (λ v. ended_for q (ended_by (desk_at d load v) (run.team v))) low in
      omega (arith, all, mine)

  pub gathered-most : (w id : ℕ) → w < d.workers → times_in id (gathered_by (desk_at d load w) (run.team w)) ≤ lasts_of d id run.history
  gathered-most w id low =
      let all = gathers-total id in
      let mine : times_in id (gathered_by (desk_at d load w) (run.team w))
      ≤ sum_below d.workers (λ v. times_in id (gathered_by (desk_at d load v) (run.team v))) =
      sum-member d.workers w (λ v. times_in id (gathered_by (desk_at d load v) (run.team v))) low in
      omega (arith, all, mine)

  bit-most : (b : Bool) → cond {A = ℕ} b 1 0 ≤ 1
  bit-most true = omega arith
  bit-most false = omega arith

  module _ (w : ℕ) (low : w < d.workers) where
    abbrev D : Desk Workload
    D = desk_at d load w

    abbrev ms : List Move
    ms = run.team w

    pub room : HasRoom D (work_by D ms)
    room = record {
      replies =
          let all : length (ended_by D ms) ≡ sum_below d.queries (λ q. ended_for q (ended_by D ms)) = length-ended d.queries (ended_by D ms)
          (ended-some D whole.work.shape.workers.0 ms (whole.played.driven w low))
          (λ q high. let m = ended-most w q low in let z : cond {A = ℕ} (ltb q d.queries) 1 0 ≡ 0 = ap (λ b. cond b 1 0) (le-ltb q d.queries high) in
          omega (arith, m, z)) in
          let few : sum_below d.queries (λ q. ended_for q (ended_by D ms)) ≤ d.queries * 1 = sum-bounded d.queries (λ q. ended_for q (ended_by D ms)) 1
          (λ q q_low. let m = ended-most w q low in let b = bit-most (ltb q d.queries) in omega (arith, m, b)) in
          omega (arith, all, few);
      records =
          let all : length (gathered_by D ms) ≡ sum_below d.queries (λ q. sum_below (load.stages q) (λ k. times_in (STAGES * q + k) (gathered_by D ms))) =
          length-ids d.queries load.stages (gathered_by D ms) whole.work.few
          (λ id some. let f = finalised id (let m = gathered-most w id low in omega (arith, m, some)) in (f.0, f.1)) in
          let few : sum_below d.queries (λ q. sum_below (load.stages q) (λ k. times_in (STAGES * q + k) (gathered_by D ms))) ≤ sum_below d.queries load.stages =
          sum-most d.queries (λ q. sum_below (load.stages q) (λ k. times_in (STAGES * q + k) (gathered_by D ms))) load.stages
          (λ q q_low. let b : sum_below (load.stages q) (λ k. times_in (STAGES * q + k) (gathered_by D ms)) ≤ load.stages q * 1 =
          sum-bounded (load.stages q) (λ k. times_in (STAGES * q + k) (gathered_by D ms)) 1
          (λ k k_low. let m = gathered-most w (STAGES * q + k) low in let o = lasts-once (STAGES * q + k) in omega (arith, m, o)) in omega (arith, b)) in
          omega (arith, all, few);
    }

pub room-is-left : RoomIsLeft
room-is-left d load run w whole low = room d load run whole w low
