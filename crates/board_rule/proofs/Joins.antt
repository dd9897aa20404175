-- How all seats are joined, and what the last one knows.
use Rattle.std.proofs.Common.{◌≡◌, ℕ, zero, suc, ◌<◌, List, [], ◌∷◌, ◌++◌, length, Option, Some, slice_index}
use Rattle.std.proofs.Common.{slice_get, refl, sym, ap, ap₂, ◌∙◌, subst, inl, inr, ◌⊎◌, append_assoc, length-append, arith}
use mathlib.Core.Option.{some}
use lib.ListN.{get_elem?}
use Rattle.atomic_table.specs.Table.{Me, Joins, Final, Seen}
use Rattle.atomic_table.specs.declared.shared.Seat.{Seat}
use Rattle.atomic_table.proofs.Lists.{at_longer}
use Rattle.slot_history.specs.declared.shape.Shape.{Shape}
use Rattle.slot_history.specs.declared.act.Entry.{Entry}
use Rattle.slot_history.specs.Histories.{own_calls, Begins, IsOfTotals}
use Rattle.slot_history.proofs.Beginnings.{whole-by-own-calls}
use Rattle.slot_words.specs.Laws.{AreWordsOf}
use Rattle.board_rule.specs.declared.board.Board.{Board}
use Rattle.board_rule.specs.declared.board.Pass.{Pass}
use Rattle.board_rule.specs.declared.view.View.{View}
use Rattle.board_rule.specs.Ends.{HasJoined, IsGathered}
use Rattle.board_rule.specs.Lives.{AreAll, AreFree, IsFreePass, IsJoined, Ended}
use Rattle.board_rule.specs.Passes.{board_shape, board_subject}
use Rattle.board_rule.specs.Rule.{Knowledge, IsViewOf, RunningRule, Terms, terms_of}
use Rattle.board_rule.specs.Views.{times, number, joined, spent}
use Rattle.board_rule.proofs.Lists.{headed, no-items, times-head, times-append}
use Rattle.board_rule.proofs.Seats.{joins}
use Rattle.board_rule.proofs.Stepping.{place-is}

pub get-mid : {A : Type 0} → (xs : List A) (x : A) (ys : List A) → slice_get (xs ++ x ∷ ys) (length xs) ≡ Some x
get-mid [] x ys = refl
get-mid (z ∷ zs) x ys = get-mid zs x ys

-- one moves from the first part to the second
pub shift : {A : Type 0} → (al part new done : List A) (x : A) → al ≡ part ++ done → part ≡ new ++ x ∷ [] → al ≡ new ++ x ∷ done
shift al part new done x e f = e ∙ ap (λ l. l ++ done) f ∙ append_assoc new (x ∷ []) done

module _ {Sub : Type 0} (v u : View Sub) (w : ℕ) (t : List Entry) where
  still-knows : ((k : ℕ) × (get_elem? v.heard k ≡ some (record { worker = w; trail = t }))) ⊎ ((number v ≡ w) × (v.trail ≡ t))
      → (k : ℕ) × (get_elem? (joined v u).heard k ≡ some (record { worker = w; trail = t }))
  still-knows (inl (k, e)) = (suc (suc k), at_longer v.heard u.heard k _ e)
  still-knows (inr (n, e)) = (0, ap₂ (λ (x : ℕ) (y : List Entry). some (record { worker = x; trail = y })) n e)

  still-joined : HasJoined v w t → HasJoined (joined v u) w t
  still-joined r = record { there = (let a = times-append w v.numbers u.numbers in let b = r.there in omega arith); knows = inl (still-knows r.knows) }

module _ {B Sub : Type 0} (b : Board B Sub) where
  own-there : (p : Pass B Sub) → IsFreePass b p → 0 < times p.worker p.seat.me.0.numbers
  own-there p done =
      let l = headed p.seat.me.0.numbers p.worker done.of_board.2 done.of_board.3 in
      subst (λ n. 0 < times p.worker n) (sym l.1) (times-head p.worker l.0)

  pub join-step : (total : Sub → ℕ → Option ℕ) (fits : Sub → ℕ → ℕ → List (ℕ × ℕ) → B → Type 0) (s : Seat (Option B) (View Sub)) (p : Pass B Sub)
      → s.table_id ≡ b.table.shared.table_id → 0 < length s.me.0.numbers → IsFreePass b p
      → (s.table_id ≡ b.table.shared.table_id) × (p.seat.table_id ≡ b.table.shared.table_id) × (p.seat.me.1 ≡ []) × (0 < b.table.shared.table_id.words)
      × Joins (RunningRule (terms_of total fits b.table.shared.key)) s.id s.me.0 p.seat.id p.seat.me.0 (joined s.me.0 p.seat.me.0) spent
  join-step total fits s p same any done =
      let ours = done.of_board in
      let l = headed s.me.0.numbers (slice_index s.me.0.numbers 0) any refl in
      let r = headed p.seat.me.0.numbers p.worker ours.2 ours.3 in
      let n = b.words_are in (
        same,
        ours.0,
        no-items p.seat.me.1 ours.9,
        omega arith,
        joins (terms_of total fits b.table.shared.key) s.id s.me.0 p.seat.id p.seat.me.0 (slice_index s.me.0.numbers 0) p.worker l.0 r.0 l.1 r.1
            (place-is b p.worker p.place p.seat ours ∙ done.place),
      )

  pub done-mid : (ps new done : List (Pass B Sub)) (p : Pass B Sub) → AreFree b ps → ps ≡ new ++ p ∷ done → IsFreePass b p
  done-mid ps new done p each e = each (length new) p (rw e (get-mid new p done))

  -- one more is joined
  pub gathered-more : (s t : Seat (Option B) (View Sub)) (p : Pass B Sub) (done : List (Pass B Sub)) → IsGathered b done s → IsFreePass b p
      → t.table_id ≡ s.table_id → t.me ≡ (joined s.me.0 p.seat.me.0, s.me.1) → IsGathered b (p ∷ done) t
  gathered-more s t p done g free id is =
      let view : t.me.0 ≡ joined s.me.0 p.seat.me.0 = ap (λ (m : Me (Option B) (View Sub)). m.0) is in record {
        table = id ∙ g.table;
        some_number = subst (λ (v : View Sub). 0 < length v.numbers) (sym view)
            (let n = length-append s.me.0.numbers p.seat.me.0.numbers in let k = g.some_number in omega arith);
        each = λ k q at. subst (λ v. HasJoined v q.worker q.seat.me.0.trail) (sym view) (in_ k q at);
      }
    where
      in_ : (k : ℕ) (q : Pass B Sub) → slice_get (p ∷ done) k ≡ Some q → HasJoined (joined s.me.0 p.seat.me.0) q.worker q.seat.me.0.trail
      in_ zero q at = subst (λ (z : Pass B Sub). HasJoined (joined s.me.0 p.seat.me.0) z.worker z.seat.me.0.trail) (let e : p ≡ q = cc in e) (record {
        there = (let n = times-append p.worker s.me.0.numbers p.seat.me.0.numbers in let k = own-there p free in omega arith);
        knows = inl (1, ap (λ (x : ℕ). some (record { worker = x; trail = p.seat.me.0.trail })) free.of_board.3);
      })
      in_ (suc k) q at = still-joined s.me.0 p.seat.me.0 q.worker q.seat.me.0.trail (g.each k q at)

  pub gathered-first : (p : Pass B Sub) → IsFreePass b p → IsGathered b (p ∷ []) p.seat
  gathered-first p free = record { table = free.of_board.0; some_number = free.of_board.2; each = in_ }
    where
      in_ : (k : ℕ) (q : Pass B Sub) → slice_get (p ∷ []) k ≡ Some q → HasJoined p.seat.me.0 q.worker q.seat.me.0.trail
      in_ zero q at = subst (λ (z : Pass B Sub). HasJoined p.seat.me.0 z.worker z.seat.me.0.trail) (let e : p ≡ q = cc in e)
          (record { there = own-there p free; knows = inr (free.of_board.3, refl) })
      in_ (suc k) q at = absurd (cc)

  -- there is a first pass, since there is a worker
  some-worker : 0 < (board_shape b).workers
  some-worker = subst (λ (d : Shape). 0 < d.workers) (sym b.shape_is) b.bounded.workers.0

  pub any-pass : (ps : List (Pass B Sub)) → AreAll b ps → 0 < length ps
  any-pass [] all = let (k, p, at, is) = all 0 some-worker in absurd (cc at)
  any-pass (p ∷ ps) all = omega arith

  module _ (total : Sub → ℕ → Option ℕ) (fits : Sub → ℕ → ℕ → List (ℕ × ℕ) → B → Type 0) where
    abbrev terms : Terms B Sub
    terms = terms_of total fits b.table.shared.key

    -- what the last seat was joined with, by the longest trail
    known-of : (known : Knowledge) (v : View Sub) (w : ℕ) (t : List Entry) → 0 < length v.numbers → IsViewOf terms known v
        → ((k : ℕ) × (get_elem? v.heard k ≡ some (record { worker = w; trail = t }))) ⊎ ((number v ≡ w) × (v.trail ≡ t))
        → Begins known.trail t × (own_calls w known.trail ≡ own_calls w t)
    known-of known v w t any is (inl (k, e)) = let r = is.heard k (record { worker = w; trail = t }) e in (r.begins, r.own)
    known-of known v w t any is (inr (n, e)) =
        let l = headed v.numbers (number v) any refl in
        let has : 0 < times (number v) v.numbers = subst (λ x. 0 < times (number v) x) (sym l.1) (times-head (number v) l.0) in (
          subst (λ x. Begins known.trail x) e is.begins,
          subst (λ m. own_calls m known.trail ≡ own_calls m t) n (is.own (number v) has ∙ ap (own_calls (number v)) e),
        )

    pub finished : (ps : List (Pass B Sub)) (s : Seat (Option B) (View Sub)) (end : Ended) (ws : List ℕ) (xs : List (Option B)) → AreAll b ps
        → IsGathered b ps s → Final (Seen (RunningRule terms) s.id s.me.0) ws xs → end.words ≡ ws → end.history ≡ s.me.0.trail → IsJoined b total ps end
    finished ps s end ws xs all g (st, ((known, ok), at), words, count, values) copied shows =
        let is = ok.views s.id s.me.0 at in
        let v : View Sub = s.me.0 in
        let own : (w : ℕ) → w < (board_shape b).workers → own_calls w known.trail ≡ own_calls w v.trail =
        λ w low. let (k, p, there, named) = all w low in is.own w (subst (λ m. 0 < times m v.numbers) named (g.each k p there).there) in
        let whole : known.trail ≡ end.history =
        whole-by-own-calls (board_shape b) known.trail v.trail ok.words_are.legal is.begins own ∙ sym shows in
        let each : (k : ℕ) (p : Pass B Sub) → slice_get ps k ≡ Some p
        → Begins known.trail p.seat.me.0.trail × (own_calls p.worker known.trail ≡ own_calls p.worker p.seat.me.0.trail) =
        λ k p there. known-of known v p.worker p.seat.me.0.trail g.some_number is (g.each k p there).knows in record {
          words_are = subst (λ h. AreWordsOf (board_shape b) h end.words) whole
              (subst (AreWordsOf (board_shape b) known.trail) (words ∙ sym copied) ok.words_are);
          of_subject = subst (IsOfTotals (total (board_subject b)) (board_shape b)) whole ok.of_subject;
          begins = λ k p there. subst (λ h. Begins h p.seat.me.0.trail) whole (each k p there).0;
          own = λ k p there. subst (λ h. own_calls p.worker h ≡ own_calls p.worker p.seat.me.0.trail) whole (each k p there).1;
        }
