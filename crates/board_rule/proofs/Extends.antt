-- The extension law: where the rule holds, a call that its worker's trail and notes allow keeps it, and the calling seat's
-- trail is then the longest trail and this call.
use Rattle.std.proofs.Common.{◌≡◌, ◌≢◌, ℕ, ◌+◌, ◌<◌, ◌⊎◌, Bool, true, cond, ltb, List, [], ◌∷◌}
use Rattle.std.proofs.Common.{Option, Some, None, slice_index, refl, sym, ap, ◌∙◌, subst, eq-eqb, ⊎_elim, arith}
use mathlib.Core.Option as std_option
use mathlib.Core.Option.{some, some-ne-none}
use mathlib.Core.Logic.{dite}
use native.Mathlib.Decide.{ℕ_discrete}
use lib.ListN.{get_elem?}
use Rattle.atomic_table.specs.Table as table
use Rattle.atomic_table.specs.Table.{stepped, keeps}
use Rattle.atomic_table.proofs.Lists.{at_set}
use Rattle.slot_history.specs.declared.shape.Shape.{Shape}
use Rattle.slot_history.specs.declared.act.Act.{Act}
use Rattle.slot_history.specs.declared.act.Entry.{Entry}
use Rattle.slot_history.specs.declared.place.Place.{Place}
use Rattle.slot_history.specs.States.{ObjectState, has_own_cell, holds}
use Rattle.slot_history.specs.Steps.{state_after}
use Rattle.slot_history.specs.Histories.{IsLegal, Called, entry, own_calls, place_of}
use Rattle.slot_history.specs.Calls.{Call, MayAt, call_of}
use Rattle.slot_history.proofs.Beginnings.{begins-more, begins-self}
use Rattle.slot_history.proofs.Own.{own-mine, own-other, place-other, found-place}
use Rattle.slot_history.proofs.OneAnswer.{is-answered}
use Rattle.slot_history.proofs.Subject.{subject-goes-on}
use Rattle.slot_history.proofs.Table as places
use Rattle.slot_station.specs.declared.note.Note.TheVariants as note
use Rattle.slot_station.specs.Cells.{noted, caller_then, CellsAllow, NotesAllow}
use Rattle.slot_station.specs.Log.{note_in, call}
use Rattle.slot_station.proofs.CellPlaces.{note-mine, note-other}
use Rattle.slot_station.proofs.CellsKept.{cell-call}
use Rattle.slot_station.proofs.OwnCells.{installs-of}
use Rattle.slot_words.specs.Addresses.{index}
use Rattle.slot_words.specs.Steps.{address_of, change_of, answer_of}
use Rattle.slot_words.specs.Laws.{IsLawful}
use Rattle.slot_words.proofs.Law.{law}
use Rattle.board_rule.specs.declared.view.View.{View}
use Rattle.board_rule.specs.Rule.{Terms, Knowledge, IsViewOf, IsTrueOf, CellIs, named, known_after, moment_known, total_over}
use Rattle.board_rule.specs.Steps.{MayStep}
use Rattle.board_rule.specs.Views.{times, number, view_place, note_of, view_called}
use Rattle.board_rule.proofs.SameCaller.{cells-same}
use Rattle.board_rule.proofs.Lists.{total-set, one-of, two-of, times-head, cons-head, one-at-most}

module _ {B Sub : Type 0} (terms : Terms B Sub) (known : Knowledge) (st : table.State (Option B) (View Sub)) (ok : IsTrueOf terms known st) where
  abbrev d : Shape
  d = terms.shape

  abbrev S : ObjectState
  S = state_after d known.trail

  abbrev times_in : ℕ → View Sub → ℕ
  times_in w v = times w v.numbers

  -- no number is in two views
  pub lone : (i j : ℕ) (v u : View Sub) (w : ℕ) → get_elem? st.views i ≡ some v → get_elem? st.views j ≡ some u → j ≢ i → 0 < times w v.numbers
      → 0 < times w u.numbers → ⊥
  lone i j v u w at_i at_j n here there =
      let h = two-of (times_in w) st.views i j v u at_i at_j n in
      let k : total_over (times_in w) st.views ≡ cond (ltb w d.workers) 1 0 = ok.numbers w in
      let l = one-at-most (ltb w d.workers) in omega arith

  -- of a worker w, whose seat i has the view v
  module _ (i : ℕ) (v : View Sub) (at : get_elem? st.views i ≡ some v) (w : ℕ) (ws : List ℕ) (nums : v.numbers ≡ w ∷ ws) where
    pub here : 0 < times w v.numbers
    here = subst (λ l. 0 < times w l) (sym nums) (times-head w ws)

    -- another view does not have the number
    pub other-number : (j : ℕ) (u : View Sub) → get_elem? st.views j ≡ some u → j ≢ i → (m : ℕ) → 0 < times m u.numbers → m ≢ w
    other-number j u at_j ne m has e = lone i j v u w at at_j ne here (subst (λ m. 0 < times m u.numbers) e has)

    -- no number is twice in a view
    twice : (m y : ℕ) (ms : List ℕ) → v.numbers ≡ y ∷ ms → m ≡ y → 0 < times m ms → ⊥
    twice m y ms e q has =
        let h = one-of (times_in m) st.views i v at in
        let k : total_over (times_in m) st.views ≡ cond (ltb m d.workers) 1 0 = ok.numbers m in
        let l = one-at-most (ltb m d.workers) in
        let r : times m v.numbers ≡ 1 + times m ms = ap (times m) e ∙ ap (λ (b : Bool). cond {A = ℕ} b 1 0 + times m ms) (eq-eqb y m (sym q)) in omega arith

    -- the view's trail has all calls of w
    pub mine : own_calls w known.trail ≡ own_calls w v.trail
    mine = (ok.views i v at).own w here

    -- and makes the call a, which is legal
    module _ (a : Act) (legal : IsLegal d (entry w a ∷ known.trail)) where
      abbrev more : List Entry
      more = entry w a ∷ known.trail

      abbrev next : Knowledge
      next = known_after w a known

      view-other : (j : ℕ) (u : View Sub) → get_elem? st.views j ≡ some u → j ≢ i → IsViewOf terms next u
      view-other j u at_j ne =
          let old = ok.views j u at_j in
          let other : (m : ℕ) → 0 < times m u.numbers → m ≢ w = other-number j u at_j ne in
          let first : (m : ℕ) (ms : List ℕ) → u.numbers ≡ m ∷ ms → m ≢ w = λ m ms e. other m (subst (λ l. 0 < times m l) (sym e) (times-head m ms)) in record {
            shape = old.shape;
            subject_is = old.subject_is;
            begins = begins-more (entry w a) known.trail u.trail old.begins;
            own = λ m has. own-other (entry w a) known.trail m (other m has) ∙ old.own m has;
            notes = λ m ms e y. note-other w a known.notes m y (first m ms e) ∙ old.notes m ms e y;
            out = old.out;
            further = λ m y ms e has.
                place-other d (entry w a) known.trail m (other m (subst (λ l. 0 < times m l) (sym e) (omega arith))) ∙ old.further m y ms e has;
            none = old.none;
            heard = λ k x e. let r = old.heard k x e in record {
              begins = begins-more (entry w a) known.trail x.trail r.begins;
              own = own-other (entry w a) known.trail x.worker (other x.worker r.there) ∙ r.own;
              there = r.there;
            };
          }

      -- the own notes, by the own log
      own-notes : (u : ℕ) → next.notes w u ≡ note_in (call w a ∷ v.own) w u
      own-notes u = note-mine w a known.notes u ∙ ap (noted a w u) ((ok.views i v at).notes w ws nums u)
          ∙ sym (ap (λ b. cond b (noted a w u (note_in v.own w u)) (note_in v.own w u)) (eq-eqb w w refl))

      view-own : v.heard ≡ [] → IsViewOf terms next (view_called v w more a)
      view-own alone =
          let old = ok.views i v at in record {
            shape = old.shape;
            subject_is = old.subject_is;
            begins = begins-self more;
            own = λ m has. refl;
            notes = λ m ms e u. subst (λ x. next.notes x u ≡ note_in (call w a ∷ v.own) x u) (cons-head (sym nums ∙ e)) (own-notes u);
            out = old.out;
            further = λ m y ms e has.
                let other : m ≢ w = λ q. twice m y ms e (q ∙ sym (cons-head (sym e ∙ nums))) has in
                place-other d (entry w a) known.trail m other ∙ old.further m y ms e has;
            none = λ e. absurd (cc);
            heard = λ k x e. absurd (some-ne-none x (sym (sym (ap (λ l. get_elem? l k) alone) ∙ e)));
          }

      -- each cell, of which the worker has none out
      cell : NotesAllow (terms.total terms.subject) (caller_then (moment_known terms known) w) a → v.out ≡ None
          → (s u : ℕ) → u < d.workers → (x : std_option.Option (Option B)) → CellIs terms known (named s u) x → CellIs terms next (named s u) x
      cell allow still s u in_u std_option.none (z, in_z, is, has) =
          let other : z ≢ w = λ e. let r : Some u ≡ None = sym is ∙ ap known.outs e ∙ (ok.views i v at).out w ws nums ∙ still in absurd (cc) in (
            z,
            in_z,
            is,
            subst (λ q. ((z ≡ u) × (has_own_cell q s ≡ true)) ⊎ (holds q s ≡ true)) (sym (place-other d (entry w a) known.trail z other)) has,
          )
      cell allow still s u in_u (some x) c =
          cell-call (terms.fits terms.subject u) (terms.total terms.subject) d known.trail known.notes w a legal allow s x u in_u c

      idle : (m : ℕ) → own_calls m more ≡ [] → (known.outs m ≡ None) × ((u : ℕ) → next.notes m u ≡ note.Loose)
      idle m = dite (ℕ_discrete m w)
          (λ e none. absurd (let r : entry w a ∷ own_calls m known.trail ≡ [] = sym (own-mine (entry w a) known.trail m e) ∙ none in cc))
          (λ ne none. let r = ok.idle m (sym (own-other (entry w a) known.trail m ne) ∙ none) in (r.0, λ u. note-other w a known.notes m u ne ∙ r.1 u))

    -- ---- the step of a call

    module _ (c : Call) (low : w < d.workers) (may : MayAt d (place_of d known.trail w) c) where
      abbrev p : Place
      p = place_of d known.trail w

      abbrev k : ℕ
      k = index d (address_of w c p)

      abbrev found : ℕ
      found = slice_index st.words k

      abbrev a : Act
      a = answer_of c p found

      pub lawful : IsLawful (record { shape = d; history = known.trail; worker = w; call = c })
          (record { address = address_of w c p; change = change_of c p; answer = answer_of c p }) st.words
      lawful = law c d known.trail w st.words ok.words_are low may

      asked : call_of a ≡ c
      asked = ap call_of lawful.reply ∙ (is-answered d S (places.table d known.trail ok.words_are.legal)).of_call w c

      pub extends : NotesAllow (terms.total terms.subject) (caller_then (moment_known terms known) w) a → v.out ≡ None → v.heard ≡ []
          → IsTrueOf terms (known_after w a known) (stepped st k (change_of c p found) i [] (view_called v w (entry w a ∷ known.trail) a) keeps)
      extends allow still alone = record {
        words_are = record { shape = ok.words_are.shape; legal = lawful.legal; stands = lawful.stands };
        of_subject = subject-goes-on (terms.total terms.subject) d (entry w a) known.trail ok.of_subject
            (installs-of (terms.total terms.subject) (caller_then (moment_known terms known) w) a allow);
        numbers = λ m. let t = total-set (times_in m) st.views i v (view_called v w (entry w a ∷ known.trail) a) at in omega (arith, ok.numbers m);
        views = λ j u at_j. ⊎_elim
            (λ r. subst (IsViewOf terms (known_after w a known)) r.1 (view-own a lawful.legal alone))
            (λ r. view-other a lawful.legal j u r.1 r.0)
            (at_set st.views i j (view_called v w (entry w a ∷ known.trail) a) u at_j);
        cells = λ s u in_s in_u x at_x. cell a lawful.legal allow still s u in_u x (ok.cells s u in_s in_u x at_x);
        idle = idle a lawful.legal;
      }

      pub allows : CellsAllow (terms.total terms.subject) (caller_then (moment_known terms known) w) c
          → NotesAllow (terms.total terms.subject) (caller_then (moment_known terms known) w) a
      allows cells = subst (CellsAllow (terms.total terms.subject) (caller_then (moment_known terms known) w)) (sym asked) cells

  -- ---- of a view that may make the step

  module _ (i : ℕ) (v : View Sub) (at : get_elem? st.views i ≡ some v) (c : Call) (step : MayStep terms v c) where
    abbrev w : ℕ
    w = number v

    abbrev q : Place
    q = view_place v

    abbrev Extended : Place → Type 0
    Extended r = let n = slice_index st.words (index d (address_of w c r)) in let b = answer_of c r n in
        Called d (entry w b) v.trail (entry w b ∷ known.trail)
        × IsTrueOf terms (known_after w b known) (stepped st (index d (address_of w c r)) (change_of c r n) i []
        (view_called v w (entry w b ∷ known.trail) b) keeps)

    same : place_of d known.trail w ≡ q
    same = found-place d w v.trail known.trail (mine i v at w step.rest step.numbers) ∙ ap (λ e. place_of e v.trail w) (sym step.shape)

    at-known : MayAt d (place_of d known.trail w) c
    at-known = subst (λ r. MayAt d r c) (sym same) (subst (λ e. MayAt e q c) step.shape step.may.place)

    cells-known : CellsAllow (terms.total terms.subject) (caller_then (moment_known terms known) w) c
    cells-known = cells-same (terms.total terms.subject) d w q (place_of d known.trail w) (note_of v) (known.notes w) (sym same)
        (λ u. sym ((ok.views i v at).notes w step.rest step.numbers u)) c
        (subst (λ e. CellsAllow (terms.total terms.subject) (record { shape = e; worker = w; place = q; notes = note_of v }) c) step.shape step.may.cells)

    -- the extension law
    pub extended : Extended q
    extended =
        let old = ok.views i v at in
        let allow = allows i v at w step.rest step.numbers c step.below at-known cells-known in
        let legal = (lawful i v at w step.rest step.numbers c step.below at-known).legal in
        subst Extended same (
          (known.trail, refl, old.begins, mine i v at w step.rest step.numbers, legal),
          extends i v at w step.rest step.numbers c step.below at-known allow step.still step.alone,
        )
