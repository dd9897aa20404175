-- A cell is taken out of the table and given back.
use Rattle.std.proofs.Common.{◌≡◌, ◌≢◌, ℕ, zero, suc, ◌*◌, ◌<◌, true, cond, eqb, ◌&&◌, List, [], ◌∷◌, length, set}
use Rattle.std.proofs.Common.{Option, Some, None, IfSome, slice_index, refl, sym, ap, ap₂, ◌∙◌, subst, ◌⊎◌, ⊎_elim, ne_eqb, arith}
use Rattle.std.specs.Prelude.{unwrap_or}
use Rattle.std.proofs.lemmas.Nat.{same_from_place}
use mathlib.Core.Option as std_option
use mathlib.Core.Option.{some}
use mathlib.Core.Bool.{true≢false}
use lib.ListN.{get_elem?}
use Rattle.atomic_table.specs.Table as table
use Rattle.atomic_table.specs.Table.{Allows, takes, gives, put_back}
use Rattle.atomic_table.proofs.Lists.{at_set}
use Rattle.slot_history.specs.declared.shape.Shape.{Shape}
use Rattle.slot_history.specs.declared.place.Place.{Place}
use Rattle.slot_history.specs.declared.place.Place.TheVariants.{Free}
use Rattle.slot_history.specs.Sets.{upd}
use Rattle.slot_history.specs.States.{ObjectState, HasCell, slot_of, has_own_cell, holds}
use Rattle.slot_history.specs.Steps.{state_after}
use Rattle.slot_history.specs.Histories.{own_calls, place_of}
use Rattle.slot_history.proofs.Own.{place-own}
use Rattle.slot_history.proofs.Places.{one-owner}
use Rattle.slot_history.proofs.Sets.{upd-same, upd-else}
use Rattle.slot_history.proofs.Table as places
use Rattle.slot_station.specs.declared.note.Note.{Note}
use Rattle.slot_station.specs.Desks.{Seen, caller_of}
use Rattle.slot_station.specs.Exchanges.{MayExchange, MayPut, HoldsNoted, exchange_here, notes_exchanged, put_note}
use Rattle.slot_station.specs.Laws.{ExchangeKeeps}
use Rattle.slot_station.proofs.ExchangesSeen.{exchanges-go-on}
use Rattle.slot_station.proofs.Lists.{pair-within}
use Rattle.slot_words.specs.declared.address.Address.TheVariants.{Meeting}
use Rattle.slot_words.proofs.Addresses.{stands-set}
use Rattle.board_rule.specs.declared.view.View.{View}
use Rattle.board_rule.specs.Cells.{index_in, note_put, Takes, Gives}
use Rattle.board_rule.specs.Rule.{Terms, Knowledge, IsViewOf, IsTrueOf, CellIs, named, RunningRule, cell_index, moment_known}
use Rattle.board_rule.specs.Views.{times, number, view_place, seen_by_view, with_out, view_exchanged}
use Rattle.board_rule.proofs.Extends as extends
use Rattle.board_rule.proofs.Lists.{total-set, times-head, cons-head, headed}

found : {A : Type 0} → (l : List A) (k : ℕ) → k < length l → (x : A) × (get_elem? l k ≡ some x)
found [] k h = absurd (omega arith)
found (x ∷ xs) zero h = (x, refl)
found (x ∷ xs) (suc k) h = found xs k (omega arith)

-- whoever is free has no cell
pub free-has-none : (s u w : ℕ) (p : Place) → p ≡ Free → ((w ≡ u) × (has_own_cell p s ≡ true)) ⊎ (holds p s ≡ true) → ⊥
free-has-none s u w p free has = ⊎_elim (λ own. true≢false (sym own.1 ∙ ap (λ q. has_own_cell q s) free))
    (λ held. true≢false (sym held ∙ ap (λ q. holds q s) free)) has

-- of a worker w, whose seat i has the view v
module _ {B Sub : Type 0} (terms : Terms B Sub) (known : Knowledge) (st : table.State (Option B) (View Sub)) (ok : IsTrueOf terms known st) (i : ℕ)
    (v : View Sub)
    (at : get_elem? st.views i ≡ some v) (w : ℕ) (ws : List ℕ) (nums : v.numbers ≡ w ∷ ws) where
  abbrev after : ObjectState
  after = state_after terms.shape known.trail

  -- the notes, the cells that are out, and the seat's view change alone
  moves : (homes : List (std_option.Option (Option B))) (v' : View Sub) (N' : ℕ → ℕ → Note) (outs' : ℕ → Option ℕ)
      → v'.numbers ≡ v.numbers → let next = record known { notes = N'; outs = outs' } in IsViewOf terms next v'
      → ((m : ℕ) → m ≢ w → (outs' m ≡ known.outs m) × ((u : ℕ) → N' m u ≡ known.notes m u)) → (own_calls w known.trail ≡ [] → ⊥)
      → ((s u : ℕ) → s < terms.shape.slots → u < terms.shape.workers → (x : std_option.Option (Option B)) → get_elem? homes
      (cell_index terms.shape s u) ≡ some x → CellIs terms next (named s u) x)
      → IsTrueOf terms next (record { words = set st.words 0 (slice_index st.words 0); homes = homes; views = set st.views i v' })
  moves homes v' N' outs' same fit others busy cells =
      let next : Knowledge = record known { notes = N'; outs = outs' } in record {
        words_are = record {
          shape = ok.words_are.shape;
          legal = ok.words_are.legal;
          stands = stands-set terms.shape st.words after after Meeting (slice_index st.words 0) ok.words_are.stands tt
              (ok.words_are.stands.each Meeting tt) (λ b in_b ne m h. h);
        };
        of_subject = ok.of_subject;
        numbers = λ m.
            let t = total-set (λ (z : View Sub). times m z.numbers) st.views i v v' at in
            let e : times m v'.numbers ≡ times m v.numbers = ap (times m) same in omega (arith, ok.numbers m);
        views = λ j u at_j. ⊎_elim
            (λ r. subst (IsViewOf terms next) r.1 fit)
            (λ r. let old = ok.views j u r.1 in
            let ours : (m : ℕ) (ms : List ℕ) → u.numbers ≡ m ∷ ms → m ≢ w =
            λ m ms e. extends.other-number terms known st ok i v at w ws nums j u r.1 r.0 m (subst (λ l. 0 < times m l) (sym e) (times-head m ms)) in record {
              shape = old.shape;
              subject_is = old.subject_is;
              begins = old.begins;
              own = old.own;
              notes = λ m ms e y. (others m (ours m ms e)).1 y ∙ old.notes m ms e y;
              out = λ m ms e. (others m (ours m ms e)).0 ∙ old.out m ms e;
              further = old.further;
              none = old.none;
              heard = λ k x e. let h = old.heard k x e in record { begins = h.begins; own = h.own; there = h.there };
            })
            (at_set st.views i j v' u at_j);
        cells = cells;
        idle = λ m none.
            let o = others m (λ e. busy (subst (λ k. own_calls k known.trail ≡ []) e none)) in
            let r = ok.idle m none in (o.0 ∙ r.0, λ u. o.1 u ∙ r.1 u);
      }

-- of the worker of the view v, which the seat i has, and the cell of u, which is with that worker
module _ {B Sub : Type 0} (terms : Terms B Sub) (known : Knowledge) (st : table.State (Option B) (View Sub)) (ok : IsTrueOf terms known st) (i : ℕ)
    (v : View Sub) (at : get_elem? st.views i ≡ some v) (ws : List ℕ) (nums : v.numbers ≡ number v ∷ ws) (low : number v < terms.shape.workers)
    (u : ℕ) (may : MayExchange (caller_of (seen_by_view v terms.subject)) u) where
  abbrev d : Shape
  d = terms.shape

  abbrev w : ℕ
  w = number v

  abbrev p : Place
  p = view_place v

  abbrev S : ObjectState
  S = state_after d known.trail

  abbrev k : ℕ
  k = cell_index d (slot_of p) u

  abbrev X : Seen (Unit {0}) Sub
  X = seen_by_view v terms.subject

  fit : IsViewOf terms known v
  fit = ok.views i v at

  -- the law of exchanges, by what the view shows
  law : ExchangeKeeps terms.fits (moment_known terms known) X u
  law = exchanges-go-on terms.fits (Unit {0}) (moment_known terms known) X (record {
    legal = ok.words_are.legal;
    shape_is = fit.shape w ws nums;
    below = low;
    begins = fit.begins;
    own = extends.mine terms known st ok i v at w ws nums;
    notes = fit.notes w ws nums;
  }) u may

  pub index-is : index_in v u ≡ k
  index-is = ap (λ e. cell_index e (slot_of p) u) (fit.shape w ws nums)

  subject-is : (x : Sub) → v.subject ≡ Some x → terms.subject ≡ x
  subject-is x is = let r : Some terms.subject ≡ Some x = sym (fit.subject_is w ws nums) ∙ is in cc

  busy : own_calls w known.trail ≡ [] → ⊥
  busy none = free-has-none (slot_of p) u w (place_of d known.trail w) (place-own d w known.trail ∙ ap (λ l. place_of d l w) none) law.has

  -- of a cell that is out, the worker that has it out
  abbrev IsOut : ℕ → ℕ → Type 0
  IsOut s c = (z : ℕ) × (z < d.workers) × (known.outs z ≡ Some c) × HasCell S s c z

  -- where the seat has no cell out, its worker's cell is at home
  at-home : v.out ≡ None → (x : std_option.Option (Option B)) → get_elem? st.homes k ≡ some x → (y : Option B) × (x ≡ some y)
  at-home still std_option.none e =
      let a : IsOut (slot_of p) u = ok.cells (slot_of p) u law.in_slots law.in_workers std_option.none e in
      let z : a.0 ≡ w = one-owner d S (places.table d known.trail ok.words_are.legal) (slot_of p) u a.0 w a.1 low a.3 law.has in
      let r : Some u ≡ None = sym a.2 ∙ ap known.outs z ∙ fit.out w ws nums ∙ still in absurd (cc)
  at-home still (some y) e = (y, refl)

  -- ---- the cell changes, its note, and whether it is out with w; every other cell is as it was

  module _ (n : Note) (o : Option ℕ) (mine : (c : ℕ) → known.outs w ≡ Some c → c ≡ u) where
    abbrev outs' : ℕ → Option ℕ
    outs' = upd known.outs w o

    abbrev noted : Knowledge
    noted = record known { notes = notes_exchanged (exchange_here X u n) known.notes; outs = outs' }

    abbrev unnoted : Knowledge
    unnoted = record known { outs = outs' }

    -- a cell that is out is not with w
    out-stays : (s c : ℕ) → (s ≡ slot_of p → c ≢ u) → IsOut s c → (z : ℕ) × (z < d.workers) × (outs' z ≡ Some c) × HasCell S s c z
    out-stays s c ne out =
        let other : out.0 ≢ w = λ e. ne (law.only s c (subst (HasCell S s c) e out.3)) (mine c (ap known.outs (sym e) ∙ out.2)) in
        (out.0, out.1, upd-else known.outs w o out.0 other ∙ out.2, out.3)

    -- all cells, where `next` is what is known, and the cell is x
    cells-after : (next : Knowledge) (x : std_option.Option (Option B)) → CellIs terms next (named (slot_of p) u) x
        → ((s c : ℕ) → c < d.workers → (s ≡ slot_of p → c ≢ u) → (h : std_option.Option (Option B)) → CellIs terms known (named s c) h
        → CellIs terms next (named s c) h)
        → (s c : ℕ) → s < d.slots → c < d.workers → (h : std_option.Option (Option B)) → get_elem? (set st.homes k x) (cell_index d s c) ≡ some h
        → CellIs terms next (named s c) h
    cells-after next x this stays s c in_s in_c h e = ⊎_elim
        (λ r. let q = same_from_place s c (slot_of p) u d.workers in_c law.in_workers r.0 in
        subst (CellIs terms next (named s c)) r.1
        (subst (λ t. CellIs terms next (named t c) x) (sym q.0) (subst (λ m. CellIs terms next (named (slot_of p) m) x) (sym q.1) this)))
        (λ r. stays s c in_c (λ same e'. r.0 (ap₂ (cell_index d) same e')) h (ok.cells s c in_s in_c h r.1))
        (at_set st.homes k (cell_index d s c) x h e)

    unnoted-stay : (s c : ℕ) → c < d.workers → (s ≡ slot_of p → c ≢ u) → (h : std_option.Option (Option B)) → CellIs terms known (named s c) h
        → CellIs terms unnoted (named s c) h
    unnoted-stay s c in_c ne std_option.none a = out-stays s c ne a
    unnoted-stay s c in_c ne (some y) a = a

    noted-stay : (s c : ℕ) → c < d.workers → (s ≡ slot_of p → c ≢ u) → (h : std_option.Option (Option B)) → CellIs terms known (named s c) h
        → CellIs terms noted (named s c) h
    noted-stay s c in_c ne std_option.none a = out-stays s c ne a
    noted-stay s c in_c ne (some y) a = law.others n (record { slot = s; worker = c; value = y }) ne a

    others-noted : (m : ℕ) → m ≢ w → (outs' m ≡ known.outs m) × ((z : ℕ) → noted.notes m z ≡ known.notes m z)
    others-noted m ne = (upd-else known.outs w o m ne, λ z. ap (λ b. cond (b && eqb z u) n (known.notes m z)) (ne_eqb m w ne))

    out-is : (m : ℕ) (ms : List ℕ) → v.numbers ≡ m ∷ ms → outs' m ≡ o
    out-is m ms q = ap outs' (cons-head (sym q ∙ nums)) ∙ upd-same known.outs w o

  -- ---- the two steps

  abbrev words : List ℕ
  words = set st.words 0 (slice_index st.words 0)

  abbrev Taken : Option B → Knowledge → Type 0
  Taken y next = (get_elem? st.homes k ≡ some (some y)) × ((x : Sub) → v.subject ≡ Some x → HoldsNoted (seen_by_view v x) u terms.fits y)
      × IsTrueOf terms next (record { words = words; homes = set st.homes k std_option.none; views = set st.views i (with_out v u) })

  pub take : v.out ≡ None → length st.homes ≡ d.slots * d.workers → (y : Option B) × (next : Knowledge) × Taken y next
  take still len =
      let f = found st.homes k (subst (λ n. k < n) (sym len) (pair-within d.slots d.workers (slot_of p) u law.in_slots law.in_workers)) in
      let y = at-home still f.0 f.1 in
      let e : get_elem? st.homes k ≡ some (some y.0) = f.1 ∙ ap some y.1 in
      let said : HoldsNoted X u terms.fits y.0 = law.found y.0 (ok.cells (slot_of p) u law.in_slots law.in_workers (some y.0) e) in
      let n : Note = known.notes w u in
      let mine : (c : ℕ) → known.outs w ≡ Some c → c ≡ u = λ c is. let r : Some c ≡ None = sym is ∙ fit.out w ws nums ∙ still in absurd (cc) in (
        y.0,
        unnoted n (Some u) mine,
        (
          e,
          λ x is. subst (λ s. HoldsNoted (seen_by_view v s) u terms.fits y.0) (subject-is x is) said,
          moves terms known st ok i v at w ws nums (set st.homes k std_option.none) (with_out v u) known.notes (outs' n (Some u) mine) refl
              record {
                shape = fit.shape;
                subject_is = fit.subject_is;
                begins = fit.begins;
                own = fit.own;
                notes = fit.notes;
                out = out-is n (Some u) mine;
                further = fit.further;
                none = fit.none;
                heard = λ j x h. let r = fit.heard j x h in record { begins = r.begins; own = r.own; there = r.there };
              }
              (λ m ne. (upd-else known.outs w (Some u) m ne, λ z. refl)) busy
              (cells-after n (Some u) mine (unnoted n (Some u) mine) std_option.none (w, low, upd-same known.outs w (Some u), law.has)
              (unnoted-stay n (Some u) mine)),
        ),
      )

  -- what is put fits, by the view
  abbrev PutFits : Option B → Type 0
  PutFits y = (x : Sub) → v.subject ≡ Some x → IfSome y (MayPut (seen_by_view v x) u terms.fits)

  pub give : v.out ≡ Some u → (y : Option B) → PutFits y
      → (next : Knowledge)
      × IsTrueOf terms next (record { words = words; homes = set st.homes k (some y); views = set st.views i (view_exchanged v u (put_note p y)) })
  give out y fit_so =
      let n : Note = put_note p y in
      let mine : (c : ℕ) → known.outs w ≡ Some c → c ≡ u = λ c is. let r : Some c ≡ Some u = sym is ∙ fit.out w ws nums ∙ out in cc in
      let next : Knowledge = noted n None mine in
      let c : CellIs terms next (named (slot_of p) u) (some y) = law.put y (fit_so terms.subject (fit.subject_is w ws nums)) n refl in (
        next,
        moves terms known st ok i v at w ws nums (set st.homes k (some y)) (view_exchanged v u n) next.notes next.outs refl
            record {
              shape = fit.shape;
              subject_is = fit.subject_is;
              begins = fit.begins;
              own = fit.own;
              notes = λ m ms q z. ap (cond (eqb m w && eqb z u) n) (fit.notes m ms q z);
              out = out-is n None mine;
              further = fit.further;
              none = fit.none;
              heard = λ j x h. let r = fit.heard j x h in record { begins = r.begins; own = r.own; there = r.there };
            }
            (others-noted n None mine) busy
            (cells-after n None mine next (some y) c (noted-stay n None mine)),
      )

-- a seat i with the view v, whose worker has the cell of u, of a table with a slot for each cell
module _ {B Sub : Type 0} (terms : Terms B Sub) (slots i : ℕ) (v : View Sub) (u : ℕ) (cells : List (ℕ × Option B))
    (some_number : 0 < length v.numbers) (low : number v < terms.shape.workers) (may : MayExchange (caller_of (seen_by_view v terms.subject)) u)
    (count : slots ≡ terms.shape.slots * terms.shape.workers) where
  abbrev spot : ℕ
  spot = cell_index terms.shape (slot_of (view_place v)) u

  nums : (ws : List ℕ) × (v.numbers ≡ number v ∷ ws)
  nums = headed v.numbers (number v) some_number refl

  -- the cell may be taken
  pub take-allowed : v.out ≡ None → Allows (RunningRule terms) slots i (v, cells) 0 (λ n. n) (λ _ new. Takes terms.fits u (v, cells) new)
  take-allowed still st (known, ok) len at small =
      let (y, next, (e, said, kept)) = take terms known st ok i v at nums.0 nums.1 low u may still (len ∙ count) in
      let same : index_in v u ≡ spot = index-is terms known st ok i v at nums.0 nums.1 low u may in
      (with_out v u, takes spot y, e, (next, kept), record { value = y; holds = ap (λ j. (j, y) ∷ cells) (sym same); view = refl; says = said })

  -- the cell may be given back
  pub give-allowed : (y : Option B) (r : List (ℕ × Option B)) → cells ≡ (index_in v u, y) ∷ r → v.out ≡ Some u
      → ((x : Sub) → v.subject ≡ Some x → IfSome y (MayPut (seen_by_view v x) u terms.fits))
      → Allows (RunningRule terms) slots i (v, cells) 0 (λ n. n) (λ _ new. Gives (v, cells) new)
  give-allowed y r is out fit st (known, ok) len at small =
      let same : index_in v u ≡ spot = index-is terms known st ok i v at nums.0 nums.1 low u may in
      let is' : cells ≡ (spot, y) ∷ r = is ∙ ap (λ j. (j, y) ∷ r) same in
      let v' : View Sub = view_exchanged v u (put_note (view_place v) y) in
      let (next, kept) = give terms known st ok i v at nums.0 nums.1 low u may out y fit in (
        v',
        gives,
        tt,
        (
          next,
          subst (λ hs. IsTrueOf terms next (record { words = set st.words 0 (slice_index st.words 0); homes = hs; views = set st.views i v' }))
              (sym (ap (put_back st.homes) is')) kept,
        ),
        record { holds = refl; view = ap₂ (λ o z. view_exchanged v (unwrap_or o 0) (note_put (view_place v) z)) (sym out) (sym is') },
      )
