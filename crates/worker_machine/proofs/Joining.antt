-- Joins, one slot after another.
use Rattle.std.proofs.Common.{◌≡◌, ℕ, zero, suc, ◌+◌, ◌*◌, Bool, true, false, ◌==◌, if◌then◌else◌, refl, sym, ap, ◌∙◌, add-one, arith, eq-eqb, ne_eqb}
use Rattle.std.proofs.lemmas.Nat.Bits.{bit_at-zero}
use Rattle.std.specs.Int.{bit_at}
use Rattle.stride_set.specs.Strides.{Strides, Call, JoinReturn, JoinChange, stride_after}
use Rattle.worker_machine.specs.Joins.{join_of, joined}
use Rattle.worker_machine.specs.declared.joins.Notice.{Notice}
use Rattle.worker_machine.specs.declared.joins.Notice.TheVariants.{Returned, Changed}

module _ (join : ℕ → Call) where
  joined-suc : (n part bits : ℕ) (st : Strides) → joined join (suc n) part bits st
      ≡ (if bit_at bits n == 1 then stride_after (joined join n part bits st) (join (part * 64 + n)) else joined join n part bits st)
  unfolding joined
  joined-suc n part bits st = refl

  pub joined-zero : (part bits : ℕ) (st : Strides) → st ≡ joined join 0 part bits st
  unfolding joined
  joined-zero part bits st = refl

  joined-by : (n part bits : ℕ) (st : Strides) (b : Bool) → (bit_at bits n == 1) ≡ b
      → joined join (n + 1) part bits st ≡ (if b then stride_after (joined join n part bits st) (join (part * 64 + n)) else joined join n part bits st)
  joined-by n part bits st b is =
      ap (λ k. joined join k part bits st) (add-one n) ∙ joined-suc n part bits st
      ∙ ap (λ c. if c then stride_after (joined join n part bits st) (join (part * 64 + n)) else joined join n part bits st) is

  pub joined-yes : (n part bits : ℕ) (st old new : Strides) → bit_at bits n ≡ 1 → old ≡ joined join n part bits st
      → new ≡ stride_after old (join (part * 64 + n)) → new ≡ joined join (n + 1) part bits st
  joined-yes n part bits st old new bit is made =
      made ∙ ap (λ x. stride_after x (join (part * 64 + n))) is ∙ sym (joined-by n part bits st true (eq-eqb _ _ bit))

  pub joined-no : (n part bits : ℕ) (st old : Strides) → (bit_at bits n ≡ 1 → ⊥) → old ≡ joined join n part bits st → old ≡ joined join (n + 1) part bits st
  joined-no n part bits st old bit is = is ∙ sym (joined-by n part bits st false (ne_eqb _ _ bit))

  -- a word without notices joins no slot
  pub joined-none : (n part bits : ℕ) (st : Strides) → bits ≡ 0 → st ≡ joined join n part bits st
  joined-none zero part bits st none = joined-zero part bits st
  joined-none (suc n) part bits st none =
      joined-no n part bits st st (λ bit. absurd (omega (arith, ap (λ b. bit_at b n) none ∙ bit_at-zero n, bit))) (joined-none n part bits st none)
      ∙ ap (λ k. joined join k part bits st) (add-one n)

  slots-step : (b : Bool) (x : Strides) (call : Call) (n : ℕ) → x.slots ≡ n → (stride_after x call).slots ≡ x.slots →
      (if b then stride_after x call else x).slots ≡ n
  slots-step true x call n e f = f ∙ e
  slots-step false x call n e f = e

  pub joined-slots : ((x : Strides) (s : ℕ) → (stride_after x (join s)).slots ≡ x.slots) → (n part bits : ℕ) (st : Strides) →
      (joined join n part bits st).slots ≡ st.slots
  joined-slots keeps zero part bits st = ap (λ (x : Strides). x.slots) (sym (joined-zero part bits st))
  joined-slots keeps (suc n) part bits st =
      ap (λ (x : Strides). x.slots) (joined-suc n part bits st)
      ∙ slots-step (bit_at bits n == 1) (joined join n part bits st) (join (part * 64 + n)) st.slots (joined-slots keeps n part bits st) (keeps _ _)

pub returned-slots : (n part bits : ℕ) (st : Strides) → (joined JoinReturn n part bits st).slots ≡ st.slots
returned-slots = joined-slots JoinReturn (λ x s. refl)

pub changed-slots : (n part bits : ℕ) (st : Strides) → (joined JoinChange n part bits st).slots ≡ st.slots
changed-slots = joined-slots JoinChange (λ x s. refl)

pub notice-slots : (notice : Notice) (n part bits : ℕ) (st : Strides) → (joined (join_of notice) n part bits st).slots ≡ st.slots
notice-slots Returned = returned-slots
notice-slots Changed = changed-slots
