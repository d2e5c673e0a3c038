-- One step of elimination keeps what is taken to zero, and brings one more column to the identity's. Assumes nothing.
use mathlib.Core.Path.{◌≡◌, refl, sym, ap, ap₂, ◌∙◌, subst}
use mathlib.Core.Bool.{Bool, true, false, cond}
use mathlib.Core.Logic.{◌⊎◌, inl, inr, ⊎_elim}
use Prim.Native.Nat.{ℕ, suc, ◌<◌, ◌≤◌}
use native.Mathlib.Omega.{arith}
use borrow.Author.Tests.{eq-eqb, ne_eqb}
use lib.Dec.{eqb}
use Rattle.algebra.specs.Fields.{Ops, FieldLaws}
use Rattle.algebra.specs.Matrices.{identity, dot}
use Rattle.algebra.specs.Elimination.{Kernel, Reduced, swapped, Step}
use Rattle.algebra.proofs.Numbers.{same_or_not, below_next}
use Rattle.algebra.proofs.Algebra.{zero_plus, times_zero, one_times, cancel, other_zero, identity_on, identity_off, dot_scaled, dot_plus}

pub swapped_there : (k p r : ℕ) → r ≡ p → swapped k p r ≡ k
swapped_there k p r e = ap (λ t. cond t k r) (eq-eqb r p e)

pub swapped_else : (k p r : ℕ) → (r ≡ p → ⊥) → swapped k p r ≡ r
swapped_else k p r n = ap (λ t. cond t k r) (ne_eqb r p n)

swapped_below : (k p r n : ℕ) → k < n → r < n → swapped k p r < n
swapped_below k p r n h l = by (eqb r p)
  where
    by : (t : Bool) → cond t k r < n
    by true = h
    by false = l

module _ {F : Type 0} {K : Ops F} (L : FieldLaws K) (n m k p : ℕ) (w x : ℕ → ℕ → F) (kn : k < n) (pn : p < n) (pivot : w p k ≡ K.zero → ⊥) (s : Step K n m k p w x) where
  open K use {zero as O, one as I, plus as ◌⊕◌, times as ◌⊗◌, inverse as inv}
  open L use {plus_zero, plus_comm, times_one, times_comm, times_assoc, times_inverse}

  infixl 60 ◌⊕◌
  infixl 70 ◌⊗◌
  pub step_to : (z : ℕ → F) → Kernel K n m w z → Kernel K n m x z
  step_to z h r l = ⊎_elim (λ e. subst (λ (i : ℕ). dot K m (x i) z ≡ O) (sym e) lead) rest (same_or_not r k)
    where
      lead : dot K m (x k) z ≡ O
      lead = other_zero L (w p k) (dot K m (x k) z) pivot (sym (dot_scaled L m (w p k) (w p) (x k) z s.lead) ∙ h p pn)

      rest : (r ≡ k → ⊥) → dot K m (x r) z ≡ O
      rest ne =
          let i = swapped k p r in
          sym (zero_plus L (dot K m (x r) z)) ∙ ap (λ y. dot K m (x r) z ⊕ y) (sym (times_zero L (w i k)) ∙ ap (λ y. w i k ⊗ y) (sym lead))
          ∙ sym (dot_plus L m (w i k) (w i) (x r) (x k) z (s.rest r l ne)) ∙ h i (swapped_below k p r _ kn l)

  pub step_from : (z : ℕ → F) → Kernel K n m x z → Kernel K n m w z
  step_from z h r l = ⊎_elim (λ e. subst (λ (i : ℕ). dot K m (w i) z ≡ O) (sym e) lead) (λ ne. by_k ne (same_or_not r k)) (same_or_not r p)
    where
      gone : (y : F) → y ⊗ dot K m (x k) z ≡ O
      gone y = ap (λ b. y ⊗ b) (h k kn) ∙ times_zero L y

      lead : dot K m (w p) z ≡ O
      lead = dot_scaled L m (w p k) (w p) (x k) z s.lead ∙ gone (w p k)

      rest : (q : ℕ) → q < n → (q ≡ k → ⊥) → dot K m (w (swapped k p q)) z ≡ O
      rest q j ne =
          dot_plus L m (w (swapped k p q) k) (w (swapped k p q)) (x q) (x k) z (s.rest q j ne) ∙ ap₂ (λ a b. a ⊕ b) (h q j) (gone (w (swapped k p q) k))
          ∙ plus_zero O

      by_k : (r ≡ p → ⊥) → (r ≡ k) ⊎ (r ≡ k → ⊥) → dot K m (w r) z ≡ O
      by_k ne (inl e) = subst (λ (i : ℕ). dot K m (w i) z ≡ O) (swapped_there k p p refl ∙ sym e) (rest p pn (λ q. ne (e ∙ sym q)))
      by_k ne (inr o) = subst (λ (i : ℕ). dot K m (w i) z ≡ O) (swapped_else k p r ne) (rest r l o)

  pub step_reduced : k < m → k ≤ p → Reduced K n k w → Reduced K n (suc k) x
  step_reduced km kp h r c l i =
      below_next (λ c. x r c ≡ identity K r c) k (λ c j. ⊎_elim (early_lead c j) (early_rest c j) (same_or_not r k)) (⊎_elim late_lead late_rest (same_or_not r k)) c i
    where
      corner : x k k ≡ I
      corner =
          sym (times_one (x k k)) ∙ ap (λ a. a ⊗ x k k) (sym (times_inverse (w p k) pivot) ∙ times_comm (w p k) (inv (w p k)))
          ∙ times_assoc (inv (w p k)) (w p k) (x k k) ∙ ap (λ a. inv (w p k) ⊗ a) (sym (s.lead k km)) ∙ times_comm (inv (w p k)) (w p k)
          ∙ times_inverse (w p k) pivot

      lead_zero : (c : ℕ) → c < k → x k c ≡ O
      lead_zero c j = other_zero L (w p k) (x k c) pivot (sym (s.lead c (omega arith)) ∙ h p c pn j ∙ identity_off L p c (λ e. omega arith))

      early_lead : (c : ℕ) → c < k → r ≡ k → x r c ≡ identity K r c
      early_lead c j e = ap (λ (q : ℕ). x q c) e ∙ lead_zero c j ∙ sym (identity_off L r c (λ q. omega arith))

      kept : (c : ℕ) → c < k → (r ≡ k → ⊥) → w (swapped k p r) c ≡ x r c
      kept c j ne =
          s.rest r l ne c (omega arith) ∙ ap (λ a. x r c ⊕ a) (ap (λ a. w (swapped k p r) k ⊗ a) (lead_zero c j) ∙ times_zero L (w (swapped k p r) k))
          ∙ zero_plus L (x r c)

      same_column : (c : ℕ) → c < k → identity K (swapped k p r) c ≡ identity K r c
      same_column c j =
          ⊎_elim (λ e. ap (λ (q : ℕ). identity K q c) (swapped_there k p r e) ∙ identity_off L k c (λ q. omega arith) ∙ sym (identity_off L r c (λ q. omega arith)))
          (λ ne. ap (λ (q : ℕ). identity K q c) (swapped_else k p r ne)) (same_or_not r p)

      early_rest : (c : ℕ) → c < k → (r ≡ k → ⊥) → x r c ≡ identity K r c
      early_rest c j ne = sym (kept c j ne) ∙ h (swapped k p r) c (swapped_below k p r _ kn l) j ∙ same_column c j

      late_lead : r ≡ k → x r k ≡ identity K r k
      late_lead e = ap (λ (q : ℕ). x q k) e ∙ corner ∙ sym (identity_on L r k e)

      late_rest : (r ≡ k → ⊥) → x r k ≡ identity K r k
      late_rest ne =
          let y = w (swapped k p r) k in
          cancel L y (x r k) O
          (plus_comm y (x r k) ∙ ap (λ a. x r k ⊕ a) (sym (ap (λ a. y ⊗ a) corner ∙ one_times L y)) ∙ sym (s.rest r l ne k km) ∙ sym (zero_plus L y))
          ∙ sym (identity_off L r k ne)
