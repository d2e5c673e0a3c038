-- One step of elimination from what its calls leave, and one turn more of it. Assumes nothing.
use Rattle.std.proofs.Common.{◌≡◌, ℕ, ◌+◌, ◌<◌, ◌≤◌, sym, ap, ◌∙◌, subst, ap₂, ⊎_elim, add-one}
use Rattle.algebra.specs.Fields.{Ops, FieldLaws}
use Rattle.algebra.specs.Elimination.{SameKernel, Reduced, swapped, Step}
use Rattle.algebra.proofs.Numbers.{same_or_not}
use Rattle.algebra.proofs.Steps.{swapped_there, swapped_else, step_to, step_from, step_reduced}
use Rattle.matrix.specs.Grids.{RowIs}
use Rattle.matrix.specs.Rows.{Exchanged, ClearTo}

-- row p has come to k, and the row that stood there to p
pub record Moved {F : Type 0} (cols k p : ℕ) (w y : ℕ → ℕ → F) : Type 0 where
  pub lead : (c : ℕ) → c < cols → y k c ≡ w p c
  pub rest : (r c : ℕ) → c < cols → (r ≡ k → ⊥) → y r c ≡ w (swapped k p r) c

pub moved_exchanged : {F : Type 0} (cols k p : ℕ) (w y : ℕ → ℕ → F) → Exchanged cols k p w y → Moved cols k p w y
moved_exchanged cols k p w y s = record {
  lead = s.first;
  rest = λ r c h n. ⊎_elim
      (λ e. ap (λ (q : ℕ). y q c) e ∙ s.second c h ∙ ap (λ (q : ℕ). w q c) (sym (swapped_there k p r e)))
      (λ o. s.others r c h n o ∙ ap (λ (q : ℕ). w q c) (sym (swapped_else k p r o))) (same_or_not r p);
}

pub moved_not : {F : Type 0} (cols k p : ℕ) (w : ℕ → ℕ → F) → p ≡ k → Moved cols k p w w
moved_not cols k p w e = record {
  lead = λ c h. ap (λ (q : ℕ). w q c) (sym e);
  rest = λ r c h n. ap (λ (q : ℕ). w q c) (sym (swapped_else k p r (λ q. n (q ∙ e))));
}

module _ {F : Type 0} {K : Ops F} (L : FieldLaws K) where
  open K use {zero as O, plus as ◌⊕◌, minus as ◌⊖◌, times as ◌⊗◌, inverse as inv}
  open L use {times_one, times_assoc, minus_plus, times_inverse}

  infixl 60 ◌⊕◌
  infixl 60 ◌⊖◌
  infixl 70 ◌⊗◌
  pub step_made : (rows cols k p : ℕ) (by : F) (w y z x : ℕ → ℕ → F) → k < cols → (w p k ≡ O → ⊥) → by ≡ inv (w p k)
      → Moved cols k p w y → RowIs cols k (λ c. by ⊗ y k c) y z → ClearTo K cols rows k z x → Step K rows cols k p w x
  step_made rows cols k p by w y z x kc ne e s t u = record { lead = lead; rest = rest }
    where
      at_k : (c : ℕ) → c < cols → x k c ≡ inv (w p k) ⊗ w p c
      at_k c h = u.lead c h ∙ t.this c h ∙ ap₂ (λ a b. a ⊗ b) e (s.lead c h)

      lead : (c : ℕ) → c < cols → w p c ≡ w p k ⊗ x k c
      lead c h = sym (times_one (w p c)) ∙ ap (λ a. a ⊗ w p c) (sym (times_inverse (w p k) ne)) ∙ times_assoc (w p k) (inv (w p k)) (w p c) ∙ ap (λ a. w p k ⊗ a) (sym (at_k c h))

      z_is : (r : ℕ) → (r ≡ k → ⊥) → (c : ℕ) → c < cols → z r c ≡ w (swapped k p r) c
      z_is r n c h = t.others r c h n ∙ s.rest r c h n

      rest : (r : ℕ) → r < rows → (r ≡ k → ⊥) → (c : ℕ) → c < cols → w (swapped k p r) c ≡ x r c ⊕ w (swapped k p r) k ⊗ x k c
      rest r l n c h =
          let a = w (swapped k p r) k in
          sym (minus_plus (w (swapped k p r) c) (a ⊗ z k c))
          ∙ ap₂ (λ b d. b ⊕ a ⊗ d) (ap₂ (λ b d. b ⊖ d ⊗ z k c) (sym (z_is r n c h)) (sym (z_is r n k kc)) ∙ sym (u.done r c l h n)) (sym (u.lead c h))

  pub turn_kernel : (n m k p : ℕ) (v w x : ℕ → ℕ → F) → k < n → p < n → (w p k ≡ O → ⊥) → Step K n m k p w x → SameKernel K n m v w → SameKernel K n m v x
  turn_kernel n m k p v w x kn pn ne t s = record {
    to = λ z i. step_to L n m k p w x kn pn ne t z (s.to z i);
    from = λ z i. s.from z (step_from L n m k p w x kn pn ne t z i);
  }

  pub turn_reduced : (n m k p : ℕ) (w x : ℕ → ℕ → F) → k < n → p < n → (w p k ≡ O → ⊥) → Step K n m k p w x → k < m → k ≤ p → Reduced K n k w → Reduced K n (k + 1) x
  turn_reduced n m k p w x kn pn ne t km kp h = subst (λ (i : ℕ). Reduced K n i x) (sym (add-one k)) (step_reduced L n m k p w x kn pn ne t km kp h)
