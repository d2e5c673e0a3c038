-- A matrix has exactly one inverse, or takes a vector other than zero to zero: by elimination. Assumes nothing.
use mathlib.Core.Path.{◌≡◌, refl, sym, ap, ap₂, ◌∙◌, subst}
use mathlib.Core.Bool.{cond}
use mathlib.Core.Logic.{◌⊎◌, inl, inr, ⊎_elim}
use Prim.Native.Nat.{ℕ, zero, suc, ◌+◌, ◌-◌, ◌≤◌, ◌<◌}
use native.Mathlib.Nat.{not-suc-le-zero}
use native.Mathlib.Omega.{arith}
use borrow.Author.Tests.{lt-ltb, le-ltb, eq-eqb, ne_eqb}
use lib.Dec.{ltb, eqb}
use Rattle.algebra.specs.Fields.{Ops, FieldLaws}
use Rattle.algebra.specs.Sums.{sum}
use Rattle.algebra.specs.Matrices.{identity, dot, Undoes, Inverse, TheInverse, NoInverse, Singular}
use Rattle.algebra.specs.Elimination.{widened, Kernel, SameKernel, Reduced, swapped, Step, Solved, Stuck}
use Rattle.algebra.proofs.Numbers.{less_or_not, below_next}
use Rattle.algebra.proofs.Algebra.{zero_plus, negated, cancel, times_zero, zero_times, identity_on, identity_off, identity_turned}
use Rattle.algebra.proofs.Algebra.{sum_same, sum_zero, sum_plus, sum_split, pick_left, pick_right, dot_assoc}
use Rattle.algebra.proofs.Steps.{step_to, step_from, step_reduced}

module _ {F : Type 0} {K : Ops F} (L : FieldLaws K) where
  open K use {zero as O, one as I, plus as ◌⊕◌, minus as ◌⊖◌, times as ◌⊗◌, inverse as inv}
  open L use {plus_zero, plus_comm, minus_plus, times_one, times_assoc, times_plus, times_inverse, one_not_zero, zero_or_not}

  infixl 60 ◌⊕◌
  infixl 60 ◌⊖◌
  infixl 70 ◌⊗◌
  -- ---- a vector of two halves
  abbrev halves : ℕ → (ℕ → F) → (ℕ → F) → ℕ → F
  halves n u v c = cond (ltb c n) (u c) (v (c - n))

  halves_first : (n : ℕ) (u v : ℕ → F) (c : ℕ) → c < n → halves n u v c ≡ u c
  halves_first n u v c h = ap (λ t. cond t (u c) (v (c - n))) (lt-ltb c n h)

  halves_second : (n : ℕ) (u v : ℕ → F) (c : ℕ) → halves n u v (n + c) ≡ v c
  halves_second n u v c =
      let e : n + c - n ≡ c = omega arith in
      ap (λ t. cond t (u (n + c)) (v (n + c - n))) (le-ltb (n + c) n (omega arith)) ∙ ap v e

  dot_halves : (n : ℕ) (f u v : ℕ → F) → dot K (n + n) f (halves n u v) ≡ dot K n f u ⊕ dot K n (λ c. f (n + c)) v
  dot_halves n f u v =
      sum_split L n n (λ c. f c ⊗ halves n u v c)
      ∙ ap₂ (λ x y. x ⊕ y) (sum_same L n (λ c. f c ⊗ halves n u v c) (λ c. f c ⊗ u c) (λ c l. ap (λ x. f c ⊗ x) (halves_first n u v c l)))
      (sum_same L n (λ c. f (n + c) ⊗ halves n u v (n + c)) (λ c. f (n + c) ⊗ v c) (λ c l. ap (λ x. f (n + c) ⊗ x) (halves_second n u v c)))

  widened_first : (n : ℕ) (a : ℕ → ℕ → F) (r c : ℕ) → c < n → widened K n a r c ≡ a r c
  widened_first n a r c h = ap (λ t. cond t (a r c) (identity K r (c - n))) (lt-ltb c n h)

  widened_second : (n : ℕ) (a : ℕ → ℕ → F) (r c : ℕ) → widened K n a r (n + c) ≡ identity K r c
  widened_second n a r c =
      let e : n + c - n ≡ c = omega arith in
      ap (λ t. cond t (a r (n + c)) (identity K r (n + c - n))) (le-ltb (n + c) n (omega arith)) ∙ ap (λ (i : ℕ). identity K r i) e

  -- the widened matrix takes (u, v) to a u + v
  dot_widened : (n : ℕ) (a : ℕ → ℕ → F) (u v : ℕ → F) (r : ℕ) → r < n → dot K (n + n) (widened K n a r) (halves n u v) ≡ dot K n (a r) u ⊕ v r
  dot_widened n a u v r h =
      dot_halves n (widened K n a r) u v
      ∙ ap₂ (λ x y. x ⊕ y) (sum_same L n (λ c. widened K n a r c ⊗ u c) (λ c. a r c ⊗ u c) (λ c l. ap (λ x. x ⊗ u c) (widened_first n a r c l)))
      (sum_same L n (λ c. widened K n a r (n + c) ⊗ v c) (λ c. identity K r c ⊗ v c) (λ c l. ap (λ x. x ⊗ v c) (widened_second n a r c)) ∙ pick_left L n r v h)

  -- a reduced one takes (u, v) to u + b v, where b is its right half
  dot_reduced : (n : ℕ) (w : ℕ → ℕ → F) → Reduced K n n w → (u v : ℕ → F) (r : ℕ) → r < n → dot K (n + n) (w r) (halves n u v) ≡ u r ⊕ dot K n (λ c. w r (n + c)) v
  dot_reduced n w h u v r l =
      dot_halves n (w r) u v
      ∙ ap (λ x. x ⊕ dot K n (λ c. w r (n + c)) v) (sum_same L n (λ c. w r c ⊗ u c) (λ c. identity K r c ⊗ u c) (λ c i. ap (λ x. x ⊗ u c) (h r c l i)) ∙ pick_left L n r u l)

  -- f (-g) + x = 0 says f g = x
  unsigned : (n : ℕ) (f g : ℕ → F) (x : F) → dot K n f (λ k. O ⊖ g k) ⊕ x ≡ O → dot K n f g ≡ x
  unsigned n f g x e =
      cancel L (dot K n f (λ k. O ⊖ g k)) (dot K n f g) x
      (sym (sum_plus L n (λ k. f k ⊗ (O ⊖ g k)) (λ k. f k ⊗ g k))
      ∙ sum_zero L n (λ k. f k ⊗ (O ⊖ g k) ⊕ f k ⊗ g k) (λ k l. sym (times_plus (f k) (O ⊖ g k) (g k)) ∙ ap (λ y. f k ⊗ y) (minus_plus O (g k)) ∙ times_zero L (f k))
      ∙ sym e)

  -- every pivot found: the right half is the inverse
  solved_inverse : (n : ℕ) (a w : ℕ → ℕ → F) → SameKernel K n (n + n) (widened K n a) w → Reduced K n n w → Inverse K n a (λ r c. w r (n + c))
  solved_inverse n a w s h = record { right = right; left = left }
    where
      right : Undoes K n a (λ r c. w r (n + c))
      right r j l i =
          let u : ℕ → F = λ k. O ⊖ w k (n + j) in
          let v : ℕ → F = λ k. identity K j k in
          let z : Kernel K n (n + n) w (halves n u v) = λ q o. dot_reduced n w h u v q o ∙ ap (λ x. u q ⊕ x) (pick_right L n j (λ c. w q (n + c)) i) ∙ minus_plus O (w q (n + j)) in
          unsigned n (a r) (λ k. w k (n + j)) (identity K j r) (sym (dot_widened n a u v r l) ∙ s.from (halves n u v) z r l) ∙ identity_turned L j r

      left : Undoes K n (λ r c. w r (n + c)) a
      left r j l i =
          let u : ℕ → F = λ k. identity K j k in
          let v : ℕ → F = λ k. O ⊖ a k j in
          let z : Kernel K n (n + n) (widened K n a) (halves n u v) = λ q o. dot_widened n a u v q o ∙ ap (λ x. x ⊕ v q) (pick_right L n j (a q) i) ∙ negated L (a q j) in
          unsigned n (λ c. w r (n + c)) (λ k. a k j) (identity K j r)
          (plus_comm (dot K n (λ c. w r (n + c)) v) (identity K j r) ∙ sym (dot_reduced n w h u v r l) ∙ s.to (halves n u v) z r l)
          ∙ identity_turned L j r

  -- ---- no pivot in column k: e_k less the entries above it is taken to zero
  abbrev witness : ℕ → (ℕ → ℕ → F) → ℕ → F
  witness k w c = identity K k c ⊕ cond (ltb c k) (O ⊖ w c k) O

  sum_front : (k m : ℕ) (f : ℕ → F) → ((c : ℕ) → k ≤ c → f c ≡ O) → sum K (k + m) f ≡ sum K k f
  sum_front k m f h = sum_split L k m f ∙ ap (λ x. sum K k f ⊕ x) (sum_zero L m (λ c. f (k + c)) (λ c l. h (k + c) (omega arith))) ∙ zero_plus L (sum K k f)

  stuck_singular : (n k : ℕ) (a w : ℕ → ℕ → F) → k < n → SameKernel K n (n + n) (widened K n a) w → Reduced K n k w → ((r : ℕ) → k ≤ r → r < n → w r k ≡ O) → Singular K n a
  stuck_singular n k a w kn s h none = record { vector = witness k w; place = k; within = kn; nonzero = nonzero; taken = taken }
    where
      past : (c : ℕ) → k ≤ c → cond (ltb c k) (O ⊖ w c k) O ≡ O
      past c i = ap (λ t. cond t (O ⊖ w c k) O) (le-ltb c k i)

      above : (c : ℕ) → c < k → cond (ltb c k) (O ⊖ w c k) O ≡ O ⊖ w c k
      above c i = ap (λ t. cond t (O ⊖ w c k) O) (lt-ltb c k i)

      nonzero : witness k w k ≡ O → ⊥
      nonzero e = one_not_zero (sym (identity_on L k k refl) ∙ sym (zero_plus L (identity K k k)) ∙ ap (λ x. identity K k k ⊕ x) (sym (past k (omega arith))) ∙ e)

      column : (q : ℕ) → q < n → w q k ⊕ sum K k (λ c. identity K q c ⊗ (O ⊖ w c k)) ≡ O
      column q l = ⊎_elim
          (λ i. ap (λ x. w q k ⊕ x) (pick_left L k q (λ c. O ⊖ w c k) i) ∙ negated L (w q k))
          (λ i. ap₂ (λ x y. x ⊕ y) (none q i l) (sum_zero L k (λ c. identity K q c ⊗ (O ⊖ w c k)) (λ c j. ap (λ x. x ⊗ (O ⊖ w c k)) (identity_off L q c (λ e. omega arith)) ∙ zero_times L (O ⊖ w c k))) ∙ plus_zero O)
          (less_or_not q k)

      front : (q : ℕ) → q < n → sum K n (λ c. w q c ⊗ cond (ltb c k) (O ⊖ w c k) O) ≡ sum K k (λ c. identity K q c ⊗ (O ⊖ w c k))
      front q l =
          let e : k + (n - k) ≡ n = omega arith in
          ap (λ (i : ℕ). sum K i (λ c. w q c ⊗ cond (ltb c k) (O ⊖ w c k) O)) (sym e)
          ∙ sum_front k (n - k) (λ c. w q c ⊗ cond (ltb c k) (O ⊖ w c k) O) (λ c i. ap (λ x. w q c ⊗ x) (past c i) ∙ times_zero L (w q c))
          ∙ sum_same L k (λ c. w q c ⊗ cond (ltb c k) (O ⊖ w c k) O) (λ c. identity K q c ⊗ (O ⊖ w c k)) (λ c i. ap₂ (λ x y. x ⊗ y) (h q c l i) (above c i))

      row : (q : ℕ) → q < n → dot K n (w q) (witness k w) ≡ O
      row q l =
          sum_same L n (λ c. w q c ⊗ witness k w c) (λ c. w q c ⊗ identity K k c ⊕ w q c ⊗ cond (ltb c k) (O ⊖ w c k) O) (λ c i. times_plus (w q c) (identity K k c) (cond (ltb c k) (O ⊖ w c k) O))
          ∙ sum_plus L n (λ c. w q c ⊗ identity K k c) (λ c. w q c ⊗ cond (ltb c k) (O ⊖ w c k) O)
          ∙ ap₂ (λ x y. x ⊕ y) (pick_right L n k (w q) kn) (front q l)
          ∙ column q l

      zeros : (q : ℕ) → dot K n (λ c. w q (n + c)) (λ c. O) ≡ O
      zeros q = sum_zero L n (λ c. w q (n + c) ⊗ O) (λ c i. times_zero L (w q (n + c)))

      kernel : Kernel K n (n + n) w (halves n (witness k w) (λ c. O))
      kernel q l = dot_halves n (w q) (witness k w) (λ c. O) ∙ ap₂ (λ x y. x ⊕ y) (row q l) (zeros q) ∙ plus_zero O

      taken : (r : ℕ) → r < n → dot K n (a r) (witness k w) ≡ O
      taken r l = sym (zero_plus L (dot K n (a r) (witness k w))) ∙ sym (dot_widened n a (witness k w) (λ c. O) r l) ∙ s.from (halves n (witness k w) (λ c. O)) kernel r l

  -- ---- uniqueness
  -- a matrix that something undoes from the left takes nothing but zero to zero
  pub undone_zero : (n : ℕ) (a b : ℕ → ℕ → F) → Undoes K n b a → (v : ℕ → F) → Kernel K n n a v → (c : ℕ) → c < n → v c ≡ O
  undone_zero n a b u v h p l =
      sym (pick_left L n p v l) ∙ sum_same L n (λ c. identity K p c ⊗ v c) (λ c. dot K n (b p) (λ k. a k c) ⊗ v c) (λ c i. ap (λ x. x ⊗ v c) (sym (u p c l i)))
      ∙ dot_assoc L n n (b p) a v ∙ sum_zero L n (λ k. b p k ⊗ dot K n (a k) v) (λ k i. ap (λ x. b p k ⊗ x) (h k i) ∙ times_zero L (b p k))

  pub undone_not_singular : (n : ℕ) (a b : ℕ → ℕ → F) → Undoes K n b a → Singular K n a → ⊥
  undone_not_singular n a b u s = s.nonzero (undone_zero n a b u s.vector s.taken s.place s.within)

  -- what undoes a from the left is what undoes it from the right
  pub one_inverse : (n : ℕ) (a b c : ℕ → ℕ → F) → Undoes K n a b → Undoes K n c a → (r j : ℕ) → r < n → j < n → c r j ≡ b r j
  one_inverse n a b c right left r j l i =
      sym (pick_right L n j (c r) i)
      ∙ sum_same L n (λ k. c r k ⊗ identity K j k) (λ k. c r k ⊗ dot K n (a k) (λ q. b q j)) (λ k h. ap (λ x. c r k ⊗ x) (identity_turned L j k ∙ sym (right k j h i)))
      ∙ sym (dot_assoc L n n (c r) a (λ q. b q j))
      ∙ sum_same L n (λ k. dot K n (c r) (λ q. a q k) ⊗ b k j) (λ k. identity K r k ⊗ b k j) (λ k h. ap (λ x. x ⊗ b k j) (left r k l h))
      ∙ pick_left L n r (λ k. b k j) l

  -- ---- elimination as mathematics
  abbrev stepped : ℕ → ℕ → (ℕ → ℕ → F) → ℕ → ℕ → F
  stepped k p w r c = cond (eqb r k) (inv (w p k) ⊗ w p c) (w (swapped k p r) c ⊖ w (swapped k p r) k ⊗ (inv (w p k) ⊗ w p c))

  stepped_step : (n m k p : ℕ) (w : ℕ → ℕ → F) → (w p k ≡ O → ⊥) → Step K n m k p w (stepped k p w)
  stepped_step n m k p w ne = record { lead = λ c l. lead c; rest = rest }
    where
      at_k : (c : ℕ) → stepped k p w k c ≡ inv (w p k) ⊗ w p c
      at_k c = ap (λ t. cond t (inv (w p k) ⊗ w p c) (w (swapped k p k) c ⊖ w (swapped k p k) k ⊗ (inv (w p k) ⊗ w p c))) (eq-eqb k k refl)

      lead : (c : ℕ) → w p c ≡ w p k ⊗ stepped k p w k c
      lead c = sym (times_one (w p c)) ∙ ap (λ x. x ⊗ w p c) (sym (times_inverse (w p k) ne)) ∙ times_assoc (w p k) (inv (w p k)) (w p c) ∙ ap (λ x. w p k ⊗ x) (sym (at_k c))

      rest : (r : ℕ) → r < n → (r ≡ k → ⊥) → (c : ℕ) → c < m → w (swapped k p r) c ≡ stepped k p w r c ⊕ w (swapped k p r) k ⊗ stepped k p w k c
      rest r l o c i =
          let y = w (swapped k p r) k ⊗ (inv (w p k) ⊗ w p c) in
          sym (minus_plus (w (swapped k p r) c) y)
          ∙ ap₂ (λ a b. a ⊕ w (swapped k p r) k ⊗ b) (sym (ap (λ t. cond t (inv (w p k) ⊗ w p c) (w (swapped k p r) c ⊖ y)) (ne_eqb r k o))) (sym (at_k c))

  -- a row from k on whose entry in column k is a pivot
  Pivot : ℕ → (ℕ → ℕ → F) → ℕ → Type 0
  Pivot k w n = (p : ℕ) × (k ≤ p) × (p < n) × (w p k ≡ O → ⊥)

  find : (k : ℕ) (w : ℕ → ℕ → F) (n : ℕ) → Pivot k w n ⊎ ((r : ℕ) → k ≤ r → r < n → w r k ≡ O)
  unfolding Pivot
  find k w zero = inr (λ r h l. absurd (not-suc-le-zero l))
  find k w (suc n) = ⊎_elim (λ q. inl (q.0, q.1, omega arith, q.3)) (λ none. ⊎_elim (λ l. inr (λ r i j. absurd (omega arith))) (λ h. ⊎_elim (λ e. inr (λ r i l. below_next (λ r. k ≤ r → w r k ≡ O) n (λ r l i. none r i l) (λ i. e) r l i)) (λ ne. inl (n, h, omega arith, ne)) (zero_or_not (w n k))) (less_or_not n k)) (find k w n)

  run : (n : ℕ) (a : ℕ → ℕ → F) (left k : ℕ) (w : ℕ → ℕ → F) → k + left ≡ n → SameKernel K n (n + n) (widened K n a) w → Reduced K n k w → ((b : ℕ → ℕ → F) × Inverse K n a b) ⊎ Singular K n a
  unfolding Pivot
  run n a zero k w e s h = let q : k ≡ n = omega arith in inl ((λ r c. w r (n + c)), solved_inverse n a w s (subst (λ (i : ℕ). Reduced K n i w) q h))
  run n a (suc left) k w e s h =
      ⊎_elim
      (λ q. let p = q.0 in let x = stepped k p w in let t = stepped_step n (n + n) k p w q.3 in let kn : k < n = omega arith in
      run n a left (suc k) x (omega arith)
      (record { to = λ z i. step_to L n (n + n) k p w x kn q.2 q.3 t z (s.to z i); from = λ z i. s.from z (step_from L n (n + n) k p w x kn q.2 q.3 t z i) })
      (step_reduced L n (n + n) k p w x kn q.2 q.3 t (omega arith) q.1 h))
      (λ none. inr (stuck_singular n k a w (omega arith) s h none))
      (find k w n)

  pub inverse_or_singular : (n : ℕ) (a : ℕ → ℕ → F) → ((b : ℕ → ℕ → F) × Inverse K n a b) ⊎ Singular K n a
  inverse_or_singular n a = run n a n 0 (widened K n a) (omega arith) (record { to = λ z h. h; from = λ z h. h }) (λ r c l i. absurd (not-suc-le-zero i))

  -- what undoes a matrix from the right undoes it from the left
  right_left : (n : ℕ) (a b : ℕ → ℕ → F) → Undoes K n a b → Undoes K n b a
  right_left n a b u = ⊎_elim both (λ s. absurd (undone_not_singular n b a u s)) (inverse_or_singular n b)
    where
      both : ((x : ℕ → ℕ → F) × Inverse K n b x) → Undoes K n b a
      both q r j l i =
          sum_same L n (λ k. b r k ⊗ a k j) (λ k. b r k ⊗ q.0 k j) (λ k h. ap (λ y. b r k ⊗ y) (one_inverse n b q.0 a q.1.right u k j h i))
          ∙ q.1.right r j l i

  pub the_inverse : (n : ℕ) (a b : ℕ → ℕ → F) → Inverse K n a b → TheInverse K n a b
  the_inverse n a b i = record {
    inverse = i;
    only_left = λ x u r c l h. one_inverse n a b x i.right u r c l h;
    only_right = λ x u r c l h. sym (one_inverse n a x b u i.left r c l h);
  }

  -- ---- the two ends of an elimination of a matrix w that is a, widened
  kernel_same : (n m : ℕ) (v w : ℕ → ℕ → F) → ((r c : ℕ) → r < n → c < m → v r c ≡ w r c) → (z : ℕ → F) → Kernel K n m v z → Kernel K n m w z
  kernel_same n m v w h z k r l = sum_same L m (λ c. w r c ⊗ z c) (λ c. v r c ⊗ z c) (λ c i. ap (λ a. a ⊗ z c) (sym (h r c l i))) ∙ k r l

  from_widened : (n : ℕ) (a w x : ℕ → ℕ → F) → ((r c : ℕ) → r < n → c < n + n → w r c ≡ widened K n a r c) → SameKernel K n (n + n) w x → SameKernel K n (n + n) (widened K n a) x
  from_widened n a w x h s = record {
    to = λ z k. s.to z (kernel_same n (n + n) (widened K n a) w (λ r c l i. sym (h r c l i)) z k);
    from = λ z k. kernel_same n (n + n) w (widened K n a) h z (s.from z k);
  }

  inverse_same : (n : ℕ) (a b c : ℕ → ℕ → F) → ((r j : ℕ) → r < n → j < n → c r j ≡ b r j) → Inverse K n a b → Inverse K n a c
  inverse_same n a b c h i = record {
    right = λ r j l o. sum_same L n (λ k. a r k ⊗ c k j) (λ k. a r k ⊗ b k j) (λ k q. ap (λ e. a r k ⊗ e) (h k j q o)) ∙ i.right r j l o;
    left = λ r j l o. sum_same L n (λ k. c r k ⊗ a k j) (λ k. b r k ⊗ a k j) (λ k q. ap (λ e. e ⊗ a k j) (h r k l q)) ∙ i.left r j l o;
  }

  pub solved_the_inverse : (n : ℕ) (a w x b : ℕ → ℕ → F) → ((r c : ℕ) → r < n → c < n + n → w r c ≡ widened K n a r c) → Solved K n w x
      → ((r c : ℕ) → r < n → c < n → b r c ≡ x r (n + c)) → TheInverse K n a b
  solved_the_inverse n a w x b h s e =
      the_inverse n a b (inverse_same n a (λ r c. x r (n + c)) b e (solved_inverse n a x (from_widened n a w x h s.kernel) s.reduced))

  pub stuck_no_inverse : (n : ℕ) (a w x : ℕ → ℕ → F) → ((r c : ℕ) → r < n → c < n + n → w r c ≡ widened K n a r c) → Stuck K n w x → NoInverse K n a
  stuck_no_inverse n a w x h s = record { none_left = none_left; none_right = λ b u. none_left b (right_left n a b u) }
    where
      none_left : (b : ℕ → ℕ → F) → Undoes K n b a → ⊥
      none_left b u = undone_not_singular n a b u (stuck_singular n s.k a x s.within (from_widened n a w x h s.kernel) s.reduced s.none)
