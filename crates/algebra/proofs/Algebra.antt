-- What follows from the laws of a field, and sums over it. Assumes nothing.
use mathlib.Core.Path.{◌≡◌, refl, sym, ap, ap₂, ◌∙◌}
use mathlib.Core.Bool.{cond}
use mathlib.Core.Logic.{⊎_elim}
use Prim.Native.Nat.{ℕ, zero, suc, ◌+◌, ◌<◌}
use native.Mathlib.Nat.{not-suc-le-zero, le_of_suc-le-suc, eq-or-lt_of_le, add-zero, add-suc}
use native.Mathlib.Omega.{arith}
use borrow.Author.Tests.{eq-eqb, ne_eqb}
use Rattle.algebra.specs.Fields.{Ops, FieldLaws}
use Rattle.algebra.specs.Sums.{sum}
use Rattle.algebra.specs.Matrices.{identity, dot}
use Rattle.algebra.proofs.Numbers.{same_or_not}

module _ {F : Type 0} {K : Ops F} (L : FieldLaws K) where
  open K use {zero as O, one as I, plus as ◌⊕◌, minus as ◌⊖◌, times as ◌⊗◌, inverse as inv}
  open L use {plus_zero, plus_comm, plus_assoc, minus_plus, times_one, times_comm, times_assoc, times_plus, times_inverse, one_not_zero}

  infixl 60 ◌⊕◌
  infixl 60 ◌⊖◌
  infixl 70 ◌⊗◌
  pub zero_plus : (x : F) → x ⊕ O ≡ x
  zero_plus x = plus_comm x O ∙ plus_zero x

  pub negated : (x : F) → x ⊕ (O ⊖ x) ≡ O
  negated x = plus_comm x (O ⊖ x) ∙ minus_plus O x

  -- a summand may be taken away
  pub cancel : (x y z : F) → x ⊕ y ≡ x ⊕ z → y ≡ z
  cancel x y z e = sym (back y) ∙ ap (λ a. (O ⊖ x) ⊕ a) e ∙ back z
    where
      back : (y : F) → (O ⊖ x) ⊕ (x ⊕ y) ≡ y
      back y = sym (plus_assoc (O ⊖ x) x y) ∙ ap (λ a. a ⊕ y) (minus_plus O x) ∙ plus_zero y

  pub times_zero : (x : F) → x ⊗ O ≡ O
  times_zero x = cancel (x ⊗ O) (x ⊗ O) O (sym (times_plus x O O) ∙ ap (λ a. x ⊗ a) (plus_zero O) ∙ sym (zero_plus (x ⊗ O)))

  pub zero_times : (x : F) → O ⊗ x ≡ O
  zero_times x = times_comm O x ∙ times_zero x

  pub one_times : (x : F) → x ⊗ I ≡ x
  one_times x = times_comm x I ∙ times_one x

  pub plus_times : (x y z : F) → (x ⊕ y) ⊗ z ≡ x ⊗ z ⊕ y ⊗ z
  plus_times x y z = times_comm (x ⊕ y) z ∙ times_plus z x y ∙ ap₂ (λ a b. a ⊕ b) (times_comm z x) (times_comm z y)

  pub plus_left : (x y z : F) → x ⊕ (y ⊕ z) ≡ y ⊕ (x ⊕ z)
  plus_left x y z = sym (plus_assoc x y z) ∙ ap (λ a. a ⊕ z) (plus_comm x y) ∙ plus_assoc y x z

  pub times_left : (x y z : F) → x ⊗ (y ⊗ z) ≡ y ⊗ (x ⊗ z)
  times_left x y z = sym (times_assoc x y z) ∙ ap (λ a. a ⊗ z) (times_comm x y) ∙ times_assoc y x z

  pub plus_four : (a b c d : F) → (a ⊕ b) ⊕ (c ⊕ d) ≡ (a ⊕ c) ⊕ (b ⊕ d)
  plus_four a b c d = plus_assoc a b (c ⊕ d) ∙ ap (λ x. a ⊕ x) (plus_left b c d) ∙ sym (plus_assoc a c (b ⊕ d))

  -- of a product that is zero, the factor that may be
  pub other_zero : (x y : F) → (x ≡ O → ⊥) → x ⊗ y ≡ O → y ≡ O
  other_zero x y n e =
      sym (times_one y) ∙ ap (λ a. a ⊗ y) (sym (times_inverse x n) ∙ times_comm x (inv x)) ∙ times_assoc (inv x) x y
      ∙ ap (λ a. inv x ⊗ a) e ∙ times_zero (inv x)

  pub inverse_not_zero : (x : F) → (x ≡ O → ⊥) → inv x ≡ O → ⊥
  inverse_not_zero x n e = one_not_zero (sym (times_inverse x n) ∙ ap (λ a. x ⊗ a) e ∙ times_zero x)

  -- the identity on and off its diagonal
  pub identity_on : (r c : ℕ) → r ≡ c → identity K r c ≡ I
  identity_on r c e = ap (λ t. cond t I O) (eq-eqb r c e)

  pub identity_off : (r c : ℕ) → (r ≡ c → ⊥) → identity K r c ≡ O
  identity_off r c n = ap (λ t. cond t I O) (ne_eqb r c n)

  pub identity_turned : (r c : ℕ) → identity K r c ≡ identity K c r
  identity_turned r c =
      ⊎_elim (λ e. identity_on r c e ∙ sym (identity_on c r (sym e))) (λ n. identity_off r c n ∙ sym (identity_off c r (λ e. n (sym e))))
      (same_or_not r c)

  -- ---- sums
  pub sum_same : (n : ℕ) (f g : ℕ → F) → ((c : ℕ) → c < n → f c ≡ g c) → sum K n f ≡ sum K n g
  sum_same zero f g h = refl
  sum_same (suc n) f g h = ap₂ (λ x y. x ⊕ y) (sum_same n f g (λ c l. h c (omega arith))) (h n (omega arith))

  pub sum_zero : (n : ℕ) (f : ℕ → F) → ((c : ℕ) → c < n → f c ≡ O) → sum K n f ≡ O
  sum_zero zero f h = refl
  sum_zero (suc n) f h = ap₂ (λ x y. x ⊕ y) (sum_zero n f (λ c l. h c (omega arith))) (h n (omega arith)) ∙ plus_zero O

  pub sum_plus : (n : ℕ) (f g : ℕ → F) → sum K n (λ c. f c ⊕ g c) ≡ sum K n f ⊕ sum K n g
  sum_plus zero f g = sym (plus_zero O)
  sum_plus (suc n) f g = ap (λ x. x ⊕ (f n ⊕ g n)) (sum_plus n f g) ∙ plus_four (sum K n f) (sum K n g) (f n) (g n)

  pub sum_scaled : (n : ℕ) (s : F) (f : ℕ → F) → sum K n (λ c. s ⊗ f c) ≡ s ⊗ sum K n f
  sum_scaled zero s f = sym (times_zero s)
  sum_scaled (suc n) s f = ap (λ x. x ⊕ s ⊗ f n) (sum_scaled n s f) ∙ sym (times_plus s (sum K n f) (f n))

  pub sum_split : (n m : ℕ) (f : ℕ → F) → sum K (n + m) f ≡ sum K n f ⊕ sum K m (λ c. f (n + c))
  sum_split n zero f = ap (λ (i : ℕ). sum K i f) (add-zero n) ∙ sym (zero_plus (sum K n f))
  sum_split n (suc m) f =
      ap (λ (i : ℕ). sum K i f) (add-suc n m) ∙ ap (λ x. x ⊕ f (n + m)) (sum_split n m f) ∙ plus_assoc (sum K n f) (sum K m (λ c. f (n + c))) (f (n + m))

  pub sum_turned : (n m : ℕ) (f : ℕ → ℕ → F) → sum K n (λ c. sum K m (λ k. f k c)) ≡ sum K m (λ k. sum K n (λ c. f k c))
  sum_turned zero m f = sym (sum_zero m (λ k. O) (λ k l. refl))
  sum_turned (suc n) m f = ap (λ x. x ⊕ sum K m (λ k. f k n)) (sum_turned n m f) ∙ sym (sum_plus m (λ k. sum K n (λ c. f k c)) (λ k. f k n))

  -- a row of the identity picks an entry
  pub pick_left : (n r : ℕ) (v : ℕ → F) → r < n → dot K n (identity K r) v ≡ v r
  pick_left zero r v h = absurd (not-suc-le-zero h)
  pick_left (suc n) r v h = ⊎_elim last (λ l. before l (pick_left n r v l)) (eq-or-lt_of_le (le_of_suc-le-suc h))
    where
      other : (c : ℕ) → (r ≡ c → ⊥) → identity K r c ⊗ v c ≡ O
      other c ne = ap (λ a. a ⊗ v c) (identity_off r c ne) ∙ zero_times (v c)

      last : r ≡ n → dot K (suc n) (identity K r) v ≡ v r
      last e =
          ap₂ (λ x y. x ⊕ y) (sum_zero n (λ c. identity K r c ⊗ v c) (λ c l. other c (λ q. omega arith)))
          (ap (λ a. a ⊗ v n) (identity_on r n e) ∙ times_one (v n) ∙ ap v (sym e)) ∙ plus_zero (v r)

      before : r < n → dot K n (identity K r) v ≡ v r → dot K (suc n) (identity K r) v ≡ v r
      before l more = ap₂ (λ x y. x ⊕ y) more (other n (λ q. omega arith)) ∙ zero_plus (v r)

  pub pick_right : (n j : ℕ) (f : ℕ → F) → j < n → dot K n f (identity K j) ≡ f j
  pick_right n j f h =
      sum_same n (λ c. f c ⊗ identity K j c) (λ c. identity K j c ⊗ f c) (λ c l. times_comm (f c) (identity K j c)) ∙ pick_left n j f h

  -- a row times a matrix times a vector
  pub dot_assoc : (n m : ℕ) (f : ℕ → F) (a : ℕ → ℕ → F) (v : ℕ → F) → dot K n (λ c. dot K m f (λ k. a k c)) v ≡ dot K m f (λ k. dot K n (a k) v)
  dot_assoc n m f a v =
      sum_same n (λ c. dot K m f (λ k. a k c) ⊗ v c) (λ c. sum K m (λ k. f k ⊗ (a k c ⊗ v c)))
      (λ c l. times_comm (dot K m f (λ k. a k c)) (v c) ∙ sym (sum_scaled m (v c) (λ k. f k ⊗ a k c))
      ∙ sum_same m (λ k. v c ⊗ (f k ⊗ a k c)) (λ k. f k ⊗ (a k c ⊗ v c)) (λ k i. times_comm (v c) (f k ⊗ a k c) ∙ times_assoc (f k) (a k c) (v c)))
      ∙ sum_turned n m (λ k c. f k ⊗ (a k c ⊗ v c))
      ∙ sum_same m (λ k. sum K n (λ c. f k ⊗ (a k c ⊗ v c))) (λ k. f k ⊗ dot K n (a k) v) (λ k l. sum_scaled n (f k) (λ c. a k c ⊗ v c))

  pub dot_scaled : (m : ℕ) (s : F) (f g z : ℕ → F) → ((c : ℕ) → c < m → f c ≡ s ⊗ g c) → dot K m f z ≡ s ⊗ dot K m g z
  dot_scaled m s f g z h =
      sum_same m (λ c. f c ⊗ z c) (λ c. s ⊗ (g c ⊗ z c)) (λ c l. ap (λ x. x ⊗ z c) (h c l) ∙ times_assoc s (g c) (z c))
      ∙ sum_scaled m s (λ c. g c ⊗ z c)

  pub dot_plus : (m : ℕ) (s : F) (f g h z : ℕ → F) → ((c : ℕ) → c < m → f c ≡ g c ⊕ s ⊗ h c) → dot K m f z ≡ dot K m g z ⊕ s ⊗ dot K m h z
  dot_plus m s f g h z e =
      sum_same m (λ c. f c ⊗ z c) (λ c. g c ⊗ z c ⊕ s ⊗ (h c ⊗ z c))
      (λ c l. ap (λ x. x ⊗ z c) (e c l) ∙ plus_times (g c) (s ⊗ h c) (z c) ∙ ap (λ x. g c ⊗ z c ⊕ x) (times_assoc s (h c) (z c)))
      ∙ sum_plus m (λ c. g c ⊗ z c) (λ c. s ⊗ (h c ⊗ z c)) ∙ ap (λ x. dot K m g z ⊕ x) (sum_scaled m s (λ c. h c ⊗ z c))
