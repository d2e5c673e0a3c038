-- Matrices as functions of row and column, and their inverses. Assumes nothing.
use Rattle.std.specs.Prelude.{◌≡◌, cond, ℕ, ◌<◌, eqb}
use Rattle.algebra.specs.Fields.{Ops}
use Rattle.algebra.specs.Sums.{sum, xors}

-- the identity
abbrev pub identity : {F : Type 0} → Ops F → ℕ → ℕ → F
identity K r c = cond (eqb r c) K.one K.zero

-- a row of n entries times a column
abbrev pub dot : {F : Type 0} → Ops F → ℕ → (ℕ → F) → (ℕ → F) → F
dot K n f g = sum K n (λ k. K.times (f k) (g k))

-- the product of two matrices that have n columns and n rows
abbrev pub product : {F : Type 0} → Ops F → ℕ → (ℕ → ℕ → F) → (ℕ → ℕ → F) → ℕ → ℕ → F
product K n a b r c = dot K n (a r) (λ k. b k c)

-- a row of n entries acting on n bytes
abbrev pub mixed : {F : Type 0} → Ops F → ℕ → (ℕ → F) → (ℕ → ℕ) → ℕ
mixed K n f v = xors n (λ c. K.act (f c) (v c))

-- a times b is the identity of side n
abbrev pub Undoes : {F : Type 0} → Ops F → ℕ → (ℕ → ℕ → F) → (ℕ → ℕ → F) → Type 0
Undoes K n a b = (r c : ℕ) → r < n → c < n → product K n a b r c ≡ identity K r c

-- both products are the identity
pub record Inverse {F : Type 0} (K : Ops F) (n : ℕ) (a b : ℕ → ℕ → F) : Type 0 where
  pub right : Undoes K n a b
  pub left : Undoes K n b a

-- b is the inverse of a, and nothing else undoes a from either side
pub record TheInverse {F : Type 0} (K : Ops F) (n : ℕ) (a b : ℕ → ℕ → F) : Type 0 where
  pub inverse : Inverse K n a b
  pub only_left : (x : ℕ → ℕ → F) → Undoes K n x a → (r c : ℕ) → r < n → c < n → x r c ≡ b r c
  pub only_right : (x : ℕ → ℕ → F) → Undoes K n a x → (r c : ℕ) → r < n → c < n → x r c ≡ b r c

-- nothing undoes a, from neither side
pub record NoInverse {F : Type 0} (K : Ops F) (n : ℕ) (a : ℕ → ℕ → F) : Type 0 where
  pub none_left : (x : ℕ → ℕ → F) → Undoes K n x a → ⊥
  pub none_right : (x : ℕ → ℕ → F) → Undoes K n a x → ⊥

-- a vector other than zero that a takes to zero
pub record Singular {F : Type 0} (K : Ops F) (n : ℕ) (a : ℕ → ℕ → F) : Type 0 where
  pub vector : ℕ → F
  pub place : ℕ
  pub within : place < n
  pub nonzero : vector place ≡ K.zero → ⊥
  pub taken : (r : ℕ) → r < n → dot K n (a r) vector ≡ K.zero
