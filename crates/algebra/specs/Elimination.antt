-- What elimination does to a matrix with the identity at its right. Assumes nothing.
use Rattle.std.specs.Prelude.{◌≡◌, Bool, true, false, cond, ℕ, ◌+◌, ◌-◌, ◌<◌, ◌≤◌, eqb, ltb}
use Rattle.algebra.specs.Fields.{Ops}
use Rattle.algebra.specs.Matrices.{identity, dot}

-- the matrix a of n columns with the identity at its right
abbrev pub widened : {F : Type 0} → Ops F → ℕ → (ℕ → ℕ → F) → ℕ → ℕ → F
widened K n a r c = cond (ltb c n) (a r c) (identity K r (c - n))

-- the vector z is taken to zero by each of n rows of m entries
abbrev pub Kernel : {F : Type 0} → Ops F → ℕ → ℕ → (ℕ → ℕ → F) → (ℕ → F) → Type 0
Kernel K n m w z = (r : ℕ) → r < n → dot K m (w r) z ≡ K.zero

-- what elimination keeps: two matrices take the same vectors to zero
pub record SameKernel {F : Type 0} (K : Ops F) (n m : ℕ) (w x : ℕ → ℕ → F) : Type 0 where
  pub to : (z : ℕ → F) → Kernel K n m w z → Kernel K n m x z
  pub from : (z : ℕ → F) → Kernel K n m x z → Kernel K n m w z

-- what elimination reaches: the first k columns are those of the identity
abbrev pub Reduced : {F : Type 0} → Ops F → ℕ → ℕ → (ℕ → ℕ → F) → Type 0
Reduced K n k w = (r c : ℕ) → r < n → c < k → w r c ≡ identity K r c

-- the row that stands at r once the rows k and p have changed places, for any r but k
abbrev pub swapped : ℕ → ℕ → ℕ → ℕ
swapped k p r = cond (eqb r p) k r

-- one step at column k with the pivot in row p, told backwards: the old pivot row is its pivot times the new row k;
-- every other old row is the new one and its old entry in column k times the new row k
pub record Step {F : Type 0} (K : Ops F) (n m k p : ℕ) (w x : ℕ → ℕ → F) : Type 0 where
  pub lead : (c : ℕ) → c < m → w p c ≡ K.times (w p k) (x k c)
  pub rest : (r : ℕ) → r < n → (r ≡ k → ⊥) → (c : ℕ) → c < m → w (swapped k p r) c ≡ K.plus (x r c) (K.times (w (swapped k p r) k) (x k c))

-- elimination that found a pivot for each column
pub record Solved {F : Type 0} (K : Ops F) (n : ℕ) (w x : ℕ → ℕ → F) : Type 0 where
  pub kernel : SameKernel K n (n + n) w x
  pub reduced : Reduced K n n x

-- elimination that found none for column k
pub record Stuck {F : Type 0} (K : Ops F) (n : ℕ) (w x : ℕ → ℕ → F) : Type 0 where
  pub k : ℕ
  pub within : k < n
  pub kernel : SameKernel K n (n + n) w x
  pub reduced : Reduced K n k x
  pub none : (r : ℕ) → k ≤ r → r < n → x r k ≡ K.zero

-- where an elimination ends, by whether it found every pivot
abbrev pub Eliminated : {F : Type 0} → Ops F → ℕ → (ℕ → ℕ → F) → (ℕ → ℕ → F) → Bool → Type 0
Eliminated K n w x true = Solved K n w x
Eliminated K n w x false = Stuck K n w x
