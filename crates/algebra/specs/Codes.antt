-- Codes by their generator matrix. Assumes nothing.
use Rattle.std.specs.Prelude.{◌≡◌, Bool, true, cond, ℕ, ◌<◌, ◌≤◌, ltb}
use Rattle.algebra.specs.Fields.{Ops}
use Rattle.algebra.specs.Sums.{count}
use Rattle.algebra.specs.Matrices.{identity, Inverse, mixed}

-- the identity of side d, and the rows of the parity part from row d on
abbrev pub generator : {F : Type 0} → Ops F → ℕ → (ℕ → ℕ → F) → ℕ → ℕ → F
generator K d part r c = cond (ltb r d) (identity K r c) (part r c)

-- d different rows below n, in any order
pub record Choice (d n : ℕ) (chosen : ℕ → ℕ) : Type 0 where
  pub below : (k : ℕ) → k < d → chosen k < n
  pub apart : (i k : ℕ) → i < k → k < d → chosen i ≡ chosen k → ⊥

-- any d of the first n rows of a matrix of d columns have an inverse
abbrev pub Invertible : {F : Type 0} → Ops F → ℕ → ℕ → (ℕ → ℕ → F) → Type 0
Invertible {F = F} K d n m = (chosen : ℕ → ℕ) → Choice d n chosen → (b : ℕ → ℕ → F) × Inverse K d (λ k. m (chosen k)) b

-- one byte of each of n cells follows the code: each is what the matrix makes of the first d
abbrev pub Follows : {F : Type 0} → Ops F → ℕ → ℕ → (ℕ → ℕ → F) → (ℕ → ℕ) → Type 0
Follows K d n m v = (r : ℕ) → r < n → v r ≡ mixed K d (m r) v

-- bytes, below n
abbrev pub Bytes : ℕ → (ℕ → ℕ) → Type 0
Bytes n v = (c : ℕ) → c < n → v c < 256

-- any d cells of a row that follows the code determine the whole row
abbrev pub Determined : {F : Type 0} → Ops F → ℕ → ℕ → (ℕ → ℕ → F) → Type 0
Determined K d n m =
    (there : ℕ → Bool) → d ≤ count there n → (u v : ℕ → ℕ) → Bytes d u → Bytes d v → Follows K d n m u → Follows K d n m v
    → ((r : ℕ) → r < n → there r ≡ true → u r ≡ v r) → (r : ℕ) → r < n → u r ≡ v r
