-- What the steps of an elimination leave of a matrix. Assumes nothing.
use Rattle.std.specs.Prelude.{◌≡◌, ℕ, ◌<◌, ◌≤◌, Some, None, Option, ◌≢◌}
use Rattle.algebra.specs.Fields.{Ops}

-- two rows have changed places
pub record Exchanged {F : Type 0} (cols a b : ℕ) (w x : ℕ → ℕ → F) : Type 0 where
  pub first : (c : ℕ) → c < cols → x a c ≡ w b c
  pub second : (c : ℕ) → c < cols → x b c ≡ w a c
  pub others : (r c : ℕ) → c < cols → (r ≢ a) → (r ≢ b) → x r c ≡ w r c

-- from each row before row i but row k, its entry in column k times row k was taken
pub record ClearTo {F : Type 0} (K : Ops F) (cols i k : ℕ) (w x : ℕ → ℕ → F) : Type 0 where
  pub done : (r c : ℕ) → r < i → c < cols → (r ≢ k) → x r c ≡ K.minus (w r c) (K.times (w r k) (w k c))
  pub todo : (r c : ℕ) → i ≤ r → c < cols → x r c ≡ w r c
  pub lead : (c : ℕ) → c < cols → x k c ≡ w k c

-- the first row from k on whose entry in column k is not zero; none where all of them are
abbrev pub Pivot : {F : Type 0} → F → ℕ → ℕ → (ℕ → ℕ → F) → Option ℕ → Type 0
Pivot zero rows k w (Some p) = (k ≤ p) × (p < rows) × (w p k ≢ zero) × ((r : ℕ) → k ≤ r → r < p → w r k ≡ zero)
Pivot zero rows k w None = (r : ℕ) → k ≤ r → r < rows → w r k ≡ zero
