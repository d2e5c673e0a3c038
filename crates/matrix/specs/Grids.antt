-- Matrices that lie row by row in lists, and what a call leaves of one. Assumes nothing.
use Rattle.std.specs.Prelude.{◌≡◌, ℕ, ◌+◌, ◌*◌, ◌<◌, ◌≤◌, List, ◌++◌, drop, replicate, ◌≢◌, slice_index_or}

-- the entry at a row and a column, where a row has cols entries
abbrev pub grid : {F : Type 0} → F → ℕ → List F → ℕ → ℕ → F
grid none cols m r c = slice_index_or m (r * cols + c) none

-- zeros in the first n entries, and what was there beyond
abbrev pub zeroed : {F : Type 0} → F → ℕ → List F → List F
zeroed none n m = replicate n none ++ drop n m

-- of each entry, its row and its column P holds
abbrev pub EachEntry : {F : Type 0} → ℕ → ℕ → (ℕ → ℕ → F → Type 0) → (ℕ → ℕ → F) → Type 0
EachEntry rows cols P x = (r c : ℕ) → r < rows → c < cols → P r c (x r c)

-- from w to x one row became f
pub record RowIs {F : Type 0} (cols row : ℕ) (f : ℕ → F) (w x : ℕ → ℕ → F) : Type 0 where
  pub this : (c : ℕ) → c < cols → x row c ≡ f c
  pub others : (r c : ℕ) → c < cols → (r ≢ row) → x r c ≡ w r c

-- what lies past the matrix is as it was
abbrev pub Beyond : {F : Type 0} → ℕ → ℕ → (ℕ → ℕ → F) → (ℕ → ℕ → F) → Type 0
Beyond rows cols w x = (r c : ℕ) → rows ≤ r → c < cols → x r c ≡ w r c
