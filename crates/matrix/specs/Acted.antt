-- What acting on cells answers, and what it leaves in the buffer. Assumes nothing.
use Rattle.std.specs.Prelude.{◌≡◌, ℕ, ◌*◌, ◌/◌, ◌<◌, ◌≤◌, List, length, Ok, Err, Result, slice_index}
use Rattle.algebra.specs.Fields.{Ops}
use Rattle.algebra.specs.Matrices.{mixed}
use Rattle.matrix.specs.declared.fault.MatrixFault.{MatrixFault}
use Rattle.matrix.specs.declared.fault.MatrixFault.TheVariants.{Sides as BadSides, Singular}
use Rattle.matrix.specs.declared.fault.Sides.{Sides}
use Rattle.matrix.specs.Grids.{grid, RowIs}

-- each of the first n numbers is below the bound
abbrev pub EachBelow : ℕ → ℕ → List ℕ → Type 0
EachBelow n bound l = (k : ℕ) → k < n → slice_index l k < bound

-- sides of 1 to 16 that the matrix has room for, a row of it, a source for each column, and every cell that is named lies in the buffer
pub record CellRoom (m : ℕ) (sides : Sides) (row : ℕ) (sources : List ℕ) (s target len : ℕ) : Type 0 where
  pub rows : (0 < sides.rows) × (sides.rows ≤ 16)
  pub cols : (0 < sides.cols) × (sides.cols ≤ 16)
  pub matrix : sides.rows * sides.cols ≤ m
  pub row_within : row < sides.rows
  pub one_each : sides.cols ≤ length sources
  pub some_bytes : 0 < s
  pub target_within : target < len / s
  pub sources_within : EachBelow sides.cols (len / s) sources

-- the cells before, and then after the call, by its answer: cells are rows of s bytes
abbrev pub Acted : {F : Type 0} → Ops F → List F → Sides → ℕ → List ℕ → ℕ → ℕ → List ℕ → List ℕ → Result (Unit {0}) MatrixFault → Type 0
Acted K m sides row sources s target cells cells' (Ok u) =
    CellRoom (length m) sides row sources s target (length cells)
    × RowIs s target (λ i. mixed K sides.cols (grid K.zero sides.cols m row) (λ k. grid 0 s cells (slice_index sources k) i)) (grid 0 s cells) (grid 0 s cells')
Acted K m sides row sources s target cells cells' (Err BadSides) =
    (CellRoom (length m) sides row sources s target (length cells) → ⊥) × (cells' ≡ cells)
Acted K m sides row sources s target cells cells' (Err Singular) = ⊥
