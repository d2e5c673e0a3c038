-- Sides that are right, and matrices that fill them. Assumes nothing.
use Rattle.std.specs.Prelude.{◌≡◌, ℕ, ◌*◌, ◌<◌, ◌≤◌, length, Ok, Err, Result}
use Rattle.matrix.specs.declared.fault.MatrixFault.{MatrixFault}
use Rattle.matrix.specs.declared.fault.MatrixFault.TheVariants.{Sides as BadSides, Singular}
use Rattle.matrix.specs.declared.fault.Sides.{Sides}
use Rattle.matrix.specs.declared.shape.Shape.{Shape}
use Rattle.matrix.specs.declared.grid.Grid.{Grid}
use Rattle.matrix.specs.declared.grid.Matrix.{Matrix}
use Rattle.matrix.specs.Grids.{grid}

-- both sides are from 1 to 16
pub record RightSides (s : Sides) : Type 0 where
  pub some_rows : 0 < s.rows
  pub most_rows : s.rows ≤ 16
  pub some_cols : 0 < s.cols
  pub most_cols : s.cols ≤ 16

-- right sides that the entries fill
pub record Filled {F : Type 0} (m : Matrix F) : Type 0 where
  pub right : RightSides m.sides
  pub enough : m.sides.rows * m.sides.cols ≤ length m.entries.now

abbrev pub sides_of : Shape → Sides
sides_of shape = record { rows = shape.rows; cols = shape.cols }

-- an entry by its row and column
abbrev pub entry_of : {F : Type 0} → F → Grid F → ℕ → ℕ → F
entry_of none g = grid none g.shape.cols g.entries.now

-- right sides, and the shape of them
pub record SameSides (s : Sides) (shape : Shape) : Type 0 where
  pub right : RightSides s
  pub rows : shape.rows ≡ s.rows
  pub cols : shape.cols ≡ s.cols

-- what asking for the shape of sides answers
abbrev pub ShapeOf : Sides → Result Shape MatrixFault → Type 0
ShapeOf s (Ok shape) = SameSides s shape
ShapeOf s (Err BadSides) = RightSides s → ⊥
ShapeOf s (Err Singular) = ⊥

-- a matrix that its entries fill, and the grid of it
pub record SameMatrix {F : Type 0} (m : Matrix F) (g : Grid F) : Type 0 where
  pub filled : Filled m
  pub rows : g.shape.rows ≡ m.sides.rows
  pub cols : g.shape.cols ≡ m.sides.cols
  pub same : g.entries.now ≡ m.entries.now

-- what asking for the grid of a matrix answers
abbrev pub GridOf : {F : Type 0} → Matrix F → Result (Grid F) MatrixFault → Type 0
GridOf m (Ok g) = SameMatrix m g
GridOf m (Err BadSides) = Filled m → ⊥
GridOf m (Err Singular) = ⊥
