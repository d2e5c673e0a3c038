-- What a product answers, and what it leaves in the buffer. Assumes nothing.
use Rattle.std.specs.Prelude.{◌≡◌, ℕ, ◌*◌, ◌<◌, ◌≤◌, List, length, drop, Ok, Err, Result}
use Rattle.algebra.specs.Fields.{Ops}
use Rattle.algebra.specs.Matrices.{product}
use Rattle.matrix.specs.declared.fault.MatrixFault.{MatrixFault}
use Rattle.matrix.specs.declared.fault.MatrixFault.TheVariants.{Sides as BadSides, Singular}
use Rattle.matrix.specs.declared.fault.Sides.{Sides}
use Rattle.matrix.specs.Grids.{grid}

-- sides of 1 to 16, the inner ones alike, that the buffers have room for
pub record Fitting (s t : Sides) (a b out : ℕ) : Type 0 where
  pub rows : (0 < s.rows) × (s.rows ≤ 16)
  pub inner : (0 < s.cols) × (s.cols ≤ 16)
  pub cols : (0 < t.cols) × (t.cols ≤ 16)
  pub alike : t.rows ≡ s.cols
  pub first : s.rows * s.cols ≤ a
  pub second : s.cols * t.cols ≤ b
  pub third : s.rows * t.cols ≤ out

-- the matrices a and b of the sides s and t, the buffer out before and then after the call, by its answer
abbrev pub Multiplied : {F : Type 0} → Ops F → Sides → Sides → List F → List F → List F → List F → Result (Unit {0}) MatrixFault → Type 0
Multiplied K s t a b out out' (Ok u) =
    Fitting s t (length a) (length b) (length out)
    × ((r c : ℕ) → r < s.rows → c < t.cols → grid K.zero t.cols out' r c ≡ product K s.cols (grid K.zero s.cols a) (grid K.zero t.cols b) r c)
    × (drop (s.rows * t.cols) out' ≡ drop (s.rows * t.cols) out)
Multiplied K s t a b out out' (Err BadSides) = (Fitting s t (length a) (length b) (length out) → ⊥) × (out' ≡ out)
Multiplied K s t a b out out' (Err Singular) = ⊥
