-- What an inversion answers, and what it leaves in the buffers. Assumes nothing.
use Rattle.std.specs.Prelude.{◌≡◌, ℕ, ◌+◌, ◌*◌, ◌<◌, ◌≤◌, List, length, drop, Ok, Err, Result}
use Rattle.algebra.specs.Fields.{Ops}
use Rattle.algebra.specs.Matrices.{TheInverse, NoInverse}
use Rattle.matrix.specs.declared.fault.MatrixFault.{MatrixFault}
use Rattle.matrix.specs.declared.fault.MatrixFault.TheVariants.{Sides as BadSides, Singular}
use Rattle.matrix.specs.declared.fault.Sides.{Sides}
use Rattle.matrix.specs.Grids.{grid, zeroed}

-- a square of side 1 to 16 that the buffers have room for
pub record Room (s : Sides) (m work out : ℕ) : Type 0 where
  pub square : s.cols ≡ s.rows
  pub some : 0 < s.rows
  pub most : s.rows ≤ 16
  pub matrix : s.rows * s.rows ≤ m
  pub wide : s.rows * (s.rows + s.rows) ≤ work
  pub inverse : s.rows * s.rows ≤ out

-- the matrix m, the buffers work and out before, and then after the call, by its answer
abbrev pub Inverted : {F : Type 0} → Ops F → Sides → List F → List F → List F → List F → List F → Result (Unit {0}) MatrixFault → Type 0
Inverted K s m work out work' out' (Ok u) =
    Room s (length m) (length work) (length out)
    × TheInverse K s.rows (grid K.zero s.rows m) (grid K.zero s.rows out')
    × (drop (s.rows * s.rows) out' ≡ drop (s.rows * s.rows) out)
    × (work' ≡ zeroed K.zero (s.rows * (s.rows + s.rows)) work)
Inverted K s m work out work' out' (Err BadSides) =
    (Room s (length m) (length work) (length out) → ⊥) × (work' ≡ work) × (out' ≡ out)
Inverted K s m work out work' out' (Err Singular) =
    Room s (length m) (length work) (length out)
    × NoInverse K s.rows (grid K.zero s.rows m)
    × (work' ≡ zeroed K.zero (s.rows * (s.rows + s.rows)) work)
    × (out' ≡ zeroed K.zero (s.rows * s.rows) out)
