-- The numbers of the refusals. Assumes nothing.
use Rattle.std.specs.Prelude.{ℕ}
use Rattle.matrix.specs.declared.fault.MatrixFault.{MatrixFault}
use Rattle.matrix.specs.declared.fault.MatrixFault.TheVariants.{Sides, Singular}

abbrev pub number_of : MatrixFault → ℕ
number_of Sides = 10
number_of Singular = 11
