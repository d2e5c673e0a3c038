-- The numbers of the refusals. Assumes nothing.
use Rattle.std.specs.Prelude.{ℕ}
use Rattle.codes.specs.declared.fault.GeneratorFault.{GeneratorFault}
use Rattle.codes.specs.declared.fault.GeneratorFault.TheVariants.{Limit, Sides}

abbrev pub number_of : GeneratorFault → ℕ
number_of Limit = 2
number_of Sides = 10
