-- What a refused policy is called by outside the library.
use Rattle.std.specs.Prelude.{ℕ}
use Rattle.policy.specs.declared.fault.PolicyFault.{PolicyFault}
use Rattle.policy.specs.declared.fault.PolicyFault.TheVariants.{Unknown, Limit}

-- 1: no such policy or codec; 2: the scheme breaks a limit
abbrev pub number_of : PolicyFault → ℕ
number_of Unknown = 1
number_of Limit = 2
